use Rattle.std.proofs.Common.{◌≡◌, ℕ, ◌*◌, ◌-◌, ◌%◌, ◌<◌, ◌≤◌, ◌⊎◌, length, get_or}
use Rattle.swap_io.proofs.words.repeat_front.Given as goal

-- so many bytes are filled, whole pieces unless it is the page
abbrev pub invariant-filling : goal.invariant-filling
invariant-filling l = record {
  some : l.len ≤ l.done;
  within : l.done ≤ length l.page;
  pieces : (length l.page ≤ l.done) ⊎ ((m : ℕ) × (l.done ≡ m * l.len));
  front : (k : ℕ) → k < l.done → get_or l.page k 0 ≡ get_or l.fn.page (k % l.len) 0;
}

abbrev pub decreases-filling : goal.decreases-filling
decreases-filling l = length l.initial.page - l.done
