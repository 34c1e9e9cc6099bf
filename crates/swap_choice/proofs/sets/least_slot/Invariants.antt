use Rattle.std.proofs.Common.{◌≡◌, ℕ, ◌<◌, true, ◌⊎◌}
use Rattle.swap_choice.specs.Slots.{has}
use Rattle.swap_choice.specs.Least.{IsBelow}
use Rattle.swap_choice.proofs.sets.least_slot.Given as goal

abbrev pub invariant-loop-slot : goal.invariant-loop-slot
invariant-loop-slot l = record {
  range : l.best < 64;
  member : has l.set l.best ≡ true;
  seen : (i : ℕ) → i < 64 → has l.set i ≡ true → i < l.best → i < l.slot;
  least : (i : ℕ) → i < l.slot → has l.set i ≡ true → (i ≡ l.best) ⊎ IsBelow l.rates l.best i;
}
