use Rattle.std.proofs.Common.{◌≡◌, ℕ, ◌<◌, Some}
use Rattle.swap_record.specs.Judging.{oldest, IsLegalBook, HasNewest}
use Rattle.swap_record.proofs.record.Record.judge.Given as goal

-- no entry so far is marked, and the history that they make is legal
abbrev pub invariant-loop-n : goal.invariant-loop-n
invariant-loop-n l = record {
  newest : HasNewest l.newest.items (oldest l.n l.self.history);
  legal : IsLegalBook l.self (oldest l.n l.self.history);
  unmarked : (k : ℕ) → l.self.noted ≡ Some k → k < l.n → ⊥;
}
