use Rattle.std.proofs.Common.{◌≡◌, ℕ, ◌+◌, ◌^◌, ◌<◌, true}
use Rattle.swap_choice.specs.Slots.{has, size}
use Rattle.swap_choice.specs.Least.{IsBelow}
use Rattle.swap_choice.proofs.Chosen.{Split}
use Rattle.swap_choice.proofs.sets.least.Given as goal

abbrev pub invariant-loop-taken : goal.invariant-loop-taken
invariant-loop-taken l = record {
  split : Split l.among l.chosen l.left;
  count : size l.chosen ≡ l._taken;
  rest : size l.left + l._taken ≡ size l.among;
  small : l.chosen < 2 ^ 64;
  below : (i j : ℕ) → i < 64 → j < 64 → has l.chosen i ≡ true → has l.left j ≡ true → IsBelow l.rates i j;
}
