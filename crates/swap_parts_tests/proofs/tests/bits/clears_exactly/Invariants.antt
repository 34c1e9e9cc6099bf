use Rattle.std.proofs.Common.{◌≡◌, length}
use Rattle.swap_parts_tests.proofs.tests.bits.clears_exactly.Given as goal

abbrev pub invariant-loop-i : goal.invariant-loop-i
invariant-loop-i l = length l.bits ≡ l.n
