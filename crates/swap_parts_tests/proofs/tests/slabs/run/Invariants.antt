use Rattle.std.proofs.Common.{◌≡◌, length}
use Rattle.swap_parts_tests.proofs.tests.slabs.run.Given as goal

abbrev pub invariant-loop-i : goal.invariant-loop-i
invariant-loop-i g l = length l.slabs ≡ length l.fn.slabs
