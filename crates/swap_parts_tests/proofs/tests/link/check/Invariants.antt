use Rattle.std.proofs.Common.{◌≡◌, length}
use Rattle.swap_parts_tests.proofs.tests.link.check.Given as goal

abbrev pub invariant-loop-act : goal.invariant-loop-act
invariant-loop-act g l = (l.harbor.sizes ≡ l.initial.harbor.sizes) × (length l.harbor.channels ≡ 1)
