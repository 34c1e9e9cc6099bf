use Rattle.std.proofs.Common.{◌≡◌, ◌≤◌, length}
use Rattle.swap_parts_tests.proofs.tests.link.cut.Given as goal

abbrev pub invariant-loop : goal.invariant-loop
invariant-loop g l = (l.harbor.sizes ≡ l.fn.harbor.sizes) × (length l.harbor.channels ≡ 1) × (l.given ≤ l.counter)

abbrev pub invariant-loop-2 : goal.invariant-loop-2
invariant-loop-2 g l = (l.harbor.sizes ≡ l.fn.harbor.sizes) × (length l.harbor.channels ≡ 1) × (l.taken ≤ l.counter)
