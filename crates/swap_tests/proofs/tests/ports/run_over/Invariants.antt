use Rattle.std.proofs.Common.{◌≡◌, length}
use Rattle.swap_tests.proofs.tests.ports.run_over.Given as goal

abbrev pub invariant-loop : goal.invariant-loop
invariant-loop g l =
    (l.world.core.device.sizes ≡ l.walk.sizes) × (l.world.core.device.lenders ≡ length l.walk.lenders) × (length l.page.items ≡ l.walk.sizes.page_bytes)
