use Rattle.std.proofs.Common.{◌≡◌}
use Rattle.swap_parts_tests.proofs.tests.lender.sixty_four_slots_and_links.Given as goal

abbrev pub invariant-loop-link : goal.invariant-loop-link
invariant-loop-link g l = (l.core.lending.page_bytes ≡ 8) × (l.core.lending.spec.slots ≡ 64)
