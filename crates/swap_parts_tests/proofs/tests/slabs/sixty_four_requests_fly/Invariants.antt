use Rattle.std.proofs.Common.{◌≡◌, length}
use Rattle.swap_parts_tests.proofs.tests.slabs.sixty_four_requests_fly.Given as goal

abbrev pub invariant-loop : goal.invariant-loop
invariant-loop g l = length l.slabs ≡ 4
