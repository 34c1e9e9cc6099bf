use Rattle.std.proofs.Common.{◌≡◌}
use Rattle.swap_parts_tests.proofs.tests.script.a_walk_gives_the_events_of_a_lender.Given as goal

abbrev pub invariant-loop-want : goal.invariant-loop-want
invariant-loop-want g l = l.walk.sizes.page_bytes ≡ 8
