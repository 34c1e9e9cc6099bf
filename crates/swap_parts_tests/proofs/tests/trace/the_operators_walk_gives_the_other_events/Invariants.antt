use Rattle.std.proofs.Common.{◌≡◌}
use Rattle.swap_parts_tests.proofs.tests.trace.the_operators_walk_gives_the_other_events.Given as goal

abbrev pub invariant-loop-want : goal.invariant-loop-want
invariant-loop-want g l = l.walk.sizes.page_bytes ≡ 8
