use Rattle.std.proofs.Common.{◌≡◌}
use Rattle.swap_parts_tests.proofs.tests.script.a_walk_gives_each_event_and_its_page.Given as goal

abbrev pub invariant-loop-want : goal.invariant-loop-want
invariant-loop-want g l = l.walk.sizes.page_bytes ≡ 8
