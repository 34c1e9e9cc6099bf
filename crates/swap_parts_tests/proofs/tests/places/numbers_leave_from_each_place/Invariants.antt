use Rattle.std.proofs.Common.{◌≡◌}
use Rattle.swap_parts_tests.proofs.tests.places.numbers_leave_from_each_place.Given as goal

abbrev pub invariant-loop-number : goal.invariant-loop-number
invariant-loop-number g l = l.line.bound ≡ 9
