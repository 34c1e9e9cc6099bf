use Rattle.std.proofs.Common.{◌≡◌, length}
use Rattle.swap_parts_tests.proofs.tests.rates.the_hottest_local_slab_is_found.Given as goal

abbrev pub invariant-loop : goal.invariant-loop
invariant-loop g l = length l.rates ≡ 4
