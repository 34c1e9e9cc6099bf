use Rattle.std.proofs.Common.{◌≡◌, length}
use Rattle.swap_host_tests.proofs.tests.file.taken.Given as goal

abbrev pub invariant-loop : goal.invariant-loop
invariant-loop g l =
    (goal.iterator-loop g).can_next l.iterator' × (goal.iterator-loop g).is_finite l.iterator' × (l.disk.port.sizes ≡ l.sizes)
    × (length l.disk.port.flights ≡ 1)
