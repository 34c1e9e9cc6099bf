use Rattle.std.proofs.Common.{◌≡◌}
use Rattle.swap_host_tests.proofs.tests.net.arrived.Given as goal

abbrev pub invariant-loop : goal.invariant-loop
invariant-loop g l =
    (goal.iterator-loop g).can_next l.iterator' × (goal.iterator-loop g).is_finite l.iterator' × (l.fabric.is_of ≡ record { sizes = l.sizes; lenders = 1 })
