use Rattle.std.proofs.Common.{◌∙◌}
use Rattle.swap_host_tests.proofs.Alone.{without_alone}
use Rattle.swap_host_tests.proofs.tests.file.taken.Goals as goal

pub returns-in-Some-take-clause-idle : goal.returns-in-Some-take-clause-idle
returns-in-Some-take-clause-idle g c =
    let ends = c.in-Some-take.ensures.0.1 in
    ends.flights ∙ without_alone c.in-Some-take.done.which c.loop.disk.port.flights ends.flight c.loop.invariant.3 ends.was
