use Rattle.swap_world.proofs.HoldsAfterRuns.{agrees}
use Rattle.swap_world.proofs.agrees_over_any_ports.Goals as goal

pub returns : goal.returns
returns g c = agrees _ c.ports_promise.ensures.disk _ c.ports_promise.ensures.fabric
