use Rattle.swap_world.proofs.HoldsAfterRuns.{holds}
use Rattle.swap_world.proofs.over_any_ports.Goals as goal

pub returns : goal.returns
returns g c = holds _ c.ports_promise.ensures.disk _ c.ports_promise.ensures.fabric
