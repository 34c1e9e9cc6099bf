use Rattle.swap_play.proofs.Running as running
use Rattle.swap_play.proofs.acts_are_runs.Goals as goal

pub returns : goal.returns
returns g c = running.acts_are_runs g.D.DiskPort c.ports_promise.ensures.disk g.F.Fabric c.ports_promise.ensures.fabric
