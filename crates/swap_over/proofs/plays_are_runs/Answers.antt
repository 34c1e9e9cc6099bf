use Rattle.swap_over.proofs.Runs as runs
use Rattle.swap_over.proofs.plays_are_runs.Goals as goal

pub returns : goal.returns
returns g c = runs.plays_are_runs g.D.DiskPort g.F.Fabric c.acts_are_runs.ensures c.over_any_ports.ensures
