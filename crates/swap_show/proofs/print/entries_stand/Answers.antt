use Rattle.swap_show.proofs.Stands.{entries_stand}
use Rattle.swap_show.proofs.print.entries_stand.Goals as goal

pub returns : goal.returns
returns g c = entries_stand g.D.DiskPort g.F.Fabric c.ports_promise.ensures.fabric c.args.world.now c.over_any_ports.ensures c.reached.ensures
