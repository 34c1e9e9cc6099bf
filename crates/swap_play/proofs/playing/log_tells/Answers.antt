use Rattle.swap_play.proofs.Ending as ending
use Rattle.swap_play.proofs.playing.log_tells.Goals as goal

pub returns : goal.returns
returns g c =
    ending.log_tells g.D.DiskPort c.ports_promise.ensures.disk g.F.Fabric c.ports_promise.ensures.fabric c.args.world.now c.over_any_ports.ensures
    c.reached.ensures
