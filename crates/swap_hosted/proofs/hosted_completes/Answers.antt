use Rattle.swap_hosted.proofs.Sides.{completes}
use Rattle.swap_hosted.proofs.hosted_completes.Goals as goal

pub returns : goal.returns
returns g c = completes g.D.DiskPort g.F.Fabric
