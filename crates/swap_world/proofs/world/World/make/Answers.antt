use Rattle.std.proofs.Common.{refl}
use Rattle.swap_world.proofs.ReachedGoesOn.{reached_new}
use Rattle.swap_world.proofs.world.World.make.Goals as goal

pub invariant_of-result : goal.invariant_of-result
invariant_of-result g c =
    rw (c.in_ok-make.ensures, c.new.ensures.items)
    (record {
      reached =
          reached_new g.D.DiskPort g.F.Fabric c.args.geometry c.args.lenders c.args.disk c.args.fabric 0 c.requires.disk c.requires.fabric c.requires.lenders;
      has = refl;
      most = c.requires.lenders;
    })
