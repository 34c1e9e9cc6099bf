use Rattle.std.proofs.Common.{◌<◌, refl, sym, subst}
use Rattle.swap_wire.specs.Fabric.{FabricOf}
use Rattle.swap_device.proofs.Held.{held_from}
use Rattle.swap_device.proofs.device.DeviceCore.host.Goals as goal

pub host-requires : goal.host-requires
host-requires g c = subst (λ (o : FabricOf). c.args.lender.0 < o.lenders) (sym c.self.invariant.agree.1) (rw (← c.self.view_is) at c.requires)

pub invariant_of-self : goal.invariant_of-self
invariant_of-self g c =
    rw c.host.ensures.rest
    (held_from g.D.DiskPort g.F.Fabric _ _ _ _ _ c.self.invariant
    (c.calls_keep.ensures.each.host _ _ _ _ c.args.lender c.args.used c.args.word c.self.invariant.agree c.host.result c.host.new.self.fabric
    c.host.ensures.moved)
    refl)
