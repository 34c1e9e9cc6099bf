use Rattle.std.proofs.Common.{◌<◌, refl, sym, subst}
use Rattle.swap_wire.specs.Fabric.{FabricOf}
use Rattle.swap_device.proofs.Held.{held_from}
use Rattle.swap_device.proofs.device.DeviceCore.cut.Goals as goal

pub cut-requires : goal.cut-requires
cut-requires g c = subst (λ (o : FabricOf). c.args.lender.0 < o.lenders) (sym c.self.invariant.agree.1) (rw (← c.self.view_is) at c.requires)

pub invariant_of-self : goal.invariant_of-self
invariant_of-self g c =
    rw c.cut.ensures.rest
    (held_from g.D.DiskPort g.F.Fabric _ _ _ _ _ c.self.invariant
    (c.calls_keep.ensures.each.cut _ _ _ _ c.args.lender c.args.to_lender c.args.to_device c.self.invariant.agree c.cut.result c.cut.new.self.fabric
    c.cut.ensures.moved)
    refl)
