use Rattle.std.proofs.Common.{refl}
use Rattle.swap_table.specs.Device.{map}
use Rattle.swap_device.proofs.Held.{held_along}
use Rattle.swap_device.proofs.device.DeviceCore.map.Goals as goal

pub invariant_of-self : goal.invariant_of-self
invariant_of-self g c =
    held_along g.D.DiskPort g.F.Fabric _ (λ d. map d c.args.slab c.args.lender) _ _ _ _ _ c.self.invariant
    (c.calls_keep.ensures.each.map _ _ _ _ c.args.slab c.args.lender c.self.invariant.agree (rw (← c.self.view_is) at c.requires.slab)) c.map.ensures.moved refl
