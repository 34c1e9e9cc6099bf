use Rattle.std.proofs.Common.{refl}
use Rattle.swap_table.specs.Device.{connect}
use Rattle.swap_device.proofs.Held.{held_along}
use Rattle.swap_device.proofs.device.DeviceCore.connect.Goals as goal

pub invariant_of-self : goal.invariant_of-self
invariant_of-self g c =
    held_along g.D.DiskPort g.F.Fabric _ (λ d. connect d c.args.lender) _ _ _ _ _ c.self.invariant
    (c.calls_keep.ensures.each.connect _ _ _ _ c.args.lender c.self.invariant.agree (rw (← c.self.view_is) at c.requires)) c.connect.ensures.moved refl
