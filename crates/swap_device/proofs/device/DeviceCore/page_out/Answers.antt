use Rattle.std.proofs.Common.{refl}
use Rattle.swap_table.specs.Device.{out}
use Rattle.swap_device.proofs.Held.{held_along}
use Rattle.swap_device.proofs.device.DeviceCore.page_out.Goals as goal

pub invariant_of-self : goal.invariant_of-self
invariant_of-self g c =
    held_along g.D.DiskPort g.F.Fabric _ (λ d. out d c.args.caller c.args.page c.args.bytes.now) _ _ _ _ _ c.self.invariant
    (c.calls_keep.ensures.each.out _ _ _ _ _ _ _ c.self.invariant.agree (rw (← c.self.view_is) at c.requires.idle) (rw (← c.self.view_is) at c.requires.page))
    c.out.ensures.moved refl
