use Rattle.std.proofs.Common.{refl}
use Rattle.swap_table.specs.Device.{tick}
use Rattle.swap_device.proofs.Held.{held_along}
use Rattle.swap_device.proofs.device.DeviceCore.tick.Goals as goal

pub invariant_of-self : goal.invariant_of-self
invariant_of-self g c =
    held_along g.D.DiskPort g.F.Fabric _ (λ d. tick d c.args.word) _ _ _ _ _ c.self.invariant
    (c.calls_keep.ensures.each.tick _ _ _ _ c.args.word c.self.invariant.agree) c.tick.ensures.moved refl
