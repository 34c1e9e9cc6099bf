use Rattle.std.proofs.Common.{sym, ap, ◌∙◌, length}
use Rattle.swap_table.specs.Device.{finish}
use Rattle.swap_device.proofs.Held.{held_along, length-lent}
use Rattle.swap_device.proofs.device.DeviceCore.finish.Goals as goal

pub invariant_of-self : goal.invariant_of-self
invariant_of-self g c =
    let v = c.deref_mut.ensures in
    held_along g.D.DiskPort g.F.Fabric _ (λ d. finish d c.args.caller) _ _ _ _ _ c.self.invariant
    (c.calls_keep.ensures.each.finish _ _ _ _ _ c.self.invariant.agree (rw (← c.self.view_is) at c.requires.caller)) c.finish.ensures.moved
    (length-lent _ _ _ (c.finish.auto.kept ∙ v.len) (ap length (sym v.value) ∙ v.len))
