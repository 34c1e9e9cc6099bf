use Rattle.std.proofs.Common.{sym, ap, ◌∙◌, length}
use Rattle.swap_table.specs.Device.{disk_take}
use Rattle.swap_device.proofs.Held.{held_along, length-lent}
use Rattle.swap_device.proofs.device.DeviceCore.disk_take.Goals as goal

pub invariant_of-self : goal.invariant_of-self
invariant_of-self g c =
    let v = c.deref_mut.ensures in
    held_along g.D.DiskPort g.F.Fabric _ disk_take _ _ _ _ _ c.self.invariant
    (c.calls_keep.ensures.each.disk_take _ _ _ _ c.self.invariant.agree) c.disk_take.ensures.moved
    (length-lent _ _ _ (c.disk_take.auto.page ∙ v.len) (ap length (sym v.value) ∙ v.len))
