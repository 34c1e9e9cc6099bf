use Rattle.std.proofs.Common.{sym, ap, ◌∙◌, length}
use Rattle.swap_table.specs.Device.{link_take}
use Rattle.swap_device.proofs.Held.{held_along, length-lent}
use Rattle.swap_device.proofs.device.DeviceCore.link_take.Goals as goal

pub invariant_of-self : goal.invariant_of-self
invariant_of-self g c =
    let v = c.deref_mut.ensures in
    held_along g.D.DiskPort g.F.Fabric _ (λ d. link_take d c.args.lender) _ _ _ _ _ c.self.invariant
    (c.calls_keep.ensures.each.link_take _ _ _ _ c.args.lender c.self.invariant.agree) c.link_take.ensures.moved
    (length-lent _ _ _ (c.link_take.auto.page ∙ v.len) (ap length (sym v.value) ∙ v.len))
