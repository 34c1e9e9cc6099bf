use Rattle.std.proofs.Common.{refl}
use Rattle.swap_device.proofs.Held.{held_from}
use Rattle.swap_device.proofs.device.DeviceCore.disk_finish.Goals as goal

pub invariant_of-self : goal.invariant_of-self
invariant_of-self g c =
    rw c.let_finish.ensures.rest
    (held_from g.D.DiskPort g.F.Fabric _ _ _ _ _ c.self.invariant
    (c.calls_keep.ensures.each.disk_finish _ _ _ _ c.args.which c.args.ok c.self.invariant.agree c.let_finish.result c.let_finish.new.self.disk
    c.let_finish.ensures.moved)
    refl)
