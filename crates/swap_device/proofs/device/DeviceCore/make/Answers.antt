use Rattle.std.proofs.Common.{rules}
use Rattle.swap_device.proofs.Held.{new_held}
use Rattle.swap_device.proofs.device.DeviceCore.make.Goals as goal

pub invariant_of-result : goal.invariant_of-result
invariant_of-result g c =
    rw c.in_ok-state.ensures
    (new_held g.D.DiskPort g.F.Fabric _ _ _ _ _ _
    (c.calls_keep.ensures.new _ _ _ _ c.requires.disk (c.ports_promise.ensures.fabric.fresh_is_of _ _ c.requires.fabric) c.requires.lenders) (search rules))
