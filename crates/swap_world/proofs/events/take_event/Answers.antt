use Rattle.swap_table.specs.Device as device
use Rattle.swap_table.specs.Happens.{see_take}
use Rattle.swap_table.proofs.Programs.{Along-answering}
use Rattle.swap_world.proofs.events.take_event.Goals as goal

pub returns-clause-step : goal.returns-clause-step
returns-clause-step g c =
    let before = c.args.device.now in
    let after = c.link_take.new.self in
    rw c.see_take.ensures
    (Along-answering g.D.DiskPort.moves g.F.Fabric.moves (λ r. (r.0, see_take r.1))
    (device.link_take before.device c.args.lender) before.disk before.fabric after.disk after.fabric
    (after.device, c.link_take.result) c.link_take.ensures.moved)
