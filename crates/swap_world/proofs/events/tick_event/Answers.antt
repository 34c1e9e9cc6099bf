use Rattle.swap_table.specs.Device as device
use Rattle.swap_table.specs.Happens.{see_tick}
use Rattle.swap_table.proofs.Programs.{Along-answering}
use Rattle.swap_world.proofs.RoundsKeepPlans.{tick_acts}
use Rattle.swap_world.proofs.events.tick_event.Goals as goal

pub returns-clause-step : goal.returns-clause-step
returns-clause-step g c =
    let before = c.args.device.now in
    let after = c.tick.new.self in
    rw c.see_tick.ensures
    (Along-answering g.D.DiskPort.moves g.F.Fabric.moves (λ r. (r.0, see_tick r.1))
    (device.tick before.device c.args.word) before.disk before.fabric after.disk after.fabric (after.device, c.tick.result) c.tick.ensures.moved)

pub returns-clause-acts : goal.returns-clause-acts
returns-clause-acts g c = rw c.see_tick.ensures (tick_acts c.args.word c.tick.result)
