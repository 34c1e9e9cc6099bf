use Rattle.swap_table.specs.Device as device
use Rattle.swap_table.specs.Happens.{see_map, see_link}
use Rattle.swap_table.proofs.Programs.{Along-answering}
use Rattle.swap_world.proofs.events.happen.Goals as goal

pub returns-in-PageOut-clause-step : goal.returns-in-PageOut-clause-step
returns-in-PageOut-clause-step g c = rw c.in-PageOut.is c.page_out.ensures.step

pub returns-in-Finish-clause-step : goal.returns-in-Finish-clause-step
returns-in-Finish-clause-step g c = rw c.in-Finish.is c.finish.ensures.step

pub returns-in-Map-clause-step : goal.returns-in-Map-clause-step
returns-in-Map-clause-step g c =
    let before = c.args.device.now in
    let after = c.map.new.self in
    rw (c.in-Map.is, c.see_map.ensures)
    (Along-answering g.D.DiskPort.moves g.F.Fabric.moves (λ r. (r.0, see_map r.1))
    (device.map before.device c.in-Map.slab c.in-Map.lender) before.disk before.fabric after.disk after.fabric
    (after.device, c.map.result) c.map.ensures.moved)

pub returns-in-Connect-clause-step : goal.returns-in-Connect-clause-step
returns-in-Connect-clause-step g c =
    let before = c.args.device.now in
    let after = c.connect.new.self in
    rw (c.in-Connect.is, c.see_link.ensures)
    (Along-answering g.D.DiskPort.moves g.F.Fabric.moves (λ r. (r.0, see_link r.1))
    (device.connect before.device c.in-Connect.lender) before.disk before.fabric after.disk after.fabric
    (after.device, c.connect.result) c.connect.ensures.moved)

pub returns-in-Round-clause-step : goal.returns-in-Round-clause-step
returns-in-Round-clause-step g c = rw c.in-Round.is c.round.ensures.step
