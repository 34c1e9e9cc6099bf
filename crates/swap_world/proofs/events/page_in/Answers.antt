use Rattle.std.proofs.Common.{◌≡◌, true, rules}
use Rattle.swap_table.specs.Ports.{Prog, Along}
use Rattle.swap_table.specs.Device as device
use Rattle.swap_table.specs.Device.{Device}
use Rattle.swap_base.proofs.Lists.{chosen}
use Rattle.swap_table.proofs.Programs.{Along-answering}
use Rattle.swap_calls.specs.Calls.{is_idle, state_of}
use Rattle.swap_wire.specs.declared.Seen.{Seen}
use Rattle.swap_table.specs.Happens.{see_in}
use Rattle.swap_world.proofs.events.page_in.Goals as goal

pub returns-clause-step : goal.returns-clause-step
returns-clause-step g c =
    let before = c.args.device.now in
    let after = c.read.new.self in
    let free : is_idle (state_of before.device.calls c.args.caller) ≡ true = search rules in
    let P : Prog (Device × Seen) → Type 0 =
    λ p. Along g.D.DiskPort.moves g.F.Fabric.moves p before.disk before.fabric after.disk after.fabric (after.device, c.see_in.result) in
    chosen P (is_idle (state_of before.device.calls c.args.caller)) _ _
    (λ _.
    rw c.see_in.ensures
    (Along-answering g.D.DiskPort.moves g.F.Fabric.moves (λ r. (r.0, see_in r.1))
    (device.read before.device c.args.caller c.args.page) before.disk before.fabric after.disk after.fabric
    (after.device, c.read.result) c.read.ensures.moved))
    (λ busy. cc)
