use Rattle.std.proofs.Common.{◌≡◌, false, rules}
use Rattle.swap_table.specs.Ports.{Prog, Along}
use Rattle.swap_table.specs.Device as device
use Rattle.swap_table.specs.Device.{Device}
use Rattle.swap_base.proofs.Lists.{chosen}
use Rattle.swap_table.proofs.Programs.{Along-answering}
use Rattle.swap_calls.specs.Calls.{is_idle, state_of}
use Rattle.swap_wire.specs.declared.Seen.{Seen}
use Rattle.swap_table.specs.Happens.{see_step}
use Rattle.swap_world.proofs.events.finish.Goals as goal

pub returns-clause-step : goal.returns-clause-step
returns-clause-step g c =
    let before = c.args.device.now in
    let after = c.finish.new.self in
    let busy : is_idle (state_of before.device.calls c.args.caller) ≡ false = search rules in
    let P : Prog (Device × Seen) → Type 0 =
    λ p. Along g.D.DiskPort.moves g.F.Fabric.moves p before.disk before.fabric after.disk after.fabric (after.device, c.see_step.result) in
    chosen P (is_idle (state_of before.device.calls c.args.caller)) _ _ (λ idles. cc)
    (λ _.
    rw c.see_step.ensures
    (Along-answering g.D.DiskPort.moves g.F.Fabric.moves (λ r. (r.0, see_step r.1))
    (device.finish before.device c.args.caller) before.disk before.fabric after.disk after.fabric (after.device, c.finish.result) c.finish.ensures.moved))
