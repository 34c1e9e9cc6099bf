use Rattle.std.proofs.Common.{◌≡◌, ◌+◌, ◌∙◌, ap, sym, refl}
use Rattle.swap_base.specs.Sizes.{Sizes}
use Rattle.swap_wire.specs.Fabric.{FabricOf}
use Rattle.swap_wire.specs.declared.Event.TheVariants as event
use Rattle.swap_table.specs.Device.{of_device}
use Rattle.swap_world.specs.Rounds.{most_messages}
use Rattle.swap_world.proofs.RoundsKeepPlans.{step_of, round_steps}
use Rattle.swap_world.proofs.rounds.round.Goals as goal

pub hear_all-first-requires-clause-lenders : goal.hear_all-first-requires-clause-lenders
hear_all-first-requires-clause-lenders g c =
    let before = c.args.device.now in
    let after = c.tick_event.new.device in
    let of : of_device after.device ≡ of_device before.device =
    step_of g.D.DiskPort.moves g.F.Fabric.moves before.device after.device before.disk after.disk before.fabric after.fabric
    (event.Tick c.args.word) c.tick_event.result refl c.tick_event.ensures.step in
    c.requires.lenders ∙ sym (ap (λ (x : FabricOf). x.lenders) of)

pub hear_all-second-requires-clause-lenders : goal.hear_all-second-requires-clause-lenders
hear_all-second-requires-clause-lenders g c =
    let before = c.args.device.now in
    let after = c.tick_event.new.device in
    let of : of_device after.device ≡ of_device before.device =
    step_of g.D.DiskPort.moves g.F.Fabric.moves before.device after.device before.disk after.disk before.fabric after.fabric
    (event.Tick c.args.word) c.tick_event.result refl c.tick_event.ensures.step in
    c.requires.lenders ∙ sym (ap (λ (x : FabricOf). x.lenders) (c.hear_all-first.ensures.of ∙ of))

pub returns-clause-step : goal.returns-clause-step
returns-clause-step g c =
    let times_are : c.window-times.result + 66 ≡ most_messages c.args.device.now.device.sizes =
    ap (λ n. n + 66) (c.window-times.ensures ∙ ap (λ (z : Sizes). z.window) c.geometry.ensures) in
    rw c.mapped.ensures
    (round_steps g.D.DiskPort.moves g.F.Fabric.moves c.args.word
    (c.window-times.result + 66) c.args.lenders c.hear_all-first.result c.hear_all-second.result c.args.device.now c.tick_event.new.device
    c.hear_all-first.new.device c.hear_all-second.new.device c.tick_event.result times_are c.requires.lenders c.tick_event.ensures.step
    c.tick_event.ensures.acts c.hear_all-first.ensures.goes c.hear_all-second.ensures.goes)
