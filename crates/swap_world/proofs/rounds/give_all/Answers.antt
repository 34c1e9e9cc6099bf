use Rattle.std.proofs.Common.{◌≡◌, ◌≤◌, ◌<◌, ◌+◌, ◌∙◌, true, false, refl, arith, rules}
use Rattle.swap_wire.specs.declared.Event.TheVariants as event
use Rattle.swap_world.specs.Rounds.{has_effect}
use Rattle.swap_world.proofs.RoundsKeepPlans.{loop_goes, loop_breaks, loop_ends, step_of}
use Rattle.swap_world.proofs.rounds.give_all.Goals as goal

pub messages-preserved : goal.messages-preserved
messages-preserved g c =
    let before = c.messages.device in
    let after = c.give_event-seen.new.device in
    let has : has_effect (event.Give c.args.lender) c.give_event-seen.result ≡ true = search rules in
    let less : c.messages.effects < c.args.times = search rules in
    record {
      goes =
          loop_goes g.D.DiskPort.moves g.F.Fabric.moves
          (event.Give c.args.lender) c.args.times c.args.device.now before after c.messages.effects c.give_event-seen.result c.messages.invariant.goes
          c.give_event-seen.ensures.step has;
      room = c.give_event-seen.ensures.room ∙ c.messages.invariant.room;
      of =
          step_of g.D.DiskPort.moves g.F.Fabric.moves before.device after.device before.disk after.disk before.fabric after.fabric
          (event.Give c.args.lender) c.give_event-seen.result refl c.give_event-seen.ensures.step
          ∙ c.messages.invariant.of;
      most = omega (arith, less);
    }

pub returns-after-messages-clause-goes : goal.returns-after-messages-clause-goes
returns-after-messages-clause-goes g c =
    let least : c.args.times ≤ c.messages.effects = search rules in
    loop_ends g.D.DiskPort.moves g.F.Fabric.moves
    (event.Give c.args.lender) c.args.times c.args.device.now c.messages.device c.messages.effects c.messages.invariant.goes c.messages.invariant.most least

pub returns-then-not-has_effect-clause-goes : goal.returns-then-not-has_effect-clause-goes
returns-then-not-has_effect-clause-goes g c =
    let before = c.messages.device in
    let after = c.give_event-seen.new.device in
    let none : has_effect (event.Give c.args.lender) c.give_event-seen.result ≡ false = search rules in
    let less : c.messages.effects < c.args.times = search rules in
    loop_breaks g.D.DiskPort.moves g.F.Fabric.moves
    (event.Give c.args.lender) c.args.times c.args.device.now before after c.messages.effects c.give_event-seen.result c.messages.invariant.goes less
    c.give_event-seen.ensures.step none
