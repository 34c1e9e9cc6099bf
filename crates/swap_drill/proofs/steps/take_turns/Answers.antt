use Rattle.std.proofs.Common.{◌-◌, ◌+◌, sym, ◌∙◌, arith}
use Rattle.swap_drill.specs.Steps.{world_in}
use Rattle.swap_drill.proofs.Turns.{turn_more, turns-idle, turns-none, turns_over}
use Rattle.swap_drill.proofs.steps.take_turns.Goals as goal

pub turns-preserved : goal.turns-preserved
turns-preserved c =
    let spent = c.turns.invariant.spends in
    let turn = c.take_turn.ensures.spends in
    record {
      rest =
          turn_more (4 - c.turns.taken) (4 - (c.turns.taken + 1)) c.args.caller (world_in c.turns.world) (world_in c.take_turn.new.world) _
          (omega (arith, c.turns-test.true)) (sym c.waits.ensures ∙ c.if-waits.true) c.take_turn.ensures.reach c.turns.invariant.rest;
      spends = record {
        sizes = turn.sizes ∙ spent.sizes;
        lenders = turn.lenders ∙ spent.lenders;
        entries = omega (arith, turn.entries, spent.entries);
        log = omega (arith, turn.log, spent.log);
      };
      page = c.take_turn.auto.page ∙ c.turns.invariant.page;
      few = omega (arith, c.turns-test.true);
    }

pub returns-else-waits-clause-reach : goal.returns-else-waits-clause-reach
returns-else-waits-clause-reach c =
    turns_over (4 - c.turns.taken) c.args.caller (world_in c.turns.world) _
    (turns-idle (4 - c.turns.taken) c.args.caller (world_in c.turns.world) (sym c.waits.ensures ∙ c.if-waits.false)) c.turns.invariant.rest

pub returns-after-turns-clause-reach : goal.returns-after-turns-clause-reach
returns-after-turns-clause-reach c =
    turns_over (4 - c.turns.taken) c.args.caller (world_in c.turns.world) _
    (turns-none (4 - c.turns.taken) c.args.caller (world_in c.turns.world) (omega (arith, c.turns-test.false))) c.turns.invariant.rest

pub returns-after-turns-clause-spends : goal.returns-after-turns-clause-spends
returns-after-turns-clause-spends c =
    let spent = c.turns.invariant.spends in
    record { sizes = spent.sizes; lenders = spent.lenders; entries = spent.entries; log = omega (arith, spent.log, c.turns.invariant.few) }
