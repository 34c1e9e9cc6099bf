use Rattle.std.proofs.Common.{◌≡◌, ◌+◌, ◌-◌, ◌∷◌, ap, sym, ◌∙◌, subst, arith}
use Rattle.rand_pcg.specs.Pcg.{pcg32}
use Rattle.swap_trace.specs.Draws.{draws}
use Rattle.swap_base.proofs.Lists.{one_if}
use Rattle.swap_drill.specs.Drill.{after, connects}
use Rattle.swap_drill.specs.Steps.{world_in}
use Rattle.swap_drill.specs.Summary.{IsUnderWay, is_busy}
use Rattle.swap_drill.proofs.UnderWay.{first_step, next_step, last_world, last_busy, last_rounds, draws-more, draws-none, byte_is}
use Rattle.swap_drill.proofs.run.make_events.Goals as goal

pub steps-init : goal.steps-init
steps-init c =
    let spent = c.connect_all.ensures.spends in
    record {
      under_way =
          first_step c.args.number c.args.calls (draws (c.args.calls - 0) c.make-draws.result) (world_in c.connect_all.new.world)
          (ap (λ n. draws n c.make-draws.result) (omega arith) ∙ ap (λ g. draws c.args.calls g) c.make-draws.ensures)
          (c.connect_all.ensures.reach ∙ ap (λ w. after w connects) c.requires.start);
      ready = record {
        sizes = spent.sizes ∙ c.requires.ready.sizes;
        lenders = spent.lenders ∙ c.requires.ready.lenders;
        entries = omega (arith, spent.entries, c.requires.ready.entries);
        log = omega (arith, spent.log, c.requires.ready.log);
      };
      page = c.connect_all.auto.page ∙ c.requires.page;
      few_busy = omega arith;
      few_rounds = omega arith;
    }

pub steps-preserved : goal.steps-preserved
steps-preserved c =
    let spent = c.make_step-seen.ensures.spends in
    let ready = c.steps.invariant.ready in
    let w = world_in c.steps.world in
    let left : draws (c.args.calls - c.steps.i) c.steps.draws ≡ c.next.result ∷ draws (c.args.calls - (c.steps.i + 1)) c.next.new.self =
    draws-more (c.args.calls - c.steps.i) (c.args.calls - (c.steps.i + 1)) c.steps.draws (omega (arith, c.steps-test.true))
    ∙ ap (λ d. d ∷ draws (c.args.calls - (c.steps.i + 1)) (pcg32 c.steps.draws).1) (sym c.next.ensures.draw)
    ∙ ap (λ g. c.next.result ∷ draws (c.args.calls - (c.steps.i + 1)) g) (sym c.next.ensures.left) in
    let busy = byte_is c.is_busy.result in
    let round = byte_is c.is_round_step.result in
    record {
      under_way =
          next_step c.args.number c.args.calls c.steps.i c.next.result (draws (c.args.calls - (c.steps.i + 1)) c.next.new.self) w
          (world_in c.make_step-seen.new.world) c.steps.busy c.steps.rounds _ _
          (subst (λ l. IsUnderWay c.args.number c.args.calls c.steps.i l w c.steps.busy c.steps.rounds) left c.steps.invariant.under_way)
          c.make_step-seen.ensures.reach
          (ap (λ n. c.steps.busy + n) (c.from-busy.ensures ∙ busy.0 ∙ ap one_if (c.is_busy.ensures ∙ ap is_busy c.make_step-seen.ensures.seen)))
          (ap (λ n. c.steps.rounds + n) (c.from-rounds.ensures ∙ round.0 ∙ ap one_if c.is_round_step.ensures));
      ready = record {
        sizes = spent.sizes ∙ ready.sizes;
        lenders = spent.lenders ∙ ready.lenders;
        entries = omega (arith, spent.entries, ready.entries, c.steps-test.true);
        log = omega (arith, spent.log, ready.log, c.steps-test.true);
      };
      page = c.make_step-seen.auto.page ∙ c.steps.invariant.page;
      few_busy = omega (arith, c.steps.invariant.few_busy, c.from-busy.ensures, busy.1);
      few_rounds = omega (arith, c.steps.invariant.few_rounds, c.from-rounds.ensures, round.1);
    }

pub returns-clause-world : goal.returns-clause-world
returns-clause-world c =
    last_world c.args.number c.args.calls c.steps.i _ (world_in c.steps.world) c.steps.busy c.steps.rounds
    (draws-none (c.args.calls - c.steps.i) c.steps.draws (omega (arith, c.steps-test.false))) c.steps.invariant.under_way

pub returns-clause-busy : goal.returns-clause-busy
returns-clause-busy c =
    last_busy c.args.number c.args.calls c.steps.i _ (world_in c.steps.world) c.steps.busy c.steps.rounds
    (draws-none (c.args.calls - c.steps.i) c.steps.draws (omega (arith, c.steps-test.false))) c.steps.invariant.under_way

pub returns-clause-rounds : goal.returns-clause-rounds
returns-clause-rounds c =
    last_rounds c.args.number c.args.calls c.steps.i _ (world_in c.steps.world) c.steps.busy c.steps.rounds
    (draws-none (c.args.calls - c.steps.i) c.steps.draws (omega (arith, c.steps-test.false))) c.steps.invariant.under_way
