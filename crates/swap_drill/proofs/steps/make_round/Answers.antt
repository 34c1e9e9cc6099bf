use Rattle.std.proofs.Common.{sym, ◌∙◌}
use Rattle.swap_drill.specs.Drill.{is_round_step}
use Rattle.swap_drill.specs.Steps.{world_in}
use Rattle.swap_drill.proofs.Afters.{after_unless, after_if}
use Rattle.swap_drill.proofs.steps.make_round.Goals as goal

pub returns-else-is_round_step-clause-reach : goal.returns-else-is_round_step-clause-reach
returns-else-is_round_step-clause-reach c =
    after_unless (is_round_step c.args.i) (world_in c.args.world.now) _ (sym c.is_round_step.ensures ∙ c.if-is_round_step.false)

pub returns-then-is_round_step-clause-reach : goal.returns-then-is_round_step-clause-reach
returns-then-is_round_step-clause-reach c =
    after_if (is_round_step c.args.i) (world_in c.args.world.now) _ _ (sym c.is_round_step.ensures ∙ c.if-is_round_step.true) c.make.ensures.reach
