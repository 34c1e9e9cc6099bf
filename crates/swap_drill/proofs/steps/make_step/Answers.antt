use Rattle.swap_drill.specs.Drill.{after, calling, following, step}
use Rattle.swap_drill.specs.Steps.{world_in}
use Rattle.swap_drill.proofs.Afters.{and_then}
use Rattle.std.proofs.Common.{refl, ap, ◌∙◌}
use Rattle.swap_drill.proofs.steps.make_step.Goals as goal

pub returns-clause-reach : goal.returns-clause-reach
unfolding step
returns-clause-reach c =
    let w = world_in c.args.world.now in
    and_then w (after w (calling c.args.draw w)) _ (calling c.args.draw w) (following c.args.i c.args.draw (after w (calling c.args.draw w))) refl
    (c.follow.ensures.reach ∙ ap (λ v. after v (following c.args.i c.args.draw v)) c.call_by-seen.ensures.reach)
