use Rattle.std.proofs.Common.{ap, sym, ◌∙◌, ◌++◌}
use Rattle.swap_drill.specs.Drill.{after, give_and_take}
use Rattle.swap_drill.specs.Steps.{world_in}
use Rattle.swap_drill.proofs.Afters.{after-append}
use Rattle.swap_drill.proofs.steps.hear_all.Goals as goal

pub returns-clause-reach : goal.returns-clause-reach
returns-clause-reach c =
    c.hear-3.ensures.reach ∙ ap (λ w. after w (give_and_take 2)) (c.hear-2.ensures.reach ∙ ap (λ w. after w (give_and_take 1)) c.hear.ensures.reach)
    ∙ sym
    (after-append (world_in c.args.world.now) (give_and_take 0 ++ give_and_take 1) (give_and_take 2)
    ∙ ap (λ w. after w (give_and_take 2)) (after-append (world_in c.args.world.now) (give_and_take 0) (give_and_take 1)))
