use Rattle.std.proofs.Common.{ap, sym, ◌∙◌, [], ◌∷◌}
use Rattle.swap_wire.specs.declared.Event.TheVariants as event
use Rattle.swap_drill.specs.Drill.{after, plain_input}
use Rattle.swap_drill.specs.Steps.{world_in}
use Rattle.swap_drill.proofs.Afters.{after-append}
use Rattle.swap_drill.proofs.steps.hear.Goals as goal

pub returns-clause-reach : goal.returns-clause-reach
returns-clause-reach c =
    c.make-2.ensures.reach ∙ ap (λ w. after w (plain_input (event.Take c.args.lender) ∷ [])) c.make.ensures.reach
    ∙ sym (after-append (world_in c.args.world.now) (plain_input (event.Give c.args.lender) ∷ []) (plain_input (event.Take c.args.lender) ∷ []))
