use Rattle.std.proofs.Common.{ap, sym, ◌∙◌, ◌++◌, [], ◌∷◌, true}
use Rattle.swap_base.specs.declared.DiskWhich.TheVariants as which
use Rattle.swap_wire.specs.declared.Event.TheVariants as event
use Rattle.swap_drill.specs.Drill.{after, plain_input, all_heard}
use Rattle.swap_drill.specs.Steps.{world_in}
use Rattle.swap_drill.proofs.Afters.{after-append}
use Rattle.swap_drill.proofs.steps.take_turn.Goals as goal

pub returns-clause-reach : goal.returns-clause-reach
returns-clause-reach c =
    let w = world_in c.args.world.now in
    let read = plain_input (event.Disk (which.Read c.args.caller) true) ∷ [] in
    let finish = plain_input (event.Finish c.args.caller) ∷ [] in
    c.make-2.ensures.reach ∙ ap (λ w. after w finish) (c.hear_all.ensures.reach ∙ ap (λ w. after w all_heard) c.make.ensures.reach)
    ∙ sym (after-append w (read ++ all_heard) finish ∙ ap (λ w. after w finish) (after-append w read all_heard))
