use Rattle.std.proofs.Common.{ap, ◌∙◌, subst}
use Rattle.swap_script.specs.Reading.{Script}
use Rattle.swap_show.specs.Shown.{IsFirst}
use Rattle.swap_show.proofs.Shows.{trace_ends}
use Rattle.swap_show.proofs.source.play_trace.Goals as goal

pub returns-in-Ok-play-clause-ends : goal.returns-in-Ok-play-clause-ends
returns-in-Ok-play-clause-ends g c =
    let P : Script → Type 0 = λ s. IsFirst s c.in-Ok-first_world.world in
    trace_ends c.args.trace.now c.args.number c.deref-in-Ok-play.result.now c.in-Ok-first_world.world c.in-Ok-play.world _ c.show.result
    (c.deref-in-Ok-play.ensures.value ∙ c.in-Ok-lenders_of.ensures.lenders ∙ ap (λ (s : Script). s.lenders) c.script-script.ensures)
    (subst P c.script-script.ensures c.in-Ok-first_world.ensures) c.in-Ok-play.ensures c.show.ensures.ends
