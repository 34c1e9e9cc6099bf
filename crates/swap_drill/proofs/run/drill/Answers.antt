use Rattle.std.proofs.Common.{ap, ◌∙◌}
use Rattle.swap_world.specs.World.{World}
use Rattle.swap_drill.specs.Drill.{drill_world}
use Rattle.swap_drill.specs.Summary.{summary_in, busy_of}
use Rattle.swap_drill.proofs.run.drill.Goals as goal

pub returns : goal.returns
returns c =
    c.summary.ensures ∙ ap (λ (w : World). summary_in w c.make_events-busy.result.busy c.make_events-busy.result.rounds) c.make_events-busy.ensures.world
    ∙ ap (λ n. summary_in (drill_world c.args.number c.args.calls) n c.make_events-busy.result.rounds) c.make_events-busy.ensures.busy
    ∙ ap (λ n. summary_in (drill_world c.args.number c.args.calls) (busy_of c.args.number c.args.calls) n) c.make_events-busy.ensures.rounds
