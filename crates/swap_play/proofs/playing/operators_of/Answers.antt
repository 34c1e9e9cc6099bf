use Rattle.std.proofs.Common.{◌∙◌, sym}
use Rattle.swap_play.proofs.Operating.{all_theirs, taken_all}
use Rattle.swap_play.proofs.playing.operators_of.Goals as goal

pub returns-clause-theirs : goal.returns-clause-theirs
returns-clause-theirs c =
    all_theirs c.args.trace.now c.events.events.items c.requires.trace c.traces_are_whole.ensures.range c.traces_are_whole.ensures.kinds
    (taken_all c.events.events.items _ c.events.walk.inputs (sym c.next.ensures.event ∙ c.in_default.is) c.events.invariant.events)
