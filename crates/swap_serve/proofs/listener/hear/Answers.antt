use Rattle.std.proofs.Common.{[]}
use Rattle.swap_serve.proofs.Heard.{begins}
use Rattle.swap_serve.proofs.listener.hear.Goals as goal

pub loop-init : goal.loop-init
loop-init g c = ([], begins g.S.Source.left g.S.Source.faults c.args.listener c.requires)

pub returns-in-Some-step : goal.returns-in-Some-step
returns-in-Some-step g c =
    rw (c.leave.ensures.reader, c.leave.ensures.end, c.leave.ensures.ear) (c.in-Some-step.ensures _ _ _ c.loop.invariant.0 c.loop.invariant.1)

pub loop-preserved : goal.loop-preserved
loop-preserved g c = c.in_default.ensures _ _ _ c.loop.invariant.0 c.loop.invariant.1
