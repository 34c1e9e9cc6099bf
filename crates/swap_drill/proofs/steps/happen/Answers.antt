use Rattle.swap_drill.proofs.Afters.{steps_to}
use Rattle.swap_drill.proofs.steps.happen.Goals as goal

pub returns-clause-next : goal.returns-clause-next
returns-clause-next c = steps_to c.steps_are_next.ensures c.args.world.now c.step.new.self _ c.step.result c.step.ensures.step
