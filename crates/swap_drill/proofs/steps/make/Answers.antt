use Rattle.swap_drill.proofs.Afters.{after_plain}
use Rattle.swap_drill.specs.Steps.{world_in}
use Rattle.swap_drill.proofs.steps.make.Goals as goal

pub returns-clause-reach : goal.returns-clause-reach
returns-clause-reach c =
    after_plain (world_in c.args.world.now) c.args.page.now c.args.event (world_in c.happen.new.world) c.happen.result c.requires.no_call c.happen.ensures.next
