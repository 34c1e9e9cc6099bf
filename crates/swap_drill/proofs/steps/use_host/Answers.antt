use Rattle.std.proofs.Common.{◌%◌, ◌==◌}
use Rattle.swap_base.proofs.Lists.{not_eqb}
use Rattle.swap_drill.specs.Steps.{world_in}
use Rattle.swap_drill.proofs.Afters.{after_unless}
use Rattle.swap_drill.proofs.steps.use_host.Goals as goal

pub returns-else-i-eq499-clause-reach : goal.returns-else-i-eq499-clause-reach
returns-else-i-eq499-clause-reach c = after_unless (c.args.i % 500 == 499) (world_in c.args.world.now) _ (not_eqb (c.args.i % 500) 499 c.if-i-eq499.false)
