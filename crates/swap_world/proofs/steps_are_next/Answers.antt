use Rattle.swap_world.proofs.HoldsAfterRuns as runs
use Rattle.swap_world.proofs.steps_are_next.Goals as goal

pub returns : goal.returns
returns c = runs.steps_are_next
