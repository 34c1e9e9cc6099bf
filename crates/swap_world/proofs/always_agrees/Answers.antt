use Rattle.swap_world.proofs.HoldsAfterRuns.{always_agrees}
use Rattle.swap_world.proofs.always_agrees.Goals as goal

pub returns : goal.returns
returns c = always_agrees
