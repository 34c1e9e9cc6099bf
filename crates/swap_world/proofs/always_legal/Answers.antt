use Rattle.swap_world.proofs.HoldsAfterRuns.{always_legal}
use Rattle.swap_world.proofs.always_legal.Goals as goal

pub returns : goal.returns
returns c = always_legal
