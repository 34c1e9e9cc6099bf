use Rattle.swap_world.proofs.ReadsHaveTheirCause as since
use Rattle.swap_world.proofs.again_has_cause.Goals as goal

pub returns : goal.returns
returns g c = since.again_has_cause _ _
