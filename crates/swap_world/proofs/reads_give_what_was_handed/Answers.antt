use Rattle.swap_world.proofs.ReadsHaveTheirCause as since
use Rattle.swap_world.proofs.reads_give_what_was_handed.Goals as goal

pub returns : goal.returns
returns g c = since.gives_what_was_handed _ _
