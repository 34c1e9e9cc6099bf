use Rattle.swap_newest.proofs.Memory.{always_lent}
use Rattle.swap_newest.proofs.always_lent.Goals as goal

pub returns : goal.returns
returns c = always_lent
