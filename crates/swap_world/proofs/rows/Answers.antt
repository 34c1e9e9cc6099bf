-- By computation.
use Rattle.std.proofs.Common.{refl}
use Rattle.swap_choice.specs.Least.{least_of, rank}
use Rattle.swap_choice.specs.Slots.{slots}
use Rattle.swap_world.proofs.rows.Goals as goal

pub returns-clause-anew : goal.returns-clause-anew
unfolding slots
returns-clause-anew c = refl

pub returns-clause-revoked : goal.returns-clause-revoked
unfolding slots least_of rank
returns-clause-revoked c = refl
