use Rattle.std.proofs.Common.{refl}
use Rattle.swap_choice.specs.Slots.{slots}
use Rattle.swap_choice.specs.Least.{rank, least_of}
use Rattle.swap_lender.proofs.rows.Goals as goal

pub returns-clause-page_in : goal.returns-clause-page_in
returns-clause-page_in c = refl

pub returns-clause-lends : goal.returns-clause-lends
unfolding slots
returns-clause-lends c = refl

pub returns-clause-revoked : goal.returns-clause-revoked
unfolding slots rank least_of
returns-clause-revoked c = refl
