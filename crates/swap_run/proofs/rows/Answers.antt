-- By computation.
use Rattle.std.proofs.Common.{refl}
use Rattle.std.specs.Fmt.{digits}
use Rattle.swap_choice.specs.Least.{least_of, rank}
use Rattle.swap_choice.specs.Slots.{slots}
use Rattle.swap_run.proofs.rows.Goals as goal

pub returns-clause-queue : goal.returns-clause-queue
unfolding digits
returns-clause-queue c = (refl, refl, refl, refl, refl)

pub returns-clause-disk : goal.returns-clause-disk
unfolding digits
returns-clause-disk c = (refl, refl, refl, refl, refl, refl, refl, refl)

pub returns-clause-lender : goal.returns-clause-lender
unfolding digits
returns-clause-lender c = (refl, refl, refl)

pub returns-clause-links : goal.returns-clause-links
unfolding digits
returns-clause-links c = (refl, refl, refl, refl)

pub returns-clause-round : goal.returns-clause-round
unfolding digits slots least_of rank
returns-clause-round c = refl

pub returns-clause-refused : goal.returns-clause-refused
unfolding digits
returns-clause-refused c = (refl, refl, refl, refl, refl, refl)
