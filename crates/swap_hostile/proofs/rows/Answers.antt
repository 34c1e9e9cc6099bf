-- By computation.
use Rattle.std.proofs.Common.{refl}
use Rattle.swap_hostile.proofs.rows.Goals as goal

pub returns-clause-oldest : goal.returns-clause-oldest
returns-clause-oldest c = (refl, refl)

pub returns-clause-listed : goal.returns-clause-listed
returns-clause-listed c = (refl, refl)

pub returns-clause-nobody : goal.returns-clause-nobody
returns-clause-nobody c = (refl, refl)

pub returns-clause-another : goal.returns-clause-another
returns-clause-another c = refl

pub returns-clause-lies : goal.returns-clause-lies
returns-clause-lies c = (refl, refl, refl, refl)
