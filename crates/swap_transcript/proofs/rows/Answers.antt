-- By computation.
use Rattle.std.proofs.Common.{refl}
use Rattle.std.specs.Fmt.{digits}
use Rattle.swap_transcript.proofs.rows.Goals as goal

pub returns-clause-read : goal.returns-clause-read
unfolding digits
returns-clause-read c = (refl, refl, refl, refl)

pub returns-clause-noted : goal.returns-clause-noted
unfolding digits
returns-clause-noted c = (refl, refl, refl, refl)

pub returns-clause-refused : goal.returns-clause-refused
unfolding digits
returns-clause-refused c = (refl, refl, refl, refl, refl, refl, refl, refl, refl, refl, refl)
