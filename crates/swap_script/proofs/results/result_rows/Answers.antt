-- By computation.
use Rattle.std.proofs.Common.{refl}
use Rattle.std.specs.Fmt.{digits}
use Rattle.swap_choice.specs.Slots.{slots}
use Rattle.swap_script.proofs.results.result_rows.Goals as goal

pub returns : goal.returns
unfolding digits slots
returns c = (refl, refl, refl, refl, refl, refl, refl, refl)
