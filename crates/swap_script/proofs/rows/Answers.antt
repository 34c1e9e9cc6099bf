-- By computation.
use Rattle.std.proofs.Common.{refl}
use Rattle.std.specs.Fmt.{digits}
use Rattle.swap_choice.specs.Slots.{slots}
use Rattle.swap_script.proofs.rows.Goals as goal

pub returns-clause-scripts : goal.returns-clause-scripts
unfolding digits
returns-clause-scripts c = (refl, refl, refl)

pub returns-clause-lenders : goal.returns-clause-lenders
unfolding digits
returns-clause-lenders c = (refl, refl)

pub returns-clause-link_events : goal.returns-clause-link_events
unfolding digits
returns-clause-link_events c = refl

pub returns-clause-faults : goal.returns-clause-faults
unfolding digits
returns-clause-faults c = (refl, refl, refl, refl, refl, refl, refl, refl, refl, refl)

pub returns-clause-lender_faults : goal.returns-clause-lender_faults
unfolding digits
returns-clause-lender_faults c = (refl, refl, refl, refl, refl, refl, refl, refl, refl, refl, refl, refl, refl, refl, refl, refl, refl)

pub returns-clause-forms : goal.returns-clause-forms
unfolding digits
returns-clause-forms c = (refl, refl, refl, refl, refl, refl, refl, refl, refl, refl)

pub returns-clause-traces : goal.returns-clause-traces
unfolding digits
returns-clause-traces c = (refl, refl, refl)

pub returns-clause-trace_faults : goal.returns-clause-trace_faults
unfolding digits
returns-clause-trace_faults c = (refl, refl, refl, refl, refl, refl, refl, refl, refl, refl, refl, refl)

pub returns-clause-printed : goal.returns-clause-printed
unfolding digits
returns-clause-printed c = (refl, refl, refl, refl, refl, refl, refl)

pub returns-clause-links : goal.returns-clause-links
unfolding digits slots
returns-clause-links c = (refl, refl, refl, refl, refl, refl, refl)
