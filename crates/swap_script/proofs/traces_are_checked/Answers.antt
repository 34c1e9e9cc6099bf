use Rattle.swap_script.specs.declared.Grammar.TheVariants.{Trace}
use Rattle.swap_script.proofs.Checked.{are_in_range, hand_in_pages, have_lenders}
use Rattle.swap_script.proofs.Held.{hold_trace_events}
use Rattle.swap_script.proofs.traces_are_checked.Goals as goal

pub returns-clause-range : goal.returns-clause-range
returns-clause-range c = λ tcp. are_in_range (Trace tcp)

pub returns-clause-pages : goal.returns-clause-pages
returns-clause-pages c = λ tcp. hand_in_pages (Trace tcp)

pub returns-clause-lenders : goal.returns-clause-lenders
returns-clause-lenders c = λ tcp. have_lenders (Trace tcp)

pub returns-clause-kinds : goal.returns-clause-kinds
returns-clause-kinds c = hold_trace_events
