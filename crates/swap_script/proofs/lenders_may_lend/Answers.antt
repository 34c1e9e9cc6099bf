-- Lenders of a script were checked.
use Rattle.swap_script.specs.declared.Grammar.TheVariants.{Script}
use Rattle.swap_script.proofs.Checked.{have_lenders}
use Rattle.swap_script.proofs.lenders_may_lend.Goals as goal

pub returns : goal.returns
returns c = have_lenders Script
