-- Lines without a fault are in range.
use Rattle.swap_script.specs.declared.Grammar.TheVariants.{Script}
use Rattle.swap_script.proofs.Checked.{are_in_range}
use Rattle.swap_script.proofs.events_in_range.Goals as goal

pub returns : goal.returns
returns c = are_in_range Script
