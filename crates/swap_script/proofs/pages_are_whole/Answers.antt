-- The pattern of a page-out's line fills a page.
use Rattle.swap_script.specs.declared.Grammar.TheVariants.{Script}
use Rattle.swap_script.proofs.Checked.{hand_in_pages}
use Rattle.swap_script.proofs.pages_are_whole.Goals as goal

pub returns : goal.returns
returns c = hand_in_pages Script
