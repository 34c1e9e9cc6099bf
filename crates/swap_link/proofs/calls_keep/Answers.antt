use Rattle.swap_link.proofs.WholeLaws.{new_is_harbor, ask_keeps}
use Rattle.swap_link.proofs.calls_keep.Goals as goal

pub returns : goal.returns
returns c = record { made = new_is_harbor; called = ask_keeps }
