use Rattle.swap_choice.proofs.SlotsLemmas.{has-without}
use Rattle.swap_choice.proofs.slots.without_slot.Goals as goal

pub returns : goal.returns
returns c = λ i within. has-without c.args.set c.args.slot i c.requires within
