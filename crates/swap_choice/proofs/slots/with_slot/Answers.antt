use Rattle.swap_choice.proofs.SlotsLemmas.{has-with}
use Rattle.swap_choice.proofs.slots.with_slot.Goals as goal

pub returns-clause-slots : goal.returns-clause-slots
returns-clause-slots c = λ i within. has-with c.args.set c.args.slot i c.requires
