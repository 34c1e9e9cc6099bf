use Rattle.swap_choice.proofs.SlotsLemmas.{ones-size}
use Rattle.swap_choice.proofs.slots.slot_count.Goals as goal

pub returns : goal.returns
returns c = ones-size c.args.set c.ranges.set.fits
