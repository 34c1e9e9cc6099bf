use Rattle.std.proofs.Common.{sym, ◌∙◌}
use Rattle.std.proofs.lemmas.Bool.{le-ltb}
use Rattle.swap_choice.proofs.SlotsLemmas.{has-beyond}
use Rattle.swap_choice.proofs.slots.has_slot.Goals as goal

pub returns-else-slot-lt-SLOTS : goal.returns-else-slot-lt-SLOTS
returns-else-slot-lt-SLOTS c = le-ltb _ _ c.if-slot-lt-SLOTS.false ∙ sym (has-beyond c.args.set c.args.slot c.ranges.set.fits c.if-slot-lt-SLOTS.false)
