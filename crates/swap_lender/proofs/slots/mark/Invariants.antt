use Rattle.std.proofs.Common.{◌≡◌, ◌++◌, take, drop}
use Rattle.swap_lender.specs.Table.{mark_slots}
use Rattle.swap_lender.proofs.slots.mark.Given as goal

abbrev pub invariant-loop-slot : goal.invariant-loop-slot
invariant-loop-slot l = take l.slot l.slots ++ mark_slots l.set l.slot (drop l.slot l.slots) ≡ mark_slots l.set 0 l.initial.slots
