use Rattle.std.proofs.Common.{◌≡◌, ◌++◌, take, drop, map}
use Rattle.swap_lender.specs.Table.{free_slot}
use Rattle.swap_lender.proofs.slots.free_all.Given as goal

abbrev pub invariant-loop-state : goal.invariant-loop-state
invariant-loop-state l = l.slots ≡ map (λ state. free_slot l.link state) (take l.state-index l.initial.slots) ++ drop l.state-index l.initial.slots
