use Rattle.std.proofs.Common.{◌≡◌, ◌++◌, take, drop, map}
use Rattle.swap_calls.specs.Calls.{lost_if_through}
use Rattle.swap_calls.specs.Kept.{in_state}
use Rattle.swap_calls.proofs.table.lose.Given as goal

abbrev pub invariant-calls : goal.invariant-calls
invariant-calls l = l.call-items ≡ map (in_state (lost_if_through l.lender)) (take l.call-index l.initial.call-items) ++ drop l.call-index l.initial.call-items
