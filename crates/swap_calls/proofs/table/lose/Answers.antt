use Rattle.std.proofs.Common.{arith, get_or}
use Rattle.std.proofs.lemmas.List.{get_or_default}
use Rattle.std.proofs.lemmas.List.Edits.{map_over_more}
use Rattle.swap_calls.specs.Calls.{lost_if_through}
use Rattle.swap_calls.specs.Kept.{in_state}
use Rattle.swap_calls.proofs.table.lose.Goals as goal

pub calls-preserved : goal.calls-preserved
calls-preserved c =
    rw (c.set_state.ensures, c.lost_through-state.ensures, c.state.ensures)
    (map_over_more (in_state (lost_if_through c.args.lender)) c.args.calls.now c.calls.call-items c.calls.call-index
    (get_or c.calls.call-items c.calls.call-index c.call-item.result) (omega arith) c.calls.invariant
    (get_or_default c.calls.call-items c.calls.call-index c.call-item.result _ (omega arith)))
