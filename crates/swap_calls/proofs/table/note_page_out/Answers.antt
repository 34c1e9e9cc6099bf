use Rattle.std.proofs.Common.{arith, get_or}
use Rattle.std.proofs.lemmas.List.{get_or_default}
use Rattle.std.proofs.lemmas.List.Edits.{map_over_more}
use Rattle.swap_calls.specs.Calls.{newer_if_reads}
use Rattle.swap_calls.specs.Kept.{in_state}
use Rattle.swap_calls.proofs.table.note_page_out.Goals as goal

pub calls-preserved : goal.calls-preserved
calls-preserved c =
    rw (c.set_state.ensures, c.with_newer-state.ensures, c.state.ensures)
    (map_over_more (in_state (newer_if_reads c.args.page)) c.args.calls.now c.calls.call-items c.calls.call-index
    (get_or c.calls.call-items c.calls.call-index c.call-item.result) (omega arith) c.calls.invariant
    (get_or_default c.calls.call-items c.calls.call-index c.call-item.result _ (omega arith)))
