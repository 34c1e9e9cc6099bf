use Rattle.std.proofs.Common.{◌≡◌, ◌++◌, take, drop, map}
use Rattle.swap_calls.specs.Calls.{newer_if_reads}
use Rattle.swap_calls.specs.Kept.{in_state}
use Rattle.swap_calls.proofs.table.note_page_out.Given as goal

abbrev pub invariant-calls : goal.invariant-calls
invariant-calls l = l.call-items ≡ map (in_state (newer_if_reads l.page)) (take l.call-index l.initial.call-items) ++ drop l.call-index l.initial.call-items
