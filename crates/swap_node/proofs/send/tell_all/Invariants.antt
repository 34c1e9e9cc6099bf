use Rattle.std.proofs.Common.{◌≡◌, length}
use Rattle.swap_lender.specs.Lender.{Lender}
use Rattle.swap_lender.specs.Outbox.{IsReady}
use Rattle.swap_node.specs.Boards.{Board, count_unsettled}
use Rattle.swap_node.specs.NodeView.{Told}
use Rattle.swap_node.proofs.send.tell_all.Given as goal

abbrev pub decreases-telling : goal.decreases-telling
decreases-telling g l = count_unsettled l.lines

abbrev pub invariant-telling : goal.invariant-telling
invariant-telling g l = record {
  told :
      (m : Lender) (b : Board g.row.K.Denot) → Told g.K.Sink.taken g.K.Sink.faults l.core l.lines m b
      → Told g.K.Sink.taken g.K.Sink.faults l.initial.core l.initial.lines m b;
  lending : l.core.lending ≡ l.initial.core.lending;
  out : IsReady l.out l.initial.core.lending;
  page_bytes : l.lines.page_bytes ≡ l.initial.lines.page_bytes;
  number : length l.lines.lines ≡ length l.initial.lines.lines;
}
