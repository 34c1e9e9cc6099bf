use Rattle.std.proofs.Common.{◌≡◌, length}
use Rattle.swap_lender.specs.Outbox.{outbox_with}
use Rattle.swap_node.specs.Boards.{Board, PutsAll, count_unsettled}
use Rattle.swap_node.proofs.send.put_all.Given as goal

abbrev pub decreases-putting : goal.decreases-putting
decreases-putting g l = length l.out.parcels

abbrev pub invariant-putting : goal.invariant-putting
invariant-putting g l = record {
  puts :
      (b : Board g.row.K.Denot) → PutsAll g.K.Sink.taken g.K.Sink.faults l.lines l.out.parcels b
      → PutsAll g.K.Sink.taken g.K.Sink.faults l.initial.lines l.initial.out.parcels b;
  out : l.out ≡ outbox_with l.initial.out l.out.parcels l.initial.out.evicted;
  unsettled : count_unsettled l.lines ≡ count_unsettled l.initial.lines;
  page_bytes : l.lines.page_bytes ≡ l.initial.lines.page_bytes;
  number : length l.lines.lines ≡ length l.initial.lines.lines;
}
