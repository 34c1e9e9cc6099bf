use Rattle.std.proofs.Common.{◌≡◌, ◌≤◌, length}
use Rattle.swap_run.specs.Printing.{Printing}
use Rattle.swap_run.proofs.print.print_events.Given as goal

abbrev pub invariant-events : goal.invariant-events
invariant-events g l = record {
  printing : Printing l.fn.world l.fn.walk.inputs l.world l.walk (g.K.Sink.taken l.fn.out) (g.K.Sink.taken l.out);
  faults : g.K.Sink.faults l.fn.out ≤ g.K.Sink.faults l.out;
  page : length l.page ≡ l.walk.sizes.page_bytes;
}

abbrev pub decreases-events : goal.decreases-events
decreases-events g l = length l.walk.inputs
