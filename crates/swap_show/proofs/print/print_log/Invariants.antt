use Rattle.std.proofs.Common.{◌≤◌}
use Rattle.std.specs.Io.KnownBytes.{Appends}
use Rattle.swap_show.specs.Printing.{first_lines}
use Rattle.swap_show.proofs.print.print_log.Given as goal

abbrev pub invariant-lines : goal.invariant-lines
invariant-lines g l = record {
  taken : Appends (g.K.Sink.taken l.fn.out) (g.K.Sink.taken l.out) (first_lines l.world l.i);
  faults : g.K.Sink.faults l.fn.out ≤ g.K.Sink.faults l.out;
}
