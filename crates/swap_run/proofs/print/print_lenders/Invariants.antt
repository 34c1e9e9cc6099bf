use Rattle.std.proofs.Common.{◌≤◌, flat_map, take}
use Rattle.std.specs.Io.KnownBytes.{Appends}
use Rattle.swap_script.specs.Transcript.{lender_header}
use Rattle.swap_run.proofs.print.print_lenders.Given as goal

abbrev pub invariant-lenders : goal.invariant-lenders
invariant-lenders g l = record {
  taken : Appends (g.K.Sink.taken l.fn.out) (g.K.Sink.taken l.out) (flat_map lender_header (take l.lender-index l.lenders));
  faults : g.K.Sink.faults l.fn.out ≤ g.K.Sink.faults l.out;
}
