use Rattle.std.proofs.Common.{◌-◌, ◌≤◌, length, drop}
use Rattle.std.specs.Io.KnownBytes.{Keeps, append_known}
use Rattle.swap_io.proofs.block.hand_on_from.Given as goal

abbrev pub invariant-handing : goal.invariant-handing
invariant-handing g l = record {
  within : l.place ≤ length l.block;
  kept : Keeps (append_known (g.K.Sink.taken l.fn.sink) (drop l.fn.at l.block)) (append_known (g.K.Sink.taken l.sink) (drop l.place l.block));
  later : g.K.Sink.faults l.fn.sink ≤ g.K.Sink.faults l.sink;
}

abbrev pub decreases-handing : goal.decreases-handing
decreases-handing g l = length l.block - l.place
