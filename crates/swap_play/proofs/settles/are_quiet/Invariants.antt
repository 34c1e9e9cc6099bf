use Rattle.std.proofs.Common.{◌≡◌, true}
use Rattle.swap_play.specs.Settles.{KeepsHistory, LinksAreQuiet}
use Rattle.swap_play.proofs.settles.are_quiet.Given as goal

abbrev pub invariant-links : goal.invariant-links
invariant-links g l = record {
  keeps : KeepsHistory l.fn.board l.board;
  quiet : l.quiet ≡ true → LinksAreQuiet g.D.DiskPort.moves g.F.Fabric.moves l.lender l.board.world;
}
