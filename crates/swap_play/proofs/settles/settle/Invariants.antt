use Rattle.swap_play.specs.Settles.{KeepsHistory}
use Rattle.swap_play.proofs.settles.settle.Given as goal

abbrev pub invariant-turns : goal.invariant-turns
invariant-turns g l = KeepsHistory l.fn.board l.board
