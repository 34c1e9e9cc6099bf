use Rattle.std.proofs.Common.{◌≡◌, ◌++◌, take}
use Rattle.swap_io.specs.Words.{hex}
use Rattle.swap_io.proofs.line.LineBuf.shortest.Given as goal

abbrev pub invariant-loop-byte : goal.invariant-loop-byte
invariant-loop-byte l = l.self ≡ l.fn.self ++ hex (take l.byte-index l.piece)
