use Rattle.std.proofs.Common.{◌≡◌, ℕ, ◌<◌, get_or}
use Rattle.swap_io.specs.Words.{pairs}
use Rattle.swap_io.proofs.words.fill_front.Given as goal

abbrev pub invariant-loop-i : goal.invariant-loop-i
invariant-loop-i l = (k : ℕ) → k < l.i → get_or l.page k 0 ≡ get_or (pairs l.word) k 0
