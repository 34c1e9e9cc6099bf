use Rattle.std.proofs.Common.{ℕ, ◌<◌, ◌/◌, ◌%◌, Bool, true, false, cond, arith, eqb}
use Rattle.swap_trace.specs.Draws.{slab_of}
use Rattle.swap_trace.proofs.draws_are_in_range.Goals as goal

below : (b : Bool) (word : ℕ) → cond b (word / 4 % 64) (word / 4 % 64 % 4) < 64
below true word = omega arith
below false word = omega arith

slab_below : (word : ℕ) → slab_of word < 64
slab_below word = below (eqb (word / 256 % 4) 0) word

pub returns : goal.returns
returns c = λ word. (omega arith, omega (arith, slab_below word), omega arith)
