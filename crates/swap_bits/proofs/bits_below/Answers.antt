use Rattle.std.proofs.Common.{◌-◌, ◌∙◌, ap, bit_and}
use Rattle.std.proofs.lemmas.Nat.{one_shl, and_mask}
use Rattle.swap_bits.proofs.bits_below.Goals as goal

pub returns : goal.returns
returns c = ap (λ m. bit_and c.args.word (m - 1)) (one_shl c.args.place 64 c.requires) ∙ and_mask c.args.word c.args.place
