use Rattle.std.proofs.Common.{◌≡◌, ◌<◌, ◌/◌, ◌%◌, ◌^◌, ◌==◌, length, get_or, bit_and, arith, ap, ◌∙◌}
use Rattle.std.proofs.lemmas.List.{get_or_default}
use Rattle.swap_bits.specs.Bits.{has}
use Rattle.swap_bits.proofs.InWords.{bound_of, tested}
use Rattle.swap_bits.proofs.PageBits.get.Goals as goal

pub index-word-requires : goal.index-word-requires
index-word-requires c = omega (arith, bound_of c.self.inside.words.items c.self.inside.bound c.args.self.now c.self.view_is, c.self.invariant)

pub returns : goal.returns
returns c =
    let below : c.args.i < c.self.inside.bound = omega (arith, bound_of c.self.inside.words.items c.self.inside.bound c.args.self.now c.self.view_is) in
    let within : c.args.i / 64 < length c.self.inside.words.items = omega (arith, below, c.self.invariant) in
    let word : c.index-word.result.now ≡ get_or c.self.inside.words.items (c.args.i / 64) 0 =
    c.index-word.ensures ∙ get_or_default c.self.inside.words.items (c.args.i / 64) c.index-word.result.now 0 within in
    ap (λ w. bit_and (w / 2 ^ (c.args.i % 64)) 1 == 1) word ∙ tested c.self.inside.words.items c.self.inside.bound c.args.i below
    ∙ ap (λ s. has s c.args.i) c.self.view_is
