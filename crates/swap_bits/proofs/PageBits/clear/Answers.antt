use Rattle.std.proofs.Common.{◌≡◌, ◌<◌, ◌-◌, ◌*◌, ◌/◌, ◌%◌, ◌^◌, false, length, get_or, set, bit_and, arith, ap, ◌∙◌}
use Rattle.std.proofs.lemmas.List.{get_or_default}
use Rattle.swap_bits.specs.Words.{set_of}
use Rattle.swap_bits.proofs.InWords.{bound_of, taken}
use Rattle.swap_bits.proofs.PageBits.clear.Goals as goal

pub index_mut-requires : goal.index_mut-requires
index_mut-requires c = omega (arith, bound_of c.self.inside.words.items c.self.inside.bound c.args.self.now c.self.view_is, c.self.invariant)

pub returns : goal.returns
returns c =
    let below : c.args.i < c.self.inside.bound = omega (arith, bound_of c.self.inside.words.items c.self.inside.bound c.args.self.now c.self.view_is) in
    let within : c.args.i / 64 < length c.self.inside.words.items = omega (arith, below, c.self.invariant) in
    let word : c.index_mut.result.now ≡ get_or c.self.inside.words.items (c.args.i / 64) 0 =
    c.index_mut.ensures.value ∙ get_or_default c.self.inside.words.items (c.args.i / 64) c.index_mut.result.now 0 within in
    ap (λ w. set_of (set c.self.inside.words.items (c.args.i / 64) (bit_and w (2 ^ 64 - 1 - 1 * 2 ^ (c.args.i % 64) % 2 ^ 64))) c.self.inside.bound) word
    ∙ taken c.self.inside.words.items c.self.inside.bound c.args.i below within ∙ ap (λ s. set s c.args.i false) c.self.view_is
