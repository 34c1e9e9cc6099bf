use Rattle.std.proofs.Common.{◌≤◌, length, arith, ap, ◌∙◌}
use Rattle.swap_bits.specs.Bits.{count_in}
use Rattle.swap_bits.specs.Words.{set_of}
use Rattle.swap_bits.proofs.InWords.{bound_of}
use Rattle.swap_bits.proofs.PageBits.count_range.Goals as goal

pub count_in_words-requires-clause-within : goal.count_in_words-requires-clause-within
count_in_words-requires-clause-within c =
    omega (arith, bound_of c.self.inside.words.items c.self.inside.bound c.args.self.now c.self.view_is, c.self.invariant, ap length c.deref.ensures.value)

pub returns : goal.returns
returns c =
    let below : c.args.end ≤ c.self.inside.bound =
    omega (arith, bound_of c.self.inside.words.items c.self.inside.bound c.args.self.now c.self.view_is, c.requires.within) in
    c.count_in_words.ensures c.self.inside.bound below
    ∙ ap (λ words. count_in (set_of words c.self.inside.bound) c.args.first c.args.end) c.deref.ensures.value
    ∙ ap (λ s. count_in s c.args.first c.args.end) c.self.view_is
