use Rattle.std.proofs.Common.{◌≤◌, length, arith, ap, ◌∙◌, cond, false}
use Rattle.std.proofs.lemmas.List.{with_items_is}
use Rattle.swap_bits.specs.Bits.{is_in_range, without_range}
use Rattle.swap_bits.specs.Words.{is_in, set_of}
use Rattle.swap_bits.proofs.InWords.{bound_of}
use Rattle.swap_bits.proofs.Ranges.{range_taken}
use Rattle.swap_bits.proofs.PageBits.clear_range.Goals as goal

pub clear_in_words-requires-clause-within : goal.clear_in_words-requires-clause-within
clear_in_words-requires-clause-within c =
    omega (arith, bound_of c.self.inside.words.items c.self.inside.bound c.args.self.now c.self.view_is, c.self.invariant, ap length c.deref_mut.ensures.value)

pub returns : goal.returns
returns c =
    let below : c.args.end ≤ c.self.inside.bound =
    omega (arith, bound_of c.self.inside.words.items c.self.inside.bound c.args.self.now c.self.view_is, c.requires.within) in
    ap (λ words. set_of words c.self.inside.bound)
    (with_items_is c.self.inside.words c.clear_in_words.new.words (c.clear_in_words.auto.words ∙ c.deref_mut.ensures.len))
    ∙ range_taken c.self.inside.words.items c.clear_in_words.new.words c.self.inside.bound c.args.first c.args.end c.requires.order below
    (λ i. c.clear_in_words.ensures i ∙ ap (λ words. cond (is_in_range c.args.first c.args.end i) false (is_in words i)) c.deref_mut.ensures.value)
    ∙ ap (λ s. without_range s c.args.first c.args.end) c.self.view_is
