use Rattle.std.proofs.Common.{◌+◌, arith, count_ones, get_or, ◌∙◌, ap, sym}
use Rattle.std.proofs.lemmas.List.Sums.{sum_by_more}
use Rattle.std.proofs.lemmas.Nat.{ones-le}
use Rattle.swap_bits.proofs.count_words.Goals as goal

pub loop-word-preserved : goal.loop-word-preserved
loop-word-preserved c = (
  ap (λ n. n + count_ones (get_or c.args.words.now c.loop-word.word-index 0)) c.loop-word.invariant.0
      ∙ sym (sum_by_more count_ones c.args.words.now c.loop-word.word-index 0 c.loop-word-test.true),
  omega (arith, ones-le 64 (get_or c.args.words.now c.loop-word.word-index 0) (c.type_inv.words c.loop-word.word-index).fits, c.loop-word.invariant.1),
)
