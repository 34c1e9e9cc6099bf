use Rattle.std.proofs.Common.{ℕ, ◌-◌, ◌<◌, ◌/◌, ◌%◌, ◌^◌, get_or, drop, length-take, arith}
use Rattle.std.proofs.lemmas.Nat.{ones-le, pow_pos, mod_below}
use Rattle.swap_bits.proofs.Counts.{counted}
use Rattle.swap_bits.proofs.count_in_words.Goals as goal

pub overflow_add-result : goal.overflow_add-result
overflow_add-result c =
    let low : ℕ = c.args.first / 64 in
    let high : ℕ = c.args.end / 64 in
    let narrow : c.bits_below-last.result < 2 ^ (c.args.end % 64) =
    rw c.bits_below-last.ensures (mod_below (get_or c.args.words.now high 0) (2 ^ (c.args.end % 64)) (pow_pos (c.args.end % 64))) in
    record {
      fits =
          omega (
            arith,
            c.count_words-whole.ensures.bound,
            length-take (high - low) (drop low c.args.words.now),
            ones-le (c.args.end % 64) c.bits_below-last.result narrow,
            c.ranges.end.fits,
          );
    }

pub overflow_sub-result : goal.overflow_sub-result
overflow_sub-result c =
    omega (
      arith,
      counted c.args.words.now c.args.first c.args.end c.args.end c.bits_below-before.result c.bits_below-last.result c.count_words-whole.result
          (λ k. (c.type_inv.words k).fits) c.requires.order c.requires.within (omega arith)
          c.bits_below-before.ensures c.bits_below-last.ensures c.count_words-whole.ensures.value,
    )

pub returns : goal.returns
returns c =
    λ n below.
    omega (
      arith,
      counted c.args.words.now c.args.first c.args.end n c.bits_below-before.result c.bits_below-last.result c.count_words-whole.result
          (λ k. (c.type_inv.words k).fits) c.requires.order c.requires.within below
          c.bits_below-before.ensures c.bits_below-last.ensures c.count_words-whole.ensures.value,
    )
