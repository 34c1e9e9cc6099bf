use Rattle.std.proofs.Common.{ℕ, ◌*◌, ◌/◌, ◌%◌, ◌^◌, List, get_or, set, bit_or, ap, ◌∙◌}
use Rattle.swap_bits.specs.Words.{is_in}
use Rattle.swap_bits.proofs.Ranges.{left_of, range_left}
use Rattle.swap_bits.proofs.clear_in_words.Goals as goal

pub returns : goal.returns
returns c =
    λ i.
    let low : ℕ = c.args.first / 64 in
    let high : ℕ = c.args.end / 64 in
    let emptied : List ℕ → ℕ → List ℕ = λ z b. set z high b in
    ap
    (λ z. is_in (set (emptied z c.bits_from-back.result) low (bit_or (get_or (emptied z c.bits_from-back.result) low 0) c.bits_below-front.result)) i)
    c.clear_words.ensures
    ∙ ap (λ b. is_in (left_of c.args.words.now low high c.bits_below-front.result b) i) c.bits_from-back.ensures
    ∙ ap
    (λ f. is_in (left_of c.args.words.now low high f (get_or c.args.words.now (c.args.end / 64) 0 / 2 ^ (c.args.end % 64) * 2 ^ (c.args.end % 64))) i)
    c.bits_below-front.ensures
    ∙ range_left c.args.words.now c.args.first c.args.end c.requires.order c.requires.within i
