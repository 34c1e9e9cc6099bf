use Rattle.std.proofs.Common.{rules, arith, sym, ◌∙◌, ◌%◌, ◌/◌, length, mod-lt}
use Rattle.swap_io.proofs.Pieces.{refused_word, refused_length, refused_long, filled_page-sized, positive}
use Rattle.swap_io.proofs.words.pattern.Goals as goal
use Rattle.swap_io.proofs.words.pattern.Goals.{then-not-is_hex-via-then-not-is_hex, then-not-is_hex-via-else-not-is_hex+then-not-contains, then-not-is_hex-via-else-not-is_hex+else-not-contains+then-len-page}

pub returns-then-not-is_hex-clause-page : goal.returns-then-not-is_hex-clause-page
returns-then-not-is_hex-clause-page c =
    elim c.then-not-is_hex.branch [
      | then-not-is_hex-via-then-not-is_hex w ↦ sym (refused_word _ c.args.word.now (search rules))
      | then-not-is_hex-via-else-not-is_hex+then-not-contains w ↦
          sym (refused_length _ c.args.word.now (search rules) (sym w.contains.ensures.value ∙ w.if-not-contains.true))
      | then-not-is_hex-via-else-not-is_hex+else-not-contains+then-len-page w ↦ sym (refused_long _ c.args.word.now (search rules) (omega arith))
    ]

pub returns-clause-page : goal.returns-clause-page
returns-clause-page c =
    filled_page-sized _ c.args.word.now c.repeat_front.new.page (c.repeat_front.auto.page ∙ c.fill_front.auto.page) (search rules) c.requires
    (sym c.contains.ensures.value ∙ c.if-not-contains.false) (search rules)
    (λ k within. c.repeat_front.ensures k (omega (arith, within, c.fill_front.auto.page))
    ∙ c.fill_front.ensures (k % (length c.args.word.now / 2))
    (mod-lt k (positive (length c.args.word.now / 2) (sym c.contains.ensures.value ∙ c.if-not-contains.false))))
