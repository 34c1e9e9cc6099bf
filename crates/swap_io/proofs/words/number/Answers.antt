use Rattle.std.proofs.Common.{rules, arith, ◌≡◌, ◌≤◌, get_or, length, sym, ◌∙◌}
use Rattle.swap_io.proofs.Numbers.{refused_empty, refused_plus, refused_zero, refused_text, parsed}
use Rattle.swap_io.proofs.words.number.Goals as goal
use Rattle.swap_io.proofs.words.number.Goals.{then-is_empty-via-then-is_empty, then-is_empty-via-else-is_empty+then-word-eq43, else-word-gt1-via-then-word-gt1+else-word-eq48, else-word-gt1-via-else-word-gt1}

pub returns-then-is_empty : goal.returns-then-is_empty
returns-then-is_empty c =
    elim c.then-is_empty.branch [
      | then-is_empty-via-then-is_empty w ↦ sym (refused_empty c.args.word.now (search rules))
      | then-is_empty-via-else-is_empty+then-word-eq43 w ↦ sym (refused_plus c.args.word.now (search rules) (search rules))
    ]

pub returns-then-word-eq48 : goal.returns-then-word-eq48
returns-then-word-eq48 c = sym (refused_zero c.args.word.now (search rules) (omega arith))

pub returns-in_default : goal.returns-in_default
returns-in_default c = sym (refused_text c.args.word.now c.in_default.ensures.cases.0)

pub returns : goal.returns
returns c =
    let zero : get_or c.args.word.now 0 0 ≡ 48 → length c.args.word.now ≤ 1 = elim c.else-word-gt1.branch [
      | else-word-gt1-via-then-word-gt1+else-word-eq48 w ↦ λ e. search rules
      | else-word-gt1-via-else-word-gt1 w ↦ λ e. omega arith
    ] in
    c.ok.ensures.value ∙ parsed c.args.word.now c.parse.result (rw c.in-Ok.ensures.cases.0 at c.parse.ensures.value.0) (search rules) zero (search rules)
