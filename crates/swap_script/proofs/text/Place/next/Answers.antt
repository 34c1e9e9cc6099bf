-- The first line of what is left is cut off, and counts or doesn't.
use Rattle.std.proofs.Common.{◌+◌, sym, ◌∙◌, ap, length, arith, ◌∷◌, true, false}
use Rattle.swap_script.specs.Lines.{kept_from}
use Rattle.swap_script.proofs.Pieces.{kept_from-cut, length-rest_of, not_empty}
use Rattle.swap_script.proofs.text.Place.next.Goals as goal

pub returns-then-not-is_skipped : goal.returns-then-not-is_skipped
returns-then-not-is_skipped c =
    let some = not_empty c.looking.self-inside.rest.now c.looking-test.ensures in
    c.looking.invariant.same ∙ kept_from-cut c.looking.self-inside.line _ _ _ false some c.cut_at-cut.ensures c.if-not-is_skipped.ensures
    ∙ ap (λ r. (c.looking.self-inside.line, c.cut_at-cut.result.front.now) ∷ kept_from (c.looking.self-inside.line + 1) r) (sym c.behind-self-inside.ensures)

pub looking-preserved : goal.looking-preserved
looking-preserved c =
    let some = not_empty c.looking.self-inside.rest.now c.looking-test.ensures in
    let shorter = length-rest_of _ _ _ _ some c.cut_at-cut.ensures in
    record {
      same =
          c.looking.invariant.same ∙ kept_from-cut c.looking.self-inside.line _ _ _ true some c.cut_at-cut.ensures c.if-not-is_skipped.ensures
          ∙ ap (kept_from (c.looking.self-inside.line + 1)) (sym c.behind-self-inside.ensures);
      within = omega (arith, shorter, ap length c.behind-self-inside.ensures);
    }
