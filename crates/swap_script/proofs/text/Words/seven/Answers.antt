-- The words come one after another.
use Rattle.std.proofs.Common.{sym, ◌∙◌, ap, ◌∷◌, None, Some}
use Rattle.swap_script.specs.Forms.{seven_words}
use Rattle.swap_script.proofs.Sized.{seven_words-with}
use Rattle.swap_script.proofs.text.Words.seven.Goals as goal

pub returns-in_err-none : goal.returns-in_err-none
returns-in_err-none c =
    let seven =
    c.in_ok-a.ensures
    ∙ ap (λ w. c.in_ok-a.a.now ∷ w)
    (c.in_ok-b.ensures
    ∙ ap (λ w. c.in_ok-b.b.now ∷ w)
    (c.in_ok-c.ensures
    ∙ ap (λ w. c.in_ok-c.c.now ∷ w)
    (c.in_ok-d.ensures
    ∙ ap (λ w. c.in_ok-d.d.now ∷ w)
    (c.in_ok-e.ensures ∙ ap (λ w. c.in_ok-e.e.now ∷ w) (c.in_ok-f.ensures ∙ ap (λ w. c.in_ok-f.f.now ∷ w) (c.in_ok-g.ensures)))))) in
    rw (c.from_residual-in_err-none.ensures) (seven_words-with _ _ _ _ _ _ _ _ None c.in_err-none.ensures ∙ ap seven_words (sym seven))

pub returns : goal.returns
returns c =
    let seven =
    c.in_ok-a.ensures
    ∙ ap (λ w. c.in_ok-a.a.now ∷ w)
    (c.in_ok-b.ensures
    ∙ ap (λ w. c.in_ok-b.b.now ∷ w)
    (c.in_ok-c.ensures
    ∙ ap (λ w. c.in_ok-c.c.now ∷ w)
    (c.in_ok-d.ensures
    ∙ ap (λ w. c.in_ok-d.d.now ∷ w)
    (c.in_ok-e.ensures ∙ ap (λ w. c.in_ok-e.e.now ∷ w) (c.in_ok-f.ensures ∙ ap (λ w. c.in_ok-f.f.now ∷ w) (c.in_ok-g.ensures)))))) in
    seven_words-with _ _ _ _ _ _ _ _ (Some tt) c.in_ok-none.ensures ∙ ap seven_words (sym seven)
