-- An entry's text behind a space.
use Rattle.std.proofs.Common.{[], ◌∷◌, ◌++◌, ap, sym, ◌∙◌, append_assoc}
use Rattle.swap_record.specs.Text.{entry_text}
use Rattle.swap_script.proofs.Spaced.{led-entry}
use Rattle.swap_script.proofs.print.entry_words.Goals as goal

pub returns-clause-text : goal.returns-clause-text
returns-clause-text c =
    let H = c.args.history.now.history in
    let text = entry_text H c.args.entry in
    c.entry_text.ensures.text ∙ ap (λ o. o ++ text) c.text.ensures ∙ append_assoc c.args.out.now (32 ∷ []) text
    ∙ ap (λ l. c.args.out.now ++ l) (sym (led-entry H c.args.entry c.requires.entry))
