-- An entry, and the lender that its page was sent to.
use Rattle.std.proofs.Common.{◌++◌, ap, sym, ◌∙◌, append_assoc}
use Rattle.swap_record.specs.Text.{entry_words}
use Rattle.swap_script.specs.Lines.{words_behind}
use Rattle.swap_script.specs.Transcript.{sent_words, seen_words}
use Rattle.swap_script.proofs.Spaced.{led-append}
use Rattle.swap_script.proofs.print.seen_words.Goals as goal

pub returns-in-Done-clause-text : goal.returns-in-Done-clause-text
returns-in-Done-clause-text c =
    let H = c.args.history.now.history in
    let entry = entry_words H c.in-Done.entry in
    let sent = sent_words c.in-Done.sent in
    c.sent_words.ensures.text ∙ ap (λ o. o ++ words_behind sent) c.entry_words.ensures.text
    ∙ append_assoc c.args.out.now (words_behind entry) (words_behind sent)
    ∙ ap (λ l. c.args.out.now ++ l) (sym (led-append entry sent)) ∙ ap (λ s. c.args.out.now ++ words_behind (seen_words H s)) (sym c.in-Done.is)
