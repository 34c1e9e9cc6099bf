use Rattle.std.proofs.Common.{ap, ◌∙◌, ◌∷◌, ◌++◌, [], codes, decimal}
use Rattle.swap_io.specs.Words.{shortest}
use Rattle.swap_record.specs.Text.{origin_words, named_word, spaced_after}
use Rattle.swap_record.proofs.Spelled.{four, word_more, words_more}
use Rattle.swap_record.proofs.text.put_in.Goals as goal

pub returns-clause-text : goal.returns-clause-text
returns-clause-text c =
    rw (
      c.put_page.ensures.text,
      c.put_origin.ensures.text,
      c.put_named.ensures.text,
      c.put_word-2.ensures.text,
      c.put_number.ensures.text,
      c.from.ensures,
      c.put_word.ensures.text,
    )
    (ap (λ line. (line ++ spaced_after (origin_words c.args.origin)) ++ 32 ∷ shortest c.args.bytes.now)
    (four c.args.out.now (codes "in") (decimal c.args.page.0) (codes "of") (named_word c.args.named))
    ∙ ap (λ line. line ++ 32 ∷ shortest c.args.bytes.now)
    (words_more c.args.out.now (codes "in" ∷ decimal c.args.page.0 ∷ codes "of" ∷ named_word c.args.named ∷ []) (origin_words c.args.origin))
    ∙ word_more c.args.out.now (codes "in" ∷ decimal c.args.page.0 ∷ codes "of" ∷ named_word c.args.named ∷ origin_words c.args.origin)
    (shortest c.args.bytes.now))
