use Rattle.std.proofs.Common.{ℕ, List, ap, ◌∙◌, ◌∷◌, ◌++◌, [], codes, decimal}
use Rattle.swap_io.specs.Words.{shortest}
use Rattle.swap_record.specs.Text.{spaced_after}
use Rattle.swap_record.proofs.Spelled.{two, word_more, words_more}
use Rattle.swap_record.proofs.text.put_fault.Goals as goal

pub returns-in-PageOut-clause-text : goal.returns-in-PageOut-clause-text
returns-in-PageOut-clause-text c =
    let counts : List (List ℕ) = decimal c.args.page.0 ∷ decimal c.args.since ∷ decimal c.args.at ∷ [] in
    rw (c.in-PageOut.is, c.put_page.ensures.text, c.put_counts.ensures.text, c.put_word-in-PageOut.ensures.text, c.put_word.ensures.text)
    (ap (λ line. (line ++ spaced_after counts) ++ 32 ∷ shortest c.args.bytes.now) (two c.args.out.now (codes "fault") (codes "out"))
    ∙ ap (λ line. line ++ 32 ∷ shortest c.args.bytes.now) (words_more c.args.out.now (codes "fault" ∷ codes "out" ∷ []) counts)
    ∙ word_more c.args.out.now (codes "fault" ∷ codes "out" ∷ counts) (shortest c.args.bytes.now))
