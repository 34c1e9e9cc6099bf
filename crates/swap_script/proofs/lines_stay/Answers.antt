-- An entry keeps its name.
use Rattle.std.proofs.Common.{◌≡◌, ℕ, ◌<◌, eqb, cond, false, [], ◌∷◌, ◌++◌, length, refl, ap, ◌∙◌, arith, length-append, Some}
use Rattle.std.proofs.lemmas.Bool.Decides.{nat_tests}
use Rattle.swap_wire.specs.declared.Seen.{Seen}
use Rattle.swap_wire.specs.declared.Seen.TheVariants as seen
use Rattle.swap_record.specs.History.{History, row_named}
use Rattle.swap_record.specs.Text.{row_words}
use Rattle.swap_script.specs.Lines.{with_spaces, with_line_end}
use Rattle.swap_script.specs.Transcript.{HasEntry, event_words, seen_words, sent_words}
use Rattle.swap_script.proofs.lines_stay.Goals as goal

above : (m n : ℕ) → n < m → eqb m n ≡ false
above m n l = grind (arith, nat_tests)

named-later : (later H : History) (n : ℕ) → n < length H → row_named (later ++ H) n ≡ row_named H n
named-later [] H n l = refl
named-later (row ∷ later) H n l =
    ap (λ t. cond t (Some row) (row_named (later ++ H) n)) (above (length (later ++ H)) n (omega (arith, length-append later H))) ∙ named-later later H n l

seen_words-later : (later H : History) (s : Seen) → HasEntry H s → seen_words (later ++ H) s ≡ seen_words H s
seen_words-later later H (seen.Done e sent) h = ap (λ r. row_words e.0 r ++ sent_words sent) (named-later later H e.0 h)
seen_words-later later H (seen.Fault e) h = ap (row_words e.0) (named-later later H e.0 h)
seen_words-later later H _ h = refl

pub returns : goal.returns
returns c = λ later H e s h. ap (λ words. with_line_end (with_spaces (event_words e ++ (61 ∷ []) ∷ words))) (seen_words-later later H s h)
