-- The lines of a printed text are taken apart where they were put together.
use Rattle.std.proofs.Common.{◌≡◌, ℕ, ◌+◌, ◌<◌, ◌≤◌, true, false, eqb, nat_lt, List, [], ◌∷◌, ◌++◌, length, length-append, append_assoc, refl, sym, ap, ap₂, subst, ◌∙◌, arith, None, Some}
use Rattle.std.specs.List.{list_all, AllByRecursion}
use Rattle.std.proofs.lemmas.List.Elements.{All-nil, All-cons}
use Rattle.std.proofs.lemmas.List.Folds.{list_all-append}
use Rattle.std.proofs.lemmas.Bool.{and_parts, and_from, ltb-true}
use Rattle.std.proofs.lemmas.Bool.Decides.{nat_tests}
use Rattle.swap_script.specs.Lines.{with_spaces, with_line_end, words_of, is_skipped, kept_from}
use Rattle.swap_script.specs.Cut.{Lacks}
use Rattle.swap_script.proofs.Pieces.{words_of-cut, kept_from-cut}
use Rattle.swap_transcript.specs.Readers.{Words}
use Rattle.swap_transcript.specs.Laws.{words_in, text_of}
use Rattle.swap_transcript.proofs.Inked.{AreInked}

-- bytes that stand behind a byte hold neither it nor one before it
lacks : (low c : ℕ) (bytes : List ℕ) → c ≤ low → list_all (λ b. nat_lt low b) bytes ≡ true → Lacks c bytes
lacks low c [] l h = All-nil (λ b. eqb b c ≡ false)
lacks low c (b ∷ bytes) l h =
    let parts = and_parts (nat_lt low b) (list_all (λ b. nat_lt low b) bytes) h in
    let over : low < b = ltb-true low b parts.0 in
    All-cons (λ b. eqb b c ≡ false) b bytes (grind (arith, nat_tests, over, l)) (lacks low c bytes l parts.1)

-- a line's words
words_of-spaced : (word : List ℕ) (words : Words) → AreInked (word ∷ words) → words_of (with_spaces (word ∷ words)) ≡ word ∷ words
words_of-spaced word [] h = words_of-cut word word None (refl, lacks 32 32 word (omega arith) h.0)
words_of-spaced word (next ∷ words) h =
    words_of-cut (word ++ 32 ∷ with_spaces (next ∷ words)) word (Some (with_spaces (next ∷ words))) (refl, lacks 32 32 word (omega arith) h.0)
    ∙ ap (λ ws. word ∷ ws) (words_of-spaced next words h.1)

-- its bytes stand behind the line feed
higher : (bytes : List ℕ) → list_all (λ b. nat_lt 32 b) bytes ≡ true → list_all (λ b. nat_lt 10 b) bytes ≡ true
higher [] h = refl
higher (b ∷ bytes) h =
    let parts = and_parts (nat_lt 32 b) (list_all (λ b. nat_lt 32 b) bytes) h in
    and_from (nat_lt 10 b) (list_all (λ b. nat_lt 10 b) bytes) (grind (arith, nat_tests, parts.0)) (higher bytes parts.1)

spaced_high : (words : Words) → AreInked words → list_all (λ b. nat_lt 10 b) (with_spaces words) ≡ true
spaced_high [] h = refl
spaced_high (word ∷ []) h = higher word h.0
spaced_high (word ∷ next ∷ words) h =
    list_all-append (λ b. nat_lt 10 b) word (32 ∷ with_spaces (next ∷ words))
    ∙ and_from (list_all (λ b. nat_lt 10 b) word) (list_all (λ b. nat_lt 10 b) (with_spaces (next ∷ words))) (higher word h.0) (spaced_high (next ∷ words) h.1)

-- a line that is printed: its words, the first of which shows that it isn't skipped
pub record IsPrintedLine (words : Words) : Type 0 where
  pub first : List ℕ
  pub others : Words
  pub are : words ≡ first ∷ others
  pub inked : AreInked words
  pub counts : is_skipped (with_spaces words) ≡ false

pub kept-printed : (n : ℕ) (lines : List Words) → AllByRecursion IsPrintedLine lines → words_in (kept_from n (text_of lines)) ≡ lines
kept-printed n [] h = refl
kept-printed n (words ∷ lines) h =
    let line = h.0 in
    let front : List ℕ = with_spaces words in
    let rest : List ℕ = text_of lines in
    let text : with_line_end front ++ rest ≡ front ++ 10 ∷ rest = append_assoc front (10 ∷ []) rest in
    let some : 0 < length (with_line_end front ++ rest) = omega (arith, length-append (with_line_end front) rest, length-append front (10 ∷ [])) in
    let inked : AreInked (line.first ∷ line.others) = let P : Words → Type 0 = λ ws. AreInked ws in subst P line.are line.inked in
    let apart : words_of front ≡ words =
    ap (λ ws. words_of (with_spaces ws)) line.are ∙ words_of-spaced line.first line.others inked ∙ sym line.are in
    ap words_in
    (kept_from-cut n (with_line_end front ++ rest) front (Some rest) false some (text, lacks 10 10 front (omega arith) (spaced_high words line.inked))
    (sym line.counts))
    ∙ ap₂ (λ w ws. w ∷ ws) apart (kept-printed (n + 1) lines h.1)
