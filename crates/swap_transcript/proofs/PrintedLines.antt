-- The bytes of a transcript's lines are those that the printer writes.
use Rattle.std.proofs.Common.{◌≡◌, ℕ, Bool, true, false, cond, eqb, List, [], ◌∷◌, ◌++◌, map, Option, Some, codes, append-nil, refl, sym, ap, ap₂, ◌∙◌}
use Rattle.std.specs.Fmt.{decimal}
use Rattle.std.proofs.lemmas.Bool.{eqb-true}
use Rattle.swap_base.specs.declared.EntryNo.{EntryNo}
use Rattle.swap_base.specs.declared.Lender.{Lender}
use Rattle.swap_base.specs.declared.Page.{Page}
use Rattle.swap_record.specs.History.{History, Row, row_named}
use Rattle.swap_record.specs.Text.{row_words, op_words}
use Rattle.swap_record.specs.declared.Op.{Op}
use Rattle.swap_record.specs.declared.Op.TheVariants as op
use Rattle.swap_wire.specs.declared.Seen.{Seen}
use Rattle.swap_wire.specs.declared.Seen.TheVariants as seen
use Rattle.swap_script.specs.Lines.{onto_first, words_of, with_spaces, with_line_end, kept_lines}
use Rattle.swap_script.specs.Transcript.{line, event_words, seen_words, sent_words}
use Rattle.swap_transcript.specs.Readers.{Words}
use Rattle.swap_transcript.specs.Told.{Told, Saw, Entered}
use Rattle.swap_transcript.specs.Printed.{told_words, MayBeSent}
use Rattle.swap_transcript.specs.Laws.{words_in, seen_by, seen_told, IsPlain, IsToldOf, BytesArePrinted, LinesArePrinted}
use Rattle.swap_transcript.proofs.WholeBack.{transcript-only}

-- a line has a first word
record Some_words (words : Words) : Type 0 where
  first : List ℕ
  others : Words
  are : words ≡ first ∷ others

some_if : (b : ℕ) (t : Bool) (words : Words) → Some_words words → Some_words (cond t ([] ∷ words) (onto_first b words))
some_if b true words h = record { first = []; others = words; are = refl }
some_if b false words h = record { first = b ∷ h.first; others = h.others; are = ap (onto_first b) h.are }

some_words : (line : List ℕ) → Some_words (words_of line)
some_words [] = record { first = []; others = []; are = refl }
some_words (b ∷ line) = some_if b (eqb b 32) (words_of line) (some_words line)

onto : (b : ℕ) (first : List ℕ) (others : Words) → with_spaces ((b ∷ first) ∷ others) ≡ b ∷ with_spaces (first ∷ others)
onto b first [] = refl
onto b first (next ∷ others) = refl

spaced_if :
    (b : ℕ) (t : Bool) (first : List ℕ) (others : Words) → eqb b 32 ≡ t
    → with_spaces (cond t ([] ∷ first ∷ others) ((b ∷ first) ∷ others)) ≡ b ∷ with_spaces (first ∷ others)
spaced_if b true first others is = ap (λ x. x ∷ with_spaces (first ∷ others)) (sym (eqb-true b 32 is))
spaced_if b false first others is = onto b first others

spaced-words_of : (line : List ℕ) → with_spaces (words_of line) ≡ line
spaced-words_of [] = refl
spaced-words_of (b ∷ line) =
    let some = some_words line in
    ap (λ w. with_spaces (cond (eqb b 32) ([] ∷ w) (onto_first b w))) some.are ∙ spaced_if b (eqb b 32) some.first some.others refl
    ∙ ap (λ w. b ∷ with_spaces w) (sym some.are) ∙ ap (λ l. b ∷ l) (spaced-words_of line)

texts_are : (lines : List (ℕ × List ℕ)) → map (λ numbered. numbered.1) lines ≡ map with_spaces (words_in lines)
texts_are [] = refl
texts_are ((n, text) ∷ rest) = ap₂ (λ t ts. t ∷ ts) (sym (spaced-words_of text)) (texts_are rest)

pub bytes_are_printed : BytesArePrinted
bytes_are_printed text t e = texts_are (kept_lines text) ∙ ap (map with_spaces) (transcript-only text t e).lines

-- a result without an entry is printed alike beside every history
plain_words : (H : History) (x : Seen) → IsPlain x → seen_words H x ≡ seen_words [] x
plain_words H (seen.Done e sent) h = absurd h
plain_words H (seen.Fault e) h = absurd h
plain_words H x h = refl

row-are :
    (n : ℕ) (row : Row) (page : Page) (bytes : List ℕ) (o : Op) → row.entry.page ≡ page → row.entry.op ≡ o → row.bytes ≡ bytes
    → row_words n (Some row) ≡ codes "entry" ∷ decimal n ∷ op_words page.0 bytes o
row-are n row page bytes o same_page same_op same_bytes =
    ap (λ p. codes "entry" ∷ decimal n ∷ op_words p.0 row.bytes row.entry.op) same_page
    ∙ ap (λ b. codes "entry" ∷ decimal n ∷ op_words page.0 b row.entry.op) same_bytes ∙ ap (λ q. codes "entry" ∷ decimal n ∷ op_words page.0 bytes q) same_op

entered-are :
    (H : History) (e : EntryNo) (page : Page) (bytes : List ℕ) (o : Op) (sent : Option Lender) → MayBeSent o sent
    → row_words e.0 (row_named H e.0) ≡ codes "entry" ∷ decimal e.0 ∷ op_words page.0 bytes o
    → seen_words H (seen_by o e sent) ≡ codes "entry" ∷ decimal e.0 ∷ (op_words page.0 bytes o ++ sent_words sent)
entered-are H e page bytes op.PageOut sent may row = ap (λ w. w ++ sent_words sent) row
entered-are H e page bytes (op.PageIn named from) sent may row = ap (λ w. w ++ sent_words sent) row
entered-are H e page bytes (op.Failed kind since at) sent may row =
    row
    ∙ ap (λ w. codes "entry" ∷ decimal e.0 ∷ w)
    (sym (append-nil (op_words page.0 bytes (op.Failed kind since at))) ∙ ap (λ x. op_words page.0 bytes (op.Failed kind since at) ++ sent_words x) (sym may))

told_are : (H : History) (told : Told) → IsToldOf H told → seen_words H (seen_told told) ≡ told_words told
told_are H (Saw x) h = plain_words H x h
told_are H (Entered shown) h =
    entered-are H shown.no shown.page shown.bytes shown.op shown.sent h.sent
    (ap (row_words shown.no.0) h.is ∙ row-are shown.no.0 h.row shown.page shown.bytes shown.op h.page h.op h.bytes)

pub lines_are_printed : LinesArePrinted
lines_are_printed H pair h = ap (λ w. with_line_end (with_spaces (event_words pair.event ++ codes "=" ∷ w))) (told_are H pair.told h)
