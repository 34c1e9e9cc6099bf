-- An entry that is printed is read back.
use Rattle.std.proofs.Common.{◌≡◌, ℕ, ◌^◌, ◌<◌, Bool, true, false, cond, List, [], ◌∷◌, ◌++◌, append_assoc, replicate, Option, None, Some, IfSome, codes, refl, sym, ap, subst, ◌∙◌}
use Rattle.std.specs.Fmt.{decimal}
use Rattle.std.specs.Option.{option_and_then}
use Rattle.std.proofs.lemmas.Slice.Eq.{bytes_eq-Decides}
use Rattle.swap_base.specs.declared.Lender.{Lender}
use Rattle.swap_base.specs.declared.EntryNo.{EntryNo}
use Rattle.swap_base.specs.declared.Origin.{Origin}
use Rattle.swap_base.specs.declared.CallKind.TheVariants as kind
use Rattle.swap_io.specs.Words.{shortest}
use Rattle.swap_record.specs.declared.Op.{Op}
use Rattle.swap_record.specs.declared.Op.TheVariants as op
use Rattle.swap_record.specs.Text as text
use Rattle.swap_record.specs.Text.{origin_words, op_words}
use Rattle.swap_script.specs.Forms.{small_number}
use Rattle.swap_script.specs.Lines.{is_word}
use Rattle.swap_script.specs.Transcript.{sent_words}
use Rattle.swap_transcript.specs.Readers.{Words, small_at, wide_at, by_rows}
use Rattle.swap_transcript.specs.Told.{Shown, did_of, bytes_at, named_at, origin_rows, out_at, in_at, fault_out_at, fault_in_at, did_rows, sent_by, not_sent, sent_of, entry_of}
use Rattle.swap_transcript.specs.Printed.{shown_words, HasOpWords, MayBeSent, HasShownWords}
use Rattle.swap_transcript.proofs.Front.{bind_some, bound, small-only, small-back, small_at-only, small_at-back, wide_at-back}
use Rattle.swap_transcript.proofs.EntryWords.{bytes_at-back, named_at-back, origin-back, did-only}

out-back :
    (size page : ℕ) (bytes : List ℕ) (rest : Words) → page < 2 ^ 32 → HasOpWords size bytes op.PageOut
    → out_at size (decimal page ∷ shortest bytes ∷ rest) ≡ Some (did_of page op.PageOut bytes, rest)
out-back size page bytes rest l h =
    bound (small_at (decimal page ∷ shortest bytes ∷ rest)) (λ p. option_and_then (λ b. Some (did_of p.0 op.PageOut b.0, b.1)) (bytes_at size p.1))
    (page, shortest bytes ∷ rest) (small_at-back page (shortest bytes ∷ rest) l)
    ∙ bound (bytes_at size (shortest bytes ∷ rest)) (λ b. Some (did_of page op.PageOut b.0, b.1)) (bytes, rest) (bytes_at-back size bytes rest h)

in-back :
    (size page : ℕ) (bytes : List ℕ) (named : Option EntryNo) (from : Origin) (rest : Words) → page < 2 ^ 32 → HasOpWords size bytes (op.PageIn named from)
    → in_at size (decimal page ∷ codes "of" ∷ text.named_word named ∷ (origin_words from ++ shortest bytes ∷ rest))
    ≡ Some (did_of page (op.PageIn named from) bytes, rest)
in-back size page bytes named from rest l h =
    let last = shortest bytes ∷ rest in
    let third = origin_words from ++ last in
    let second = text.named_word named ∷ third in
    let first = codes "of" ∷ second in
    bound (small_at (decimal page ∷ first)) _ (page, first) (small_at-back page first l)
    ∙ bound (named_at second) _ (named, third) (named_at-back named third h.0)
    ∙ bound (by_rows origin_rows third) _ (from, last) (origin-back from last h.1)
    ∙ bound (bytes_at size last) (λ b. Some (did_of page (op.PageIn named from) b.0, b.1)) (bytes, rest) (bytes_at-back size bytes rest h.2)

fault_out-back : (size page since at : ℕ) (bytes : List ℕ) (rest : Words) → page < 2 ^ 32 → HasOpWords size bytes (op.Failed kind.PageOut since at)
    → fault_out_at size (decimal page ∷ decimal since ∷ decimal at ∷ shortest bytes ∷ rest) ≡ Some (did_of page (op.Failed kind.PageOut since at) bytes, rest)
fault_out-back size page since at bytes rest l h =
    let last = shortest bytes ∷ rest in
    bound (small_at (decimal page ∷ decimal since ∷ decimal at ∷ last)) _ (page, decimal since ∷ decimal at ∷ last)
    (small_at-back page (decimal since ∷ decimal at ∷ last) l)
    ∙ bound (wide_at (decimal since ∷ decimal at ∷ last)) _ (since, decimal at ∷ last) (wide_at-back since (decimal at ∷ last) h.0)
    ∙ bound (wide_at (decimal at ∷ last)) _ (at, last) (wide_at-back at last h.1)
    ∙ bound (bytes_at size last) (λ b. Some (did_of page (op.Failed kind.PageOut since at) b.0, b.1)) (bytes, rest) (bytes_at-back size bytes rest h.2)

fault_in-back : (size page since at : ℕ) (bytes : List ℕ) (rest : Words) → page < 2 ^ 32 → HasOpWords size bytes (op.Failed kind.PageIn since at)
    → fault_in_at size (decimal page ∷ decimal since ∷ decimal at ∷ rest) ≡ Some (did_of page (op.Failed kind.PageIn since at) bytes, rest)
fault_in-back size page since at bytes rest l h =
    bound (small_at (decimal page ∷ decimal since ∷ decimal at ∷ rest)) _ (page, decimal since ∷ decimal at ∷ rest)
    (small_at-back page (decimal since ∷ decimal at ∷ rest) l)
    ∙ bound (wide_at (decimal since ∷ decimal at ∷ rest)) _ (since, decimal at ∷ rest) (wide_at-back since (decimal at ∷ rest) h.0)
    ∙ bound (wide_at (decimal at ∷ rest)) (λ a. Some (did_of page (op.Failed kind.PageIn since a.0) (replicate size 0), a.1)) (at, rest)
    (wide_at-back at rest h.1)
    ∙ ap (λ b. Some (did_of page (op.Failed kind.PageIn since at) b, rest)) (sym h.2)

did-back :
    (size page : ℕ) (bytes : List ℕ) (o : Op) (rest : Words) → page < 2 ^ 32 → HasOpWords size bytes o
    → by_rows (did_rows size) (op_words page bytes o ++ rest) ≡ Some (did_of page o bytes, rest)
did-back size page bytes op.PageOut rest l h = out-back size page bytes rest l h
did-back size page bytes (op.PageIn named from) rest l h =
    ap (λ w. in_at size (decimal page ∷ codes "of" ∷ text.named_word named ∷ w)) (append_assoc (origin_words from) (shortest bytes ∷ []) rest)
    ∙ in-back size page bytes named from rest l h
did-back size page bytes (op.Failed kind.PageOut since at) rest l h = fault_out-back size page since at bytes rest l h
did-back size page bytes (op.Failed kind.PageIn since at) rest l h = fault_in-back size page since at bytes rest l h

-- a test that is passed
pub cond_then : {A : Type 0} (b : Bool) (o : Option A) (x : A) → cond b o None ≡ Some x → (b ≡ true) × (o ≡ Some x)
cond_then true o x e = (refl, e)
cond_then false o x e = cc

-- the lender that a page-out was sent to
sent_by-only : (words : Words) (sent : Option Lender) → sent_by words ≡ Some sent → IfSome sent (λ l. l.0 < 2 ^ 32) × (words ≡ sent_words sent)
sent_by-only [] sent e =
    let same : None ≡ sent = cc in
    subst (λ o. IfSome o (λ l. l.0 < 2 ^ 32) × ([] ≡ sent_words o)) same (tt, refl)
sent_by-only (word ∷ []) sent e = cc
sent_by-only (word ∷ l ∷ []) sent e =
    let c = cond_then (is_word (codes "to") word) (option_and_then (λ n. Some (Some (record { 0 = n }))) (small_number l)) sent e in
    let n = bind_some (small_number l) (λ n. Some (Some (record { 0 = n }))) sent c.1 in
    let one = small-only l n.0 n.1 in
    let same : Some (record { 0 = n.0 }) ≡ sent = cc in
    subst (λ o. IfSome o (λ l. l.0 < 2 ^ 32) × (word ∷ l ∷ [] ≡ sent_words o)) same
    (one.1, ap (λ w. w ∷ l ∷ []) (sym ((bytes_eq-Decides (codes "to") word).0 c.0)) ∙ ap (λ w. codes "to" ∷ w ∷ []) one.0)
sent_by-only (word ∷ l ∷ more ∷ words) sent e = cc

not_sent-only : (words : Words) (sent : Option Lender) → not_sent words ≡ Some sent → (sent ≡ None) × (words ≡ [])
not_sent-only [] sent e = (cc, refl)
not_sent-only (word ∷ words) sent e = cc

not_sent-is : (words : Words) (sent : Option Lender) → not_sent words ≡ Some sent → (sent ≡ None) × (words ≡ sent_words sent)
not_sent-is words sent e = let is = not_sent-only words sent e in (is.0, is.1 ∙ sym (ap sent_words is.0))

sent-only : (o : Op) (words : Words) (sent : Option Lender) → sent_of o words ≡ Some sent → MayBeSent o sent × (words ≡ sent_words sent)
sent-only op.PageOut words sent e = sent_by-only words sent e
sent-only (op.PageIn named from) words sent e = not_sent-is words sent e
sent-only (op.Failed kind since at) words sent e = not_sent-is words sent e

sent_by-back : (sent : Option Lender) → IfSome sent (λ l. l.0 < 2 ^ 32) → sent_by (sent_words sent) ≡ Some sent
sent_by-back None h = refl
sent_by-back (Some l) h = bound (small_number (decimal l.0)) (λ n. Some (Some (record { 0 = n }))) l.0 (small-back l.0 h)

sent-back : (o : Op) (sent : Option Lender) → MayBeSent o sent → sent_of o (sent_words sent) ≡ Some sent
sent-back op.PageOut sent h = sent_by-back sent h
sent-back (op.PageIn named from) sent h = ap (λ o. not_sent (sent_words o)) h ∙ ap (λ o. Some o) (sym h)
sent-back (op.Failed kind since at) sent h = ap (λ o. not_sent (sent_words o)) h ∙ ap (λ o. Some o) (sym h)

pub entry_of-only :
    (size : ℕ) (words : Words) (shown : Shown) → entry_of size words ≡ Some shown → HasShownWords size shown × (codes "entry" ∷ words ≡ shown_words shown)
entry_of-only size words shown e =
    let n = bind_some (small_at words) _ shown e in
    let d = bind_some (by_rows (did_rows size) n.0.1) _ shown n.2 in
    let sent =
    bind_some (sent_of d.0.0.op d.0.1)
    (λ s. Some (record { no = record { 0 = n.0.0 }; page = d.0.0.page; op = d.0.0.op; bytes = d.0.0.bytes; sent = s })) shown d.2 in
    let first = small_at-only words n.0 n.1 in
    let second = did-only size n.0.1 d.0 d.1 in
    let third = sent-only d.0.0.op d.0.1 sent.0 sent.1 in
    let same : record { no = record { 0 = n.0.0 }; page = d.0.0.page; op = d.0.0.op; bytes = d.0.0.bytes; sent = sent.0 } ≡ shown = cc in
    subst (λ s. HasShownWords size s × (codes "entry" ∷ words ≡ shown_words s)) same (
      record { no = first.within; page = second.0.0; op = second.0.1; sent = third.0 },
      ap (λ r. codes "entry" ∷ r) (first.spelled ∙ ap (λ r. decimal n.0.0 ∷ r) (second.1 ∙ ap (λ r. op_words d.0.0.page.0 d.0.0.bytes d.0.0.op ++ r) third.1)),
    )

pub entry_of-back : (size : ℕ) (shown : Shown) → HasShownWords size shown
    → entry_of size (decimal shown.no.0 ∷ (op_words shown.page.0 shown.bytes shown.op ++ sent_words shown.sent)) ≡ Some shown
entry_of-back size shown h =
    let last = sent_words shown.sent in
    let words = op_words shown.page.0 shown.bytes shown.op ++ last in
    bound (small_at (decimal shown.no.0 ∷ words)) _ (shown.no.0, words) (small_at-back shown.no.0 words h.no)
    ∙ bound (by_rows (did_rows size) words) _ (did_of shown.page.0 shown.op shown.bytes, last)
    (did-back size shown.page.0 shown.bytes shown.op last h.page h.op)
    ∙ bound (sent_of shown.op last) (λ s. Some (record { no = shown.no; page = shown.page; op = shown.op; bytes = shown.bytes; sent = s })) shown.sent
    (sent-back shown.op shown.sent h.sent)
