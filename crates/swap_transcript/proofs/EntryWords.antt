-- An entry is read from its words, and from no others.
use Rattle.std.proofs.Common.{◌≡◌, ℕ, ◌^◌, ◌<◌, Bool, true, false, cond, List, [], ◌∷◌, ◌++◌, append_assoc, replicate, Option, None, Some, codes, refl, sym, ap, subst, ◌∙◌, arith}
use Rattle.std.specs.Fmt.{decimal}
use Rattle.std.specs.Str.{all_ascii_digits}
use Rattle.std.proofs.lemmas.Fmt.{digits_decimal}
use Rattle.std.specs.Option.{option_and_then}
use Rattle.std.proofs.lemmas.Option.{cond_some}
use Rattle.std.proofs.lemmas.Slice.Eq.{bytes_eq-Decides}
use Rattle.swap_base.specs.declared.EntryNo.{EntryNo}
use Rattle.swap_base.specs.declared.Origin.{Origin}
use Rattle.swap_base.specs.declared.Origin.TheVariants as origin
use Rattle.swap_base.specs.declared.CallKind.TheVariants as kind
use Rattle.swap_io.specs.Words.{pattern, shortest}
use Rattle.swap_io.proofs.Numbers.{own, cond_true}
use Rattle.swap_record.specs.declared.Op.TheVariants as op
use Rattle.swap_record.specs.Text as text
use Rattle.swap_record.specs.Text.{origin_words, op_words}
use Rattle.swap_script.specs.Forms.{small_number}
use Rattle.swap_script.specs.Lines.{is_word}
use Rattle.swap_transcript.specs.Readers.{Words, word_at, small_at, wide_at, row, by_rows}
use Rattle.swap_transcript.specs.Told.{Did, did_of, page_word, bytes_at, named_word, named_at, origin_rows, out_at, in_at, fault_out_at, fault_in_at, fault_rows, did_rows}
use Rattle.swap_transcript.specs.Printed.{HasPageWord, HasOriginWords, HasNamedWord, HasDidWords}
use Rattle.swap_transcript.proofs.Front.{bind_some, bound, small-only, small-back, small_at-only, wide_at-only, RowSays, Prints, from-row, one-row, by_rows-only, one-back}

-- a name that isn't all digits is no number's word
not_decimal : (name : List ℕ) (n : ℕ) (b : Bool) → all_ascii_digits name ≡ false → n < 2 ^ 64 → is_word name (decimal n) ≡ b → b ≡ false
not_decimal name n true other l is =
    let same : name ≡ decimal n = (bytes_eq-Decides name (decimal n)).0 is in
    let both : false ≡ true = sym other ∙ ap all_ascii_digits same ∙ digits_decimal own n l in
    cc
not_decimal name n false other l is = refl

pub is_not_decimal : (name : List ℕ) (n : ℕ) → all_ascii_digits name ≡ false → n < 2 ^ 64 → is_word name (decimal n) ≡ false
is_not_decimal name n other l = not_decimal name n (is_word name (decimal n)) other l refl

pub is_same_word : (word : List ℕ) → is_word word word ≡ true
is_same_word word = (bytes_eq-Decides word word).1 refl

-- a given word
pub word_at-only : (name : List ℕ) (words rest : Words) → word_at name words ≡ Some rest → words ≡ name ∷ rest
word_at-only name [] rest e = cc
word_at-only name (word ∷ words) rest e =
    let c = cond_some (is_word name word) words rest e in
    ap (λ w. w ∷ words) (sym ((bytes_eq-Decides name word).0 c.0)) ∙ ap (λ r. name ∷ r) c.1

-- the bytes of a page
page_word-only : (size : ℕ) (word page : List ℕ) → page_word size word ≡ Some page → HasPageWord size page × (word ≡ shortest page)
page_word-only size word page e =
    let read = bind_some (pattern size word) (λ page. cond (is_word (shortest page) word) (Some page) None) page e in
    let c = cond_some (is_word (shortest read.0) word) read.0 page read.2 in
    let is : shortest read.0 ≡ word = (bytes_eq-Decides (shortest read.0) word).0 c.0 in
    let spelled : word ≡ shortest page = sym is ∙ ap shortest c.1 in
    (sym (ap (pattern size) spelled) ∙ read.1 ∙ ap (λ p. Some p) c.1, spelled)

page_word-back : (size : ℕ) (page : List ℕ) → HasPageWord size page → page_word size (shortest page) ≡ Some page
page_word-back size page h =
    bound (pattern size (shortest page)) (λ p. cond (is_word (shortest p) (shortest page)) (Some p) None) page h
    ∙ cond_true (is_word (shortest page) (shortest page)) (Some page) None (is_same_word (shortest page))

bytes_at-only : (size : ℕ) (words : Words) (x : List ℕ × Words) → bytes_at size words ≡ Some x → HasPageWord size x.0 × (words ≡ shortest x.0 ∷ x.1)
bytes_at-only size [] x e = cc
bytes_at-only size (word ∷ words) x e =
    let read = bind_some (page_word size word) (λ b. Some (b, words)) x e in
    let one = page_word-only size word read.0 read.1 in
    let same : (read.0, words) ≡ x = cc in
    subst (λ y. HasPageWord size y.0 × (word ∷ words ≡ shortest y.0 ∷ y.1)) same (one.0, ap (λ w. w ∷ words) one.1)

pub bytes_at-back : (size : ℕ) (page : List ℕ) (rest : Words) → HasPageWord size page → bytes_at size (shortest page ∷ rest) ≡ Some (page, rest)
bytes_at-back size page rest h = bound (page_word size (shortest page)) (λ b. Some (b, rest)) page (page_word-back size page h)

-- the entry that is named
named_word-if :
    (word : List ℕ) (named : Option EntryNo) (b : Bool) → is_word (codes "none") word ≡ b
    → cond b (Some None) (option_and_then (λ n. Some (Some (record { 0 = n }))) (small_number word)) ≡ Some named
    → HasNamedWord named × (word ≡ text.named_word named)
named_word-if word named true is e =
    let same : None ≡ named = cc in
    subst (λ n. HasNamedWord n × (word ≡ text.named_word n)) same (tt, sym ((bytes_eq-Decides (codes "none") word).0 is))
named_word-if word named false is e =
    let n = bind_some (small_number word) (λ n. Some (Some (record { 0 = n }))) named e in
    let one = small-only word n.0 n.1 in
    let same : Some (record { 0 = n.0 }) ≡ named = cc in
    subst (λ n. HasNamedWord n × (word ≡ text.named_word n)) same (one.1, one.0)

named_at-only : (words : Words) (x : Option EntryNo × Words) → named_at words ≡ Some x → HasNamedWord x.0 × (words ≡ text.named_word x.0 ∷ x.1)
named_at-only [] x e = cc
named_at-only (word ∷ words) x e =
    let read = bind_some (named_word word) (λ n. Some (n, words)) x e in
    let one = named_word-if word read.0 (is_word (codes "none") word) refl read.1 in
    let same : (read.0, words) ≡ x = cc in
    subst (λ y. HasNamedWord y.0 × (word ∷ words ≡ text.named_word y.0 ∷ y.1)) same (one.0, ap (λ w. w ∷ words) one.1)

named_word-back : (named : Option EntryNo) → HasNamedWord named → named_word (text.named_word named) ≡ Some named
named_word-back None h = refl
named_word-back (Some e) h =
    ap (λ b. cond b (Some None) (option_and_then (λ n. Some (Some (record { 0 = n }))) (small_number (decimal e.0))))
    (is_not_decimal (codes "none") e.0 refl (omega arith))
    ∙ bound (small_number (decimal e.0)) (λ n. Some (Some (record { 0 = n }))) e.0 (small-back e.0 h)

pub named_at-back : (named : Option EntryNo) (rest : Words) → HasNamedWord named → named_at (text.named_word named ∷ rest) ≡ Some (named, rest)
named_at-back named rest h = bound (named_word (text.named_word named)) (λ n. Some (n, rest)) named (named_word-back named h)

-- where a page came from
origin-only : (words : Words) (x : Origin × Words) → by_rows origin_rows words ≡ Some x → Prints origin_words HasOriginWords words x
origin-only words x e =
    by_rows-only (Prints origin_words HasOriginWords) origin_rows (
      from-row origin_words HasOriginWords _ _ refl tt,
      (
        from-row origin_words HasOriginWords _ _ refl tt,
        (from-row origin_words HasOriginWords _ _ refl tt, (one-row origin_words HasOriginWords _ _ (λ n. refl) (λ n l. l), tt)),
      ),
    )
    words x e

pub origin-back : (o : Origin) (rest : Words) → HasOriginWords o → by_rows origin_rows (origin_words o ++ rest) ≡ Some (o, rest)
origin-back origin.Zero rest h = refl
origin-back origin.Queue rest h = refl
origin-back origin.Disk rest h = refl
origin-back (origin.Lender l) rest h = one-back (λ n. origin.Lender (record { 0 = n })) l.0 rest h

-- what a call did
abbrev pub did_words : Did → Words
did_words d = op_words d.page.0 d.bytes d.op

abbrev pub DidPrints : ℕ → Words → Did × Words → Type 0
DidPrints size = Prints did_words (HasDidWords size)

out-row : (size : ℕ) → RowSays (DidPrints size) (row (codes "out") (out_at size))
out-row size words x e =
    let p = bind_some (small_at words) (λ p. option_and_then (λ b. Some (did_of p.0 op.PageOut b.0, b.1)) (bytes_at size p.1)) x e in
    let b = bind_some (bytes_at size p.0.1) (λ b. Some (did_of p.0.0 op.PageOut b.0, b.1)) x p.2 in
    let first = small_at-only words p.0 p.1 in
    let page = bytes_at-only size p.0.1 b.0 b.1 in
    let same : (did_of p.0.0 op.PageOut b.0.0, b.0.1) ≡ x = cc in
    subst (DidPrints size (codes "out" ∷ words)) same
    ((first.within, page.0), ap (λ r. codes "out" ∷ r) (first.spelled ∙ ap (λ r. decimal p.0.0 ∷ r) page.1))

in-row : (size : ℕ) → RowSays (DidPrints size) (row (codes "in") (in_at size))
in-row size words x e =
    let p = bind_some (small_at words) _ x e in
    let of = bind_some (word_at (codes "of") p.0.1) _ x p.2 in
    let named = bind_some (named_at of.0) _ x of.2 in
    let from = bind_some (by_rows origin_rows named.0.1) _ x named.2 in
    let b = bind_some (bytes_at size from.0.1) (λ b. Some (did_of p.0.0 (op.PageIn named.0.0 from.0.0) b.0, b.1)) x from.2 in
    let first = small_at-only words p.0 p.1 in
    let name = named_at-only of.0 named.0 named.1 in
    let origin = origin-only named.0.1 from.0 from.1 in
    let page = bytes_at-only size from.0.1 b.0 b.1 in
    let same : (did_of p.0.0 (op.PageIn named.0.0 from.0.0) b.0.0, b.0.1) ≡ x = cc in
    let tail : from.0.1 ≡ (shortest b.0.0 ∷ []) ++ b.0.1 = page.1 in
    let spelled : words ≡ decimal p.0.0 ∷ codes "of" ∷ text.named_word named.0.0 ∷ ((origin_words from.0.0 ++ shortest b.0.0 ∷ []) ++ b.0.1) =
    first.spelled ∙ ap (λ r. decimal p.0.0 ∷ r) (word_at-only (codes "of") p.0.1 of.0 of.1)
    ∙ ap (λ r. decimal p.0.0 ∷ codes "of" ∷ r) name.1
    ∙ ap (λ r. decimal p.0.0 ∷ codes "of" ∷ text.named_word named.0.0 ∷ r)
    (origin.1 ∙ ap (λ r. origin_words from.0.0 ++ r) tail ∙ sym (append_assoc (origin_words from.0.0) (shortest b.0.0 ∷ []) b.0.1)) in
    subst (DidPrints size (codes "in" ∷ words)) same ((first.within, (name.0, origin.0, page.0)), ap (λ r. codes "in" ∷ r) spelled)

-- the words behind `fault`
abbrev FaultPrints : ℕ → Words → Did × Words → Type 0
FaultPrints size words x = DidPrints size (codes "fault" ∷ words) x

fault_out-row : (size : ℕ) → RowSays (FaultPrints size) (row (codes "out") (fault_out_at size))
fault_out-row size words x e =
    let p = bind_some (small_at words) _ x e in
    let since = bind_some (wide_at p.0.1) _ x p.2 in
    let at = bind_some (wide_at since.0.1) _ x since.2 in
    let b = bind_some (bytes_at size at.0.1) (λ b. Some (did_of p.0.0 (op.Failed kind.PageOut since.0.0 at.0.0) b.0, b.1)) x at.2 in
    let first = small_at-only words p.0 p.1 in
    let second = wide_at-only p.0.1 since.0 since.1 in
    let third = wide_at-only since.0.1 at.0 at.1 in
    let page = bytes_at-only size at.0.1 b.0 b.1 in
    let same : (did_of p.0.0 (op.Failed kind.PageOut since.0.0 at.0.0) b.0.0, b.0.1) ≡ x = cc in
    subst (FaultPrints size (codes "out" ∷ words)) same (
      (first.within, (second.within, third.within, page.0)),
      ap (λ r. codes "fault" ∷ codes "out" ∷ r)
          (first.spelled
          ∙ ap (λ r. decimal p.0.0 ∷ r) (second.spelled ∙ ap (λ r. decimal since.0.0 ∷ r) (third.spelled ∙ ap (λ r. decimal at.0.0 ∷ r) page.1))),
    )

fault_in-row : (size : ℕ) → RowSays (FaultPrints size) (row (codes "in") (fault_in_at size))
fault_in-row size words x e =
    let p = bind_some (small_at words) _ x e in
    let since = bind_some (wide_at p.0.1) _ x p.2 in
    let at = bind_some (wide_at since.0.1) (λ at. Some (did_of p.0.0 (op.Failed kind.PageIn since.0.0 at.0) (replicate size 0), at.1)) x since.2 in
    let first = small_at-only words p.0 p.1 in
    let second = wide_at-only p.0.1 since.0 since.1 in
    let third = wide_at-only since.0.1 at.0 at.1 in
    let same : (did_of p.0.0 (op.Failed kind.PageIn since.0.0 at.0.0) (replicate size 0), at.0.1) ≡ x = cc in
    subst (FaultPrints size (codes "in" ∷ words)) same (
      (first.within, (second.within, third.within, refl)),
      ap (λ r. codes "fault" ∷ codes "in" ∷ r) (first.spelled ∙ ap (λ r. decimal p.0.0 ∷ r) (second.spelled ∙ ap (λ r. decimal since.0.0 ∷ r) third.spelled)),
    )

pub did-only : (size : ℕ) (words : Words) (x : Did × Words) → by_rows (did_rows size) words ≡ Some x → DidPrints size words x
did-only size words x e =
    by_rows-only (DidPrints size) (did_rows size)
    (out-row size, (in-row size, ((λ ws y f. by_rows-only (FaultPrints size) (fault_rows size) (fault_out-row size, (fault_in-row size, tt)) ws y f), tt)))
    words x e
