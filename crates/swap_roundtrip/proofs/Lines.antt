-- Each line of a run is read back: as its event, and as the result or the entry that was seen.
use Rattle.std.proofs.Common.{◌≡◌, inl, inr, ℕ, ◌+◌, Bool, true, false, eqb, cond, List, [], ◌∷◌, ◌++◌, length, length-append, Option, None, Some, refl, sym, ap, subst, ◌∙◌, arith, codes}
use Rattle.std.specs.List.{list_any}
use Rattle.std.proofs.lemmas.Bool.{lt-ltb, eq-eqb}
use Rattle.std.proofs.lemmas.Bool.Decides.{nat_tests}
use Rattle.swap_base.specs.declared.EntryNo.{EntryNo}
use Rattle.swap_base.specs.declared.Lender.{Lender}
use Rattle.swap_base.specs.declared.CallKind.TheVariants as kind
use Rattle.swap_base.specs.Sizes.{Sizes, AreInLimits, pages_of, page_lengths}
use Rattle.swap_base.proofs.Limits.{within_limits}
use Rattle.swap_io.specs.Words.{pattern, shortest}
use Rattle.swap_io.specs.ReadBack.{AreBytes}
use Rattle.swap_io.proofs.Back.{page_again}
use Rattle.swap_record.specs.declared.Op.{Op}
use Rattle.swap_record.specs.declared.Op.TheVariants as op
use Rattle.swap_record.specs.History.{History, Row, row_named, next_name, row_of, with_row}
use Rattle.swap_wire.specs.declared.Event.{Event}
use Rattle.swap_wire.specs.declared.Seen.{Seen}
use Rattle.swap_script.specs.Lines.{with_spaces, with_line_end}
use Rattle.swap_script.specs.Transcript.{line, event_words}
use Rattle.swap_world.specs.Runs.{entry_seen, GoesOn}
use Rattle.swap_transcript.specs.Messages.{IsSmall}
use Rattle.swap_transcript.specs.Told.{Told, Saw, Entered, Shown}
use Rattle.swap_transcript.specs.Printed.{HasPageWord, HasOpWords, MayBeSent, HasPairWords, pair_words}
use Rattle.swap_transcript.specs.Transcripts.{Pair, Judged, entries_in, tells_page, with_told, enter_shown}
use Rattle.swap_transcript.specs.Laws.{seen_by, LinesArePrinted}
use Rattle.swap_roundtrip.specs.Numbers.{HasSeenNumbers, HasOpNumbers, RowFits, LineFits}
use Rattle.swap_roundtrip.proofs.Shapes.{Shape}
use Rattle.swap_roundtrip.proofs.Entries.{OnlyOut, KeepsZeros, Enters, Tells, shown_of}
use Rattle.swap_roundtrip.proofs.Plain.{seen_back, seen_same, plain_back, may_see, names_page}

abbrev pub unmarked : History → Judged
unmarked H = record { history = H; noted = None }

abbrev pub pair_with : Event → Told → Pair
pair_with e told = record { event = e; told = told }

-- an event's line, as it is read back
pub record LineBack (s : Sizes) (e : Event) (x : Seen) (before now F : History) : Type 0 where
  pub told : Told
  pub words : HasPairWords s (pair_with e told)
  pub page : tells_page s told ≡ true
  pub judged : with_told (unmarked before) e told ≡ unmarked now
  pub count : length now ≡ length before + entries_in told
  pub is_line : line F (e, x) ≡ with_line_end (with_spaces (pair_words (pair_with e told)))

-- the entry of a name stays in a history that goes on
named_over : (r : Row) (H : History) (n : ℕ) (b : Bool) → eqb (length H) n ≡ b → b ≡ false → row_named (r ∷ H) n ≡ row_named H n
named_over r H n b is other = ap (λ t. cond t (Some r) (row_named H n)) (is ∙ other)

pub named_there : (later before : History) (row : Row) → row_named (later ++ row ∷ before) (length before) ≡ Some row
named_there [] before row = ap (λ t. cond t (Some row) (row_named before (length before))) (eq-eqb (length before) (length before) refl)
named_there (r ∷ later) before row =
    let long = length-append later (row ∷ before) in
    named_over r (later ++ row ∷ before) (length before) (eqb (length (later ++ row ∷ before)) (length before)) refl (grind (arith, nat_tests, long))
    ∙ named_there later before row

seen_entry : (o : Op) (n : EntryNo) (sent : Option Lender) → entry_seen (seen_by o n sent) ≡ Some n
seen_entry op.PageOut n sent = refl
seen_entry (op.PageIn named from) n sent = refl
seen_entry (op.Failed kind since at) n sent = refl

small_no : (o : Op) (n : EntryNo) (sent : Option Lender) → HasSeenNumbers (seen_by o n sent) → IsSmall n.0
small_no op.PageOut n sent h = h.0
small_no (op.PageIn named from) n sent h = h.0
small_no (op.Failed kind since at) n sent h = h

may_be_sent : (o : Op) (n : EntryNo) (sent : Option Lender) → HasSeenNumbers (seen_by o n sent) → OnlyOut o sent → MayBeSent o sent
may_be_sent op.PageOut n sent h only = h.1
may_be_sent (op.PageIn named from) n sent h only = only
may_be_sent (op.Failed kind since at) n sent h only = only

page_word : (s : Sizes) (bytes : List ℕ) → AreInLimits s → AreBytes bytes → length bytes ≡ s.page_bytes → HasPageWord s.page_bytes bytes
page_word s bytes within are len =
    let listed : list_any (λ m. eqb (length bytes) m) page_lengths ≡ true =
    ap (λ k. list_any (λ m. eqb k m) page_lengths) len ∙ (within_limits s within).length in
    ap (λ k. pattern k (shortest bytes)) (sym len) ∙ page_again bytes listed are

op_words_fit : (size : ℕ) (bytes : List ℕ) (o : Op) → HasOpNumbers o → HasPageWord size bytes → KeepsZeros size bytes o → HasOpWords size bytes o
op_words_fit size bytes op.PageOut h page zeros = page
op_words_fit size bytes (op.PageIn named from) h page zeros = (h.0, h.1, page)
op_words_fit size bytes (op.Failed kind.PageOut since at) h page zeros = (h.0, h.1, page)
op_words_fit size bytes (op.Failed kind.PageIn since at) h page zeros = (h.0, h.1, zeros)

plain_line : (s : Sizes) (e : Event) (x : Seen) (before now F : History) → LinesArePrinted → LineFits s.page_bytes e x now → entry_seen x ≡ None
    → now ≡ before → Shape (pages_of s) e x → LineBack s e x before now F
plain_line s e x before now F printed fits none same shape = record {
  told = Saw (seen_back s x);
  words = record { event = fits.event; told = may_see s e x none shape fits.seen };
  page = names_page s e x shape;
  judged = ap unmarked (sym same);
  count = let l : length now ≡ length before = ap length same in omega (arith, l);
  is_line =
      ap (λ w. with_line_end (with_spaces (event_words e ++ codes "=" ∷ w))) (sym (seen_same s F x))
      ∙ printed F (pair_with e (Saw (seen_back s x))) (plain_back s x none);
}

entry_line : (s : Sizes) (e : Event) (x : Seen) (before now F : History) → AreInLimits s → LinesArePrinted → GoesOn now F → LineFits s.page_bytes e x now
    → Enters s e x before now → LineBack s e x before now F
entry_line s e x before now F within printed goes fits r =
    let row : Row = row_of before r.caller r.page r.op r.bytes in
    let no : EntryNo = next_name before in
    let shown : Shown = shown_of before r.page r.op r.bytes r.sent in
    let numbers : HasSeenNumbers (seen_by r.op no r.sent) = subst HasSeenNumbers r.seen fits.seen in
    let here : row_named now (length before) ≡ Some row = ap (λ H. row_named H (length before)) r.is ∙ named_there [] before row in
    let row_fits : RowFits s.page_bytes row = fits.entry no row (ap entry_seen r.seen ∙ seen_entry r.op no r.sent) here in
    let page : HasPageWord s.page_bytes r.bytes = page_word s r.bytes within row_fits.bytes row_fits.len in
    let sent : MayBeSent r.op r.sent = may_be_sent r.op no r.sent numbers r.only_out in
    let there : row_named F (length before) ≡ Some row =
    ap (λ H. row_named H (length before)) (goes.1 ∙ ap (λ H. goes.0 ++ H) r.is) ∙ named_there goes.0 before row in
    record {
      told = Entered shown;
      words =
          record {
            event = fits.event;
            told = (
              r.agree,
              record {
                no = small_no r.op no r.sent numbers;
                page = row_fits.entry.page;
                op = op_words_fit s.page_bytes r.bytes r.op row_fits.entry.op page r.zeros;
                sent = sent;
              },
            );
          };
      page = lt-ltb r.page.0 (pages_of s) r.within;
      judged =
          ap (λ c. enter_shown (unmarked before) c shown) r.of
          ∙ ap (λ b. record { history = with_row before r.caller r.page r.op r.bytes; noted = cond b None (Some (length before)) })
          (eq-eqb (length before) (length before) refl)
          ∙ ap unmarked (sym r.is);
      count = let l : length now ≡ length (with_row before r.caller r.page r.op r.bytes) = ap length r.is in omega (arith, l);
      is_line =
          ap (λ y. line F (e, y)) r.seen
          ∙ printed F (pair_with e (Entered shown)) (record { row = row; is = there; page = refl; op = refl; bytes = refl; sent = sent });
    }

pub line_back : (s : Sizes) (e : Event) (x : Seen) (before now F : History) → AreInLimits s → LinesArePrinted → GoesOn now F → LineFits s.page_bytes e x now
    → Tells s e x before now → Shape (pages_of s) e x → LineBack s e x before now F
line_back s e x before now F within printed goes fits (inl plain) shape = plain_line s e x before now F printed fits plain.0 plain.1 shape
line_back s e x before now F within printed goes fits (inr r) shape = entry_line s e x before now F within printed goes fits r
