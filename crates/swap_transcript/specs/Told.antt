-- What a line tells of its event: what was seen, and where that is an entry the entry itself, as it is printed.
use Rattle.std.specs.Prelude.{ℕ, if◌then◌else◌, List, [], ◌∷◌, length, Option, None, Some, replicate, codes}
use Rattle.swap_base.specs.declared.Page.{Page}
use Rattle.swap_base.specs.declared.EntryNo.{EntryNo}
use Rattle.swap_base.specs.declared.Lender.{Lender}
use Rattle.swap_base.specs.declared.Origin.{Origin}
use Rattle.swap_base.specs.declared.Origin.TheVariants as origin
use Rattle.swap_base.specs.declared.CallKind.TheVariants as kind
use Rattle.swap_io.specs.Words.{pattern, shortest}
use Rattle.swap_record.specs.declared.Op.{Op}
use Rattle.swap_record.specs.declared.Op.TheVariants as op
use Rattle.swap_record.specs.History.{is_page_out}
use Rattle.swap_script.specs.Forms.{◌>>=◌, small_number}
use Rattle.swap_script.specs.Lines.{is_word}
use Rattle.swap_wire.specs.declared.Seen.{Seen}
use Rattle.swap_transcript.specs.Readers.{Words, word_at, small_at, wide_at, one_of, Row, row, by_rows}

-- an entry as a line prints it: its printed number, its page, what the call did, the page's bytes, which are zeros
-- where
-- none are printed, and the lender that a page-out was sent to
pub record Shown : Type 0 where
  pub no : EntryNo
  pub page : Page
  pub op : Op
  pub bytes : List ℕ
  pub sent : Option Lender

pub data Told : Type 0 where
  Saw : (seen : Seen) → Told
  Entered : (shown : Shown) → Told

-- a page's bytes, by the word of their shortest pattern and by no other
abbrev pub page_word : ℕ → List ℕ → Option (List ℕ)
page_word size word = pattern size word >>= λ page. if is_word (shortest page) word then Some page else None

abbrev pub bytes_at : ℕ → Words → Option (List ℕ × Words)
bytes_at size [] = None
bytes_at size (word ∷ words) = page_word size word >>= λ bytes. Some (bytes, words)

-- what a word that is read as a page leaves: the page that its pattern fills, or the page as it was
abbrev pub filled_or : List ℕ → Option (List ℕ) → List ℕ
filled_or page None = page
filled_or page (Some filled) = filled

abbrev pub page_left : List ℕ → Words → List ℕ
page_left page [] = page
page_left page (word ∷ words) = filled_or page (pattern (length page) word)

-- and the words behind it
abbrev pub behind_first : Words → Words
behind_first [] = []
behind_first (word ∷ words) = words

-- the entry that a page-in names, if it names one
abbrev pub named_word : List ℕ → Option (Option EntryNo)
named_word word =
    if is_word (codes "none") word then Some None else (small_number word >>= λ n. Some (Some (record { 0 = n })))

abbrev pub named_at : Words → Option (Option EntryNo × Words)
named_at [] = None
named_at (word ∷ words) = named_word word >>= λ named. Some (named, words)

-- where a page came from
abbrev pub is_from : Origin → Words → Option (Origin × Words)
is_from o words = Some (o, words)

abbrev pub origin_rows : List (Row (Origin × Words))
origin_rows =
    row (codes "zero") (is_from origin.Zero)
    ∷ row (codes "queue") (is_from origin.Queue)
    ∷ row (codes "disk") (is_from origin.Disk)
    ∷ row (codes "lender") (one_of (λ l. origin.Lender (record { 0 = l })))
    ∷ []

-- what a call did to which page, with the page's bytes
pub record Did : Type 0 where
  pub page : Page
  pub op : Op
  pub bytes : List ℕ

abbrev pub did_of : ℕ → Op → List ℕ → Did
did_of page op bytes = record { page = record { 0 = page }; op = op; bytes = bytes }

abbrev pub out_at : ℕ → Words → Option (Did × Words)
out_at size words = small_at words >>= λ p. (bytes_at size p.1 >>= λ b. Some (did_of p.0 op.PageOut b.0, b.1))

abbrev pub in_at : ℕ → Words → Option (Did × Words)
in_at size words = do
  p ← small_at words
  of ← word_at (codes "of") p.1
  named ← named_at of
  from ← by_rows origin_rows named.1
  b ← bytes_at size from.1
  Some (did_of p.0 (op.PageIn named.0 from.0) b.0, b.1)

abbrev pub fault_out_at : ℕ → Words → Option (Did × Words)
fault_out_at size words = do
  p ← small_at words
  since ← wide_at p.1
  at ← wide_at since.1
  b ← bytes_at size at.1
  Some (did_of p.0 (op.Failed kind.PageOut since.0 at.0) b.0, b.1)

abbrev pub fault_in_at : ℕ → Words → Option (Did × Words)
fault_in_at size words = do
  p ← small_at words
  since ← wide_at p.1
  at ← wide_at since.1
  Some (did_of p.0 (op.Failed kind.PageIn since.0 at.0) (replicate size 0), at.1)

abbrev pub fault_rows : ℕ → List (Row (Did × Words))
fault_rows size = row (codes "out") (fault_out_at size) ∷ row (codes "in") (fault_in_at size) ∷ []

abbrev pub did_rows : ℕ → List (Row (Did × Words))
did_rows size =
    row (codes "out") (out_at size)
    ∷ row (codes "in") (in_at size)
    ∷ row (codes "fault") (by_rows (fault_rows size))
    ∷ []

-- the lender that a page-out was sent to, if it was sent to one: the last words of a line
abbrev pub sent_by : Words → Option (Option Lender)
sent_by [] = Some None
sent_by (word ∷ l ∷ []) = if is_word (codes "to") word then (small_number l >>= λ n. Some (Some (record { 0 = n })))
    else None
sent_by _ = None

abbrev pub not_sent : Words → Option (Option Lender)
not_sent [] = Some None
not_sent _ = None

abbrev pub sent_of : Op → Words → Option (Option Lender)
sent_of op words = if is_page_out op then sent_by words else not_sent words

-- an entry, behind its first word
abbrev pub entry_of : ℕ → Words → Option Shown
entry_of size words = do
  n ← small_at words
  d ← by_rows (did_rows size) n.1
  sent ← sent_of d.0.op d.1
  Some (record { no = record { 0 = n.0 }; page = d.0.page; op = d.0.op; bytes = d.0.bytes; sent = sent })
