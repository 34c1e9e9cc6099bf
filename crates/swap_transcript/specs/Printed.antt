-- What a line prints of an event and of what it tells, and which of them have words: each number fits, and what is told
-- is one of the results of that kind of event.
use Rattle.std.specs.Prelude.{◌≡◌, ℕ, ◌^◌, ◌<◌, true, false, List, [], ◌∷◌, ◌++◌, replicate, Option, None, Some, IfSome, codes}
use Rattle.std.specs.Fmt.{decimal}
use Rattle.swap_base.specs.Sizes.{Sizes}
use Rattle.swap_base.specs.declared.EntryNo.{EntryNo}
use Rattle.swap_base.specs.declared.Lender.{Lender}
use Rattle.swap_base.specs.declared.Via.{Via}
use Rattle.swap_base.specs.declared.Via.TheVariants as via
use Rattle.swap_base.specs.declared.Origin.{Origin}
use Rattle.swap_base.specs.declared.Origin.TheVariants as origin
use Rattle.swap_base.specs.declared.CallKind.TheVariants as kind
use Rattle.swap_base.specs.declared.DiskWhich.{DiskWhich}
use Rattle.swap_base.specs.declared.DiskWhich.TheVariants as which
use Rattle.swap_io.specs.Words.{pattern, shortest}
use Rattle.swap_record.specs.declared.Op.{Op}
use Rattle.swap_record.specs.declared.Op.TheVariants as op
use Rattle.swap_record.specs.Text.{op_words}
use Rattle.swap_wire.specs.declared.Event.{Event}
use Rattle.swap_wire.specs.declared.Event.TheVariants as event
use Rattle.swap_wire.specs.declared.Seen.{Seen}
use Rattle.swap_wire.specs.declared.Seen.TheVariants as seen
use Rattle.swap_script.specs.Transcript.{event_words, seen_words, sent_words}
use Rattle.swap_transcript.specs.Readers.{Words}
use Rattle.swap_transcript.specs.Messages.{IsSmall, HasMsgWords}
use Rattle.swap_transcript.specs.Told.{Told, Saw, Entered, Shown, Did}
use Rattle.swap_transcript.specs.Results.{agrees}
use Rattle.swap_transcript.specs.Transcripts.{Pair}

-- a number below 2 ^ 64
abbrev pub IsWide : ℕ → Type 0
IsWide n = n < 2 ^ 64

-- an entry, with the number that is printed
abbrev pub shown_words : Shown → Words
shown_words shown =
    codes "entry" ∷ decimal shown.no.0 ∷ (op_words shown.page.0 shown.bytes shown.op ++ sent_words shown.sent)

abbrev pub told_words : Told → Words
told_words (Saw seen) = seen_words [] seen
told_words (Entered shown) = shown_words shown

-- the words of a line
abbrev pub pair_words : Pair → Words
pair_words pair = event_words pair.event ++ codes "=" ∷ told_words pair.told

abbrev pub HasWhichWords : DiskWhich → Type 0
HasWhichWords (which.Write p) = IsSmall p.0
HasWhichWords (which.Read c) = IsSmall c.0

abbrev pub HasEventWords : Event → Type 0
HasEventWords (event.PageOut c p) = IsSmall c.0 × IsSmall p.0
HasEventWords (event.PageIn c p) = IsSmall c.0 × IsSmall p.0
HasEventWords (event.Finish c) = IsSmall c.0
HasEventWords event.Start = Unit {0}
HasEventWords (event.Disk w ok) = HasWhichWords w
HasEventWords (event.Tick w) = IsWide w
HasEventWords (event.Map s l) = IsSmall s.0 × IsSmall l.0
HasEventWords (event.Connect l) = IsSmall l.0
HasEventWords (event.Give l) = IsSmall l.0
HasEventWords (event.Take l) = IsSmall l.0
HasEventWords (event.Cut l a b) = IsSmall l.0 × IsSmall a × IsSmall b
HasEventWords (event.Crash l) = IsSmall l.0
HasEventWords (event.Host l u w) = IsSmall l.0 × IsSmall u × IsWide w
HasEventWords (event.Round w) = IsWide w

-- a page that has a word: it is read back from its shortest pattern, as each page of this size is
abbrev pub HasPageWord : ℕ → List ℕ → Type 0
HasPageWord size bytes = pattern size (shortest bytes) ≡ Some bytes

abbrev pub HasOriginWords : Origin → Type 0
HasOriginWords (origin.Lender l) = IsSmall l.0
HasOriginWords _ = Unit {0}

abbrev pub HasNamedWord : Option EntryNo → Type 0
HasNamedWord named = IfSome named (λ e. IsSmall e.0)

-- a failed page-in prints no page, and zeros stand for it
abbrev pub HasOpWords : ℕ → List ℕ → Op → Type 0
HasOpWords size bytes op.PageOut = HasPageWord size bytes
HasOpWords size bytes (op.PageIn named from) = HasNamedWord named × HasOriginWords from × HasPageWord size bytes
HasOpWords size bytes (op.Failed kind.PageOut since at) = IsWide since × IsWide at × HasPageWord size bytes
HasOpWords size bytes (op.Failed kind.PageIn since at) = IsWide since × IsWide at × (bytes ≡ replicate size 0)

abbrev pub HasDidWords : ℕ → Did → Type 0
HasDidWords size d = IsSmall d.page.0 × HasOpWords size d.bytes d.op

-- a page-out alone may have been sent
abbrev pub MayBeSent : Op → Option Lender → Type 0
MayBeSent op.PageOut sent = IfSome sent (λ l. IsSmall l.0)
MayBeSent _ sent = sent ≡ None

pub record HasShownWords (size : ℕ) (shown : Shown) : Type 0 where
  pub no : IsSmall shown.no.0
  pub page : IsSmall shown.page.0
  pub op : HasOpWords size shown.bytes shown.op
  pub sent : MayBeSent shown.op shown.sent

abbrev pub HasViaWords : Via → Type 0
HasViaWords via.Disk = Unit {0}
HasViaWords (via.Lender l) = IsSmall l.0

-- slots are told or asked as a set of 64
abbrev pub IsSlots : ℕ → Type 0
IsSlots set = set < 2 ^ 64

-- what may be seen of an event besides an entry
abbrev pub MaySee : Sizes → Event → Seen → Type 0
MaySee s (event.PageOut c p) seen.Room = Unit {0}
MaySee s (event.PageOut c p) seen.Busy = Unit {0}
MaySee s (event.PageIn c p) (seen.Wait v) = HasViaWords v
MaySee s (event.PageIn c p) seen.Busy = Unit {0}
MaySee s (event.Finish c) seen.Idle = Unit {0}
MaySee s (event.Finish c) (seen.Wait v) = HasViaWords v
MaySee s (event.Finish c) seen.Room = Unit {0}
MaySee s (event.Finish c) (seen.Again v) = HasViaWords v
MaySee s event.Start (seen.Started p e) = IsSmall p.0 × IsSmall e.0
MaySee s event.Start seen.Nothing = Unit {0}
MaySee s (event.Disk (which.Write p) true) (seen.Written e) = IsSmall e.0
MaySee s (event.Disk (which.Write p) true) seen.Nothing = Unit {0}
MaySee s (event.Disk (which.Write p) false) (seen.WriteKept e) = IsSmall e.0
MaySee s (event.Disk (which.Write p) false) (seen.WriteDropped e) = IsSmall e.0
MaySee s (event.Disk (which.Write p) false) seen.Nothing = Unit {0}
MaySee s (event.Disk (which.Read c) true) (seen.ReadCame p) = IsSmall p.0
MaySee s (event.Disk (which.Read c) true) seen.Nothing = Unit {0}
MaySee s (event.Disk (which.Read c) false) (seen.ReadFailed p) = IsSmall p.0
MaySee s (event.Disk (which.Read c) false) seen.Nothing = Unit {0}
MaySee s (event.Tick w) seen.Ticked = Unit {0}
MaySee s (event.Tick w) (seen.Asked slab first second) =
    IsSmall slab.0 × IsSmall first.0 × IfSome second (λ l. IsSmall l.0)
MaySee s (event.Map slab l) seen.Borrowing = Unit {0}
MaySee s (event.Map slab l) seen.Nothing = Unit {0}
MaySee s (event.Connect l) (seen.Linked n) = IsSmall n.0
MaySee s (event.Connect l) seen.Nothing = Unit {0}
MaySee s (event.Give l) (seen.Gave m reply evicted) = HasMsgWords s m × IfSome reply (HasMsgWords s) × IsSlots evicted
MaySee s (event.Give l) seen.GaveEnd = Unit {0}
MaySee s (event.Give l) (seen.GaveEnded m) = HasMsgWords s m
MaySee s (event.Give l) seen.Nothing = Unit {0}
MaySee s (event.Take l) (seen.Took m) = HasMsgWords s m
MaySee s (event.Take l) seen.Lost = Unit {0}
MaySee s (event.Take l) seen.Lied = Unit {0}
MaySee s (event.Take l) seen.Nothing = Unit {0}
MaySee s (event.Cut l a b) seen.Cut = Unit {0}
MaySee s (event.Cut l a b) seen.Nothing = Unit {0}
MaySee s (event.Crash l) seen.Crashed = Unit {0}
MaySee s (event.Crash l) seen.Nothing = Unit {0}
MaySee s (event.Host l u w) (seen.Hosted mean asked) = IsWide mean × IsSlots asked
MaySee s (event.Host l u w) seen.Nothing = Unit {0}
MaySee s (event.Round w) (seen.Rounded effects mapped) = IsSmall effects × IsSmall mapped
MaySee s _ _ = ⊥

abbrev pub MayTell : Sizes → Event → Told → Type 0
MayTell s e (Saw seen) = MaySee s e seen
MayTell s e (Entered shown) = (agrees e shown ≡ true) × HasShownWords s.page_bytes shown

pub record HasPairWords (s : Sizes) (pair : Pair) : Type 0 where
  pub event : HasEventWords pair.event
  pub told : MayTell s pair.event pair.told
