-- The numbers that a line prints fit the types that hold them, and so do the bytes of its page.
use Rattle.std.specs.Prelude.{◌≡◌, ℕ, List, [], ◌∷◌, length, Option, Some, IfSome}
use Rattle.swap_base.specs.declared.EntryNo.{EntryNo}
use Rattle.swap_base.specs.declared.Lender.{Lender}
use Rattle.swap_io.specs.ReadBack.{AreBytes}
use Rattle.swap_wire.specs.declared.Msg.{Msg}
use Rattle.swap_wire.specs.declared.Msg.TheVariants as msg
use Rattle.swap_wire.specs.declared.Seen.{Seen}
use Rattle.swap_wire.specs.declared.Seen.TheVariants as seen
use Rattle.swap_record.specs.declared.Op.{Op}
use Rattle.swap_record.specs.declared.Op.TheVariants as op
use Rattle.swap_record.specs.declared.Entry.{Entry}
use Rattle.swap_record.specs.History.{History, Row, row_named}
use Rattle.swap_wire.specs.Input.{Input}
use Rattle.swap_wire.specs.declared.Event.{Event}
use Rattle.swap_world.specs.World.{World, next, history}
use Rattle.swap_world.specs.Runs.{entry_seen}
use Rattle.swap_transcript.specs.Messages.{IsSmall}
use Rattle.swap_transcript.specs.Printed.{IsWide, IsSlots, HasEventWords, HasViaWords, HasNamedWord, HasOriginWords}

-- those of a message; a greeting prints no sizes
abbrev pub HasMsgNumbers : Msg → Type 0
HasMsgNumbers (msg.Hello version page_bytes pages_per_slab) = IsSmall version
HasMsgNumbers (msg.Query n) = IsSmall n.0
HasMsgNumbers (msg.Borrow n) = IsSmall n.0
HasMsgNumbers (msg.Write k i) = IsSmall k.0 × IsSmall i
HasMsgNumbers (msg.Read k i) = IsSmall k.0 × IsSmall i
HasMsgNumbers (msg.Rates k v) = IsSmall k.0 × IsWide v
HasMsgNumbers (msg.Done k) = IsSmall k.0
HasMsgNumbers (msg.Room n free) = IsSmall n.0 × IsSmall free
HasMsgNumbers (msg.Lent n k) = IsSmall n.0 × IsSmall k.0
HasMsgNumbers (msg.Refused n) = IsSmall n.0
HasMsgNumbers (msg.Wrote k i) = IsSmall k.0 × IsSmall i
HasMsgNumbers (msg.PageIs k i) = IsSmall k.0 × IsSmall i
HasMsgNumbers (msg.AskRates k) = IsSmall k.0
HasMsgNumbers (msg.Evict k) = IsSmall k.0

abbrev pub HasSentNumber : Option Lender → Type 0
HasSentNumber sent = IfSome sent (λ l. IsSmall l.0)

-- those of what was seen
abbrev pub HasSeenNumbers : Seen → Type 0
HasSeenNumbers (seen.Done e sent) = IsSmall e.0 × HasSentNumber sent
HasSeenNumbers (seen.Fault e) = IsSmall e.0
HasSeenNumbers (seen.Wait v) = HasViaWords v
HasSeenNumbers (seen.Again v) = HasViaWords v
HasSeenNumbers (seen.Started p e) = IsSmall p.0 × IsSmall e.0
HasSeenNumbers (seen.Written e) = IsSmall e.0
HasSeenNumbers (seen.WriteKept e) = IsSmall e.0
HasSeenNumbers (seen.WriteDropped e) = IsSmall e.0
HasSeenNumbers (seen.ReadCame p) = IsSmall p.0
HasSeenNumbers (seen.ReadFailed p) = IsSmall p.0
HasSeenNumbers (seen.Asked slab first second) = IsSmall slab.0 × IsSmall first.0 × HasSentNumber second
HasSeenNumbers (seen.Linked n) = IsSmall n.0
HasSeenNumbers (seen.Gave m reply evicted) = HasMsgNumbers m × IfSome reply HasMsgNumbers × IsSlots evicted
HasSeenNumbers (seen.GaveEnded m) = HasMsgNumbers m
HasSeenNumbers (seen.Took m) = HasMsgNumbers m
HasSeenNumbers (seen.Hosted mean asked) = IsWide mean × IsSlots asked
HasSeenNumbers (seen.Rounded effects mapped) = IsSmall effects × IsSmall mapped
HasSeenNumbers _ = Unit {0}

-- those of an entry
abbrev pub HasOpNumbers : Op → Type 0
HasOpNumbers op.PageOut = Unit {0}
HasOpNumbers (op.PageIn named from) = HasNamedWord named × HasOriginWords from
HasOpNumbers (op.Failed kind since at) = IsWide since × IsWide at

pub record HasEntryNumbers (entry : Entry) : Type 0 where
  pub page : IsSmall entry.page.0
  pub op : HasOpNumbers entry.op

-- a row's numbers and bytes, where a page has so many
pub record RowFits (size : ℕ) (row : Row) : Type 0 where
  pub entry : HasEntryNumbers row.entry
  pub bytes : AreBytes row.bytes
  pub len : length row.bytes ≡ size

-- all that an event's line prints beside a history: the event, what was seen of it, and the entry that was seen
pub record LineFits (size : ℕ) (e : Event) (s : Seen) (H : History) : Type 0 where
  pub event : HasEventWords e
  pub seen : HasSeenNumbers s
  pub entry : (n : EntryNo) (row : Row) → entry_seen s ≡ Some n → row_named H n.0 ≡ Some row → RowFits size row

-- so of each event from a world on
abbrev pub NumbersFit : World → List Input → Type 0
NumbersFit w [] = Unit {0}
NumbersFit w (i ∷ is) =
    LineFits w.device.sizes.page_bytes i.event (next w i).seen (history (next w i).world)
    × NumbersFit (next w i).world is
