-- Which events saw the disk fail, when a caller's call was started last, and what a failed call's entry has for a
-- cause.
use Rattle.std.specs.Prelude.{◌≡◌, ◌<◌, ℕ, Bool, true, false, ◌&&◌, ◌==◌, if◌then◌else◌, List, [], ◌∷◌, length, take, count_by, is_some, Option, None, Some}
use Rattle.std.specs.List.{AllByRecursion}
use Rattle.swap_base.specs.declared.Page.{Page}
use Rattle.swap_base.specs.declared.Caller.{Caller}
use Rattle.swap_base.specs.declared.EntryNo.{EntryNo}
use Rattle.swap_base.specs.declared.CallKind.TheVariants as kind
use Rattle.swap_base.specs.declared.DiskWhich.TheVariants as which
use Rattle.swap_wire.specs.Input.{Input}
use Rattle.swap_wire.specs.declared.Event.{Event}
use Rattle.swap_wire.specs.declared.Event.TheVariants as event
use Rattle.swap_wire.specs.declared.Seen.{Seen}
use Rattle.swap_wire.specs.declared.Seen.TheVariants as seen
use Rattle.swap_record.specs.declared.Op.{Op}
use Rattle.swap_record.specs.declared.Op.TheVariants as op
use Rattle.swap_record.specs.History.{Row, is_out_of}
use Rattle.swap_world.specs.Runs.{entry_seen}

abbrev pub is_write_failed : Seen → Bool
is_write_failed (seen.WriteKept e) = true
is_write_failed (seen.WriteDropped e) = true
is_write_failed _ = false

abbrev pub is_read_failed : Seen → Bool
is_read_failed (seen.ReadFailed p) = true
is_read_failed _ = false

-- how many disk writes, and how many disk reads, came back failed
abbrev pub failed_writes_in : List (Input × Seen) → ℕ
failed_writes_in made = count_by (λ (m : Input × Seen). is_write_failed m.1) made

abbrev pub failed_reads_in : List (Input × Seen) → ℕ
failed_reads_in made = count_by (λ (m : Input × Seen). is_read_failed m.1) made

-- an event of this caller's
abbrev pub is_of : Caller → Event → Bool
is_of c (event.PageOut e p) = e.0 == c.0
is_of c (event.PageIn e p) = e.0 == c.0
is_of c (event.Finish e) = e.0 == c.0
is_of c _ = false

-- the first step of a page-out that waits for room, and each step of a page-in that starts a read
abbrev pub is_start : Event → Seen → Bool
is_start (event.PageOut e p) seen.Room = true
is_start (event.PageIn e p) (seen.Wait via) = true
is_start (event.Finish e) (seen.Again via) = true
is_start _ _ = false

abbrev pub is_start_of : Caller → Event → Seen → Bool
is_start_of c e s = is_of c e && is_start e s

-- what was made before a caller's last start
abbrev pub before_start : Caller → List (Input × Seen) → List (Input × Seen)
before_start c [] = []
before_start c ((i, s) ∷ made) = if is_start_of c i.event s then made else before_start c made

-- what was made since
abbrev pub since_start : Caller → List (Input × Seen) → List (Input × Seen)
since_start c [] = []
since_start c ((i, s) ∷ made) = if is_start_of c i.event s then [] else (i, s) ∷ since_start c made

-- a disk read of this caller's came back
abbrev pub is_read_end : Caller → Event → Seen → Bool
is_read_end c (event.Disk (which.Read e) ok) (seen.ReadCame p) = e.0 == c.0
is_read_end c (event.Disk (which.Read e) ok) (seen.ReadFailed p) = e.0 == c.0
is_read_end c _ _ = false

abbrev pub with_read_end : Caller → Event → Seen → List (Event × Seen) → List (Event × Seen)
with_read_end c e s ends = if is_read_end c e s then (e, s) ∷ ends else ends

-- the events by which a caller's disk reads came back, the newest first
abbrev pub read_ends : Caller → List (Input × Seen) → List (Event × Seen)
read_ends c [] = []
read_ends c ((i, s) ∷ made) = with_read_end c i.event s (read_ends c made)

-- how many entries were seen
abbrev pub entries_in : List (Input × Seen) → ℕ
entries_in made = count_by (λ (m : Input × Seen). is_some (entry_seen m.1)) made

-- The two counts of a failed call: the failed writes, or reads, before its last start and before the step that ended
-- it. The first is below the second: the disk failed during the call.
abbrev pub AreItsCounts : ℕ → ℕ → ℕ → ℕ → Type 0
AreItsCounts since at before now = (since ≡ before) × (at ≡ now) × (since < at)

-- A page-in fails by its own read: since its last start one read of its caller's came back, that of its page, and it
-- failed; and no entry since then is a page-out of the page.
pub record FailsByItsRead (c : Caller) (page : Page) (made : List (Input × Seen)) (H : List Row) : Type 0 where
  pub own : read_ends c (since_start c made) ≡ (event.Disk (which.Read c) false, seen.ReadFailed page) ∷ []
  pub newest : AllByRecursion (λ (row : Row). is_out_of page row ≡ false) (take (entries_in (since_start c made)) H)

-- the cause of a failed call, in what was made before its entry and in the entries before it
abbrev pub HasItsCause : Caller → Page → List (Input × Seen) → List Row → Op → Type 0
HasItsCause c page made H op.PageOut = Unit {0}
HasItsCause c page made H (op.PageIn named from) = Unit {0}
HasItsCause c page made H (op.Failed kind.PageOut since at) =
    AreItsCounts since at (failed_writes_in (before_start c made)) (failed_writes_in made)
HasItsCause c page made H (op.Failed kind.PageIn since at) =
    AreItsCounts since at (failed_reads_in (before_start c made)) (failed_reads_in made) × FailsByItsRead c page made H

-- The history holds exactly the entries that were seen, in order, and each that tells a failure has its cause.
abbrev pub HoldsEntry : (List Row → Type 0) → List (Input × Seen) → List Row → Option EntryNo → Type 0
HoldsEntry rest made H None = rest H
HoldsEntry rest made [] (Some e) = ⊥
HoldsEntry rest made (row ∷ H) (Some e) =
    (e.0 ≡ length H) × HasItsCause row.entry.caller row.entry.page made H row.entry.op × rest H

abbrev pub HoldsEntriesSeen : List (Input × Seen) → List Row → Type 0
HoldsEntriesSeen [] H = H ≡ []
HoldsEntriesSeen ((i, s) ∷ made) H = HoldsEntry (HoldsEntriesSeen made) made H (entry_seen s)
