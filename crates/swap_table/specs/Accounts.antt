-- What each call that waits, and each copy in the queue, stands for: a call for one read under way and for the entry
-- that
-- it reads, a copy for the page-out that it is of.
use Rattle.std.specs.Prelude.{◌≡◌, ℕ, ◌≤◌, Bool, true, false, ◌==◌, List, find, Option, None, Some}
use Rattle.swap_base.specs.declared.Page.{Page}
use Rattle.swap_base.specs.declared.Caller.{Caller}
use Rattle.swap_base.specs.declared.DiskWhich.TheVariants as which
use Rattle.swap_base.specs.declared.Via.{Via}
use Rattle.swap_base.specs.declared.Via.TheVariants as via
use Rattle.swap_record.specs.History.{History, last}
use Rattle.swap_queue.specs.Queue.{Copy, Places, places_of, first_of}
use Rattle.swap_disk.specs.Disk.{Flight, is_flight_of}
use Rattle.swap_disk.specs.Disk as disk
use Rattle.swap_calls.specs.Calls.{state_of, call_of}
use Rattle.swap_calls.specs.declared.Arrived.{Arrived}
use Rattle.swap_calls.specs.declared.Arrived.TheVariants as arrived
use Rattle.swap_calls.specs.declared.CallState.{CallState}
use Rattle.swap_calls.specs.declared.CallState.TheVariants.{Idle, Room, Reading}
use Rattle.swap_rings.specs.Rings.{LinkState, is_up, ring_of}
use Rattle.swap_rings.specs.declared.Request.{Request}
use Rattle.swap_rings.specs.declared.Request.TheVariants.{Query, Borrow, Write, Read}
use Rattle.swap_table.specs.Device.{Device}
use Rattle.swap_table.specs.Serves.{IsOut, bytes_of}

-- a read of this caller
abbrev pub is_read_of : Caller → Request → Bool
is_read_of caller (Query slab) = false
is_read_of caller (Borrow slab) = false
is_read_of caller (Write page entry) = false
is_read_of caller (Read other page) = caller.0 == other.0

-- a caller's read is in flight at the disk, or in the ring of a link that is up
abbrev pub IsUnderWayBy : List Flight → List LinkState → Caller → Page → Via → Type 0
IsUnderWayBy flights links caller page via.Disk =
    find (is_flight_of (which.Read caller)) flights ≡ Some (disk.Read caller page)
IsUnderWayBy flights links caller page (via.Lender l) =
    (is_up links l ≡ true) × (find (is_read_of caller) (ring_of links l) ≡ Some (Read caller page))

-- a call that waits has its read under way
abbrev pub HasItsRead : List Flight → List LinkState → Caller → Page → Via → Arrived → Type 0
HasItsRead flights links caller page via arrived.Waiting = IsUnderWayBy flights links caller page via
HasItsRead flights links caller page via _ = Unit {0}

-- what came through a lender answers this content
abbrev pub AnswersThrough : (List ℕ → List ℕ → Type 0) → List ℕ → Via → List ℕ → Type 0
AnswersThrough answers content via.Disk bytes = Unit {0}
AnswersThrough answers content (via.Lender l) bytes = answers content bytes

abbrev pub BringsContent : (List ℕ → List ℕ → Type 0) → List ℕ → Via → List ℕ → Arrived → Type 0
BringsContent answers content via bytes arrived.Came = AnswersThrough answers content via bytes
BringsContent answers content via bytes _ = Unit {0}

-- A call that waits for room began no later than the last failed write. One that reads keeps a page-out of its page,
-- has
-- its read under way until it comes back, and has what answers that page-out once it came through a lender, newer or
-- not.
abbrev pub IsAccounted :
    (List ℕ → List ℕ → Type 0) → ℕ → History → List Flight → List LinkState → Caller → List ℕ → CallState → Type 0
IsAccounted answers writes H flights links caller bytes Idle = Unit {0}
IsAccounted answers writes H flights links caller bytes (Room page since) = since ≤ writes
IsAccounted answers writes H flights links caller bytes (Reading page entry via how newer since) =
    IsOut H page entry × HasItsRead flights links caller page via how
    × BringsContent answers (bytes_of H entry) via bytes how

-- a copy has the bytes of a page-out of its page
abbrev pub IsOfEntry : History → Page → Option Copy → Type 0
IsOfEntry H page None = Unit {0}
IsOfEntry H page (Some copy) = IsOut H page copy.entry × (copy.bytes ≡ bytes_of H copy.entry)

-- and the newest copy is of the last page-out
abbrev pub IsOfLast : History → Page → Option Copy → Type 0
IsOfLast H page None = Unit {0}
IsOfLast H page (Some copy) = last H page ≡ Some copy.entry

abbrev pub AreOfEntries : History → Page → Places → Type 0
AreOfEntries H page places =
    IsOfEntry H page places.flying × IsOfEntry H page places.next × IsOfLast H page (first_of places.next places.flying)

pub record Accounts (answers : List ℕ → List ℕ → Type 0) (d : Device) (flights : List Flight) : Type 0 where
  pub calls :
      (c : Caller)
      → IsAccounted answers d.failed_writes d.history flights d.remote.links c (call_of d.calls c).bytes
      (state_of d.calls c)
  pub copies : (p : Page) → AreOfEntries d.history p (places_of d.queue p)
