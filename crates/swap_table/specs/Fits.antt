-- What a device, its disk and its fabric agree on, between any two of the device's calls.
use Rattle.std.specs.Prelude.{◌≡◌, ℕ, ◌<◌, ◌≤◌, Bool, true, false, List, [], ◌∷◌, length, count_by, find, replicate, slice_index_or, IsSome, is_some, MatchOption, Option, None, Some}
use Rattle.std.specs.List.{AllByRecursion}
use Rattle.swap_base.specs.declared.Page.{Page}
use Rattle.swap_base.specs.declared.Origin.{Origin}
use Rattle.swap_base.specs.declared.Origin.TheVariants as origin
use Rattle.swap_base.specs.declared.Via.{Via}
use Rattle.swap_base.specs.declared.Via.TheVariants as via
use Rattle.swap_base.specs.Sizes.{Sizes, pages_of, zeros}
use Rattle.swap_record.specs.declared.Op.{Op}
use Rattle.swap_record.specs.declared.Op.TheVariants.{PageOut, PageIn, Failed}
use Rattle.swap_record.specs.History.{History, Row, IsOrdered, array, last}
use Rattle.swap_queue.specs.Queue.{Queue, Places, Copy, places_of, newest, next_copy, flying, first_of}
use Rattle.swap_disk.specs.Disk.{Flight, Write, Read, Finished, which_of, is_flight_of, same_which}
use Rattle.swap_disk.specs.Port.{Port, writes_in}
use Rattle.swap_calls.specs.Calls.{Call, Calls, state_of}
use Rattle.swap_calls.specs.declared.Arrived.{Arrived}
use Rattle.swap_calls.specs.declared.Arrived.TheVariants as arrived
use Rattle.swap_calls.specs.declared.CallState.{CallState}
use Rattle.swap_calls.specs.declared.CallState.TheVariants.{Idle, Room, Reading}
use Rattle.swap_table.specs.Device.{Device, origin_of}
use Rattle.swap_table.specs.Serves.{Keeping, Owing, Serves}
use Rattle.swap_table.specs.Accounts.{Accounts}

-- what may be given for a page of this content, by where it comes from: from a disk that tells its blocks the content,
-- and from another disk anything; from a lender what answers the content; and else the content
abbrev pub MayGive : Bool → (List ℕ → List ℕ → Type 0) → Origin → List ℕ → List ℕ → Type 0
MayGive told answers origin.Zero content bytes = bytes ≡ content
MayGive told answers origin.Queue content bytes = bytes ≡ content
MayGive told answers origin.Disk content bytes = told ≡ true → bytes ≡ content
MayGive told answers (origin.Lender l) content bytes = answers content bytes

abbrev pub GivesWhatItMay : Bool → (List ℕ → List ℕ → Type 0) → List ℕ → History → Row → Op → Type 0
GivesWhatItMay told answers zeros H row PageOut = Unit {0}
GivesWhatItMay told answers zeros H row (PageIn named from) =
    MayGive told answers from (array zeros H row.entry.page) row.bytes
GivesWhatItMay told answers zeros H row (Failed kind since at) = Unit {0}

-- each page-in gives what it may for the page's content
abbrev pub IsFaithfulOver : Bool → (List ℕ → List ℕ → Type 0) → List ℕ → History → Type 0
IsFaithfulOver told answers zeros [] = Unit {0}
IsFaithfulOver told answers zeros (row ∷ H) =
    GivesWhatItMay told answers zeros H row row.entry.op × IsFaithfulOver told answers zeros H

-- a read that failed saw the count of failed reads rise
abbrev pub SawFailure : Arrived → ℕ → ℕ → Type 0
SawFailure arrived.Failed since reads = since < reads
SawFailure _ since reads = Unit {0}

-- a call that reads and isn't newer keeps the last page-out of its page
abbrev pub KeepsNewest : History → ℕ → CallState → Type 0
KeepsNewest H reads (Reading page newest via how newer since) =
    (newer ≡ false → last H page ≡ Some newest) × (since ≤ reads) × SawFailure how since reads
KeepsNewest H reads _ = Unit {0}

-- history and calls are in order
pub record IsInOrder (d : Device) : Type 0 where
  pub ordered : IsOrdered d.history
  pub calls : AllByRecursion (λ (call : Call). KeepsNewest d.history d.failed_reads call.state) d.calls

-- a page's block, where blocks are told
abbrev pub block_in : Option (List (List ℕ)) → Page → Option (List ℕ)
block_in None page = None
block_in (Some blocks) page = Some (slice_index_or blocks page.0 [])

abbrev pub IsBlock : Option (List ℕ) → List ℕ → Type 0
IsBlock None content = Unit {0}
IsBlock (Some block) content = block ≡ content

-- the newest copy of a page is its content in the array; where there is none, its block is
abbrev pub HoldsPage : Places → Option (List ℕ) → List ℕ → Type 0
HoldsPage places block content =
    MatchOption (first_of places.next places.flying) (IsBlock block content) (λ (copy : Copy). copy.bytes ≡ content)

-- a copy flies, with these bytes where they are told
abbrev pub IsCopyOf : Bool → List ℕ → Option Copy → Type 0
IsCopyOf told bytes None = ⊥
IsCopyOf told bytes (Some copy) = told ≡ true → copy.bytes ≡ bytes

-- a call that waits for the disk to read this page
abbrev pub WaitsFor : Page → CallState → Type 0
WaitsFor page (Reading q newest via.Disk arrived.Waiting newer since) = q.0 ≡ page.0
WaitsFor page _ = ⊥

-- a write in flight is of the copy that flies; a read in flight is waited for
abbrev pub IsExpected : Bool → ℕ → ℕ → Queue → Calls → Flight → Type 0
IsExpected told pages callers q calls (Write page bytes) = (page.0 < pages) × IsCopyOf told bytes (flying q page)
IsExpected told pages callers q calls (Read caller page) =
    (caller.0 < callers) × (page.0 < pages) × WaitsFor page (state_of calls caller)

abbrev pub IsOther : Flight → Flight → Type 0
IsOther f g = same_which (which_of f) (which_of g) ≡ false

abbrev pub AreDistinct : List Flight → Type 0
AreDistinct [] = Unit {0}
AreDistinct (f ∷ fs) = AllByRecursion (IsOther f) fs × AreDistinct fs

-- how many copies fly
abbrev pub flies : Places → Bool
flies places = is_some places.flying

abbrev pub flying_count : Queue → ℕ
flying_count q = count_by flies q.places

-- the block of a write that has finished and was ok holds its bytes
abbrev pub IsSettled : Option (List (List ℕ)) → Flight → Bool → Type 0
IsSettled blocks (Write page bytes) ok = ok ≡ true → IsBlock (block_in blocks page) bytes
IsSettled blocks (Read caller page) ok = Unit {0}

-- an operation that has finished and isn't taken is in flight
abbrev pub IsUnderWay : Option (List (List ℕ)) → List Flight → Option Finished → Type 0
IsUnderWay blocks flights None = Unit {0}
IsUnderWay blocks flights (Some f) =
    (find (is_flight_of (which_of f.flight)) flights ≡ Some f.flight) × IsSettled blocks f.flight f.ok

-- a page in the line has a next copy, and none that flies
abbrev pub IsInLine : ℕ → Queue → Page → Type 0
IsInLine pages q page = (page.0 < pages) × IsSome (next_copy q page) × (flying q page ≡ None)

abbrev pub AreApart : List Page → Type 0
AreApart [] = Unit {0}
AreApart (p ∷ ps) = AllByRecursion (λ (q : Page). q.0 ≡ p.0 → ⊥) ps × AreApart ps

-- a read that isn't newer found no copy of the page in the queue, or has brought what it may give
abbrev pub Brings : Bool → (List ℕ → List ℕ → Type 0) → Queue → List ℕ → Page → List ℕ → Via → Arrived → Type 0
Brings told answers q content page bytes via arrived.Waiting = newest q page ≡ None
Brings told answers q content page bytes via arrived.Came = MayGive told answers (origin_of via) content bytes
Brings told answers q content page bytes via _ = Unit {0}

abbrev pub IsFair : Bool → (List ℕ → List ℕ → Type 0) → ℕ → List ℕ → History → Queue → List ℕ → CallState → Type 0
IsFair told answers pages zeros H q bytes Idle = Unit {0}
IsFair told answers pages zeros H q bytes (Room page since) = page.0 < pages
IsFair told answers pages zeros H q bytes (Reading page newest via how newer since) =
    (page.0 < pages) × (newer ≡ false → Brings told answers q (array zeros H page) page bytes via how)

pub record Agrees (told : Bool) (answers : List ℕ → List ℕ → Type 0) (pages callers : ℕ) (zeros : List ℕ) (H : History)
    (q : Queue) (blocks : Option (List (List ℕ))) (flights : List Flight) (finished : Option Finished)
    (calls : Calls) : Type 0 where
  pub tells : is_some blocks ≡ told
  pub places_len : length q.places ≡ pages
  pub blocks_len : MatchOption blocks (Unit {0}) (λ bs. length bs ≡ pages)
  pub calls_len : length calls ≡ callers
  pub held : (p : Page) → p.0 < pages → HoldsPage (places_of q p) (block_in blocks p) (array zeros H p)
  pub expected : AllByRecursion (IsExpected told pages callers q calls) flights
  pub distinct : AreDistinct flights
  pub writes : writes_in flights ≡ flying_count q
  pub under_way : IsUnderWay blocks flights finished
  pub in_line : AllByRecursion (IsInLine pages q) q.line
  pub apart : AreApart q.line
  pub fair : AllByRecursion (λ (call : Call). IsFair told answers pages zeros H q call.bytes call.state) calls
  pub faithful : IsFaithfulOver told answers zeros H

abbrev pub AgreesAt : Bool → (List ℕ → List ℕ → Type 0) → Device → Port → Type 0
AgreesAt told answers d p =
    Agrees told answers (pages_of d.sizes) d.sizes.callers
    (zeros d.sizes) d.history d.queue p.blocks p.flights p.finished d.calls

-- what a device and its disk agree on
pub record FitsDisk (told : Bool) (answers : List ℕ → List ℕ → Type 0) (d : Device) (p : Port) : Type 0 where
  pub sizes : p.sizes ≡ d.sizes
  pub in_order : IsInOrder d
  pub agrees : AgreesAt told answers d p

-- what a device, its disk and its fabric agree on, where the fabric keeps, owes and answers by these tests
pub record Fits (told : Bool) (answers : List ℕ → List ℕ → Type 0) (keeps : Keeping) (owes : Owing) (d : Device)
    (p : Port) : Type 0 where
  pub disk : FitsDisk told answers d p
  pub serves : Serves keeps owes d.sizes d.lenders d.history d.calls d.remote
  pub accounts : Accounts answers d p.flights

-- a disk of these sizes that nothing was asked of, and whose blocks, where it tells them, are zeros
pub record IsBlank (s : Sizes) (p : Port) : Type 0 where
  pub sizes : p.sizes ≡ s
  pub flights : p.flights ≡ []
  pub finished : p.finished ≡ None
  pub blocks : MatchOption p.blocks (Unit {0}) (λ bs. bs ≡ replicate (pages_of s) (zeros s))
