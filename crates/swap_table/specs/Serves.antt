-- What a device and its fabric agree on, between any two of the device's calls: the requests under way on each link,
-- the
-- slabs and the calls that wait for them, and the pages that lenders keep and owe.
use Rattle.std.specs.Prelude.{◌≡◌, ◌≢◌, ℕ, ◌<◌, ◌≤◌, Bool, true, false, ◌==◌, if◌then◌else◌, List, [], ◌∷◌, length, count_by, IsSome, Option, None, Some}
use Rattle.std.specs.List.{AllByRecursion}
use Rattle.swap_base.specs.declared.Page.{Page}
use Rattle.swap_base.specs.declared.Slab.{Slab}
use Rattle.swap_base.specs.declared.Lender.{Lender}
use Rattle.swap_base.specs.declared.Lease.{Lease}
use Rattle.swap_base.specs.declared.EntryNo.{EntryNo}
use Rattle.swap_base.specs.declared.Via.TheVariants as via
use Rattle.swap_base.specs.Sizes.{Sizes, pages_of, slab_of, place_of, zeros}
use Rattle.swap_record.specs.History.{History, Row, array, last, row_named, is_out_of}
use Rattle.swap_queue.specs.Queue.{first_of}
use Rattle.swap_calls.specs.Calls.{Calls, state_of}
use Rattle.swap_calls.specs.declared.Arrived.TheVariants as arrived
use Rattle.swap_calls.specs.declared.CallState.{CallState}
use Rattle.swap_calls.specs.declared.CallState.TheVariants.{Reading}
use Rattle.swap_slabs.specs.Slabs as slabs
use Rattle.swap_slabs.specs.declared.SlabState.{SlabState}
use Rattle.swap_slabs.specs.declared.SlabState.TheVariants.{Local, Asking, Borrowing, Mapped, Draining}
use Rattle.swap_base.specs.declared.TheConstants.{MOST_LENDERS}
use Rattle.swap_rings.specs.Rings.{LinkState, is_up, ring_of, link_of}
use Rattle.swap_rings.specs.declared.Request.{Request}
use Rattle.swap_rings.specs.declared.Request.TheVariants.{Query, Borrow, Write, Read}
use Rattle.swap_remote.specs.Remote.{Remote, state_for, has_page}

-- what a fabric's tests say: the bytes that a lender keeps at a place of a lease, and the pages that its link owes
abbrev pub Keeping : Type 1
Keeping = Lender → Lease → ℕ → List ℕ → Type 0

abbrev pub Owing : Type 1
Owing = Lender → List (List ℕ) → Type 0

-- a request for a page of this slab
abbrev pub is_for_slab : Sizes → Slab → Request → Bool
is_for_slab s slab (Query other) = false
is_for_slab s slab (Borrow other) = false
is_for_slab s slab (Write page entry) = slab_of s page.0 == slab.0
is_for_slab s slab (Read caller page) = slab_of s page.0 == slab.0

-- how many requests of a ring are for pages of this slab
abbrev pub flying_for : Sizes → Slab → List Request → ℕ
flying_for s slab ring = count_by (is_for_slab s slab) ring

-- the entry that a request writes to this page
abbrev pub entry_to : Page → Request → Option EntryNo
entry_to page (Query slab) = None
entry_to page (Borrow slab) = None
entry_to page (Write other entry) = if other.0 == page.0 then Some entry else None
entry_to page (Read caller other) = None

-- the entry that the last of a ring's writes to this page writes
abbrev pub latest_write : Page → List Request → Option EntryNo
latest_write page [] = None
latest_write page (request ∷ ring) = first_of (latest_write page ring) (entry_to page request)

-- the entry is a page-out of this page
abbrev pub IsOutIn : Page → Option Row → Type 0
IsOutIn page None = ⊥
IsOutIn page (Some row) = is_out_of page row ≡ true

abbrev pub IsOut : History → Page → EntryNo → Type 0
IsOut H page entry = IsOutIn page (row_named H entry.0)

-- the bytes of an entry
abbrev pub bytes_in : Option Row → List ℕ
bytes_in None = []
bytes_in (Some row) = row.bytes

abbrev pub bytes_of : History → EntryNo → List ℕ
bytes_of H entry = bytes_in (row_named H entry.0)

-- a slab is mapped to this lender, or drains there
abbrev pub IsLeasedFrom : Lender → SlabState → Type 0
IsLeasedFrom l Local = ⊥
IsLeasedFrom l (Asking pair) = ⊥
IsLeasedFrom l (Borrowing other) = ⊥
IsLeasedFrom l (Mapped other lease flying) = other.0 ≡ l.0
IsLeasedFrom l (Draining other lease flying) = other.0 ≡ l.0

-- a call waits for this lender to read this page
abbrev pub WaitsFrom : Lender → Page → CallState → Type 0
WaitsFrom l page (Reading q newest (via.Lender other) arrived.Waiting newer since) = (q.0 ≡ page.0) × (other.0 ≡ l.0)
WaitsFrom l page _ = ⊥

-- a request under way has what waits for its answer
abbrev pub IsAwaited : Sizes → History → Calls → List SlabState → Lender → Request → Type 0
IsAwaited s H calls states l (Query slab) = (slab.0 < s.slabs) × (slabs.asks l (slabs.state_of states slab) ≡ true)
IsAwaited s H calls states l (Borrow slab) = (slab.0 < s.slabs) × (slabs.state_of states slab ≡ Borrowing l)
IsAwaited s H calls states l (Write page entry) =
    (page.0 < pages_of s) × IsLeasedFrom l (state_for s states page) × IsOut H page entry
IsAwaited s H calls states l (Read caller page) =
    (caller.0 < s.callers) × (page.0 < pages_of s) × IsLeasedFrom l (state_for s states page)
    × WaitsFrom l page (state_of calls caller)

-- of two requests on one link, the earlier first: the writes of a page ascend, and no read of a page follows a write of
-- it; no caller reads twice, and no slab is asked for or borrowed twice
abbrev pub MayPrecede : Request → Request → Type 0
MayPrecede (Query slab) (Query other) = slab.0 ≢ other.0
MayPrecede (Query slab) (Borrow other) = Unit {0}
MayPrecede (Query slab) (Write page entry) = Unit {0}
MayPrecede (Query slab) (Read caller page) = Unit {0}
MayPrecede (Borrow slab) (Query other) = Unit {0}
MayPrecede (Borrow slab) (Borrow other) = slab.0 ≢ other.0
MayPrecede (Borrow slab) (Write page entry) = Unit {0}
MayPrecede (Borrow slab) (Read caller page) = Unit {0}
MayPrecede (Write page entry) (Query slab) = Unit {0}
MayPrecede (Write page entry) (Borrow slab) = Unit {0}
MayPrecede (Write page entry) (Write other later) = page.0 ≡ other.0 → entry.0 < later.0
MayPrecede (Write page entry) (Read caller other) = page.0 ≢ other.0
MayPrecede (Read caller page) (Query slab) = Unit {0}
MayPrecede (Read caller page) (Borrow slab) = Unit {0}
MayPrecede (Read caller page) (Write other entry) = Unit {0}
MayPrecede (Read caller page) (Read other later) = caller.0 ≢ other.0

abbrev pub AreInOrder : List Request → Type 0
AreInOrder [] = Unit {0}
AreInOrder (request ∷ ring) = AllByRecursion (MayPrecede request) ring × AreInOrder ring

-- the page owed to a call is the bytes of the entry that it keeps, newer or not
abbrev pub IsContent : History → List ℕ → Page → CallState → Type 0
IsContent H page p (Reading q newest via how newer since) = IsOut H p newest × (page ≡ bytes_of H newest)
IsContent H page p _ = Unit {0}

-- a link owes one page for each read of its ring, in order
abbrev pub AreOwed : History → Calls → List Request → List (List ℕ) → Type 0
AreOwed H calls [] [] = Unit {0}
AreOwed H calls [] (page ∷ pages) = ⊥
AreOwed H calls (Query slab ∷ ring) pages = AreOwed H calls ring pages
AreOwed H calls (Borrow slab ∷ ring) pages = AreOwed H calls ring pages
AreOwed H calls (Write p entry ∷ ring) pages = AreOwed H calls ring pages
AreOwed H calls (Read caller p ∷ ring) [] = ⊥
AreOwed H calls (Read caller p ∷ ring) (page ∷ pages) =
    IsContent H page p (state_of calls caller) × AreOwed H calls ring pages

pub record OwesReads (owes : Owing) (H : History) (calls : Calls) (l : Lender) (ring : List Request) : Type 0 where
  pub pages : List (List ℕ)
  pub owed : owes l pages
  pub reads : AreOwed H calls ring pages

-- a link: one that is down has nothing under way; one that is up leads to a lender and owes its reads' pages
pub record LinkFits (owes : Owing) (s : Sizes) (lenders : ℕ) (H : History) (calls : Calls) (states : List SlabState)
    (l : Lender) (link : LinkState) : Type 0 where
  pub quiet : link.up ≡ false → link.ring ≡ []
  pub lender : link.up ≡ true → l.0 < lenders
  pub awaited : AllByRecursion (IsAwaited s H calls states l) link.ring
  pub ordered : AreInOrder link.ring
  pub owed : link.up ≡ true → OwesReads owes H calls l link.ring

-- a slab that is borrowed or leased: its lender's link is up, and so many requests for its pages are under way there
abbrev pub SlabFits : Sizes → List LinkState → Slab → SlabState → Type 0
SlabFits s links slab Local = Unit {0}
SlabFits s links slab (Asking pair) = Unit {0}
SlabFits s links slab (Borrowing l) = is_up links l ≡ true
SlabFits s links slab (Mapped l lease flying) = (is_up links l ≡ true) × (flying ≡ flying_for s slab (ring_of links l))
SlabFits s links slab (Draining l lease flying) =
    (is_up links l ≡ true) × (flying ≡ flying_for s slab (ring_of links l))

-- the lender keeps what the last write of a page writes
abbrev pub IsWriteKept : Keeping → History → Lender → Lease → ℕ → Option EntryNo → Type 0
IsWriteKept keeps H l lease place None = Unit {0}
IsWriteKept keeps H l lease place (Some entry) = keeps l lease place (bytes_of H entry)

-- the page of a set bit was paged out, no write of it is under way, and the lender keeps its content
pub record IsReadable (keeps : Keeping) (z : List ℕ) (H : History) (page : Page) (l : Lender) (lease : Lease)
    (place : ℕ) (ring : List Request) : Type 0 where
  pub some : IsSome (last H page)
  pub none : latest_write page ring ≡ None
  pub kept : keeps l lease place (array z H page)

-- a page, by its slab and its bit
abbrev pub PageFits : Keeping → Sizes → History → List LinkState → Page → Bool → SlabState → Type 0
PageFits keeps s H links page bit Local = bit ≡ false
PageFits keeps s H links page bit (Asking pair) = bit ≡ false
PageFits keeps s H links page bit (Borrowing l) = bit ≡ false
PageFits keeps s H links page bit (Mapped l lease flying) =
    (bit ≡ true → IsReadable keeps (zeros s) H page l lease (place_of s page.0) (ring_of links l))
    × IsWriteKept keeps H l lease (place_of s page.0) (latest_write page (ring_of links l))
PageFits keeps s H links page bit (Draining l lease flying) = bit ≡ false

-- a lease of a lender is held by at most one slab
abbrev pub AreSingle : List SlabState → Type 0
AreSingle states = (l : Lender) (lease : Lease) → count_by (λ state. slabs.has_lease l lease state) states ≤ 1

-- what device and fabric agree on
pub record Serves (keeps : Keeping) (owes : Owing) (s : Sizes) (lenders : ℕ) (H : History) (calls : Calls)
    (r : Remote) : Type 0 where
  pub slabs_len : length r.slabs ≡ s.slabs
  pub bits_len : length r.bits ≡ pages_of s
  pub links_len : length r.links ≡ MOST_LENDERS
  pub few : lenders ≤ MOST_LENDERS
  pub calls_len : length calls ≡ s.callers
  pub single : AreSingle r.slabs
  pub slab : (slab : Slab) → slab.0 < s.slabs → SlabFits s r.links slab (slabs.state_of r.slabs slab)
  pub link : (l : Lender) → LinkFits owes s lenders H calls r.slabs l (link_of r.links l)
  pub page : (p : Page) → p.0 < pages_of s → PageFits keeps s H r.links p (has_page r p) (state_for s r.slabs p)
