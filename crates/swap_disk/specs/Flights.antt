-- How operations in flight are kept in memory, and what the disk keeps of them.
use Rattle.std.specs.Prelude.{◌≡◌, ℕ, ◌+◌, ◌-◌, ◌<◌, ◌^◌, Bool, true, nat_lt, if◌then◌else◌, List, [], map, length, find, IsSome, slice_index_or, Option, None, Some}
use Rattle.std.specs.List.{filter}
use Rattle.swap_base.specs.declared.Page.{Page}
use Rattle.swap_base.specs.declared.DiskWhich.{DiskWhich}
use Rattle.swap_base.specs.declared.DiskWhich.TheVariants as which
use Rattle.swap_base.specs.Sizes.{Sizes, pages_of}
use Rattle.swap_places.specs.Line.{Line, stands}
use Rattle.swap_disk.specs.declared.mem_disk.Ended.{Ended}
use Rattle.swap_disk.specs.Disk.{Flight, Write, Read, is_flight_of, Finished, blocks_after}
use Rattle.swap_store.specs.Blocks.{Blocks}
use Rattle.swap_disk.specs.MemDiskView.{MemDiskView}

-- the operations in flight in the order of their start, with the sizes of their disk
pub record FlightsView : Type 0 where
  pub sizes : Sizes
  pub flights : List Flight

-- the number of an operation: of a write its page, and behind all pages of a read its caller
abbrev pub number_of : Sizes → DiskWhich → ℕ
number_of s (which.Write page) = page.0
number_of s (which.Read caller) = pages_of s + caller.0

-- there is its page or its caller
abbrev pub is_known : Sizes → DiskWhich → Bool
is_known s (which.Write page) = nat_lt page.0 (pages_of s)
is_known s (which.Read caller) = nat_lt caller.0 s.callers

-- the operation of a number, of a disk whose oldest is asked for
abbrev pub which_at : Sizes → ℕ → DiskWhich
which_at s n =
    if nat_lt n (pages_of s) then which.Write (record { 0 = n }) else which.Read (record { 0 = n - pages_of s })

abbrev pub bytes_kept : Option (List ℕ) → List ℕ
bytes_kept None = []
bytes_kept (Some bytes) = bytes

-- the page that a caller reads, and the bytes that a page's write keeps
abbrev pub page_read : List Page → ℕ → Page
page_read reading caller = slice_index_or reading caller (record { 0 = 0 })

abbrev pub bytes_at : List (Option (List ℕ)) → ℕ → List ℕ
bytes_at kept page = bytes_kept (slice_index_or kept page None)

-- the operation of a number
abbrev pub flight_at : Sizes → List Page → List (Option (List ℕ)) → ℕ → Flight
flight_at s reading kept n =
    if nat_lt n (pages_of s) then Write (record { 0 = n }) (bytes_at kept n)
    else Read (record { 0 = n - pages_of s }) (page_read reading (n - pages_of s))

abbrev pub flights_in : Sizes → List Page → List (Option (List ℕ)) → List ℕ → List Flight
flights_in s reading kept numbers = map (λ n. flight_at s reading kept n) numbers

-- the pages among these numbers
abbrev pub pages_among : Sizes → List ℕ → List ℕ
pages_among s numbers = filter (λ n. nat_lt n (pages_of s)) numbers

-- a write's bytes are a page's
abbrev pub IsPage : Sizes → Option (List ℕ) → Type 0
IsPage s kept = IsSome kept × (length (bytes_kept kept) ≡ s.page_bytes)

-- all operations stand in a line in the order of their start, and the writes in one more; a read has its page, a
-- write its bytes, and there is room for each write that may be started
pub record AreKept (s : Sizes) (order writes : Line) (reading : List Page) (kept : List (Option (List ℕ)))
    (spare : List (List ℕ)) : Type 0 where
  pub order_bound : order.bound ≡ pages_of s + s.callers
  pub writes_bound : writes.bound ≡ pages_of s
  pub writes_are : writes.numbers ≡ pages_among s order.numbers
  pub reading_len : length reading ≡ s.callers
  pub kept_len : length kept ≡ pages_of s
  pub room : length spare + length writes.numbers ≡ s.queue
  pub spare_fits : (i : ℕ) (d : List ℕ) → i < length spare → length (slice_index_or spare i d) ≡ s.page_bytes
  pub kept_fits : (page : ℕ) → stands writes.numbers page ≡ true → IsPage s (slice_index_or kept page None)
  pub reads_fit :
      (caller : ℕ) → stands order.numbers (pages_of s + caller) ≡ true → (page_read reading caller).0 < pages_of s

-- the operation that has finished, as it was started
abbrev pub ended_as : Bool → Option Flight → Option Finished
ended_as ok None = None
ended_as ok (Some flight) = Some (record { flight = flight; ok = ok })

abbrev pub ended_in : List Flight → Option Ended → Option Finished
ended_in flights None = None
ended_in flights (Some e) = ended_as e.ok (find (is_flight_of e.which) flights)

abbrev pub drive_in : Blocks → FlightsView → Option Ended → ℕ → MemDiskView
drive_in store flying ended faults =
    record {
      sizes = flying.sizes;
      disk =
          record {
            blocks = store.blocks;
            flights = flying.flights;
            finished = ended_in flying.flights ended;
            faults = faults;
          };
    }

abbrev pub Stands : List Flight → Option Ended → Type 0
Stands flights None = Unit {0}
Stands flights (Some e) = IsSome (find (is_flight_of e.which) flights)

-- the blocks after the operation that was found finished
abbrev pub settled_by : List (List ℕ) → Option Flight → Bool → List (List ℕ)
settled_by blocks None ok = blocks
settled_by blocks (Some flight) ok = blocks_after blocks flight ok

-- what a buffer holds after an operation: the block of a read that is ok
abbrev pub buffer_after : Blocks → DiskWhich → Page → Bool → List ℕ → List ℕ
buffer_after store (which.Write other) page ok buf = buf
buffer_after store (which.Read caller) page ok buf = if ok then slice_index_or store.blocks page.0 [] else buf

-- what has finished is in flight
pub record Holds (store : Blocks) (flying : FlightsView) (ended : Option Ended) (faults : ℕ) : Type 0 where
  pub page_bytes : store.page_bytes ≡ flying.sizes.page_bytes
  pub pages : length store.blocks ≡ pages_of flying.sizes
  pub stands : Stands flying.flights ended
  pub faults_fit : faults < 2 ^ 64
