-- The index of the slabs by their lenders, which no state depends on.
use Rattle.std.specs.Prelude.{◌≡◌, ℕ, ◌-◌, ◌<◌, ◌≤◌, ◌^◌, Bool, true, false, nat_lt, ◌&&◌, not, ◌==◌, if◌then◌else◌, List, [], ◌∷◌, length, count_by, find, option_map, slice_get, slice_index_or, Option, None, Some}
use Rattle.std.specs.List.{insert}
use Rattle.std.specs.List.Sorted.{IsNonDecreasingBy, IsPartitionPoint}
use Rattle.swap_base.specs.declared.Slab.{Slab}
use Rattle.swap_base.specs.declared.Lender.{Lender}
use Rattle.swap_base.specs.declared.Lease.{Lease}
use Rattle.swap_places.specs.Line.{stands}
use Rattle.swap_slabs.specs.declared.SlabState.{SlabState}
use Rattle.swap_slabs.specs.declared.row.Leased.{Leased}
use Rattle.swap_base.specs.declared.TheConstants.{MOST_LENDERS}
use Rattle.swap_slabs.specs.Slabs.{state_of, is_at, has_lease_at, has_lease, mapped_count}
use Rattle.swap_slabs.specs.Kept.{IsSlabs}

-- the slabs that borrow from a lender, the leases of those that are mapped or drain, and how many of each may be kept
pub record RowView : Type 0 where
  pub borrowing : List ℕ
  pub leases : List Leased
  pub room : ℕ

abbrev pub new_row : ℕ → RowView
new_row room = record { borrowing = []; leases = []; room = room }

abbrev pub has_number : Lease → Leased → Bool
has_number lease l = l.lease.0 == lease.0

abbrev pub is_entry : Lease → Slab → Leased → Bool
is_entry lease slab l = (l.lease.0 == lease.0) && (l.slab.0 == slab.0)

-- no lease is below one before it
abbrev pub number_of : Leased → ℕ
number_of l = l.lease.0

abbrev pub Ascend : List Leased → Type 0
Ascend leases = IsNonDecreasingBy number_of leases

-- the leases before a place are below this one, and the others aren't
abbrev pub is_below : Lease → Leased → Bool
is_below lease l = nat_lt (number_of l) lease.0

abbrev pub IsPlace : Lease → List Leased → ℕ → Type 0
IsPlace lease leases i = IsPartitionPoint (λ l. is_below lease l ≡ true) (λ l. is_below lease l ≡ false) leases i

-- one lease more stands somewhere among the others
abbrev pub Puts : RowView → Leased → RowView → Type 0
Puts before leased after =
    (i : ℕ) × (i ≤ length before.leases) × (after ≡ record before { leases = insert before.leases i leased })

-- a slab borrows, or no longer does, and nothing else is changed
pub record SetsBorrowing (before : RowView) (slab : Slab) (now : Bool) (after : RowView) : Type 0 where
  pub rest : after ≡ record before { borrowing = after.borrowing }
  pub each : (k : ℕ) → stands after.borrowing k ≡ (if slab.0 == k then now else stands before.borrowing k)

-- the leases without the first of this number
abbrev pub without_lease : Lease → List Leased → List Leased
without_lease lease [] = []
without_lease lease (l ∷ leases) = if has_number lease l then leases else l ∷ without_lease lease leases

abbrev pub slab_in : Lease → List Leased → Option Slab
slab_in lease leases = option_map (λ (l : Leased). l.slab) (find (has_number lease) leases)

-- a slab of the row: the last that has a lease, or else the first that borrows
abbrev pub last_or_first : Option Leased → Option ℕ → Option Slab
last_or_first None n = option_map (λ (n : ℕ). record { 0 = n }) n
last_or_first (Some l) n = Some l.slab

abbrev pub slab_of_row : RowView → Option Slab
slab_of_row row = last_or_first (slice_get row.leases (length row.leases - 1)) (slice_get row.borrowing 0)

abbrev pub row_of : List RowView → Lender → RowView
row_of rows lender = slice_index_or rows lender.0 (new_row 0)

abbrev pub one_if : Bool → ℕ
one_if b = if b then 1 else 0

-- the slab is borrowed from the lender and has no lease
abbrev pub borrows_from : Lender → SlabState → Bool
borrows_from lender state = is_at lender state && not (has_lease_at lender state)

-- a lender's row agrees with the states
pub record RowFits (states : List SlabState) (lender : Lender) (row : RowView) : Type 0 where
  pub borrowing : (slab : Slab) → stands row.borrowing slab.0 ≡ borrows_from lender (state_of states slab)
  pub leases :
      (lease : Lease) (slab : Slab)
      → count_by (λ l. is_entry lease slab l) row.leases ≡ one_if (has_lease lender lease (state_of states slab))
  pub number : length row.leases ≡ count_by (λ state. has_lease_at lender state) states
  pub room : length states ≤ row.room

-- and so does each, with the number of mapped slabs
pub record Fits (states : List SlabState) (table : List RowView) (mapped_slabs : ℕ) : Type 0 where
  pub slabs : IsSlabs states
  pub few : length states < 2 ^ 32
  pub rows : length table ≡ MOST_LENDERS
  pub row : (lender : Lender) → lender.0 < MOST_LENDERS → RowFits states lender (row_of table lender)
  pub mapped : mapped_slabs ≡ mapped_count states
