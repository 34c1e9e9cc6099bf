-- Where each page's copies are found: a table from the page to the cells of its flying and its next copy, and
-- the list of the cells that are free.
use Rattle.std.specs.Prelude.{◌≡◌, ℕ, ◌+◌, ◌≤◌, ◌<◌, Bool, true, false, ◌&&◌, ◌==◌, nat_lt, if◌then◌else◌, List, [], ◌∷◌, ◌++◌, ◌⊎◌, map, length, count_by, position, slice_index_or, Option, None, Some}
use Rattle.std.specs.List.{range_with_len}
use Rattle.swap_base.specs.declared.Page.{Page}
use Rattle.swap_base.specs.Sizes.{Sizes, pages_of}
use Rattle.swap_queue.specs.declared.store.Spot.{Spot}
use Rattle.swap_queue.specs.Queue.{one_if}
use Rattle.swap_queue.specs.Cells.{Kept, free_cell, is_for, is_used, is_free, copy_in, Fits}

-- the cells, and for how many pages there is a table
pub record StoreView : Type 0 where
  pub cells : List Kept
  pub pages : ℕ

abbrev pub no_spot : Spot
no_spot = record { flying = None; next = None }

-- a page's places
abbrev pub spot_in : List Kept → ℕ → Spot
spot_in cells page = record { flying = position (is_for true page) cells; next = position (is_for false page) cells }

abbrev pub spots_in : ℕ → List Kept → List Spot
spots_in pages cells = map (λ page. spot_in cells page) (range_with_len 0 pages)

-- one for a number below the bound
abbrev pub one_below : ℕ → ℕ → ℕ
one_below count i = one_if (nat_lt i count)

-- how often a place stands in a list of them
abbrev pub times_free : List ℕ → ℕ → ℕ
times_free free i = count_by (λ j. j == i) free

-- one for a cell that is free
abbrev pub one_free : List Kept → ℕ → ℕ
one_free cells i = one_if (nat_lt i (length cells) && is_free (slice_index_or cells i free_cell))

-- no page has two copies of one kind, the table has the places of each page's copies, and the list has each free
-- cell once
pub record IsStored (cells : List Kept) (spots : List Spot) (free : List ℕ) (room : ℕ) : Type 0 where
  pub single : (flying : Bool) (page : ℕ) → count_by (is_for flying page) cells ≤ 1
  pub table : spots ≡ spots_in (length spots) cells
  pub once : (i : ℕ) → times_free free i ≡ one_free cells i
  pub used : length free + count_by is_used cells ≡ length cells
  pub within : length cells ≤ room

-- a place for a page-out of the page has the page's next copy, or is free where there is none
abbrev pub IsPlace : List Kept → ℕ → ℕ → Type 0
IsPlace cells page i =
    (is_for false page (slice_index_or cells i free_cell) ≡ true)
    ⊎ (((slice_index_or cells i free_cell).held ≡ None) × (copy_in false page cells ≡ None))

abbrev pub IsPlaceFor : List Kept → ℕ → ℕ → Type 0
IsPlaceFor cells page i = (i < length cells) × IsPlace cells page i

-- there is such a place
abbrev pub HasRoom : List Kept → ℕ → Type 0
HasRoom cells page = copy_in false page cells ≡ None → count_by is_used cells < length cells

-- each cell has so many bytes
abbrev pub IsSized : List Kept → ℕ → Type 0
IsSized cells size = (i : ℕ) → i < length cells → length (slice_index_or cells i free_cell).bytes ≡ size

-- the free places with one more, where it is to be free
abbrev pub free_list_after : List ℕ → ℕ → Bool → List ℕ
free_list_after free place frees = if frees then free ++ place ∷ [] else free

-- which place is taken: that of a next copy, else the last one that is free
abbrev pub Takes : Option ℕ → List ℕ → ℕ → List ℕ → Type 0
Takes None free place rest = free ≡ rest ++ place ∷ []
Takes (Some next) free place rest = (place ≡ next) × (rest ≡ free)

-- what the queue keeps: its copies in cells, a table for its pages, and room in the line for every page that may wait
abbrev pub BehindFits : Sizes → StoreView → List Page → ℕ → Type 0
BehindFits s stored line room = Fits s stored.cells line × (s.queue ≤ room) × (stored.pages ≡ pages_of s)
