-- Where copies are kept: a list of cells, each free or with one copy. A page's flying copy and its next copy
-- are those of the cells that are marked for it.
use Rattle.std.specs.Prelude.{◌≡◌, ℕ, ◌≤◌, ◌<◌, Bool, true, false, ◌&&◌, ◌==◌, if◌then◌else◌, List, [], ◌∷◌, ◌++◌, map, length, sum_by, count_by, replicate, is_some, is_none, option_map, slice_index_or, Option, None, Some}
use Rattle.std.specs.List.{range_with_len}
use Rattle.swap_base.specs.declared.Page.{Page}
use Rattle.swap_base.specs.declared.EntryNo.{EntryNo}
use Rattle.swap_base.specs.Sizes.{Sizes, pages_of}
use Rattle.swap_queue.specs.declared.cell.Held.{Held}
use Rattle.swap_queue.specs.Queue.{Copy, Places, Queue, copies, one_if, waits_at}
use Rattle.swap_queue.specs.Kept.{IsQueue}

-- what a cell holds, and its bytes
pub record Kept : Type 0 where
  pub held : Option Held
  pub bytes : List ℕ

abbrev pub free_cell : Kept
free_cell = record { held = None; bytes = [] }

abbrev pub same : Bool → Bool → Bool
same true b = b
same false true = false
same false false = true

abbrev pub is_held_for : Bool → ℕ → Option Held → Bool
is_held_for flying page None = false
is_held_for flying page (Some h) = same flying h.flying && (h.page.0 == page)

-- the cell has the flying copy of the page, or its next copy
abbrev pub is_for : Bool → ℕ → Kept → Bool
is_for flying page cell = is_held_for flying page cell.held

abbrev pub is_used : Kept → Bool
is_used cell = is_some cell.held

abbrev pub is_free : Kept → Bool
is_free cell = is_none cell.held

abbrev pub copy_with : List ℕ → Option Held → Option Copy
copy_with bytes None = None
copy_with bytes (Some h) = Some (record { entry = h.entry; bytes = bytes })

abbrev pub copy_of : Kept → Option Copy
copy_of cell = copy_with cell.bytes cell.held

-- a copy's entry, and a copy on its way to the disk and back from it
abbrev pub entry_of : Option Held → Option EntryNo
entry_of held = option_map (λ (h : Held). h.entry) held

abbrev pub with_flying : Bool → Option Held → Option Held
with_flying flying None = None
with_flying flying (Some h) = Some (record { page = h.page; entry = h.entry; flying = flying })

abbrev pub land_after : Bool → Option Held → Option Held
land_after true held = with_flying false held
land_after false held = None

-- the first copy of a page that flies, or that is its next
abbrev pub copy_in : Bool → ℕ → List Kept → Option Copy
copy_in flying page [] = None
copy_in flying page (cell ∷ cells) = if is_for flying page cell then copy_of cell else copy_in flying page cells

abbrev pub places_at : List Kept → ℕ → Places
places_at cells page = record { flying = copy_in true page cells; next = copy_in false page cells }

abbrev pub places_in : ℕ → List Kept → List Places
places_in pages cells = map (λ page. places_at cells page) (range_with_len 0 pages)

-- the queue that cells and a line of pages mean
abbrev pub queue_in : Sizes → List Kept → List Page → Queue
queue_in s cells line = record { places = places_in (pages_of s) cells; line = line; capacity = s.queue }

-- a line with a page at its back, where the page is to wait
abbrev pub line_with : List Page → Page → Bool → List Page
line_with line page waits = if waits then line ++ page ∷ [] else line

-- what the cells and the line keep: no page has two copies of one kind, and each copy has a cell
pub record Fits (s : Sizes) (cells : List Kept) (line : List Page) : Type 0 where
  pub queue : IsQueue s (queue_in s cells line)
  pub room : length cells ≡ s.queue
  pub sized : (i : ℕ) → i < length cells → length (slice_index_or cells i free_cell).bytes ≡ s.page_bytes
  pub single : (flying : Bool) (page : ℕ) → count_by (is_for flying page) cells ≤ 1
  pub used : count_by is_used cells ≡ copies (queue_in s cells line)
  pub waiting : length line ≡ sum_by (λ (p : Places). one_if (waits_at p)) (places_in (pages_of s) cells)

abbrev pub free_cells : ℕ → ℕ → List Kept
free_cells count page_bytes = replicate count (record { held = None; bytes = replicate page_bytes 0 })
