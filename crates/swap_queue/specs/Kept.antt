-- What every queue keeps that the moves make of the empty one, and what a move leaves of other pages.
use Rattle.std.specs.Prelude.{◌≡◌, ◌≢◌, ℕ, ◌<◌, ◌≤◌, true, ◌==◌, List, ◌∷◌, length, count_by, IfSome, IsSome, Option, None, Some}
use Rattle.swap_base.specs.declared.Page.{Page}
use Rattle.swap_base.specs.Sizes.{Sizes, pages_of}
use Rattle.swap_queue.specs.Queue.{Copy, Places, Queue, empty, places_of, flying, next_copy, newest, copies, has_room, one_if, waits, put_after, start, done_after, failed_after}

-- how often a page stands in a line
abbrev pub times_in : List Page → Page → ℕ
times_in line page = count_by (λ (p : Page). p.0 == page.0) line

-- a copy, where there is one, has the bytes of one page
abbrev pub FillsPage : Sizes → Option Copy → Type 0
FillsPage s copy = IfSome copy (λ (c : Copy). length c.bytes ≡ s.page_bytes)

-- every page has its places, no more copies are kept than the geometry allows, each has a page's bytes, and
-- the line holds, each once, exactly the pages that wait
pub record IsQueue (s : Sizes) (q : Queue) : Type 0 where
  pub pages : length q.places ≡ pages_of s
  pub capacity : q.capacity ≡ s.queue
  pub within : copies q ≤ q.capacity
  pub line : (page : Page) → times_in q.line page ≡ one_if (waits q page)
  pub flying_fills : (page : Page) → FillsPage s (flying q page)
  pub next_fills : (page : Page) → FillsPage s (next_copy q page)

-- one page has new places, and every other keeps its own
pub record SetsPlaces (before now : Queue) (page : Page) (places : Places) : Type 0 where
  pub here : places_of now page ≡ places
  pub others : (other : Page) → other.0 ≢ page.0 → places_of now other ≡ places_of before other

abbrev pub EmptyKeeps : Type 0
EmptyKeeps = (s : Sizes) → IsQueue s (empty (pages_of s) s.queue)

-- what each move keeps, and the places that it leaves
abbrev pub PutKeeps : Type 0
PutKeeps =
    (s : Sizes) (q : Queue) (page : Page) (copy : Copy) → IsQueue s q → page.0 < pages_of s
    → length copy.bytes ≡ s.page_bytes → has_room q page ≡ true
    → IsQueue s (put_after q page copy)
    × SetsPlaces q (put_after q page copy) page (record { flying = flying q page; next = Some copy })

abbrev pub StartKeeps : Type 0
StartKeeps = (s : Sizes) (q : Queue) → IsQueue s q → IsQueue s (start q)

-- the page at the front has a next copy and none flying, and leaves with it
pub record StartsFront (s : Sizes) (q : Queue) (page : Page) : Type 0 where
  pub within : page.0 < pages_of s
  pub waited : waits q page ≡ true
  pub sets : SetsPlaces q (start q) page (record { flying = next_copy q page; next = None })

abbrev pub StartSets : Type 0
StartSets =
    (s : Sizes) (q : Queue) (page : Page) (line : List Page) → IsQueue s q → q.line ≡ page ∷ line → StartsFront s q page

abbrev pub DoneKeeps : Type 0
DoneKeeps =
    (s : Sizes) (q : Queue) (page : Page) → IsQueue s q → IsSome (flying q page)
    → IsQueue s (done_after q page) × SetsPlaces q (done_after q page) page
    (record { flying = None; next = next_copy q page })

abbrev pub FailedKeeps : Type 0
FailedKeeps =
    (s : Sizes) (q : Queue) (page : Page) → IsQueue s q → IsSome (flying q page)
    → IsQueue s (failed_after q page) × SetsPlaces q (failed_after q page) page
    (record { flying = None; next = newest q page })

-- a page with a copy is a page of the device
abbrev pub CopiesInRange : Type 0
CopiesInRange = (s : Sizes) (q : Queue) (page : Page) → IsQueue s q → IsSome (newest q page) → page.0 < pages_of s
