-- What the calls do to the cells, from what they read and wrote.
use Rattle.std.proofs.Common.{◌≡◌, ℕ, ◌<◌, ◌≤◌, Bool, true, false, ◌||◌, not, nat_lt, List, [], ◌∷◌, length, set, refl, sym, ap, ◌∙◌, subst, arith, is_some, is_none, Option, None, Some, IsSome, IfSome, option_map, position, sum_by, count_by, ltb-true, zero, suc, cond, replicate, ext_get_or}
use Rattle.std.proofs.lemmas.Bool.{false≢true, and_parts}
use Rattle.std.proofs.lemmas.List.{get_or-replicate, length-replicate}
use Rattle.std.proofs.lemmas.List.Folds.{sum_by-replicate}
use Rattle.std.proofs.lemmas.List.FromFn.{length-map-range_with_len, get_or-map-range_with_len}
use Rattle.std.proofs.lemmas.List.Quantifiers.{position-Some}
use Rattle.std.proofs.lemmas.List.Sums.{sum_by-le-sum_by}
use Rattle.swap_base.specs.declared.Page.{Page}
use Rattle.swap_base.specs.declared.EntryNo.{EntryNo}
use Rattle.swap_base.specs.Sizes.{Sizes, pages_of}
use Rattle.swap_queue.specs.declared.Failed.{Failed}
use Rattle.swap_queue.specs.declared.Failed.TheVariants as fate
use Rattle.swap_queue.specs.declared.cell.Held.{Held}
use Rattle.swap_queue.specs.Queue.{Copy, Places, Queue, flying, next_copy, newest, first_of, copies, copies_at, has_room, one_if, waits, waits_at, empty, front, front_of, put_after, start, done_after, failed_after}
use Rattle.swap_queue.specs.Kept.{IsQueue}
use Rattle.swap_queue.specs.BehindView.{bytes_or, started_answer, started_bytes, failed_answer}
use Rattle.swap_queue.specs.Cells.{Kept, free_cell, is_for, is_used, copy_with, copy_of, entry_of, with_flying, land_after, copy_in, places_at, places_in, queue_in, line_with, Fits, free_cells}
use Rattle.swap_queue.specs.Stored.{IsPlaceFor, HasRoom}
use Rattle.swap_queue.proofs.Copies.{cell_at, copy_in-here, copy_in-none, used_for}
use Rattle.swap_queue.proofs.Keeps.{empty_keeps, front_waits, start_sets, flying_in_range}
use Rattle.swap_queue.proofs.PlaceOf.{count_none}
use Rattle.swap_queue.proofs.CellMoves.{places_of_cells}
use Rattle.swap_queue.proofs.BehindMoves.{Moved, next_is, flying_is, length-longer, put_moves, two_places}
use Rattle.swap_queue.proofs.EndMoves.{found_is, start_moves, done_moves, failed_moves}

-- no more pages wait than there are copies
waits_le_of : (f n : Option Copy) → one_if (waits_at (record { flying = f; next = n })) ≤ copies_at (record { flying = f; next = n })
waits_le_of None None = omega arith
waits_le_of None (Some n) = omega arith
waits_le_of (Some f) None = omega arith
waits_le_of (Some f) (Some n) = omega arith

waits_le : (p : Places) → one_if (waits_at p) ≤ copies_at p
waits_le p = waits_le_of p.flying p.next

pub line_fits : (s : Sizes) (cells : List Kept) (line : List Page) → Fits s cells line → length line ≤ s.queue
line_fits s cells line h =
    omega (arith, h.waiting, sum_by-le-sum_by (λ (p : Places). one_if (waits_at p)) copies_at (places_in (pages_of s) cells) (λ p. waits_le p), h.queue.within)

-- there was room in the line for a page that joined it
pub line_room :
    (s : Sizes) (cells : List Kept) (line : List Page) (page : Page) (w : Bool) (q : Queue) → Moved s cells (line_with line page w) q → w ≡ true
    → length line < s.queue
line_room s cells line page w q moved joined = omega (arith, line_fits s cells (line_with line page w) moved.fits, length-longer line page w, ap one_if joined)

pub not_some : {X : Type 0} (o : Option X) → not (is_some o) ≡ is_none o
not_some None = refl
not_some (Some x) = refl

module _ (s : Sizes) (cells : List Kept) (line : List Page) (h : Fits s cells line) where
  abbrev q : Queue
  q = queue_in s cells line

  -- a copy is that of the cell where it was found
  found_copy :
      (k : Bool) (p i : ℕ) → position (is_for k p) cells ≡ Some i
      → (i < length cells) × (is_for k p (cell_at cells i) ≡ true) × (copy_in k p cells ≡ copy_of (cell_at cells i))
  found_copy k p i e = let at = position-Some (is_for k p) cells i free_cell e in (at.0, at.1, copy_in-here k p cells i (h.single k p) at.0 at.1)

  module _ (page : Page) (lt : page.0 < pages_of s) where
    newest_is : newest q page ≡ first_of (copy_in false page.0 cells) (copy_in true page.0 cells)
    newest_is = ap (λ (x : Places). first_of x.next x.flying) (places_of_cells s cells line page lt)

    first_used : (bytes : List ℕ) (held : Option Held) (o : Option Copy) → is_some held ≡ true → first_of (copy_with bytes held) o ≡ copy_with bytes held
    first_used bytes None o e = absurd (false≢true e)
    first_used bytes (Some x) o e = refl

    newest_of : (next : Option ℕ) (i : ℕ) → position (is_for false page.0) cells ≡ next → first_of next (position (is_for true page.0) cells) ≡ Some i
        → (i < length cells) × (is_used (cell_at cells i) ≡ true) × (newest q page ≡ copy_of (cell_at cells i))
    newest_of None i none e =
        let f = found_copy true page.0 i e in
        let lost : copy_in false page.0 cells ≡ None = copy_in-none false page.0 cells (count_none (is_for false page.0) cells none) in
        (f.0, used_for true page.0 (cell_at cells i).held f.1, newest_is ∙ ap (λ o. first_of o (copy_in true page.0 cells)) lost ∙ f.2)
    newest_of (Some j) i some e =
        let f = found_copy false page.0 i (some ∙ e) in (
          f.0,
          used_for false page.0 (cell_at cells i).held f.1,
          newest_is ∙ ap (λ o. first_of o (copy_in true page.0 cells)) f.2
              ∙ first_used (cell_at cells i).bytes (cell_at cells i).held (copy_in true page.0 cells) (used_for false page.0 (cell_at cells i).held f.1),
        )

    pub newest_found :
        (i : ℕ) → first_of (position (is_for false page.0) cells) (position (is_for true page.0) cells) ≡ Some i
        → (i < length cells) × (is_used (cell_at cells i) ≡ true) × (newest q page ≡ copy_of (cell_at cells i))
    newest_found i e = newest_of (position (is_for false page.0) cells) i refl e

    first_some :
        {X Y : Type 0} (a b : Option X) (c d : Option Y) → is_some a ≡ is_some c → is_some b ≡ is_some d → is_some (first_of a b) ≡ is_some (first_of c d)
    first_some None b None d e f = f
    first_some None b (Some c) d e f = absurd (false≢true e)
    first_some (Some a) b None d e f = absurd (false≢true (sym e))
    first_some (Some a) b (Some c) d e f = refl

    pub newest_some : is_some (first_of (position (is_for false page.0) cells) (position (is_for true page.0) cells)) ≡ is_some (newest q page)
    newest_some =
        first_some (position (is_for false page.0) cells) (position (is_for true page.0) cells) (copy_in false page.0 cells) (copy_in true page.0 cells)
        (found_is false page.0 cells (h.single false page.0)) (found_is true page.0 cells (h.single true page.0))
        ∙ sym (ap (λ (o : Option Copy). is_some o) newest_is)

    none_of_some : {X : Type 0} (o : Option X) → is_some o ≡ false → o ≡ None
    none_of_some None e = refl
    none_of_some (Some x) e = absurd (false≢true (sym e))

    pub newest_lost : first_of (position (is_for false page.0) cells) (position (is_for true page.0) cells) ≡ None → newest q page ≡ None
    newest_lost e = none_of_some (newest q page) (sym newest_some ∙ ap (λ (o : Option ℕ). is_some o) e)

    pub next_found : is_some (position (is_for false page.0) cells) ≡ is_some (next_copy q page)
    next_found = found_is false page.0 cells (h.single false page.0) ∙ sym (ap (λ (o : Option Copy). is_some o) (next_is s cells line page lt))

    room_of : (o : Option Copy) → o ≡ None → (is_some o || nat_lt (copies q) s.queue) ≡ true → copies q < s.queue
    room_of None e room = ltb-true (copies q) s.queue room
    room_of (Some x) e room = cc

    pub has_room_next : is_some (position (is_for false page.0) cells) ≡ true → has_room q page ≡ true
    has_room_next e = ap (λ b. b || nat_lt (copies q) s.queue) (sym next_found ∙ e)

    pub has_room_else :
        (n m : ℕ) → is_some (position (is_for false page.0) cells) ≡ false → n ≡ count_by is_used cells → m ≡ s.queue → nat_lt n m ≡ has_room q page
    has_room_else n m e used most =
        ap (λ k. nat_lt k m) (used ∙ h.used) ∙ ap (λ k. nat_lt (copies q) k) most ∙ sym (ap (λ b. b || nat_lt (copies q) s.queue) (sym next_found ∙ e))

    pub room_place : has_room q page ≡ true → HasRoom cells page.0
    room_place room none =
        let less : copies q < s.queue = room_of (next_copy q page) (next_is s cells line page lt ∙ none) room in
        omega (arith, h.used, h.room, less)

  pub flying_range : (page : Page) → IsSome (flying q page) → page.0 < pages_of s
  flying_range page some = omega (arith, flying_in_range q page some, h.queue.pages)

  pub flying_found : (page : Page) → IsSome (flying q page) → IsSome (position (is_for true page.0) cells)
  flying_found page some =
      found_is true page.0 cells (h.single true page.0) ∙ ap (λ (o : Option Copy). is_some o) (sym (flying_is s cells line page (flying_range page some)))
      ∙ some

pub copy_entry : (bytes : List ℕ) (held : Option Held) → option_map (λ (x : Copy). x.entry) (copy_with bytes held) ≡ entry_of held
copy_entry bytes None = refl
copy_entry bytes (Some h) = refl

pub copy_bytes : (bytes buf : List ℕ) (held : Option Held) → is_some held ≡ true → bytes_or (copy_with bytes held) buf ≡ bytes
copy_bytes bytes buf None e = absurd (false≢true e)
copy_bytes bytes buf (Some h) e = refl

-- after `put` wrote a cell and the page joined the line where it was to wait
pub put_step :
    (s : Sizes) (cells cells' : List Kept) (line line' : List Page) (page : Page) (entry : EntryNo) (bytes : List ℕ) (i : ℕ) (w : Bool) → Fits s cells line
    → page.0 < pages_of s → length bytes ≡ s.page_bytes
    → has_room (queue_in s cells line) page ≡ true → IsPlaceFor cells page.0 i
    → cells' ≡ set cells i (record { held = Some (record { page = page; entry = entry; flying = false }); bytes = bytes })
    → w ≡ is_none (newest (queue_in s cells line) page) → line' ≡ line_with line page w
    → Moved s cells' line' (put_after (queue_in s cells line) page (record { entry = entry; bytes = bytes }))
put_step s cells cells' line line' page entry bytes i w h lt fills room place made waits joined =
    let Q : Queue = put_after (queue_in s cells line) page (record { entry = entry; bytes = bytes }) in
    let C : Kept = record { held = Some (record { page = page; entry = entry; flying = false }); bytes = bytes } in
    let P : List Kept → Type 0 = λ c. Moved s c line' Q in
    let L : List Page → Type 0 = λ l. Moved s (set cells i C) l Q in
    subst P (sym made) (subst L (sym (joined ∙ ap (λ b. line_with line page b) waits)) (put_moves s cells line page entry bytes i h lt fills room place))

-- after `start` sent a cell's copy
pub start_step :
    (s : Sizes) (cells cells' : List Kept) (line rest : List Page) (page : Page) (i : ℕ) → Fits s cells line → line ≡ page ∷ rest
    → position (is_for false page.0) cells ≡ Some i
    → cells' ≡ set cells i (record { held = with_flying true (cell_at cells i).held; bytes = (cell_at cells i).bytes })
    → Moved s cells' rest (start (queue_in s cells line))
start_step s cells cells' line rest page i h first found made =
    let F : Kept → Kept = λ c. record { held = with_flying true c.held; bytes = c.bytes } in
    let P : List Kept → Type 0 = λ c. Moved s c rest (start (queue_in s cells line)) in
    let L : List Page → Type 0 = λ l. Fits s cells l → Moved s (set cells i (F (cell_at cells i))) rest (start (queue_in s cells l)) in
    subst P (sym made) (subst L (sym first) (λ (g : Fits s cells (page ∷ rest)). start_moves s cells page rest i g found) h)

-- after `done` freed a cell and the page joined the line where it was to wait
pub done_step :
    (s : Sizes) (cells cells' : List Kept) (line line' : List Page) (page : Page) (i : ℕ) (w : Bool) → Fits s cells line
    → IsSome (flying (queue_in s cells line) page) → position (is_for true page.0) cells ≡ Some i
    → cells' ≡ set cells i (record { held = land_after false (cell_at cells i).held; bytes = (cell_at cells i).bytes })
    → w ≡ is_some (next_copy (queue_in s cells line) page) → line' ≡ line_with line page w
    → Moved s cells' line' (done_after (queue_in s cells line) page)
done_step s cells cells' line line' page i w h some found made waits joined =
    let F : Kept → Kept = λ c. record { held = None; bytes = c.bytes } in
    let P : List Kept → Type 0 = λ c. Moved s c line' (done_after (queue_in s cells line) page) in
    let L : List Page → Type 0 = λ l. Moved s (set cells i (F (cell_at cells i))) l (done_after (queue_in s cells line) page) in
    subst P (sym made) (subst L (sym (joined ∙ ap (λ b. line_with line page b) waits)) (done_moves s cells line page i h some found))

-- after `failed` freed a cell, or kept its copy as the page's next, and the page joined the line
pub failed_step :
    (s : Sizes) (cells cells' : List Kept) (line line' : List Page) (page : Page) (i : ℕ) (newer : Bool) → Fits s cells line
    → IsSome (flying (queue_in s cells line) page) → position (is_for true page.0) cells ≡ Some i
    → cells' ≡ set cells i (record { held = land_after (not newer) (cell_at cells i).held; bytes = (cell_at cells i).bytes })
    → newer ≡ is_some (next_copy (queue_in s cells line) page) → line' ≡ line_with line page true
    → Moved s cells' line' (failed_after (queue_in s cells line) page)
failed_step s cells cells' line line' page i newer h some found made waits joined =
    let F : Kept → Kept = λ c. record { held = land_after (not newer) c.held; bytes = c.bytes } in
    let P : List Kept → Type 0 = λ c. Moved s c line' (failed_after (queue_in s cells line) page) in
    let L : List Page → Type 0 = λ l. Moved s (set cells i (F (cell_at cells i))) l (failed_after (queue_in s cells line) page) in
    subst P (sym made) (subst L (sym joined) (failed_moves s cells line page i h some found newer waits))

-- the entry that a landing copy had is that of the page's flying copy
pub flying_entry :
    (s : Sizes) (cells : List Kept) (line : List Page) (h : Fits s cells line) (page : Page) (i : ℕ) (entry : EntryNo)
    → IsSome (flying (queue_in s cells line) page) → position (is_for true page.0) cells ≡ Some i
    → Some entry ≡ entry_of (cell_at cells i).held → option_map (λ (c : Copy). c.entry) (flying (queue_in s cells line) page) ≡ Some entry
flying_entry s cells line h page i entry some found e =
    let f = found_copy s cells line h true page.0 i found in
    ap (λ (o : Option Copy). option_map (λ (c : Copy). c.entry) o) (flying_is s cells line page (flying_range s cells line h page some) ∙ f.2)
    ∙ copy_entry (cell_at cells i).bytes (cell_at cells i).held
    ∙ sym e

pub entry_told : (copy : Option Copy) (entry : EntryNo) → option_map (λ (c : Copy). c.entry) copy ≡ Some entry → IfSome copy (λ c. entry ≡ c.entry)
entry_told None entry e = tt
entry_told (Some c) entry e = cc

pub failed_told :
    (copy later : Option Copy) (entry : EntryNo) (newer : Bool) (answer : Failed) → option_map (λ (c : Copy). c.entry) copy ≡ Some entry → newer ≡ is_some later
    → (newer ≡ true → answer ≡ fate.Dropped entry) → (newer ≡ false → answer ≡ fate.Kept entry)
    → IfSome copy (λ c. answer ≡ failed_answer later c.entry)
failed_told None n entry newer answer e same gone stays = tt
failed_told (Some c) None entry newer answer e same gone stays = let a : answer ≡ fate.Kept entry = stays same in cc
failed_told (Some c) (Some n) entry newer answer e same gone stays = let a : answer ≡ fate.Dropped entry = gone same in cc

-- the front of a line with its next copy, which is that of the cell where it was found
pub front_found :
    (s : Sizes) (cells : List Kept) (line rest : List Page) (h : Fits s cells line) (page : Page) (i : ℕ) → line ≡ page ∷ rest
    → position (is_for false page.0) cells ≡ Some i
    → front (queue_in s cells line) ≡ option_map (λ (copy : Copy). (page, copy)) (copy_of (cell_at cells i))
front_found s cells line rest h page i first found =
    let lt : page.0 < pages_of s = (start_sets s (queue_in s cells line) page rest h.queue first).within in
    ap (λ l. front_of (queue_in s cells line) l) first
    ∙ ap (λ (o : Option Copy). option_map (λ (copy : Copy). (page, copy)) o) (next_is s cells line page lt ∙ (found_copy s cells line h false page.0 i found).2)

pub front_place :
    (s : Sizes) (cells : List Kept) (line rest : List Page) (h : Fits s cells line) (page : Page) → line ≡ page ∷ rest
    → IsSome (position (is_for false page.0) cells)
front_place s cells line rest h page first =
    let lt : page.0 < pages_of s = (start_sets s (queue_in s cells line) page rest h.queue first).within in
    next_found s cells line h page lt
    ∙ (and_parts (is_some (next_copy (queue_in s cells line) page)) (is_none (flying (queue_in s cells line) page))
    (front_waits s (queue_in s cells line) page rest h.queue first)).0

pub front_range : (s : Sizes) (cells : List Kept) (line rest : List Page) (h : Fits s cells line) (page : Page) → line ≡ page ∷ rest → page.0 < pages_of s
front_range s cells line rest h page first = (start_sets s (queue_in s cells line) page rest h.queue first).within

none_of : {X : Type 0} (o : Option X) → is_none o ≡ true → o ≡ None
none_of None e = refl
none_of (Some x) e = absurd (false≢true e)

none_found : {X : Type 0} (o : Option X) → is_some o ≡ false → is_none o ≡ true
none_found None e = refl
none_found (Some x) e = absurd (false≢true (sym e))

-- the front of a line has no copy on its way
pub front_alone :
    (s : Sizes) (cells : List Kept) (line rest : List Page) (h : Fits s cells line) (page : Page) → line ≡ page ∷ rest
    → position (is_for true page.0) cells ≡ None
front_alone s cells line rest h page first =
    let q : Queue = queue_in s cells line in
    let none : flying (queue_in s cells line) page ≡ None =
    none_of (flying q page) (and_parts (is_some (next_copy q page)) (is_none (flying q page)) (front_waits s q page rest h.queue first)).1 in
    let lost : is_some (position (is_for true page.0) cells) ≡ false =
    found_is true page.0 cells (h.single true page.0)
    ∙ ap (λ (o : Option Copy). is_some o) (sym (flying_is s cells line page (front_range s cells line rest h page first)) ∙ none) in
    none_of (position (is_for true page.0) cells) (none_found (position (is_for true page.0) cells) lost)

-- the page that was started has a flying copy
pub front_flies :
    (s : Sizes) (cells : List Kept) (line rest : List Page) (h : Fits s cells line) (page : Page) → line ≡ page ∷ rest
    → IsSome (flying (start (queue_in s cells line)) page)
front_flies s cells line rest h page first =
    let q : Queue = queue_in s cells line in
    let sets = start_sets s (queue_in s cells line) page rest h.queue first in
    ap (λ (x : Places). is_some x.flying) sets.sets.here
    ∙ (and_parts (is_some (next_copy (queue_in s cells line) page)) (is_none (flying (queue_in s cells line) page)) sets.waited).0

pub started_entry :
    (page : Page) (bytes : List ℕ) (held : Option Held) (entry : EntryNo) → Some entry ≡ entry_of held
    → started_answer (option_map (λ (copy : Copy). (page, copy)) (copy_with bytes held)) ≡ Some (page, entry)
started_entry page bytes None entry e = cc
started_entry page bytes (Some h) entry e = let same : h.entry ≡ entry = cc in ap (λ n. Some (page, n)) same

pub started_copy :
    (page : Page) (bytes buf : List ℕ) (held : Option Held) → is_some held ≡ true
    → started_bytes (option_map (λ (copy : Copy). (page, copy)) (copy_with bytes held)) buf ≡ bytes
started_copy page bytes buf None e = absurd (false≢true e)
started_copy page bytes buf (Some h) e = refl

-- cells as they are made mean an empty queue
copy_in-free : (k : Bool) (p n : ℕ) (bytes : List ℕ) → copy_in k p (replicate n (record { held = None; bytes = bytes })) ≡ None
copy_in-free k p zero bytes = refl
copy_in-free k p (suc n) bytes = copy_in-free k p n bytes

abbrev none : Places
none = record { flying = None; next = None }

free_places : (s : Sizes) → places_in (pages_of s) (free_cells s.queue s.page_bytes) ≡ replicate (pages_of s) none
free_places s =
    let cells : List Kept = free_cells s.queue s.page_bytes in
    let l : length (places_in (pages_of s) (free_cells s.queue s.page_bytes)) ≡ pages_of s =
    length-map-range_with_len (λ p. places_at (free_cells s.queue s.page_bytes) p) 0 (pages_of s) in
    ext_get_or none (places_in (pages_of s) (free_cells s.queue s.page_bytes)) (replicate (pages_of s) none) (l ∙ sym (length-replicate (pages_of s) none))
    (λ p within.
    let at : p < pages_of s = omega (arith, l, within) in
    get_or-map-range_with_len (λ q. places_at (free_cells s.queue s.page_bytes) q) 0 (pages_of s) p p none at (omega arith)
    ∙ two_places (copy_in true p (free_cells s.queue s.page_bytes)) None (copy_in false p (free_cells s.queue s.page_bytes)) None
    (copy_in-free true p s.queue (replicate s.page_bytes 0)) (copy_in-free false p s.queue (replicate s.page_bytes 0))
    ∙ sym (get_or-replicate (pages_of s) p none none at))

pub new_fits : (s : Sizes) → Moved s (free_cells s.queue s.page_bytes) [] (empty (pages_of s) s.queue)
new_fits s =
    let F : List Places → Queue = λ ps. record { places = ps; line = []; capacity = s.queue } in
    let e : queue_in s (free_cells s.queue s.page_bytes) [] ≡ empty (pages_of s) s.queue = ap F (free_places s) in
    let cell : Kept = record { held = None; bytes = replicate s.page_bytes 0 } in
    let w : Places → ℕ = λ p. one_if (waits_at p) in
    record {
      is = e;
      fits = record {
        queue = subst (λ (q : Queue). IsQueue s q) (sym e) (empty_keeps s);
        room = length-replicate s.queue cell;
        sized =
            λ i lt. ap (λ (x : Kept). length x.bytes) (get_or-replicate s.queue i cell free_cell (omega (arith, length-replicate s.queue cell, lt)))
            ∙ length-replicate s.page_bytes 0;
        single = λ k p. omega (arith, sum_by-replicate (λ (c : Kept). cond (is_for k p c) 1 0) s.queue cell);
        used =
            omega (
              arith,
              sum_by-replicate (λ (c : Kept). cond (is_used c) 1 0) s.queue cell,
              sum_by-replicate copies_at (pages_of s) none,
              ap (λ ps. sum_by copies_at ps) (free_places s),
            );
        waiting = omega (arith, sum_by-replicate w (pages_of s) none, ap (λ ps. sum_by w ps) (free_places s));
      };
    }

-- new cells and an empty line are an empty queue
pub new_step :
    (s : Sizes) (cells : List Kept) (line : List Page) → cells ≡ free_cells s.queue s.page_bytes → line ≡ [] → Moved s cells line (empty (pages_of s) s.queue)
new_step s cells line made none_ =
    let C : List Kept → Type 0 = λ c. Moved s c line (empty (pages_of s) s.queue) in
    let L : List Page → Type 0 = λ l. Moved s (free_cells s.queue s.page_bytes) l (empty (pages_of s) s.queue) in
    subst C (sym made) (subst L (sym none_) (new_fits s))
