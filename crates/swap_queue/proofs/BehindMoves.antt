-- Each move over the cells is the queue's, and keeps what the cells keep.
use Rattle.std.proofs.Common.{◌≡◌, ◌≢◌, ℕ, ◌+◌, ◌<◌, ◌≤◌, Bool, true, false, List, length, set, refl, sym, ap, ◌∙◌, subst, arith, is_some, is_none, Option, None, Some, ⊎_elim, eq-eqb, eqb-true}
use Rattle.std.proofs.lemmas.Bool.{false≢true}
use Rattle.std.proofs.lemmas.List.{length_push}
use Rattle.swap_base.specs.declared.Page.{Page}
use Rattle.swap_base.specs.declared.EntryNo.{EntryNo}
use Rattle.swap_base.specs.Sizes.{Sizes, pages_of}
use Rattle.swap_queue.specs.declared.cell.Held.{Held}
use Rattle.swap_queue.specs.Queue.{Copy, Places, Queue, places_of, flying, next_copy, newest, copies_at, has_room, one_if, put_after}
use Rattle.swap_queue.specs.Cells.{Kept, is_held_for, is_for, is_used, copy_in, queue_in, line_with, Fits}
use Rattle.swap_queue.specs.Stored.{IsPlaceFor}
use Rattle.swap_queue.proofs.Copies.{cell_at, count_for, one, copy_in-same, copy_in-here, copy_in-new, none_for, of_one_page, flying_page, of_one_kind, used_for, copy_used}
use Rattle.swap_queue.proofs.Keeps.{put_keeps, put_waits}
use Rattle.swap_queue.proofs.CellMoves.{places_of_cells, queue_in-set, fits_after}

pub length-longer : (line : List Page) (page : Page) (w : Bool) → length (line_with line page w) ≡ length line + one_if w
length-longer line page true = length_push line page
length-longer line page false = omega arith

-- after a move the cells and the line mean this queue, and keep what they keep
pub record Moved (s : Sizes) (cells : List Kept) (line : List Page) (q : Queue) : Type 0 where
  pub is : queue_in s cells line ≡ q
  pub fits : Fits s cells line

-- the next and the flying copy of a page are those in the cells
module _ (s : Sizes) (cells : List Kept) (line : List Page) (page : Page) (lt : page.0 < pages_of s) where
  pub next_is : next_copy (queue_in s cells line) page ≡ copy_in false page.0 cells
  next_is = ap (λ (x : Places). x.next) (places_of_cells s cells line page lt)

  pub flying_is : flying (queue_in s cells line) page ≡ copy_in true page.0 cells
  flying_is = ap (λ (x : Places). x.flying) (places_of_cells s cells line page lt)

-- the only copy of its kind is a used cell's
pub some_here :
    (k : Bool) (p : ℕ) (cells : List Kept) (i : ℕ) → count_for k p cells ≤ 1 → i < length cells → is_for k p (cell_at cells i) ≡ true
    → is_some (copy_in k p cells) ≡ true
some_here k p cells i single at e =
    ap is_some (copy_in-here k p cells i single at e) ∙ copy_used (cell_at cells i).bytes (cell_at cells i).held (used_for k p (cell_at cells i).held e)

-- two places with these copies
pub two_places : (f g n m : Option Copy) → f ≡ g → n ≡ m → ◌≡◌ {A = Places} (record { flying = f; next = n }) (record { flying = g; next = m })
two_places f g n m e h = let F : Option Copy → Option Copy → Places = λ f n. record { flying = f; next = n } in ap (λ x. F x n) e ∙ ap (λ x. F g x) h

module _ (s : Sizes) (cells : List Kept) (line : List Page) (page : Page) (entry : EntryNo) (bytes : List ℕ) (i : ℕ)
    (h : Fits s cells line) (lt : page.0 < pages_of s) (fills : length bytes ≡ s.page_bytes) (room : has_room (queue_in s cells line) page ≡ true)
    (place : IsPlaceFor cells page.0 i) where
  abbrev q : Queue
  q = queue_in s cells line

  abbrev old : Kept
  old = cell_at cells i

  abbrev new : Kept
  new = record { held = Some (record { page = page; entry = entry; flying = false }); bytes = bytes }

  abbrev copy : Copy
  copy = record { entry = entry; bytes = bytes }

  free_for : (k : Bool) (p : ℕ) → old.held ≡ None → is_for k p old ≡ false
  free_for k p none = ap (is_held_for k p) none

  put_others : (k : Bool) (p : ℕ) → p ≢ page.0 → (is_for k p old ≡ false) × (is_for k p new ≡ false)
  put_others k p ne = (
    ⊎_elim (λ e. of_one_page k false p page.0 old.held e ne) (λ free. free_for k p free.0) place.1,
    flying_page k false false p page.0 (Some (record { page = page; entry = entry; flying = false })) (eq-eqb page.0 page.0 refl) ne,
  )

  put_single : (k : Bool) (p : ℕ) → is_for k p new ≡ true → count_for k p cells ≤ one (is_for k p old)
  put_single true p e = absurd (false≢true e)
  put_single false p e =
      let same : p ≡ page.0 = sym (eqb-true page.0 p e) in
      subst (λ n. count_for false n cells ≤ one (is_for false n old)) (sym same)
      (⊎_elim (λ t. omega (arith, ap one t, h.single false page.0)) (λ free. omega (arith, none_for false page.0 cells free.1)) place.1)

  put_used : one (is_used new) + copies_at (places_of q page) ≡ one (is_used old) + copies_at (record { flying = flying q page; next = Some copy })
  put_used =
      let n : one_if (is_some (next_copy q page)) ≡ one_if (is_some (copy_in false page.0 cells)) =
      ap (λ o. one_if (is_some o)) (next_is s cells line page lt) in
      ⊎_elim
      (λ (e : is_for false page.0 old ≡ true).
      let used : one (is_used old) ≡ 1 = ap one (used_for false page.0 old.held e) in
      let some : one_if (is_some (copy_in false page.0 cells)) ≡ 1 = ap one_if (some_here false page.0 cells i (h.single false page.0) place.0 e) in
      omega (arith, n, used, some))
      (λ (free : (old.held ≡ None) × (copy_in false page.0 cells ≡ None)).
      let used : one (is_used old) ≡ 0 = ap (λ (o : Option Held). one (is_some o)) free.0 in
      let none : one_if (is_some (copy_in false page.0 cells)) ≡ 0 = ap (λ (o : Option Copy). one_if (is_some o)) free.1 in
      omega (arith, n, used, none))
      place.1

  put_here : copy_in true page.0 (set cells i new) ≡ flying q page
  put_here =
      copy_in-same true page.0 cells i new (⊎_elim (λ e. of_one_kind false page.0 old.held e) (λ free. free_for true page.0 free.0) place.1) refl
      ∙ sym (flying_is s cells line page lt)

  put_next : copy_in false page.0 (set cells i new) ≡ Some copy
  put_next = copy_in-new false page.0 cells i new place.0 (eq-eqb page.0 page.0 refl) (put_single false page.0 (eq-eqb page.0 page.0 refl))

  pub put_moves : Moved s (set cells i new) (line_with line page (is_none (newest q page))) (put_after q page copy)
  put_moves =
      let here = two_places (copy_in true page.0 (set cells i new)) (flying q page) (copy_in false page.0 (set cells i new)) (Some copy) put_here put_next in
      record {
        is =
            queue_in-set s cells i new page (record { flying = flying q page; next = Some copy }) put_others here
            (line_with line page (is_none (newest q page))) lt;
        fits =
            fits_after s cells i new page (record { flying = flying q page; next = Some copy }) put_others here line
            (line_with line page (is_none (newest q page))) h lt place.0 fills put_single put_used
            (omega (arith, length-longer line page (is_none (newest q page)), put_waits (flying q page) (next_copy q page) copy))
            (put_keeps s q page copy h.queue lt fills room).0;
      }
