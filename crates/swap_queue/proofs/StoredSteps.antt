-- What the calls do to the cells, the table and the list of free cells.
use Rattle.std.proofs.Common.{◌≡◌, ◌≢◌, ℕ, ◌+◌, ◌<◌, ◌≤◌, Bool, true, false, not, nat_lt, ◌&&◌, if◌then◌else◌, List, [], ◌∷◌, ◌++◌, length, get_or, set, refl, sym, ap, ◌∙◌, subst, arith, is_some, is_none, Option, None, Some, count_by, position, replicate, ⊎_elim, inl, inr, eqb-true, eq-eqb, ltb-true}
use Rattle.std.proofs.lemmas.Bool.{cases_eq, false≢true}
use Rattle.std.proofs.lemmas.List.{length_push, get_or_read, length-replicate, get_or-replicate}
use Rattle.std.proofs.lemmas.List.Folds.{sum_by-replicate}
use Rattle.std.proofs.lemmas.List.FromFn.{length-map-range_with_len, get_or-map-range_with_len}
use Rattle.std.proofs.lemmas.List.Sums.{get_or-le-sum_by}
use Rattle.std.proofs.lemmas.List.Quantifiers.{position-Some}
use Rattle.std.proofs.Common.{ext_get_or}
use Rattle.swap_base.specs.declared.Page.{Page}
use Rattle.swap_base.specs.declared.EntryNo.{EntryNo}
use Rattle.swap_queue.specs.declared.cell.Held.{Held}
use Rattle.swap_queue.specs.declared.store.Spot.{Spot}
use Rattle.swap_queue.specs.Queue.{one_if}
use Rattle.swap_queue.specs.Cells.{Kept, free_cell, is_held_for, is_for, is_used, is_free, with_flying, land_after, free_cells}
use Rattle.swap_queue.specs.Stored.{no_spot, spot_in, spots_in, one_below, times_free, one_free, IsStored, IsPlaceFor, HasRoom, free_list_after, Takes}
use Rattle.swap_queue.proofs.Copies.{one, cell_at, count_for, copy_in-none, none_for, of_one_page, flying_page, of_one_kind, turned, turned_away, used_turned, used_for}
use Rattle.swap_queue.proofs.PlaceOf.{count_none}
use Rattle.swap_queue.proofs.StoredMoves.{found_new, found_gone, found_same, found_none, stored_after, spot_at, free_after, times_push_here, times_push_other}

pub two_spots : (f g n m : Option ℕ) → f ≡ g → n ≡ m → ◌≡◌ {A = Spot} (record { flying = f; next = n }) (record { flying = g; next = m })
two_spots f g n m e h = let F : Option ℕ → Option ℕ → Spot = λ f n. record { flying = f; next = n } in ap (λ x. F x n) e ∙ ap (λ x. F g x) h

-- what was read of the table is the page's places
pub spot_read :
    (cells : List Kept) (spots : List Spot) (free : List ℕ) (room page : ℕ) (x : Spot) → IsStored cells spots free room → page < length spots
    → x ≡ get_or spots page x → x ≡ spot_in cells page
spot_read cells spots free room page x h lt e = get_or_read spots page x lt e no_spot ∙ spot_at cells spots free room page h lt

pub cell_read : (cells : List Kept) (i : ℕ) (x : Kept) → i < length cells → x ≡ get_or cells i x → x ≡ cell_at cells i
cell_read cells i x lt e = get_or_read cells i x lt e free_cell

used_or_not : (held : Option Held) → one (is_some held) + one_if (is_none held) ≡ 1
used_or_not None = refl
used_or_not (Some h) = refl

none_held : (held : Option Held) → one_if (is_none held) ≡ 1 → held ≡ None
none_held None e = refl
none_held (Some h) e = absurd (omega (arith, e))

module _ (cells : List Kept) (spots : List Spot) (free : List ℕ) (room : ℕ) (page : Page) (i : ℕ) (h : IsStored cells spots free room)
    (lt : page.0 < length spots) where
  abbrev old : Kept
  old = cell_at cells i

  module _ (waits : position (is_for false page.0) cells ≡ Some i) (alone : position (is_for true page.0) cells ≡ None) where
    abbrev sent : Kept
    sent = record { held = with_flying true old.held; bytes = old.bytes }

    at : (i < length cells) × (is_for false page.0 old ≡ true)
    at = let f = position-Some (is_for false page.0) cells i free_cell waits in (f.0, f.1)

    sent_others : (k : Bool) (p : ℕ) → p ≢ page.0 → (is_for k p old ≡ false) × (is_for k p sent ≡ false)
    sent_others k p ne = (of_one_page k false p page.0 old.held at.1 ne, flying_page k false true p page.0 old.held at.1 ne)

    sent_single : (k : Bool) (p : ℕ) → is_for k p sent ≡ true → count_for k p cells ≤ one (is_for k p old)
    sent_single false p e = absurd (false≢true (sym (turned_away true p old.held) ∙ e))
    sent_single true p e =
        ⊎_elim
        (λ (same : p ≡ page.0).
        subst (λ n. count_for true n cells ≤ one (is_for true n old)) (sym same) (omega (arith, count_none (is_for true page.0) cells alone)))
        (λ (ne : p ≢ page.0). absurd (false≢true (sym (sent_others true p ne).1 ∙ e)))
        (cases_eq p page.0)

    pub launch_stored : IsStored (set cells i sent) (set spots page.0 (record { flying = Some i; next = None })) free room
    launch_stored =
        let turns : is_for true page.0 sent ≡ true = turned false true page.0 old.held at.1 in
        let flies : position (is_for true page.0) (set cells i sent) ≡ Some i =
        found_new (is_for true page.0) free_cell cells i sent (sent_single true page.0 turns) at.0 turns in
        let gone : position (is_for false page.0) (set cells i sent) ≡ None =
        found_gone (is_for false page.0) free_cell cells i sent (h.single false page.0) at.0 at.1 (turned_away true page.0 old.held) in
        let used : one (is_used sent) ≡ one (is_used old) = ap one (used_turned true old.held) in
        let sp : Spot = record { flying = Some i; next = None } in
        stored_after cells i sent page.0 sp sent_others
        (two_spots (position (is_for true page.0) (set cells i sent)) (Some i) (position (is_for false page.0) (set cells i sent)) None flies gone) spots free
        free room h at.0 lt sent_single
        (free_after cells i sent free free at.0 h.once (omega (arith, used, used_or_not old.held, used_or_not sent.held)) (λ j ne. refl))
        (omega (arith, used))

  module _ (flies : position (is_for true page.0) cells ≡ Some i) where
    at' : (i < length cells) × (is_for true page.0 old ≡ true)
    at' = let f = position-Some (is_for true page.0) cells i free_cell flies in (f.0, f.1)

    was_used : one (is_used old) ≡ 1
    was_used = ap one (used_for true page.0 old.held at'.1)

    -- there is room in the list for a place that is given back
    pub room_left : length free < room
    room_left = omega (arith, h.used, h.within, get_or-le-sum_by (λ (x : Kept). one (is_used x)) cells i free_cell at'.0, was_used)

    -- the copy is dropped
    abbrev dropped : Kept
    dropped = record { held = None; bytes = old.bytes }

    dropped_others : (k : Bool) (p : ℕ) → p ≢ page.0 → (is_for k p old ≡ false) × (is_for k p dropped ≡ false)
    dropped_others k p ne = (of_one_page k true p page.0 old.held at'.1 ne, refl)

    pub drop_stored : IsStored (set cells i dropped) (set spots page.0 (record { flying = None; next = position (is_for false page.0) cells }))
        (free ++ i ∷ []) room
    drop_stored =
        let gone : position (is_for true page.0) (set cells i dropped) ≡ None =
        found_gone (is_for true page.0) free_cell cells i dropped (h.single true page.0) at'.0 at'.1 refl in
        let stays : position (is_for false page.0) (set cells i dropped) ≡ position (is_for false page.0) cells =
        found_same (is_for false page.0) free_cell cells i dropped (of_one_kind true page.0 old.held at'.1) in
        let sp : Spot = record { flying = None; next = position (is_for false page.0) cells } in
        stored_after cells i dropped page.0 sp dropped_others
        (two_spots (position (is_for true page.0) (set cells i dropped)) None (position (is_for false page.0) (set cells i dropped))
        (position (is_for false page.0) cells) gone stays)
        spots free
        (free ++ i ∷ []) room h at'.0 lt
        (λ k p t. absurd (false≢true t))
        (free_after cells i dropped free (free ++ i ∷ []) at'.0 h.once (omega (arith, times_push_here free i, was_used, used_or_not old.held))
        (λ j ne. times_push_other free i j ne))
        (omega (arith, length_push free i, was_used))

    -- the copy is kept as the page's next
    module _ (alone : position (is_for false page.0) cells ≡ None) where
      abbrev back : Kept
      back = record { held = with_flying false old.held; bytes = old.bytes }

      back_others : (k : Bool) (p : ℕ) → p ≢ page.0 → (is_for k p old ≡ false) × (is_for k p back ≡ false)
      back_others k p ne = (of_one_page k true p page.0 old.held at'.1 ne, flying_page k true false p page.0 old.held at'.1 ne)

      back_single : (k : Bool) (p : ℕ) → is_for k p back ≡ true → count_for k p cells ≤ one (is_for k p old)
      back_single true p e = absurd (false≢true (sym (turned_away false p old.held) ∙ e))
      back_single false p e =
          ⊎_elim
          (λ (same : p ≡ page.0).
          subst (λ n. count_for false n cells ≤ one (is_for false n old)) (sym same) (omega (arith, count_none (is_for false page.0) cells alone)))
          (λ (ne : p ≢ page.0). absurd (false≢true (sym (back_others false p ne).1 ∙ e)))
          (cases_eq p page.0)

      pub back_stored : IsStored (set cells i back) (set spots page.0 (record { flying = None; next = Some i })) free room
      back_stored =
          let turns : is_for false page.0 back ≡ true = turned true false page.0 old.held at'.1 in
          let waits : position (is_for false page.0) (set cells i back) ≡ Some i =
          found_new (is_for false page.0) free_cell cells i back (back_single false page.0 turns) at'.0 turns in
          let gone : position (is_for true page.0) (set cells i back) ≡ None =
          found_gone (is_for true page.0) free_cell cells i back (h.single true page.0) at'.0 at'.1 (turned_away false page.0 old.held) in
          let used : one (is_used back) ≡ one (is_used old) = ap one (used_turned false old.held) in
          let sp : Spot = record { flying = None; next = Some i } in
          stored_after cells i back page.0 sp back_others
          (two_spots (position (is_for true page.0) (set cells i back)) None (position (is_for false page.0) (set cells i back)) (Some i) gone waits) spots
          free free room h at'.0 lt back_single
          (free_after cells i back free free at'.0 h.once (omega (arith, used, used_or_not old.held, used_or_not back.held)) (λ j ne. refl))
          (omega (arith, used))

    abbrev next_after : Bool → Option ℕ
    next_after keeps = if keeps then Some i else position (is_for false page.0) cells

    pub land_stored : (keeps : Bool) → (keeps ≡ true → position (is_for false page.0) cells ≡ None)
        → IsStored (set cells i (record { held = land_after keeps old.held; bytes = old.bytes }))
        (set spots page.0 (record { flying = None; next = next_after keeps })) (free_list_after free i (not keeps)) room
    land_stored true alone = back_stored (alone refl)
    land_stored false alone = drop_stored

  -- a place that is taken for a page-out is the page's next copy's, or is free
  module _ (next : Option ℕ) (rest : List ℕ) (known : next ≡ position (is_for false page.0) cells) (takes : Takes next free i rest) where
    free_there : free ≡ rest ++ i ∷ [] → one_free cells i ≡ times_free rest i + 1
    free_there e = sym (h.once i) ∙ ap (λ l. times_free l i) e ∙ times_push_here rest i

    free_cell_at : (b : Bool) (m : ℕ) → nat_lt i (length cells) ≡ b → one_if (b && is_free old) ≡ m + 1 → (i < length cells) × (one_if (is_free old) ≡ 1)
    free_cell_at true m e f = (ltb-true i (length cells) e, omega (arith, f, used_or_not old.held))
    free_cell_at false m e f = absurd (omega (arith, f))

  pub takes_place : (next : Option ℕ) (rest : List ℕ) → next ≡ position (is_for false page.0) cells → Takes next free i rest → IsPlaceFor cells page.0 i
  takes_place None rest known takes =
      let at = free_cell_at None rest known takes (nat_lt i (length cells)) (times_free rest i) refl (free_there None rest known takes takes) in
      (at.0, inr (none_held old.held at.1, copy_in-none false page.0 cells (count_none (is_for false page.0) cells (sym known))))
  takes_place (Some n) rest known takes =
      let f = position-Some (is_for false page.0) cells i free_cell (sym known ∙ ap (λ k. Some k) (sym takes.0)) in
      (f.0, inl f.1)

  module _ (entry : EntryNo) (bytes : List ℕ) (place : IsPlaceFor cells page.0 i) where
    abbrev new : Kept
    new = record { held = Some (record { page = page; entry = entry; flying = false }); bytes = bytes }

    free_for : (k : Bool) (p : ℕ) → old.held ≡ None → is_for k p old ≡ false
    free_for k p none = ap (is_held_for k p) none

    new_others : (k : Bool) (p : ℕ) → p ≢ page.0 → (is_for k p old ≡ false) × (is_for k p new ≡ false)
    new_others k p ne = (
      ⊎_elim (λ e. of_one_page k false p page.0 old.held e ne) (λ free. free_for k p free.0) place.1,
      flying_page k false false p page.0 (Some (record { page = page; entry = entry; flying = false })) (eq-eqb page.0 page.0 refl) ne,
    )

    new_single : (k : Bool) (p : ℕ) → is_for k p new ≡ true → count_for k p cells ≤ one (is_for k p old)
    new_single true p e = absurd (false≢true e)
    new_single false p e =
        let same : p ≡ page.0 = sym (eqb-true page.0 p e) in
        subst (λ n. count_for false n cells ≤ one (is_for false n old)) (sym same)
        (⊎_elim (λ t. omega (arith, ap one t, h.single false page.0)) (λ free. omega (arith, none_for false page.0 cells free.1)) place.1)

    put_after :
        (rest : List ℕ) → ((j : ℕ) → times_free rest j ≡ one_free (set cells i new) j) → length rest + one (is_used new) ≡ length free + one (is_used old)
        → IsStored (set cells i new) (set spots page.0 (record { flying = position (is_for true page.0) cells; next = Some i })) rest room
    put_after rest once used =
        let mine : is_for false page.0 new ≡ true = eq-eqb page.0 page.0 refl in
        let waits : position (is_for false page.0) (set cells i new) ≡ Some i =
        found_new (is_for false page.0) free_cell cells i new (new_single false page.0 mine) place.0 mine in
        let stays : position (is_for true page.0) (set cells i new) ≡ position (is_for true page.0) cells =
        found_same (is_for true page.0) free_cell cells i new
        (⊎_elim (λ e. of_one_kind false page.0 old.held e) (λ free. free_for true page.0 free.0) place.1) in
        let sp : Spot = record { flying = position (is_for true page.0) cells; next = Some i } in
        stored_after cells i new page.0 sp new_others
        (two_spots (position (is_for true page.0) (set cells i new)) (position (is_for true page.0) cells) (position (is_for false page.0) (set cells i new))
        (Some i) stays waits)
        spots free rest room h place.0 lt new_single once used

    pub put_stored : (next : Option ℕ) (rest : List ℕ) → next ≡ position (is_for false page.0) cells → Takes next free i rest
        → IsStored (set cells i new) (set spots page.0 (record { flying = position (is_for true page.0) cells; next = Some i })) rest room
    put_stored None rest known takes =
        let at = free_cell_at None rest known takes (nat_lt i (length cells)) (times_free rest i) refl (free_there None rest known takes takes) in
        let once : times_free free i ≡ times_free rest i + 1 = ap (λ l. times_free l i) takes ∙ times_push_here rest i in
        put_after rest
        (free_after cells i new free rest place.0 h.once (omega (arith, once, at.1))
        (λ j ne. sym (ap (λ l. times_free l j) takes ∙ times_push_other rest i j ne)))
        (omega (arith, ap (λ (l : List ℕ). length l) takes, length_push rest i, at.1, used_or_not old.held))
    put_stored (Some n) rest known takes =
        let f = position-Some (is_for false page.0) cells i free_cell (sym known ∙ ap (λ k. Some k) (sym takes.0)) in
        let used : one (is_used old) ≡ 1 = ap one (used_for false page.0 old.held f.1) in
        subst (λ l. IsStored (set cells i new) (set spots page.0 (record { flying = position (is_for true page.0) cells; next = Some i })) l room) (sym takes.1)
        (put_after free (free_after cells i new free free place.0 h.once (omega (arith, used, used_or_not old.held)) (λ j ne. refl)) (omega (arith, used)))

-- where a page has no next copy and there is room, a place is free
pub room_free :
    (cells : List Kept) (spots : List Spot) (free : List ℕ) (room page : ℕ) (next : Option ℕ) → IsStored cells spots free room → HasRoom cells page
    → next ≡ position (is_for false page) cells → next ≡ None → 0 < length free
room_free cells spots free room page next h has known none =
    let less : count_by is_used cells < length cells = has (copy_in-none false page cells (count_none (is_for false page) cells (sym known ∙ none))) in
    omega (arith, h.used, less)

-- new cells have no copies, and every place is free
found_new_cells : (k : Bool) (p n : ℕ) (bytes : List ℕ) → count_by (is_for k p) (replicate n (record { held = None; bytes = bytes })) ≡ 0
found_new_cells k p n bytes = omega (arith, sum_by-replicate (λ (c : Kept). one (is_for k p c)) n (record { held = None; bytes = bytes }))

free_new :
    (count i : ℕ) (bytes : List ℕ) (b : Bool) → nat_lt i count ≡ b
    → one_if b ≡ one_if (b && is_free (cell_at (replicate count (record { held = None; bytes = bytes })) i))
free_new count i bytes true e =
    ap (λ (x : Kept). one_if (is_free x)) (sym (get_or-replicate count i (record { held = None; bytes = bytes }) free_cell (ltb-true i count e)))
free_new count i bytes false e = refl

pub new_stored :
    (count page_bytes pages room : ℕ) (free : List ℕ) → length free ≡ count → count ≤ room → ((i : ℕ) → times_free free i ≡ one_below count i)
    → IsStored (free_cells count page_bytes) (replicate pages no_spot) free room
new_stored count page_bytes pages room free len fits once =
    let cell : Kept = record { held = None; bytes = replicate page_bytes 0 } in
    let cells : List Kept = free_cells count page_bytes in
    let l : length (spots_in pages (free_cells count page_bytes)) ≡ pages = length-map-range_with_len (λ p. spot_in (free_cells count page_bytes) p) 0 pages in
    let none : (k : Bool) (p : ℕ) → position (is_for k p) (free_cells count page_bytes) ≡ None =
    λ k p. found_none (is_for k p) free_cell (free_cells count page_bytes) (found_new_cells k p count (replicate page_bytes 0)) in
    record {
      single = λ k p. omega (arith, found_new_cells k p count (replicate page_bytes 0));
      table =
          ext_get_or no_spot (replicate pages no_spot) (spots_in pages (free_cells count page_bytes)) (length-replicate pages no_spot ∙ sym l)
          (λ p within.
          let at : p < pages = omega (arith, length-replicate pages no_spot, within) in
          get_or-replicate pages p no_spot no_spot at
          ∙ sym
          (two_spots (position (is_for true p) (free_cells count page_bytes)) None (position (is_for false p) (free_cells count page_bytes)) None
          (none true p) (none false p))
          ∙ sym (get_or-map-range_with_len (λ q. spot_in (free_cells count page_bytes) q) 0 pages p p no_spot at (omega arith)))
          ∙ ap (λ n. spots_in n (free_cells count page_bytes)) (sym (length-replicate pages no_spot));
      once = λ i.
          once i
          ∙ free_new count i (replicate page_bytes 0) (nat_lt i count) refl
          ∙ ap (λ n. one_if (nat_lt i n && is_free (cell_at (free_cells count page_bytes) i))) (sym (length-replicate count cell));
      used = omega (arith, len, length-replicate count cell, sum_by-replicate (λ (c : Kept). one (is_used c)) count cell);
      within = omega (arith, fits, length-replicate count cell);
    }
