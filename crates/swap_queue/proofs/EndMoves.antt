-- A copy goes to the disk and comes back from it.
use Rattle.std.proofs.Common.{◌≡◌, ◌≢◌, ℕ, ◌+◌, ◌<◌, ◌≤◌, Bool, true, false, not, List, [], ◌∷◌, length, set, refl, sym, ap, ◌∙◌, subst, arith, is_some, is_none, Option, None, Some, IsSome, position, ⊎_elim}
use Rattle.std.proofs.lemmas.Bool.{false≢true, and_parts, cases_eq}
use Rattle.std.proofs.lemmas.List.Quantifiers.{position-Some}
use Rattle.swap_base.specs.declared.Page.{Page}
use Rattle.swap_base.specs.Sizes.{Sizes, pages_of}
use Rattle.swap_queue.specs.Queue.{Copy, Places, Queue, places_of, flying, next_copy, newest, first_of, copies_at, one_if, waits, waits_at, with_places, start, done_after, failed_after}
use Rattle.swap_queue.specs.Kept.{IsQueue}
use Rattle.swap_queue.specs.Cells.{Kept, is_for, is_used, with_flying, land_after, copy_in, queue_in, line_with, Fits}
use Rattle.swap_queue.proofs.Copies.{cell_at, count_for, one, copy_in-same, copy_in-here, copy_in-gone, copy_in-new, copy_in-none, none_for, of_one_page, flying_page, of_one_kind, turned, turned_away, copy-turned, used_turned, used_for}
use Rattle.swap_queue.proofs.Keeps.{start_keeps_of, start_sets, front_waits, done_keeps, failed_keeps, done_waits, failed_waits, flying_in_range}
use Rattle.swap_queue.proofs.PlaceOf.{count_none}
use Rattle.swap_queue.proofs.CellMoves.{queue_in-set, fits_after}
use Rattle.swap_queue.proofs.BehindMoves.{Moved, next_is, flying_is, some_here, two_places, length-longer}

none_of : {X : Type 0} (o : Option X) → is_none o ≡ true → o ≡ None
none_of None e = refl
none_of (Some x) e = absurd (false≢true e)

none_of_some : {X : Type 0} (o : Option X) → is_some o ≡ false → o ≡ None
none_of_some None e = refl
none_of_some (Some x) e = absurd (false≢true (sym e))

-- a copy is found exactly where the page has one
found_of :
    (k : Bool) (p : ℕ) (cells : List Kept) → count_for k p cells ≤ 1 → (o : Option ℕ) → position (is_for k p) cells ≡ o
    → is_some o ≡ is_some (copy_in k p cells)
found_of k p cells single None e = sym (ap is_some (copy_in-none k p cells (count_none (is_for k p) cells e)))
found_of k p cells single (Some i) e =
    let at = position-Some (is_for k p) cells i (record { held = None; bytes = [] }) e in sym (some_here k p cells i single at.0 at.1)

pub found_is : (k : Bool) (p : ℕ) (cells : List Kept) → count_for k p cells ≤ 1 → is_some (position (is_for k p) cells) ≡ is_some (copy_in k p cells)
found_is k p cells single = found_of k p cells single (position (is_for k p) cells) refl

module _ (s : Sizes) (cells : List Kept) (page : Page) (rest : List Page) (i : ℕ) (h : Fits s cells (page ∷ rest))
    (found : position (is_for false page.0) cells ≡ Some i) where
  abbrev q : Queue
  q = queue_in s cells (page ∷ rest)

  abbrev old : Kept
  old = cell_at cells i

  abbrev sent : Kept
  sent = record { held = with_flying true old.held; bytes = old.bytes }

  abbrev away : Places
  away = record { flying = next_copy q page; next = None }

  at : (i < length cells) × (is_for false page.0 old ≡ true)
  at = let f = position-Some (is_for false page.0) cells i (record { held = None; bytes = [] }) found in (f.0, f.1)

  in_range : page.0 < pages_of s
  in_range = (start_sets s q page rest h.queue refl).within

  waited : (is_some (next_copy q page) ≡ true) × (is_none (flying q page) ≡ true)
  waited = and_parts (is_some (next_copy q page)) (is_none (flying q page)) (front_waits s q page rest h.queue refl)

  none_flies : count_for true page.0 cells ≡ 0
  none_flies = none_for true page.0 cells (sym (flying_is s cells (page ∷ rest) page in_range) ∙ none_of (flying q page) waited.1)

  start_others : (k : Bool) (p : ℕ) → p ≢ page.0 → (is_for k p old ≡ false) × (is_for k p sent ≡ false)
  start_others k p ne = (of_one_page k false p page.0 old.held at.1 ne, flying_page k false true p page.0 old.held at.1 ne)

  start_single : (k : Bool) (p : ℕ) → is_for k p sent ≡ true → count_for k p cells ≤ one (is_for k p old)
  start_single false p e = absurd (false≢true (sym (turned_away true p old.held) ∙ e))
  start_single true p e =
      ⊎_elim
      (λ (same : p ≡ page.0). subst (λ n. count_for true n cells ≤ one (is_for true n old)) (sym same) (omega (arith, none_flies)))
      (λ (ne : p ≢ page.0). absurd (false≢true (sym (start_others true p ne).1 ∙ e)))
      (cases_eq p page.0)

  start_here : copy_in true page.0 (set cells i sent) ≡ next_copy q page
  start_here =
      let e : is_for true page.0 sent ≡ true = turned false true page.0 old.held at.1 in
      copy_in-new true page.0 cells i sent at.0 e (start_single true page.0 e) ∙ copy-turned true old.bytes old.held
      ∙ sym (copy_in-here false page.0 cells i (h.single false page.0) at.0 at.1)
      ∙ sym (next_is s cells (page ∷ rest) page in_range)

  start_used : one (is_used sent) + copies_at (places_of q page) ≡ one (is_used old) + copies_at away
  start_used =
      let none : one_if (is_some (flying q page)) ≡ 0 = ap (λ (o : Option Copy). one_if (is_some o)) (none_of (flying q page) waited.1) in
      omega (arith, ap one (used_turned true old.held), none)

  pub start_moves : Moved s (set cells i sent) rest (start q)
  start_moves =
      let here =
      two_places (copy_in true page.0 (set cells i sent)) (next_copy q page) (copy_in false page.0 (set cells i sent)) None start_here
      (copy_in-gone false page.0 cells i sent (h.single false page.0) at.0 at.1 (turned_away true page.0 old.held)) in
      record {
        is = queue_in-set s cells i sent page away start_others here rest in_range;
        fits =
            fits_after s cells i sent page away start_others here (page ∷ rest) rest h in_range at.0 (h.sized i at.0) start_single start_used
            (omega (arith, ap one_if (front_waits s q page rest h.queue refl)))
            (start_keeps_of s q (page ∷ rest) refl h.queue);
      }

module _ (s : Sizes) (cells : List Kept) (line : List Page) (page : Page) (i : ℕ) (h : Fits s cells line) (some : IsSome (flying (queue_in s cells line) page))
    (found : position (is_for true page.0) cells ≡ Some i) where
  abbrev q' : Queue
  q' = queue_in s cells line

  abbrev flew : Kept
  flew = cell_at cells i

  at' : (i < length cells) × (is_for true page.0 flew ≡ true)
  at' = let f = position-Some (is_for true page.0) cells i (record { held = None; bytes = [] }) found in (f.0, f.1)

  in_range' : page.0 < pages_of s
  in_range' = omega (arith, flying_in_range q' page some, h.queue.pages)

  some_one : one_if (is_some (flying q' page)) ≡ 1
  some_one = ap one_if some

  -- the copy is dropped
  abbrev dropped : Kept
  dropped = record { held = None; bytes = flew.bytes }

  drop_others : (k : Bool) (p : ℕ) → p ≢ page.0 → (is_for k p flew ≡ false) × (is_for k p dropped ≡ false)
  drop_others k p ne = (of_one_page k true p page.0 flew.held at'.1 ne, refl)

  drop_moves :
      (m : Option Copy) (w : Bool) → next_copy q' page ≡ m → one_if w + one_if (waits q' page) ≡ one_if (waits_at (record { flying = None; next = m }))
      → IsQueue s (with_places q' page (record { flying = None; next = m }) w)
      → Moved s (set cells i dropped) (line_with line page w) (with_places q' page (record { flying = None; next = m }) w)
  drop_moves m w e more kept =
      let next_same : copy_in false page.0 (set cells i dropped) ≡ m =
      copy_in-same false page.0 cells i dropped (of_one_kind true page.0 flew.held at'.1) refl ∙ sym (next_is s cells line page in_range') ∙ e in
      let here =
      two_places (copy_in true page.0 (set cells i dropped)) None (copy_in false page.0 (set cells i dropped)) m
      (copy_in-gone true page.0 cells i dropped (h.single true page.0) at'.0 at'.1 refl) next_same in
      record {
        is = queue_in-set s cells i dropped page (record { flying = None; next = m }) drop_others here (line_with line page w) in_range';
        fits =
            fits_after s cells i dropped page (record { flying = None; next = m }) drop_others here line (line_with line page w) h in_range' at'.0
            (h.sized i at'.0) (λ k p t. absurd (false≢true t))
            (omega (arith, ap one (used_for true page.0 flew.held at'.1), some_one, ap (λ (o : Option Copy). one_if (is_some o)) e))
            (omega (arith, length-longer line page w, more)) kept;
      }

  pub done_moves : Moved s (set cells i dropped) (line_with line page (is_some (next_copy q' page))) (done_after q' page)
  done_moves =
      drop_moves (next_copy q' page) (is_some (next_copy q' page)) refl (done_waits (flying q' page) (next_copy q' page) some)
      (done_keeps s q' page h.queue some).0

  first_some : (n f : Option Copy) → is_some n ≡ true → n ≡ first_of n f
  first_some None f e = absurd (false≢true e)
  first_some (Some x) f e = refl

  first_none : (n f : Option Copy) → is_some n ≡ false → f ≡ first_of n f
  first_none None f e = refl
  first_none (Some x) f e = absurd (false≢true (sym e))

  -- the copy is kept as the page's next
  abbrev back : Kept
  back = record { held = with_flying false flew.held; bytes = flew.bytes }

  keep_others : (k : Bool) (p : ℕ) → p ≢ page.0 → (is_for k p flew ≡ false) × (is_for k p back ≡ false)
  keep_others k p ne = (of_one_page k true p page.0 flew.held at'.1 ne, flying_page k true false p page.0 flew.held at'.1 ne)

  module _ (alone : is_some (next_copy q' page) ≡ false) where
    none_waits : count_for false page.0 cells ≡ 0
    none_waits = none_for false page.0 cells (sym (next_is s cells line page in_range') ∙ none_of_some (next_copy q' page) alone)

    keep_single : (k : Bool) (p : ℕ) → is_for k p back ≡ true → count_for k p cells ≤ one (is_for k p flew)
    keep_single true p e = absurd (false≢true (sym (turned_away false p flew.held) ∙ e))
    keep_single false p e =
        ⊎_elim
        (λ (same : p ≡ page.0). subst (λ n. count_for false n cells ≤ one (is_for false n flew)) (sym same) (omega (arith, none_waits)))
        (λ (ne : p ≢ page.0). absurd (false≢true (sym (keep_others false p ne).1 ∙ e)))
        (cases_eq p page.0)

    keep_here : copy_in false page.0 (set cells i back) ≡ newest q' page
    keep_here =
        let e : is_for false page.0 back ≡ true = turned true false page.0 flew.held at'.1 in
        copy_in-new false page.0 cells i back at'.0 e (keep_single false page.0 e) ∙ copy-turned false flew.bytes flew.held
        ∙ sym (copy_in-here true page.0 cells i (h.single true page.0) at'.0 at'.1)
        ∙ sym (flying_is s cells line page in_range')
        ∙ first_none (next_copy q' page) (flying q' page) alone

    keep_moves : Moved s (set cells i back) (line_with line page true) (failed_after q' page)
    keep_moves =
        let here =
        two_places (copy_in true page.0 (set cells i back)) None (copy_in false page.0 (set cells i back)) (newest q' page)
        (copy_in-gone true page.0 cells i back (h.single true page.0) at'.0 at'.1 (turned_away false page.0 flew.held)) keep_here in
        record {
          is = queue_in-set s cells i back page (record { flying = None; next = newest q' page }) keep_others here (line_with line page true) in_range';
          fits =
              fits_after s cells i back page (record { flying = None; next = newest q' page }) keep_others here line (line_with line page true) h in_range'
              at'.0
              (h.sized i at'.0) keep_single
              (omega (
                arith,
                ap one (used_turned false flew.held),
                some_one,
                ap one_if alone,
                ap (λ (o : Option Copy). one_if (is_some o)) (sym (first_none (next_copy q' page) (flying q' page) alone)),
              ))
              (omega (arith, length-longer line page true, failed_waits (flying q' page) (next_copy q' page) some)) (failed_keeps s q' page h.queue some).0;
        }

  pub failed_moves :
      (newer : Bool) → newer ≡ is_some (next_copy q' page)
      → Moved s (set cells i (record { held = land_after (not newer) flew.held; bytes = flew.bytes })) (line_with line page true) (failed_after q' page)
  failed_moves true e =
      drop_moves (newest q' page) true (first_some (next_copy q' page) (flying q' page) (sym e)) (failed_waits (flying q' page) (next_copy q' page) some)
      (failed_keeps s q' page h.queue some).0
  failed_moves false e = keep_moves (sym e)
