-- Each move of a queue keeps what a queue is.
use Rattle.std.proofs.Common.{◌≡◌, ◌≢◌, ℕ, ◌+◌, ◌<◌, ◌≤◌, Bool, true, false, cond, ◌||◌, ◌==◌, nat_lt, if◌then◌else◌, List, [], ◌∷◌, ◌++◌, length, get_or, set, refl, sym, ap, ◌∙◌, subst, arith, is_some, is_none, Option, None, Some, IsSome, ⊎_elim, get_or-set_same, get_or-set_other, eq-eqb, ne_eqb, length-set, ltb-true, replicate, sum_by}
use Rattle.std.proofs.lemmas.Bool.{cases_eq, cases_lt, false≢true}
use Rattle.std.proofs.lemmas.List.{get_or_past, get_or-replicate, length-replicate}
use Rattle.std.proofs.lemmas.List.Sums.{sum_by-set, sum_by_push, sum_by-cons}
use Rattle.std.proofs.lemmas.List.Folds.{sum_by-replicate}
use Rattle.swap_base.specs.declared.Page.{Page}
use Rattle.swap_base.specs.Sizes.{Sizes, pages_of}
use Rattle.swap_queue.specs.Queue.{Copy, Places, Queue, places_of, flying, next_copy, newest, first_of, copies, copies_at, one_if, waits, waits_at, with_places, start_of}
use Rattle.swap_queue.specs.Kept.{times_in, FillsPage, IsQueue, SetsPlaces, EmptyKeeps, PutKeeps, StartKeeps, StartSets, DoneKeeps, FailedKeeps, CopiesInRange}

abbrev none : Places
none = record { flying = None; next = None }

sets_at : (xs : List Places) (page p : ℕ) (places : Places) → page < length xs → p ≡ page → get_or (set xs page places) p none ≡ places
sets_at xs page p places lt e = ap (λ n. get_or (set xs page places) n none) e ∙ get_or-set_same xs page places none lt

sets_others : (xs : List Places) (page p : ℕ) (places : Places) → p ≢ page → get_or (set xs page places) p none ≡ get_or xs p none
sets_others xs page p places ne = get_or-set_other xs page p places none ne

pub sets_places :
    (q : Queue) (page : Page) (places : Places) (waits : Bool) → page.0 < length q.places → SetsPlaces q (with_places q page places waits) page places
sets_places q page places waits lt =
    record { here = sets_at q.places page.0 page.0 places lt refl; others = λ other ne. sets_others q.places page.0 other.0 places ne }

-- a page is in range unless its places are empty
in_range : (xs : List Places) (page : ℕ) → (get_or xs page none ≡ none → ⊥) → page < length xs
in_range xs page some = ⊎_elim (λ lt. lt) (λ ge. absurd (some (get_or_past xs page none ge))) (cases_lt page (length xs))

-- what holds of the new places and of all old ones, holds of all
each_place :
    (P : Places → Type 0) (xs : List Places) (page : ℕ) (places : Places) → page < length xs → P places → ((p : Page) → P (get_or xs p.0 none)) → (p : Page)
    → P (get_or (set xs page places) p.0 none)
each_place P xs page places lt here before p =
    ⊎_elim (λ e. subst P (sym (sets_at xs page p.0 places lt e)) here) (λ ne. subst P (sym (sets_others xs page p.0 places ne)) (before p)) (cases_eq p.0 page)

-- a page more at the back of a line, where it is to wait
abbrev longer : List Page → Page → Bool → List Page
longer line page w = if w then line ++ page ∷ [] else line

abbrev zero_of : Bool → ℕ
zero_of b = cond b 0 0

no_more : (b : Bool) → zero_of b ≡ 0
no_more true = refl
no_more false = refl

times_in-longer : (line : List Page) (page : Page) (w : Bool) (p : Page) → times_in (longer line page w) p ≡ times_in line p + cond (page.0 == p.0) (one_if w) 0
times_in-longer line page true p = sum_by_push (λ (x : Page). cond (x.0 == p.0) 1 0) line page
times_in-longer line page false p = let e : zero_of (page.0 == p.0) ≡ 0 = no_more (page.0 == p.0) in omega (arith, e)

line_keeps :
    (q : Queue) (page : Page) (places : Places) (w : Bool) → page.0 < length q.places → ((p : Page) → times_in q.line p ≡ one_if (waits q p))
    → one_if w + one_if (waits q page) ≡ one_if (waits_at places)
    → (p : Page) → times_in (longer q.line page w) p ≡ one_if (waits_at (get_or (set q.places page.0 places) p.0 none))
line_keeps q page places w lt each more p =
    ⊎_elim
    (λ (e : p.0 ≡ page.0).
    let added : cond (page.0 == p.0) (one_if w) 0 ≡ one_if w = ap (λ b. cond b (one_if w) 0) (eq-eqb page.0 p.0 (sym e)) in
    let old : one_if (waits q p) ≡ one_if (waits q page) = ap (λ n. one_if (waits_at (get_or q.places n none))) e in
    let new : one_if (waits_at (get_or (set q.places page.0 places) p.0 none)) ≡ one_if (waits_at places) =
    ap (λ x. one_if (waits_at x)) (sets_at q.places page.0 p.0 places lt e) in
    omega (arith, times_in-longer q.line page w p, added, each p, old, new, more))
    (λ (ne : p.0 ≢ page.0).
    let added : cond (page.0 == p.0) (one_if w) 0 ≡ 0 = ap (λ b. cond b (one_if w) 0) (ne_eqb page.0 p.0 (λ e. ne (sym e))) in
    let new : one_if (waits_at (get_or (set q.places page.0 places) p.0 none)) ≡ one_if (waits q p) =
    ap (λ x. one_if (waits_at x)) (sets_others q.places page.0 p.0 places ne) in
    omega (arith, times_in-longer q.line page w p, added, each p, new))
    (cases_eq p.0 page.0)

within_keeps :
    (q : Queue) (page : Page) (places : Places) → page.0 < length q.places → copies_at places + copies q ≤ copies_at (places_of q page) + q.capacity
    → sum_by copies_at (set q.places page.0 places) ≤ q.capacity
within_keeps q page places lt room = omega (arith, sum_by-set copies_at q.places page.0 places none lt, room)

-- new places for a page, with a copy more at most where there is room, and in the line exactly where it waits
pub places_keep :
    (s : Sizes) (q : Queue) (page : Page) (places : Places) (w : Bool) → IsQueue s q → page.0 < length q.places
    → copies_at places + copies q ≤ copies_at (places_of q page) + q.capacity
    → one_if w + one_if (waits q page) ≡ one_if (waits_at places) → FillsPage s places.flying → FillsPage s places.next
    → IsQueue s (with_places q page places w)
places_keep s q page places w h lt room more flies waits = record {
  pages = length-set q.places page.0 places ∙ h.pages;
  capacity = h.capacity;
  within = within_keeps q page places lt room;
  line = line_keeps q page places w lt h.line more;
  flying_fills = each_place (λ x. FillsPage s x.flying) q.places page.0 places lt flies h.flying_fills;
  next_fills = each_place (λ x. FillsPage s x.next) q.places page.0 places lt waits h.next_fills;
}

pub empty_keeps : EmptyKeeps
empty_keeps s =
    let P : Places → Type 0 = λ x. x ≡ none in
    let all : (p : ℕ) → get_or (replicate (pages_of s) none) p none ≡ none =
    λ p.
    ⊎_elim (λ lt. get_or-replicate (pages_of s) p none none lt)
    (λ ge. get_or_past (replicate (pages_of s) none) p none (omega (arith, length-replicate (pages_of s) none, ge))) (cases_lt p (pages_of s)) in
    record {
      pages = length-replicate (pages_of s) none;
      capacity = refl;
      within = omega (arith, sum_by-replicate copies_at (pages_of s) none);
      line = λ page. ap (λ x. one_if (waits_at x)) (sym (all page.0));
      flying_fills = λ page. subst (λ (x : Places). FillsPage s x.flying) (sym (all page.0)) tt;
      next_fills = λ page. subst (λ (x : Places). FillsPage s x.next) (sym (all page.0)) tt;
    }

put_room : (f n : Option Copy) (copy : Copy) (k capacity : ℕ) → k ≤ capacity → (is_some n || nat_lt k capacity) ≡ true
    → copies_at (record { flying = f; next = Some copy }) + k ≤ copies_at (record { flying = f; next = n }) + capacity
put_room f None copy k capacity le room = omega (arith, ltb-true k capacity room)
put_room f (Some old) copy k capacity le room = omega arith

pub put_waits :
    (f n : Option Copy) (copy : Copy)
    → one_if (is_none (first_of n f)) + one_if (waits_at (record { flying = f; next = n })) ≡ one_if (waits_at (record { flying = f; next = Some copy }))
put_waits None None copy = refl
put_waits None (Some old) copy = refl
put_waits (Some f) None copy = refl
put_waits (Some f) (Some old) copy = refl

pub put_keeps : PutKeeps
put_keeps s q page copy h lt fills room =
    let within : page.0 < length q.places = omega (arith, h.pages, lt) in (
      places_keep s q page (record { flying = flying q page; next = Some copy }) (is_none (newest q page)) h within
          (put_room (flying q page) (next_copy q page) copy (copies q) q.capacity h.within room)
          (put_waits (flying q page) (next_copy q page) copy) (h.flying_fills page) fills,
      sets_places q page (record { flying = flying q page; next = Some copy }) (is_none (newest q page)) within,
    )

flying_none : (places : Places) → places ≡ none → IsSome places.flying → ⊥
flying_none places e some = false≢true (subst (λ (x : Places). IsSome x.flying) e some)

newest_none : (places : Places) → places ≡ none → IsSome (first_of places.next places.flying) → ⊥
newest_none places e some = false≢true (subst (λ (x : Places). IsSome (first_of x.next x.flying)) e some)

waits_none : (places : Places) → places ≡ none → waits_at places ≡ true → ⊥
waits_none places e some = let no : false ≡ true = subst (λ (x : Places). waits_at x ≡ true) e some in cc

pub copies_in_range : CopiesInRange
copies_in_range s q page h some =
    let lt : page.0 < length q.places = in_range q.places page.0 (λ e. newest_none (places_of q page) e some) in omega (arith, h.pages, lt)

pub flying_in_range : (q : Queue) (page : Page) → IsSome (flying q page) → page.0 < length q.places
flying_in_range q page some = in_range q.places page.0 (λ e. flying_none (places_of q page) e some)

done_room :
    (f n : Option Copy) (k capacity : ℕ) → k ≤ capacity
    → copies_at (record { flying = None; next = n }) + k ≤ copies_at (record { flying = f; next = n }) + capacity
done_room f n k capacity le = omega arith

pub done_waits :
    (f n : Option Copy) → IsSome f
    → one_if (is_some n) + one_if (waits_at (record { flying = f; next = n })) ≡ one_if (waits_at (record { flying = None; next = n }))
done_waits None n some = absurd (false≢true some)
done_waits (Some f) None some = refl
done_waits (Some f) (Some n) some = refl

pub done_keeps : DoneKeeps
done_keeps s q page h some =
    let within : page.0 < length q.places = flying_in_range q page some in (
      places_keep s q page (record { flying = None; next = next_copy q page }) (is_some (next_copy q page)) h within
          (done_room (flying q page) (next_copy q page) (copies q) q.capacity h.within)
          (done_waits (flying q page) (next_copy q page) some) tt (h.next_fills page),
      sets_places q page (record { flying = None; next = next_copy q page }) (is_some (next_copy q page)) within,
    )

failed_room :
    (f n : Option Copy) (k capacity : ℕ) → k ≤ capacity
    → copies_at (record { flying = None; next = first_of n f }) + k ≤ copies_at (record { flying = f; next = n }) + capacity
failed_room f None k capacity le = omega arith
failed_room f (Some n) k capacity le = omega arith

pub failed_waits :
    (f n : Option Copy) → IsSome f
    → one_if true + one_if (waits_at (record { flying = f; next = n })) ≡ one_if (waits_at (record { flying = None; next = first_of n f }))
failed_waits None n some = absurd (false≢true some)
failed_waits (Some f) None some = refl
failed_waits (Some f) (Some n) some = refl

fills_first : (s : Sizes) (f n : Option Copy) → FillsPage s f → FillsPage s n → FillsPage s (first_of n f)
fills_first s f None flies waits = flies
fills_first s f (Some n) flies waits = waits

pub failed_keeps : FailedKeeps
failed_keeps s q page h some =
    let within : page.0 < length q.places = flying_in_range q page some in (
      places_keep s q page (record { flying = None; next = newest q page }) true h within
          (failed_room (flying q page) (next_copy q page) (copies q) q.capacity h.within)
          (failed_waits (flying q page) (next_copy q page) some) tt (fills_first s (flying q page) (next_copy q page) (h.flying_fills page)
          (h.next_fills page)),
      sets_places q page (record { flying = None; next = newest q page }) true within,
    )

one_if_some : (b : Bool) → 1 ≤ one_if b → b ≡ true
one_if_some true le = refl
one_if_some false le = absurd (omega arith)

times_in-front : (page : Page) (line : List Page) → times_in (page ∷ line) page ≡ 1 + times_in line page
times_in-front page line =
    sum_by-cons (λ (x : Page). cond (x.0 == page.0) 1 0) page line ∙ ap (λ b. cond b 1 0 + times_in line page) (eq-eqb page.0 page.0 refl)

pub front_waits : (s : Sizes) (q : Queue) (page : Page) (line : List Page) → IsQueue s q → q.line ≡ page ∷ line → waits q page ≡ true
front_waits s q page line h e = one_if_some (waits q page) (omega (arith, h.line page, ap (λ l. times_in l page) e, times_in-front page line))

start_line :
    (q : Queue) (page : Page) (line : List Page) (places : Places) → page.0 < length q.places → q.line ≡ page ∷ line → waits q page ≡ true
    → waits_at places ≡ false → ((p : Page) → times_in q.line p ≡ one_if (waits q p))
    → (p : Page) → times_in line p ≡ one_if (waits_at (get_or (set q.places page.0 places) p.0 none))
start_line q page line places lt e waited away each p =
    ⊎_elim
    (λ (same : p.0 ≡ page.0).
    let first : times_in (page ∷ line) p ≡ 1 + times_in line p =
    sum_by-cons (λ (x : Page). cond (x.0 == p.0) 1 0) page line ∙ ap (λ b. cond b 1 0 + times_in line p) (eq-eqb page.0 p.0 (sym same)) in
    let old : one_if (waits q p) ≡ 1 = ap (λ n. one_if (waits_at (get_or q.places n none))) same ∙ ap one_if waited in
    let new : one_if (waits_at (get_or (set q.places page.0 places) p.0 none)) ≡ 0 =
    ap (λ x. one_if (waits_at x)) (sets_at q.places page.0 p.0 places lt same) ∙ ap one_if away in
    omega (arith, each p, ap (λ l. times_in l p) e, first, old, new))
    (λ (ne : p.0 ≢ page.0).
    let first : times_in (page ∷ line) p ≡ 0 + times_in line p =
    sum_by-cons (λ (x : Page). cond (x.0 == p.0) 1 0) page line ∙ ap (λ b. cond b 1 0 + times_in line p) (ne_eqb page.0 p.0 (λ e. ne (sym e))) in
    let new : one_if (waits_at (get_or (set q.places page.0 places) p.0 none)) ≡ one_if (waits q p) =
    ap (λ x. one_if (waits_at x)) (sets_others q.places page.0 p.0 places ne) in
    omega (arith, each p, ap (λ l. times_in l p) e, first, new))
    (cases_eq p.0 page.0)

pub start_keeps_of : (s : Sizes) (q : Queue) (line : List Page) → q.line ≡ line → IsQueue s q → IsQueue s (start_of q line)
start_keeps_of s q [] e h = h
start_keeps_of s q (page ∷ line) e h =
    let waited : waits q page ≡ true = front_waits s q page line h e in
    let lt : page.0 < length q.places = in_range q.places page.0 (λ no. waits_none (places_of q page) no waited) in
    let places : Places = record { flying = next_copy q page; next = None } in
    record {
      pages = length-set q.places page.0 (record { flying = next_copy q page; next = None }) ∙ h.pages;
      capacity = h.capacity;
      within = within_keeps q page (record { flying = next_copy q page; next = None }) lt (omega (arith, h.within));
      line = start_line q page line (record { flying = next_copy q page; next = None }) lt e waited refl h.line;
      flying_fills =
          each_place (λ x. FillsPage s x.flying) q.places page.0 (record { flying = next_copy q page; next = None }) lt (h.next_fills page) h.flying_fills;
      next_fills = each_place (λ x. FillsPage s x.next) q.places page.0 (record { flying = next_copy q page; next = None }) lt tt h.next_fills;
    }

pub start_keeps : StartKeeps
start_keeps s q h = start_keeps_of s q q.line refl h

pub start_sets : StartSets
start_sets s q page line h e =
    let waited : waits q page ≡ true = front_waits s q page line h e in
    let lt : page.0 < length q.places = in_range q.places page.0 (λ no. waits_none (places_of q page) no waited) in
    record {
      within = omega (arith, h.pages, lt);
      waited = waited;
      sets =
          subst (λ (l : List Page). SetsPlaces q (start_of q l) page (record { flying = next_copy q page; next = None })) (sym e)
          (record { here = sets_at q.places page.0 page.0 _ lt refl; others = λ other ne. sets_others q.places page.0 other.0 _ ne });
    }
