-- What the table and the list of free cells are after one cell is changed.
use Rattle.std.proofs.Common.{◌≡◌, ◌≢◌, ℕ, zero, suc, ◌+◌, ◌<◌, ◌≤◌, Bool, true, false, cond, not, nat_lt, ◌&&◌, ◌==◌, List, [], ◌∷◌, ◌++◌, length, get_or, set, refl, sym, ap, ◌∙◌, subst, arith, Option, None, Some, count_by, position, ⊎_elim, get_or-set_same, get_or-set_other, length-set, ext_get_or, ne_eqb, eq-eqb}
use Rattle.std.specs.List.{position_or_len}
use Rattle.std.proofs.lemmas.Bool.{cases_Bool, cases_eq, lt-ltb}
use Rattle.std.proofs.lemmas.List.FromFn.{length-map-range_with_len, get_or-map-range_with_len}
use Rattle.std.proofs.lemmas.List.Folds.{position_or_len-set}
use Rattle.std.proofs.lemmas.List.Sums.{sum_by-set, sum_by-cons, get_or-le-sum_by}
use Rattle.std.proofs.lemmas.List.Quantifiers.{position-Some}
use Rattle.swap_queue.specs.declared.store.Spot.{Spot}
use Rattle.swap_queue.specs.Queue.{one_if}
use Rattle.swap_queue.specs.Cells.{Kept, free_cell, is_for, is_used, is_free}
use Rattle.swap_queue.specs.Stored.{no_spot, spot_in, spots_in, times_free, one_free, IsStored}
use Rattle.swap_queue.proofs.Copies.{one, cell_at, count_for, single_after}

module _ {X : Type 0} (p : X → Bool) (d : X) where
  abbrev number : X → ℕ
  number x = one (p x)

  one_there : (xs : List X) (i : ℕ) → i < length xs → p (get_or xs i d) ≡ true → 1 ≤ count_by p xs
  one_there xs i lt e = omega (arith, get_or-le-sum_by number xs i d lt, ap one e)

  only_at : (xs : List X) (i : ℕ) → count_by p xs ≤ 1 → i < length xs → p (get_or xs i d) ≡ true → position_or_len p xs ≡ i
  only_at [] i le lt e = absurd (omega arith)
  only_at (x ∷ xs) zero le lt e = ap (λ b. cond (not b) (1 + position_or_len p xs) 0) e
  only_at (x ∷ xs) (suc i) le lt e =
      let within : i < length xs = omega arith in
      ⊎_elim
      (λ (t : p x ≡ true).
      let more : count_by p (x ∷ xs) ≡ 1 + count_by p xs = sum_by-cons number x xs ∙ ap (λ b. one b + count_by p xs) t in
      absurd (omega (arith, more, one_there xs i within e)))
      (λ (t : p x ≡ false).
      let more : count_by p (x ∷ xs) ≡ 0 + count_by p xs = sum_by-cons number x xs ∙ ap (λ b. one b + count_by p xs) t in
      ap (λ b. cond (not b) (1 + position_or_len p xs) 0) t ∙ ap (λ n. 1 + n) (only_at xs i (omega (arith, more)) within e) ∙ omega arith)
      (cases_Bool (p x))

  -- the only one that passes is found where it is
  pub found_here : (xs : List X) (i : ℕ) → count_by p xs ≤ 1 → i < length xs → p (get_or xs i d) ≡ true → position p xs ≡ Some i
  found_here xs i le lt e =
      let at : position_or_len p xs ≡ i = only_at xs i le lt e in
      let below : nat_lt (position_or_len p xs) (length xs) ≡ true = ap (λ n. nat_lt n (length xs)) at ∙ lt-ltb i (length xs) lt in
      ap (λ b. cond b (Some (position_or_len p xs)) None) below ∙ ap (λ n. Some n) at

  found_at : (xs : List X) (o : Option ℕ) → position p xs ≡ o → count_by p xs ≡ 0 → o ≡ None
  found_at xs None e none = refl
  found_at xs (Some i) e none = let at = position-Some p xs i d e in absurd (omega (arith, none, one_there xs i at.0 at.1))

  pub found_none : (xs : List X) → count_by p xs ≡ 0 → position p xs ≡ None
  found_none xs none = found_at xs (position p xs) refl none

  pub found_same : (xs : List X) (i : ℕ) (y : X) → p (get_or xs i d) ≡ p y → position p (set xs i y) ≡ position p xs
  found_same xs i y e =
      let at : position_or_len p (set xs i y) ≡ position_or_len p xs = position_or_len-set p xs i y d (sym e) in
      ap (λ n. cond (nat_lt n (length (set xs i y))) (Some n) None) at
      ∙ ap (λ l. cond (nat_lt (position_or_len p xs) l) (Some (position_or_len p xs)) None) (length-set xs i y)

  pub found_gone : (xs : List X) (i : ℕ) (y : X) → count_by p xs ≤ 1 → i < length xs → p (get_or xs i d) ≡ true → p y ≡ false → position p (set xs i y) ≡ None
  found_gone xs i y le lt e gone =
      found_none (set xs i y) (omega (arith, sum_by-set number xs i y d lt, ap one e, ap one gone))

  pub found_new : (xs : List X) (i : ℕ) (y : X) → count_by p xs ≤ one (p (get_or xs i d)) → i < length xs → p y ≡ true → position p (set xs i y) ≡ Some i
  found_new xs i y le lt e =
      found_here (set xs i y) i (omega (arith, sum_by-set number xs i y d lt, ap one e, le)) (omega (arith, length-set xs i y, lt))
      (ap p (get_or-set_same xs i y d lt) ∙ e)

-- a cell that is for one page changes that page's places alone
module _ (cells : List Kept) (i : ℕ) (c : Kept) (page : ℕ) (sp : Spot)
    (others : (k : Bool) (p : ℕ) → p ≢ page → (is_for k p (cell_at cells i) ≡ false) × (is_for k p c ≡ false)) (here : spot_in (set cells i c) page ≡ sp) where
  other_spots : (p : ℕ) → p ≢ page → spot_in (set cells i c) p ≡ spot_in cells p
  other_spots p ne =
      let F : Option ℕ → Option ℕ → Spot = λ f n. record { flying = f; next = n } in
      let keeps : (k : Bool) → position (is_for k p) (set cells i c) ≡ position (is_for k p) cells =
      λ k. found_same (is_for k p) free_cell cells i c ((others k p ne).0 ∙ sym (others k p ne).1) in
      ap (λ f. F f (position (is_for false p) (set cells i c))) (keeps true) ∙ ap (λ n. F (position (is_for true p) cells) n) (keeps false)

  pub spots_in-set : (n : ℕ) → page < n → spots_in n (set cells i c) ≡ set (spots_in n cells) page sp
  spots_in-set n lt =
      let l : length (spots_in n cells) ≡ n = length-map-range_with_len (λ p. spot_in cells p) 0 n in
      let l' : length (spots_in n (set cells i c)) ≡ n = length-map-range_with_len (λ p. spot_in (set cells i c) p) 0 n in
      ext_get_or no_spot (spots_in n (set cells i c)) (set (spots_in n cells) page sp)
      (l' ∙ sym (length-set (spots_in n cells) page sp ∙ l))
      (λ p within.
      let at : p < n = omega (arith, l', within) in
      get_or-map-range_with_len (λ q. spot_in (set cells i c) q) 0 n p p no_spot at (omega arith)
      ∙ ⊎_elim
      (λ (e : p ≡ page).
      ap (λ q. spot_in (set cells i c) q) e ∙ here
      ∙ sym (ap (λ q. get_or (set (spots_in n cells) page sp) q no_spot) e ∙ get_or-set_same (spots_in n cells) page sp no_spot (omega (arith, l, lt))))
      (λ (ne : p ≢ page).
      other_spots p ne
      ∙ sym (get_or-set_other (spots_in n cells) page p sp no_spot ne ∙ get_or-map-range_with_len (λ q. spot_in cells q) 0 n p p no_spot at (omega arith)))
      (cases_eq p page))

  pub stored_after : (spots : List Spot) (free free' : List ℕ) (room : ℕ) → IsStored cells spots free room → i < length cells → page < length spots
      → ((k : Bool) (p : ℕ) → is_for k p c ≡ true → count_for k p cells ≤ one (is_for k p (cell_at cells i)))
      → ((j : ℕ) → times_free free' j ≡ one_free (set cells i c) j) → length free' + one (is_used c) ≡ length free + one (is_used (cell_at cells i))
      → IsStored (set cells i c) (set spots page sp) free' room
  stored_after spots free free' room h at lt only once used = record {
    single = single_after cells i c at h.single only;
    table =
        ap (λ t. set t page sp) h.table ∙ sym (spots_in-set (length spots) lt)
        ∙ ap (λ n. spots_in n (set cells i c)) (sym (length-set spots page sp));
    once = once;
    used = omega (arith, sum_by-set (λ (x : Kept). one (is_used x)) cells i c free_cell at, h.used, used, length-set cells i c);
    within = omega (arith, h.within, length-set cells i c);
  }

-- the place of a page's copy is in the table
pub spot_at :
    (cells : List Kept) (spots : List Spot) (free : List ℕ) (room page : ℕ) → IsStored cells spots free room → page < length spots
    → get_or spots page no_spot ≡ spot_in cells page
spot_at cells spots free room page h lt =
    ap (λ t. get_or t page no_spot) h.table ∙ get_or-map-range_with_len (λ p. spot_in cells p) 0 (length spots) page page no_spot lt (omega arith)

-- which cells are free after one is changed
one_free-other : (cells : List Kept) (i j : ℕ) (c : Kept) → j ≢ i → one_free (set cells i c) j ≡ one_free cells j
one_free-other cells i j c ne =
    ap (λ n. one_if (nat_lt j n && is_free (cell_at (set cells i c) j))) (length-set cells i c)
    ∙ ap (λ (x : Kept). one_if (nat_lt j (length cells) && is_free x)) (get_or-set_other cells i j c free_cell ne)

one_free-here : (cells : List Kept) (i : ℕ) (c : Kept) → i < length cells → one_free (set cells i c) i ≡ one_if (is_free c)
one_free-here cells i c lt =
    ap (λ n. one_if (nat_lt i n && is_free (cell_at (set cells i c) i))) (length-set cells i c)
    ∙ ap (λ (x : Kept). one_if (nat_lt i (length cells) && is_free x)) (get_or-set_same cells i c free_cell lt)
    ∙ ap (λ b. one_if (b && is_free c)) (lt-ltb i (length cells) lt)

one_free-was : (cells : List Kept) (i : ℕ) → i < length cells → one_free cells i ≡ one_if (is_free (cell_at cells i))
one_free-was cells i lt = ap (λ b. one_if (b && is_free (cell_at cells i))) (lt-ltb i (length cells) lt)

module _ (cells : List Kept) (i : ℕ) (c : Kept) (free free' : List ℕ) (lt : i < length cells) (once : (j : ℕ) → times_free free j ≡ one_free cells j) where
  pub free_after :
      (times_free free' i + one_if (is_free (cell_at cells i)) ≡ times_free free i + one_if (is_free c))
      → ((j : ℕ) → j ≢ i → times_free free' j ≡ times_free free j)
      → (j : ℕ) → times_free free' j ≡ one_free (set cells i c) j
  free_after here rest j =
      ⊎_elim
      (λ (e : j ≡ i).
      subst (λ n. times_free free' n ≡ one_free (set cells i c) n) (sym e)
      (omega (arith, here, once i, one_free-here cells i c lt, one_free-was cells i lt)))
      (λ (ne : j ≢ i). rest j ne ∙ once j ∙ sym (one_free-other cells i j c ne))
      (cases_eq j i)

-- how often a place stands in a list with one more
pub times_push : (free : List ℕ) (i j : ℕ) → times_free (free ++ i ∷ []) j ≡ times_free free j + one (i == j)
times_push [] i j = sum_by-cons (λ k. one (k == j)) i [] ∙ omega arith
times_push (k ∷ free) i j =
    omega (arith, sum_by-cons (λ k. one (k == j)) k (free ++ i ∷ []), sum_by-cons (λ k. one (k == j)) k free, times_push free i j)

pub times_push_here : (free : List ℕ) (i : ℕ) → times_free (free ++ i ∷ []) i ≡ times_free free i + 1
times_push_here free i = times_push free i i ∙ ap (λ b. times_free free i + one b) (eq-eqb i i refl)

pub times_push_other : (free : List ℕ) (i j : ℕ) → j ≢ i → times_free (free ++ i ∷ []) j ≡ times_free free j
times_push_other free i j ne = times_push free i j ∙ ap (λ b. times_free free j + one b) (ne_eqb i j (λ e. ne (sym e))) ∙ omega arith
