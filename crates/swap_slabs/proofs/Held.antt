-- A slab of a lender's row is at the lender, and where there is none the lender holds no slab.
use Rattle.std.proofs.Common.{◌≡◌, ℕ, ◌-◌, ◌<◌, ◌≤◌, Bool, true, false, ◌&&◌, ◌||◌, ◌==◌, not, List, [], ◌∷◌, length, get_or, slice_get, is_some, refl, sym, ap, ◌∙◌, subst, arith, Option, None, Some, ⊎_elim, eq-eqb}
use Rattle.std.proofs.lemmas.Bool.{cases_lt, false≢true, and_parts, and_from}
use Rattle.std.proofs.lemmas.List.{get_or_past}
use Rattle.std.proofs.lemmas.List.Elements.{All-from_get_or}
use Rattle.std.proofs.lemmas.List.Folds.{list_any_none, list_any_at}
use Rattle.std.proofs.lemmas.List.Sums.{get_or-le-sum_by}
use Rattle.std.proofs.lemmas.Option.{slice_get-get_or, slice_get_within, get_or_from_slice_get}
use Rattle.swap_base.specs.declared.Slab.{Slab}
use Rattle.swap_base.specs.declared.Lender.{Lender}
use Rattle.swap_base.specs.declared.Lease.{Lease}
use Rattle.swap_places.specs.Line.{stands}
use Rattle.swap_slabs.specs.declared.SlabState.{SlabState}
use Rattle.swap_slabs.specs.declared.SlabState.TheVariants.{Local, Asking, Borrowing, Mapped, Draining}
use Rattle.swap_slabs.specs.declared.row.Leased.{Leased}
use Rattle.swap_slabs.specs.Slabs.{state_of, is_at, has_lease_at, has_lease, is_lender, holds}
use Rattle.swap_slabs.proofs.Change.{one_some}
use Rattle.swap_slabs.specs.Rows.{RowView, is_entry, one_if, borrows_from, last_or_first, slab_of_row, RowFits}

-- a slab with a lease of the lender is at it, and so is one that borrows from it
leased_at : (l : Lender) (k : Lease) (state : SlabState) → has_lease l k state ≡ true → is_at l state ≡ true
leased_at l k Local e = absurd (false≢true e)
leased_at l k (Asking pair) e = absurd (false≢true e)
leased_at l k (Borrowing lender) e = absurd (false≢true e)
leased_at l k (Mapped lender lease flying) e = (and_parts (is_lender l (Some lender)) _ e).0
leased_at l k (Draining lender lease flying) e = (and_parts (is_lender l (Some lender)) _ e).0

-- what is at a lender is one of the slabs
pub at_within : (states : List SlabState) (l : Lender) (s : Slab) → is_at l (state_of states s) ≡ true → s.0 < length states
at_within states l s e =
    ⊎_elim (λ lt. lt) (λ ge. absurd (false≢true (sym (ap (is_at l) (get_or_past states s.0 Local ge)) ∙ e))) (cases_lt s.0 (length states))

module _ (states : List SlabState) (l : Lender) (row : RowView) (fits : RowFits states l row) where
  entry_at : (e : Leased) (i : ℕ) → slice_get row.leases i ≡ Some e → is_at l (state_of states e.slab) ≡ true
  entry_at e i at =
      let there : get_or row.leases i e ≡ e = get_or_from_slice_get row.leases i e e at in
      let own : is_entry e.lease e.slab e ≡ true =
      and_from (e.lease.0 == e.lease.0) (e.slab.0 == e.slab.0) (eq-eqb e.lease.0 e.lease.0 refl) (eq-eqb e.slab.0 e.slab.0 refl) in
      leased_at l e.lease (state_of states e.slab)
      (one_some (has_lease l e.lease (state_of states e.slab))
      (omega (
        arith,
        fits.leases e.lease e.slab,
        get_or-le-sum_by (λ (x : Leased). one_if (is_entry e.lease e.slab x)) row.leases i e (slice_get_within row.leases i e at),
        ap (λ x. one_if (is_entry e.lease e.slab x)) there,
        ap one_if own,
      )))

  borrowing_at : (n : ℕ) (xs : List ℕ) → row.borrowing ≡ xs → slice_get xs 0 ≡ Some n → is_at l (state_of states (record { 0 = n })) ≡ true
  borrowing_at n [] is at = cc
  borrowing_at n (x ∷ xs) is at =
      let same : x ≡ n = some_is x n at in
      let there : stands row.borrowing n ≡ true = ap (λ ys. stands ys n) is ∙ ap (λ b. b || stands xs n) (eq-eqb x n same) in
      (and_parts (is_at l (state_of states (record { 0 = n }))) (not (has_lease_at l (state_of states (record { 0 = n }))))
      (sym (fits.borrowing (record { 0 = n })) ∙ there)).0
    where
      some_is : (x y : ℕ) → Some x ≡ Some y → x ≡ y
      some_is x y h = cc

  found_at :
      (o : Option Leased) (p : Option ℕ) → slice_get row.leases (length row.leases - 1) ≡ o → slice_get row.borrowing 0 ≡ p → (s : Slab)
      → last_or_first o p ≡ Some s → is_at l (state_of states s) ≡ true
  found_at None None a b s e = cc
  found_at None (Some n) a b s e =
      subst (λ (s : Slab). is_at l (state_of states s) ≡ true) (some_is (record { 0 = n }) s e) (borrowing_at n row.borrowing refl b)
    where
      some_is : (x y : Slab) → Some x ≡ Some y → x ≡ y
      some_is x y h = cc
  found_at (Some x) p a b s e =
      subst (λ (s : Slab). is_at l (state_of states s) ≡ true) (some_is x.slab s e) (entry_at x (length row.leases - 1) a)
    where
      some_is : (x y : Slab) → Some x ≡ Some y → x ≡ y
      some_is x y h = cc

  pub slab_at : (s : Slab) → slab_of_row row ≡ Some s → is_at l (state_of states s) ≡ true
  slab_at s e = found_at (slice_get row.leases (length row.leases - 1)) (slice_get row.borrowing 0) refl refl s e

  -- a lender with no lease and no slab that borrows holds none
  none_leased : (xs : List Leased) → row.leases ≡ xs → slice_get xs (length xs - 1) ≡ None → length row.leases ≡ 0
  none_leased [] is e = ap length is
  none_leased (x ∷ xs) is e = absurd (some_none (sym (slice_get-get_or (x ∷ xs) (length (x ∷ xs) - 1) x (omega arith)) ∙ e))
    where
      some_none : {x : Leased} → Some x ≡ None → ⊥
      some_none h = cc

  none_borrow : (xs : List ℕ) → row.borrowing ≡ xs → slice_get xs 0 ≡ None → row.borrowing ≡ []
  none_borrow [] is e = is
  none_borrow (x ∷ xs) is e = cc

  not_at : (s : Slab) → s.0 < length states → length row.leases ≡ 0 → row.borrowing ≡ [] → is_at l (state_of states s) ≡ false
  not_at s lt leases borrowing =
      let unleased : has_lease_at l (state_of states s) ≡ false =
      none_one (has_lease_at l (state_of states s))
      (omega (arith, fits.number, leases, get_or-le-sum_by (λ (x : SlabState). one_if (has_lease_at l x)) states s.0 Local lt)) in
      let out : borrows_from l (state_of states s) ≡ false = sym (fits.borrowing s) ∙ ap (λ xs. stands xs s.0) borrowing in
      by_parts (is_at l (state_of states s)) (has_lease_at l (state_of states s)) unleased out
    where
      none_one : (b : Bool) → one_if b ≡ 0 → b ≡ false
      none_one true e = absurd (omega (arith, e))
      none_one false e = refl

      by_parts : (a b : Bool) → b ≡ false → (a && not b) ≡ false → a ≡ false
      by_parts true true u e = absurd (false≢true (sym u))
      by_parts true false u e = absurd (false≢true (sym e))
      by_parts false b u e = refl

  some_if :
      (o : Option Leased) (p : Option ℕ) → slice_get row.leases (length row.leases - 1) ≡ o → slice_get row.borrowing 0 ≡ p
      → is_some (last_or_first o p) ≡ holds states l
  some_if None None a b =
      let leases = none_leased row.leases refl a in
      let borrowing = none_borrow row.borrowing refl b in
      sym
      (list_any_none (λ state. is_at l state) states
      (All-from_get_or (λ state. is_at l state ≡ false) states Local (λ i lt. not_at (record { 0 = i }) lt leases borrowing)))
  some_if None (Some n) a b = held (record { 0 = n }) (borrowing_at n row.borrowing refl b)
    where
      held : (s : Slab) → is_at l (state_of states s) ≡ true → true ≡ holds states l
      held s e = sym (list_any_at (λ state. is_at l state) states s.0 Local (at_within states l s e) e)
  some_if (Some x) p a b = held x.slab (entry_at x (length row.leases - 1) a)
    where
      held : (s : Slab) → is_at l (state_of states s) ≡ true → true ≡ holds states l
      held s e = sym (list_any_at (λ state. is_at l state) states s.0 Local (at_within states l s e) e)

  pub slab_if_held : is_some (slab_of_row row) ≡ holds states l
  slab_if_held = some_if (slice_get row.leases (length row.leases - 1)) (slice_get row.borrowing 0) refl refl
