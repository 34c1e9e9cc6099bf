-- A lender is lost, and a table as it is made.
use Rattle.std.proofs.Common.{◌≡◌, ℕ, ◌<◌, ◌≤◌, ◌^◌, Bool, true, false, List, [], ◌∷◌, map, count_by, replicate, sym, ap, subst, arith, ⊎_elim}
use Rattle.std.proofs.Math.ListN.{get_or-map}
use Rattle.std.proofs.lemmas.Bool.{cases_lt, cases_Bool, cond-true, cond-false}
use Rattle.std.proofs.lemmas.List.{length-replicate, get_or-replicate, get_or_past}
use Rattle.std.proofs.lemmas.List.Sums.{sum_by-cons}
use Rattle.std.proofs.lemmas.List.Folds.{sum_by-replicate}
use Rattle.swap_base.specs.declared.Slab.{Slab}
use Rattle.swap_base.specs.declared.Lender.{Lender}
use Rattle.swap_base.specs.declared.Lease.{Lease}
use Rattle.swap_slabs.specs.declared.SlabState.{SlabState}
use Rattle.swap_slabs.specs.declared.SlabState.TheVariants.{Local}
use Rattle.swap_base.specs.declared.TheConstants.{MOST_LENDERS}
use Rattle.swap_slabs.specs.Slabs.{state_of, is_mapped, is_at, has_lease_at, has_lease, after_lost, lost_after, all_local}
use Rattle.swap_slabs.specs.Kept.{StateFits, IsSlabs}
use Rattle.swap_slabs.specs.Rows.{RowView, new_row, one_if, borrows_from, RowFits, Fits}

module _ (p q : SlabState → Bool) (f : SlabState → SlabState) where
  count-map-le : ((x : SlabState) → one_if (p (f x)) ≤ one_if (q x)) → (xs : List SlabState) → count_by p (map f xs) ≤ count_by q xs
  count-map-le e [] = omega arith
  count-map-le e (x ∷ xs) = omega (arith, sum_by-cons (λ x. one_if (p x)) (f x) (map f xs), e x, count-map-le e xs, sum_by-cons (λ x. one_if (q x)) x xs)

module _ (l : Lender) where
  gone : (x : SlabState) → is_at l x ≡ true → after_lost l x ≡ Local
  gone x t = cond-true (is_at l x) Local x t

  stays : (x : SlabState) → is_at l x ≡ false → after_lost l x ≡ x
  stays x t = cond-false (is_at l x) Local x t

  fewer_leases : (m : Lender) (k : Lease) (x : SlabState) → one_if (has_lease m k (after_lost l x)) ≤ one_if (has_lease m k x)
  fewer_leases m k x =
      ⊎_elim (λ t. omega (arith, ap (λ y. one_if (has_lease m k y)) (gone x t))) (λ t. omega (arith, ap (λ y. one_if (has_lease m k y)) (stays x t)))
      (cases_Bool (is_at l x))

  state_lost : (states : List SlabState) (s : Slab) → state_of (lost_after states l) s ≡ after_lost l (state_of states s)
  state_lost states s = get_or-map (after_lost l) states s.0 Local

  pub lost_slabs : (states : List SlabState) → IsSlabs states → IsSlabs (lost_after states l)
  lost_slabs states h = record {
    fits = λ s.
        subst StateFits (sym (state_lost states s))
        (⊎_elim (λ t. subst StateFits (sym (gone (state_of states s) t)) tt) (λ t. subst StateFits (sym (stays (state_of states s) t)) (h.fits s))
        (cases_Bool (is_at l (state_of states s))));
    single =
        λ m k.
        omega (arith, h.single m k, count-map-le (λ state. has_lease m k state) (λ state. has_lease m k state) (after_lost l) (λ x. fewer_leases m k x) states);
  }

-- every slab is local
state_local : (n : ℕ) (s : Slab) → state_of (all_local n) s ≡ Local
state_local n s =
    ⊎_elim (λ lt. get_or-replicate n s.0 Local Local lt) (λ ge. get_or_past (replicate n Local) s.0 Local (omega (arith, ge, length-replicate n Local)))
    (cases_lt s.0 n)

pub local_slabs : (n : ℕ) → IsSlabs (all_local n)
local_slabs n = record {
  fits = λ s. subst StateFits (sym (state_local n s)) tt;
  single = λ l k. omega (arith, sum_by-replicate (λ state. one_if (has_lease l k state)) n Local);
}

pub new_fits :
    (n : ℕ) (states : List SlabState) (table : List RowView) → n < 2 ^ 32 → states ≡ all_local n → table ≡ replicate MOST_LENDERS (new_row n)
    → Fits states table 0
new_fits n states table few made rows =
    let S : List SlabState → Type 0 = λ x. Fits x table 0 in
    let T : List RowView → Type 0 = λ t. Fits (all_local n) t 0 in
    subst S (sym made)
    (subst T (sym rows)
    (record {
      slabs = local_slabs n;
      few = omega (arith, few, length-replicate n Local);
      rows = length-replicate MOST_LENDERS (new_row n);
      row = λ l lt.
          subst (λ r. RowFits (all_local n) l r) (sym (get_or-replicate MOST_LENDERS l.0 (new_row n) (new_row 0) lt))
          (record {
            borrowing = λ s. sym (ap (λ x. borrows_from l x) (state_local n s));
            leases = λ k s. sym (ap (λ x. one_if (has_lease l k x)) (state_local n s));
            number = omega (arith, sum_by-replicate (λ state. one_if (has_lease_at l state)) n Local);
            room = omega (arith, length-replicate n Local);
          });
      mapped = omega (arith, sum_by-replicate (λ state. one_if (is_mapped state)) n Local);
    }))
