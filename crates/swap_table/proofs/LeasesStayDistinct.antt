-- A lease of a lender is held by at most one slab.
use Rattle.std.proofs.Common.{◌≡◌, ◌≢◌, ℕ, ◌+◌, ◌<◌, ◌≤◌, lit≤, Bool, true, false, cond, not, nat_lt, ◌==◌, ◌&&◌, List, [], ◌∷◌, length, get_or, set, count_by, zero, suc, refl, sym, ap, ◌∙◌, subst, arith, length-set, get_or-set_other, option_map, Option, None, Some, ⊎_elim}
use Rattle.std.proofs.lemmas.Bool.{eqb-true, cases_eq, cases_lt, false≢true, ltb-false}
use Rattle.std.proofs.lemmas.List.{get_or_past}
use Rattle.std.proofs.lemmas.List.Sums.{get_or-le-sum_by}
use Rattle.std.specs.List.{position, position_or_len}
use Rattle.swap_base.specs.declared.Slab.{Slab}
use Rattle.swap_base.specs.declared.Lender.{Lender}
use Rattle.swap_base.specs.declared.Lease.{Lease}
use Rattle.swap_slabs.specs.Slabs as slabs
use Rattle.swap_slabs.specs.declared.SlabState.{SlabState}
use Rattle.swap_slabs.specs.declared.SlabState.TheVariants.{Local, Borrowing, Mapped}
use Rattle.swap_table.specs.Serves.{AreSingle}
use Rattle.swap_base.proofs.Lists.{one_if, count_by-set_same, count_by-set_more, count_by-set_less, count_by-cons}

abbrev leased : Lender → Lease → SlabState → Bool
leased l k state = slabs.has_lease l k state

-- a slab has a new state with the same lease
pub single_same :
    (states : List SlabState) (t : Slab) (x : SlabState) → t.0 < length states
    → ((l : Lender) (k : Lease) → slabs.has_lease l k x ≡ slabs.has_lease l k (slabs.state_of states t)) → AreSingle states
    → AreSingle (slabs.with_state states t x)
single_same states t x within same h l k = let e = count_by-set_same (leased l k) states t.0 x Local within (same l k) in subst (λ n. n ≤ 1) (sym e) (h l k)

-- a slab has a new state that has no lease but those that it had
pub single_fewer :
    (states : List SlabState) (t : Slab) (x : SlabState) → t.0 < length states
    → ((l : Lender) (k : Lease) → slabs.has_lease l k x ≡ true → slabs.has_lease l k (slabs.state_of states t) ≡ true) → AreSingle states
    → AreSingle (slabs.with_state states t x)
single_fewer states t x within fewer h l k = go (slabs.has_lease l k x) refl (slabs.has_lease l k (slabs.state_of states t)) refl
  where
    go :
        (b : Bool) → slabs.has_lease l k x ≡ b → (c : Bool) → slabs.has_lease l k (slabs.state_of states t) ≡ c
        → count_by (leased l k) (slabs.with_state states t x) ≤ 1
    go true now true was = let e = count_by-set_same (leased l k) states t.0 x Local within (now ∙ sym was) in subst (λ n. n ≤ 1) (sym e) (h l k)
    go false now false was = let e = count_by-set_same (leased l k) states t.0 x Local within (now ∙ sym was) in subst (λ n. n ≤ 1) (sym e) (h l k)
    go true now false was = let e : true ≡ false = sym (fewer l k now) ∙ was in cc
    go false now true was = let e = count_by-set_less (leased l k) states t.0 x Local within now was in omega (arith, e, h l k)

-- what has a lease is one of the slabs
pub lease_in_range : (states : List SlabState) (l : Lender) (k : Lease) (s : Slab) → leased l k (slabs.state_of states s) ≡ true → s.0 < length states
lease_in_range states l k s e =
    ⊎_elim (λ lt. lt) (λ ge. absurd (false≢true (sym (ap (leased l k) (get_or_past states s.0 Local ge)) ∙ e))) (cases_lt s.0 (length states))

-- no slab has a lease that isn't found
no_place : {X : Type 0} (f : ℕ → X) (o : Option ℕ) → option_map f o ≡ None → o ≡ None
no_place f None e = refl
no_place f (Some n) e = cc

none_passes : (p : SlabState → Bool) (xs : List SlabState) → length xs ≤ position_or_len p xs → count_by p xs ≡ 0
none_passes p [] le = refl
none_passes p (x ∷ xs) le = go (p x) refl (λ short. none_passes p xs short)
  where
    go : (b : Bool) → p x ≡ b → (length xs ≤ position_or_len p xs → count_by p xs ≡ 0) → count_by p (x ∷ xs) ≡ 0
    go true is rest =
        let e : position_or_len p (x ∷ xs) ≡ 0 = ap (λ b. cond (not b) (1 + position_or_len p xs) 0) is in absurd (omega (arith, e, le))
    go false is rest =
        let e : position_or_len p (x ∷ xs) ≡ 1 + position_or_len p xs = ap (λ b. cond (not b) (1 + position_or_len p xs) 0) is in
        count_by-cons p x xs ∙ ap (λ b. one_if b + count_by p xs) is ∙ omega (arith, rest (omega (arith, e, le)))

unplaced : (b : Bool) (n : ℕ) → cond b (Some n) None ≡ None → b ≡ false
unplaced true n e = cc
unplaced false n e = refl

unleased_count : (states : List SlabState) (l : Lender) (k : Lease) → slabs.by_lease states l k ≡ None → count_by (leased l k) states ≡ 0
unleased_count states l k none =
    none_passes (leased l k) states
    (ltb-false (position_or_len (leased l k) states) (length states)
    (unplaced (nat_lt (position_or_len (leased l k) states) (length states)) (position_or_len (leased l k) states)
    (no_place (λ n. record { 0 = n }) (position (leased l k) states) none)))

pub unleased :
    (states : List SlabState) (l : Lender) (lease : Lease) (u : Slab) → slabs.by_lease states l lease ≡ None
    → slabs.has_lease l lease (slabs.state_of states u) ≡ false
unleased states l lease u none = go (slabs.has_lease l lease (slabs.state_of states u)) refl
  where
    go : (b : Bool) → slabs.has_lease l lease (slabs.state_of states u) ≡ b → b ≡ false
    go false is = refl
    go true is =
        let within : u.0 < length states = lease_in_range states l lease u is in
        let zero_ = unleased_count states l lease none in
        let one_ : one_if true ≤ count_by (leased l lease) states =
        subst (λ b. one_if b ≤ count_by (leased l lease) states) is
        (get_or-le-sum_by (λ (x : SlabState). one_if (leased l lease x)) states u.0 Local within) in
        absurd (omega (arith, zero_, one_))

-- a slab that borrows is lent a lease that no slab of the lender has
pub single_lent :
    (states : List SlabState) (t : Slab) (l : Lender) (lease : Lease) → t.0 < length states → slabs.state_of states t ≡ Borrowing l
    → slabs.by_lease states l lease ≡ None → AreSingle states → AreSingle (slabs.with_state states t (Mapped l lease 0))
single_lent states t l lease within is new h m k = go (slabs.has_lease m k (Mapped l lease 0)) refl
  where
    was : slabs.has_lease m k (slabs.state_of states t) ≡ false
    was = ap (λ y. slabs.has_lease m k y) is

    both : (a b : Bool) → (a && b) ≡ true → (a ≡ true) × (b ≡ true)
    both true b e = (refl, e)
    both false b e = cc

    go : (b : Bool) → slabs.has_lease m k (Mapped l lease 0) ≡ b → count_by (leased m k) (slabs.with_state states t (Mapped l lease 0)) ≤ 1
    go false now = let e = count_by-set_same (leased m k) states t.0 (Mapped l lease 0) Local within (now ∙ sym was) in subst (λ n. n ≤ 1) (sym e) (h m k)
    go true now =
        let parts = both (l.0 == m.0) (lease.0 == k.0) now in
        let P : ℕ → Type 0 = λ n. slabs.by_lease states (record { 0 = n }) k ≡ None in
        let Q : ℕ → Type 0 = λ n. slabs.by_lease states l (record { 0 = n }) ≡ None in
        let none : count_by (leased m k) states ≡ 0 =
        unleased_count states m k (subst P (eqb-true l.0 m.0 parts.0) (subst Q (eqb-true lease.0 k.0 parts.1) new)) in
        let e = count_by-set_more (leased m k) states t.0 (Mapped l lease 0) Local within now was in omega (arith, e, none)

-- slabs that are lost give their leases up
pub single_lost : (states : List SlabState) (l : Lender) → AreSingle states → AreSingle (slabs.lost_after states l)
single_lost states l h m k = let fewer = lost_count states in omega (arith, fewer, h m k)
  where
    after : (b : Bool) (x : SlabState) → one_if (leased m k (cond b Local x)) ≤ one_if (leased m k x)
    after true x = omega arith
    after false x = omega arith

    lost_count : (xs : List SlabState) → count_by (leased m k) (slabs.lost_after xs l) ≤ count_by (leased m k) xs
    lost_count [] = lit≤ tt
    lost_count (x ∷ xs) =
        let a = count_by-cons (leased m k) (slabs.after_lost l x) (slabs.lost_after xs l) in
        let b = count_by-cons (leased m k) x xs in
        let one = after (slabs.is_at l x) x in
        let rest = lost_count xs in omega (arith, a, b, one, rest)

-- only one slab has a lease
pub only_slab :
    (states : List SlabState) (l : Lender) (k : Lease) (s t : Slab) → AreSingle states → slabs.has_lease l k (slabs.state_of states s) ≡ true
    → slabs.has_lease l k (slabs.state_of states t) ≡ true → t.0 ≡ s.0
only_slab states l k s t h here there =
    ⊎_elim (λ e. e)
    (λ (ne : t.0 ≢ s.0).
    let within : s.0 < length states = lease_in_range states l k s here in
    let within' : t.0 < length states = lease_in_range states l k t there in
    let gone = count_by-set_less (leased l k) states s.0 Local Local within refl here in
    let still : slabs.has_lease l k (get_or (set states s.0 Local) t.0 Local) ≡ true =
    ap (leased l k) (get_or-set_other states s.0 t.0 Local Local ne) ∙ there in
    let one_ : one_if true ≤ count_by (leased l k) (set states s.0 Local) =
    subst (λ b. one_if b ≤ count_by (leased l k) (set states s.0 Local)) still
    (get_or-le-sum_by (λ (x : SlabState). one_if (leased l k x)) (set states s.0 Local) t.0 Local (omega (arith, length-set states s.0 Local, within'))) in
    absurd (omega (arith, gone, h l k, one_)))
    (cases_eq t.0 s.0)

pub single_local : (n : ℕ) → AreSingle (slabs.all_local n)
single_local n l k = subst (λ m. m ≤ 1) (sym (none n)) (lit≤ tt)
  where
    none : (n : ℕ) → count_by (leased l k) (slabs.all_local n) ≡ 0
    none zero = refl
    none (suc n) = count_by-cons (leased l k) Local (slabs.all_local n) ∙ ap (λ m. 0 + m) (none n)
