-- What one slab's change makes of the table and of the lenders' rows.
use Rattle.std.proofs.Common.{◌≡◌, ◌≢◌, ℕ, ◌+◌, ◌<◌, ◌≤◌, Bool, true, false, cond, ◌&&◌, ◌==◌, nat_lt, List, [], ◌∷◌, length, get_or, set, find, position, option_map, count_by, refl, sym, ap, ap₂, ◌∙◌, subst, arith, Option, None, Some, IsSome, ⊎_elim, length-set, get_or-set_same, get_or-set_other, eq-eqb, ne_eqb, not}
use Rattle.std.specs.List.{position_or_len}
use Rattle.std.proofs.lemmas.Bool.{cases_eq, cases_lt, cases_Bool, cond-true, cond-false, false≢true, and_left, and_from, ltb-false}
use Rattle.std.proofs.lemmas.List.{get_or_past}
use Rattle.std.proofs.lemmas.List.Sums.{sum_by-set, sum_by-cons, get_or-le-sum_by}
use Rattle.std.proofs.lemmas.List.Quantifiers.{position-Some}
use Rattle.swap_base.specs.declared.Slab.{Slab}
use Rattle.swap_base.specs.declared.Lender.{Lender}
use Rattle.swap_base.specs.declared.Lease.{Lease}
use Rattle.swap_slabs.specs.declared.SlabState.{SlabState}
use Rattle.swap_slabs.specs.declared.SlabState.TheVariants.{Local, Asking, Borrowing, Mapped, Draining}
use Rattle.swap_slabs.specs.declared.row.Leased.{Leased}
use Rattle.swap_base.specs.declared.TheConstants.{MOST_LENDERS}
use Rattle.swap_slabs.specs.Slabs.{state_of, is_at, has_lease_at, has_lease, is_mapped}
use Rattle.swap_slabs.specs.Kept.{StateFits, IsSlabs}
use Rattle.swap_places.specs.Line.{stands}
use Rattle.swap_slabs.specs.Rows.{RowView, new_row, has_number, is_entry, without_lease, row_of, one_if, borrows_from, SetsBorrowing, RowFits, Fits}

-- a slab that isn't at a lender has no lease of it
pub no_lease_at : (l : Lender) (state : SlabState) → is_at l state ≡ false → has_lease_at l state ≡ false
no_lease_at l Local e = refl
no_lease_at l (Asking pair) e = refl
no_lease_at l (Borrowing lender) e = refl
no_lease_at l (Mapped lender lease flying) e = e
no_lease_at l (Draining lender lease flying) e = e

pub no_lease : (l : Lender) (k : Lease) (state : SlabState) → is_at l state ≡ false → has_lease l k state ≡ false
no_lease l k Local e = refl
no_lease l k (Asking pair) e = refl
no_lease l k (Borrowing lender) e = refl
no_lease l k (Mapped lender lease flying) e = and_left (lender.0 == l.0) (lease.0 == k.0) e
no_lease l k (Draining lender lease flying) e = and_left (lender.0 == l.0) (lease.0 == k.0) e

-- one slab has another state
module _ (states : List SlabState) (slab : Slab) (st : SlabState) (lt : slab.0 < length states) where
  abbrev pub old : SlabState
  old = state_of states slab

  abbrev pub after : List SlabState
  after = set states slab.0 st

  pub count_after : (p : SlabState → Bool) → count_by p after + one_if (p old) ≡ count_by p states + one_if (p st)
  count_after p = sum_by-set (λ x. one_if (p x)) states slab.0 st Local lt

  pub state_here : (s : Slab) → s.0 ≡ slab.0 → state_of after s ≡ st
  state_here s e = ap (λ n. get_or after n Local) e ∙ get_or-set_same states slab.0 st Local lt

  pub state_other : (s : Slab) → s.0 ≢ slab.0 → state_of after s ≡ state_of states s
  state_other s ne = get_or-set_other states slab.0 s.0 st Local ne

  pub slabs_after :
      IsSlabs states → StateFits st
      → ((l : Lender) (k : Lease) → has_lease l k st ≡ true → count_by (λ state. has_lease l k state) states ≤ one_if (has_lease l k old)) → IsSlabs after
  slabs_after h fits only = record {
    fits = λ s. ⊎_elim (λ e. subst StateFits (sym (state_here s e)) fits) (λ ne. subst StateFits (sym (state_other s ne)) (h.fits s)) (cases_eq s.0 slab.0);
    single = λ l k.
        ⊎_elim
        (λ (t : has_lease l k st ≡ true). omega (arith, count_after (λ state. has_lease l k state), ap one_if t, only l k t))
        (λ (t : has_lease l k st ≡ false). omega (arith, count_after (λ state. has_lease l k state), ap one_if t, h.single l k))
        (cases_Bool (has_lease l k st));
  }

  -- the slabs that borrow from a lender stay where this one borrows as before
  pub borrowing_same :
      (l : Lender) (borrowing : List ℕ) → borrows_from l old ≡ borrows_from l st
      → ((s : Slab) → stands borrowing s.0 ≡ borrows_from l (state_of states s)) → (s : Slab)
      → stands borrowing s.0 ≡ borrows_from l (state_of after s)
  borrowing_same l borrowing same each s =
      each s
      ∙ ⊎_elim
      (λ e. ap (λ n. borrows_from l (get_or states n Local)) e ∙ same ∙ sym (ap (λ x. borrows_from l x) (state_here s e)))
      (λ ne. sym (ap (λ x. borrows_from l x) (state_other s ne))) (cases_eq s.0 slab.0)

  -- and change with it where it's entered or taken out
  pub borrowing_set :
      (l : Lender) (before : RowView) (now : Bool) (row : RowView) → SetsBorrowing before slab now row → borrows_from l st ≡ now
      → ((s : Slab) → stands before.borrowing s.0 ≡ borrows_from l (state_of states s)) → (s : Slab)
      → stands row.borrowing s.0 ≡ borrows_from l (state_of after s)
  borrowing_set l before now row sets is each s =
      sets.each s.0
      ∙ ⊎_elim
      (λ (e : s.0 ≡ slab.0). cond-true (slab.0 == s.0) now (stands before.borrowing s.0) (eq-eqb slab.0 s.0 (sym e))
      ∙ sym (ap (λ x. borrows_from l x) (state_here s e) ∙ is))
      (λ (ne : s.0 ≢ slab.0). cond-false (slab.0 == s.0) now (stands before.borrowing s.0) (ne_eqb slab.0 s.0 (λ e. ne (sym e)))
      ∙ each s ∙ sym (ap (λ x. borrows_from l x) (state_other s ne)))
      (cases_eq s.0 slab.0)

  -- a lender that the change is none of keeps its row
  pub row_same :
      (l : Lender) (row : RowView) → is_at l old ≡ is_at l st → has_lease_at l old ≡ has_lease_at l st → ((k : Lease) → has_lease l k old ≡ has_lease l k st)
      → RowFits states l row → RowFits after l row
  row_same l row held leased leases h = record {
    borrowing = borrowing_same l row.borrowing (ap₂ (λ a b. a && not b) held leased) h.borrowing;
    leases = λ k s.
        h.leases k s
        ∙ ap one_if
        (⊎_elim (λ e. ap (λ n. has_lease l k (get_or states n Local)) e ∙ leases k ∙ sym (ap (λ x. has_lease l k x) (state_here s e)))
        (λ ne. sym (ap (λ x. has_lease l k x) (state_other s ne))) (cases_eq s.0 slab.0));
    number = omega (arith, h.number, count_after (λ state. has_lease_at l state), ap one_if leased);
    room = omega (arith, h.room, length-set states slab.0 st);
  }

  pub row_away : (l : Lender) (row : RowView) → is_at l old ≡ false → is_at l st ≡ false → RowFits states l row → RowFits after l row
  row_away l row before now h =
      row_same l row (before ∙ sym now) (no_lease_at l old before ∙ sym (no_lease_at l st now)) (λ k. no_lease l k old before ∙ sym (no_lease l k st now)) h

  -- each lender keeps its row where the slab stays with its lender and its lease
  pub fits_same :
      (table : List RowView) (m m' : ℕ) → Fits states table m → IsSlabs after → ((l : Lender) → is_at l old ≡ is_at l st)
      → ((l : Lender) → has_lease_at l old ≡ has_lease_at l st) → ((l : Lender) (k : Lease) → has_lease l k old ≡ has_lease l k st)
      → m' + one_if (is_mapped old) ≡ m + one_if (is_mapped st) → Fits after table m'
  fits_same table m m' h slabs held leased leases counted = record {
    slabs = slabs;
    few = omega (arith, h.few, length-set states slab.0 st);
    rows = h.rows;
    row = λ l within. row_same l (row_of table l) (held l) (leased l) (leases l) (h.row l within);
    mapped = omega (arith, h.mapped, count_after is_mapped, counted);
  }

  -- one lender has another row
  pub fits_row :
      (table : List RowView) (m m' : ℕ) (l : Lender) (row : RowView) → Fits states table m → IsSlabs after → l.0 < MOST_LENDERS
      → ((other : Lender) → other.0 ≢ l.0 → (is_at other old ≡ false) × (is_at other st ≡ false)) → RowFits after l row
      → m' + one_if (is_mapped old) ≡ m + one_if (is_mapped st) → Fits after (set table l.0 row) m'
  fits_row table m m' l row h slabs within others fits counted =
      let inside : l.0 < length table = omega (arith, h.rows, within) in
      record {
        slabs = slabs;
        few = omega (arith, h.few, length-set states slab.0 st);
        rows = length-set table l.0 row ∙ h.rows;
        row = λ other lt'.
            ⊎_elim
            (λ (e : other.0 ≡ l.0).
            subst (λ r. RowFits after other r) (sym (ap (λ n. get_or (set table l.0 row) n (new_row 0)) e ∙ get_or-set_same table l.0 row (new_row 0) inside))
            (subst (λ (x : Lender). RowFits after x row) (lender_is l other (sym e)) fits))
            (λ (ne : other.0 ≢ l.0).
            subst (λ r. RowFits after other r) (sym (get_or-set_other table l.0 other.0 row (new_row 0) ne))
            (row_away other (row_of table other) (others other ne).0 (others other ne).1 (h.row other lt')))
            (cases_eq other.0 l.0);
        mapped = omega (arith, h.mapped, count_after is_mapped, counted);
      }
    where
      lender_is : (a b : Lender) → a.0 ≡ b.0 → a ≡ b
      lender_is a b e = let F : ℕ → Lender = λ n. record { 0 = n } in ap F e

module _ {X : Type 0} (p : X → Bool) where
  none_passes : (xs : List X) → length xs ≤ position_or_len p xs → count_by p xs ≡ 0
  none_passes [] le = refl
  none_passes (x ∷ xs) le =
      ⊎_elim
      (λ (t : p x ≡ true). let e : position_or_len p (x ∷ xs) ≡ 0 = ap (λ b. cond (not b) (1 + position_or_len p xs) 0) t in absurd (omega (arith, e, le)))
      (λ (t : p x ≡ false).
      let e : position_or_len p (x ∷ xs) ≡ 1 + position_or_len p xs = ap (λ b. cond (not b) (1 + position_or_len p xs) 0) t in
      sum_by-cons (λ x. cond (p x) 1 0) x xs ∙ ap (λ b. cond b 1 0 + count_by p xs) t ∙ omega (arith, none_passes xs (omega (arith, e, le))))
      (cases_Bool (p x))

  found_of : (b : Bool) (n : ℕ) → cond b (Some n) None ≡ None → b ≡ false
  found_of true n e = cc
  found_of false n e = refl

  pub count_none : (xs : List X) → position p xs ≡ None → count_by p xs ≡ 0
  count_none xs e =
      none_passes xs (ltb-false (position_or_len p xs) (length xs) (found_of (nat_lt (position_or_len p xs) (length xs)) (position_or_len p xs) e))

-- a number of leases
pub without-count :
    (k : Lease) (p : Leased → Bool) (xs : List Leased) (e : Leased) → find (has_number k) xs ≡ Some e
    → count_by p (without_lease k xs) + one_if (p e) ≡ count_by p xs
without-count k p [] e found = cc
without-count k p (x ∷ xs) e found =
    ⊎_elim
    (λ (t : has_number k x ≡ true).
    let same : x ≡ e = some_is x e (sym (cond-true (has_number k x) (Some x) (find (has_number k) xs) t) ∙ found) in
    let gone : count_by p (without_lease k (x ∷ xs)) ≡ count_by p xs = ap (λ l. count_by p l) (cond-true (has_number k x) xs (x ∷ without_lease k xs) t) in
    omega (arith, gone, sum_by-cons (λ (l : Leased). one_if (p l)) x xs, ap (λ l. one_if (p l)) same))
    (λ (t : has_number k x ≡ false).
    let kept : count_by p (without_lease k (x ∷ xs)) ≡ one_if (p x) + count_by p (without_lease k xs) =
    ap (λ l. count_by p l) (cond-false (has_number k x) xs (x ∷ without_lease k xs) t) ∙ sum_by-cons (λ (l : Leased). one_if (p l)) x (without_lease k xs) in
    omega (
      arith,
      kept,
      sum_by-cons (λ (l : Leased). one_if (p l)) x xs,
      without-count k p xs e (sym (cond-false (has_number k x) (Some x) (find (has_number k) xs) t) ∙ found),
    ))
    (cases_Bool (has_number k x))
  where
    some_is : {X : Type 0} (x y : X) → Some x ≡ Some y → x ≡ y
    some_is x y h = cc

pub length-without : (k : Lease) (xs : List Leased) (e : Leased) → find (has_number k) xs ≡ Some e → length (without_lease k xs) + 1 ≡ length xs
length-without k xs e found = omega (arith, without-count k (λ l. true) xs e found, all (without_lease k xs), all xs)
  where
    all : (ys : List Leased) → count_by (λ l. true) ys ≡ length ys
    all [] = refl
    all (y ∷ ys) = omega (arith, sum_by-cons (λ (l : Leased). 1) y ys, all ys)

-- an entry that is found is one of them, and has its number
found_entry :
    (k : Lease) (xs : List Leased) (e : Leased) → find (has_number k) xs ≡ Some e → (has_number k e ≡ true) × (1 ≤ count_by (λ l. is_entry k e.slab l) xs)
found_entry k [] e found = cc
found_entry k (x ∷ xs) e found =
    ⊎_elim
    (λ (t : has_number k x ≡ true).
    let same : x ≡ e = some_is x e (sym (cond-true (has_number k x) (Some x) (find (has_number k) xs) t) ∙ found) in
    let there : is_entry k e.slab x ≡ true =
    and_from (x.lease.0 == k.0) (x.slab.0 == e.slab.0) t (eq-eqb x.slab.0 e.slab.0 (ap (λ (l : Leased). l.slab.0) same)) in
    (ap (has_number k) (sym same) ∙ t, omega (arith, sum_by-cons (λ (l : Leased). one_if (is_entry k e.slab l)) x xs, ap one_if there)))
    (λ (t : has_number k x ≡ false).
    let rest = found_entry k xs e (sym (cond-false (has_number k x) (Some x) (find (has_number k) xs) t) ∙ found) in
    (rest.0, omega (arith, sum_by-cons (λ (l : Leased). one_if (is_entry k e.slab l)) x xs, rest.1)))
    (cases_Bool (has_number k x))
  where
    some_is : {X : Type 0} (x y : X) → Some x ≡ Some y → x ≡ y
    some_is x y h = cc

none_entry : (k : Lease) (s : Slab) (xs : List Leased) → find (has_number k) xs ≡ None → count_by (λ l. is_entry k s l) xs ≡ 0
none_entry k s [] found = refl
none_entry k s (x ∷ xs) found =
    ⊎_elim
    (λ (t : has_number k x ≡ true). absurd (some_none (sym (cond-true (has_number k x) (Some x) (find (has_number k) xs) t) ∙ found)))
    (λ (t : has_number k x ≡ false).
    omega (
      arith,
      sum_by-cons (λ (l : Leased). one_if (is_entry k s l)) x xs,
      ap one_if (and_left (x.lease.0 == k.0) (x.slab.0 == s.0) t),
      none_entry k s xs (sym (cond-false (has_number k x) (Some x) (find (has_number k) xs) t) ∙ found),
    ))
    (cases_Bool (has_number k x))
  where
    some_none : {X : Type 0} {x : X} → Some x ≡ None → ⊥
    some_none h = cc

pub one_some : (b : Bool) → 1 ≤ one_if b → b ≡ true
one_some true le = refl
one_some false le = absurd (omega arith)

-- only one slab has a lease
pub only_slab :
    (states : List SlabState) (l : Lender) (k : Lease) (s t : Slab) → IsSlabs states → has_lease l k (state_of states s) ≡ true
    → has_lease l k (state_of states t) ≡ true → t.0 ≡ s.0
only_slab states l k s t h here there =
    ⊎_elim (λ e. e)
    (λ (ne : t.0 ≢ s.0).
    let within : s.0 < length states = in_range s here in
    let within' : t.0 < length states = in_range t there in
    let gone = count_after states s Local within (λ state. has_lease l k state) in
    let still : has_lease l k (state_of (set states s.0 Local) t) ≡ true = ap (λ x. has_lease l k x) (state_other states s Local within t ne) ∙ there in
    absurd
    (omega (
      arith,
      gone,
      ap one_if here,
      h.single l k,
      ap one_if still,
      get_or-le-sum_by (λ (x : SlabState). one_if (has_lease l k x)) (set states s.0 Local) t.0 Local (omega (arith, length-set states s.0 Local, within')),
    )))
    (cases_eq t.0 s.0)
  where
    in_range : (s : Slab) → has_lease l k (state_of states s) ≡ true → s.0 < length states
    in_range s e =
        ⊎_elim (λ lt. lt) (λ ge. absurd (false≢true (sym (ap (λ x. has_lease l k x) (get_or_past states s.0 Local ge)) ∙ e))) (cases_lt s.0 (length states))

pub lease_in_range : (states : List SlabState) (l : Lender) (k : Lease) (s : Slab) → has_lease l k (state_of states s) ≡ true → s.0 < length states
lease_in_range states l k s e =
    ⊎_elim (λ lt. lt) (λ ge. absurd (false≢true (sym (ap (λ x. has_lease l k x) (get_or_past states s.0 Local ge)) ∙ e))) (cases_lt s.0 (length states))

slab_is : (a b : Slab) → a.0 ≡ b.0 → a ≡ b
slab_is a b e = let F : ℕ → Slab = λ n. record { 0 = n } in ap F e

-- the entry of a slab's lease is found
pub entry_of :
    (states : List SlabState) (l : Lender) (row : RowView) (k : Lease) (s : Slab) → IsSlabs states → RowFits states l row
    → has_lease l k (state_of states s) ≡ true → (o : Option Leased) → find (has_number k) row.leases ≡ o → IsSome o
entry_of states l row k s h fits here None found = absurd (omega (arith, none_entry k s row.leases found, fits.leases k s, ap one_if here))
entry_of states l row k s h fits here (Some e) found = refl

pub entry_slab :
    (states : List SlabState) (l : Lender) (row : RowView) (k : Lease) (s : Slab) (e : Leased) → IsSlabs states → RowFits states l row
    → has_lease l k (state_of states s) ≡ true → find (has_number k) row.leases ≡ Some e → (e.slab.0 ≡ s.0) × (has_number k e ≡ true)
entry_slab states l row k s e h fits here found =
    let f = found_entry k row.leases e found in
    let there : has_lease l k (state_of states e.slab) ≡ true = one_some (has_lease l k (state_of states e.slab)) (omega (arith, f.1, fits.leases k e.slab)) in
    (only_slab states l k s e.slab h here there, f.0)

-- the index agrees with the states
pub by_lease_is :
    (states : List SlabState) (l : Lender) (row : RowView) (k : Lease) → IsSlabs states → RowFits states l row → (o : Option Leased)
    → find (has_number k) row.leases ≡ o → (p : Option ℕ) → position (λ state. has_lease l k state) states ≡ p
    → option_map (λ (e : Leased). e.slab) o ≡ option_map (λ (n : ℕ). record { 0 = n }) p
by_lease_is states l row k h fits None lost None none = refl
by_lease_is states l row k h fits None lost (Some i) at =
    let here = position-Some (λ state. has_lease l k state) states i Local at in
    absurd (omega (arith, none_entry k (record { 0 = i }) row.leases lost, fits.leases k (record { 0 = i }), ap one_if here.1))
by_lease_is states l row k h fits (Some e) found None none =
    let f = found_entry k row.leases e found in
    let there : has_lease l k (state_of states e.slab) ≡ true = one_some (has_lease l k (state_of states e.slab)) (omega (arith, f.1, fits.leases k e.slab)) in
    absurd
    (omega (
      arith,
      ap one_if there,
      count_none (λ state. has_lease l k state) states none,
      get_or-le-sum_by (λ (x : SlabState). one_if (has_lease l k x)) states e.slab.0 Local (lease_in_range states l k e.slab there),
    ))
by_lease_is states l row k h fits (Some e) found (Some i) at =
    let here = position-Some (λ state. has_lease l k state) states i Local at in
    let same = (entry_slab states l row k (record { 0 = i }) e h fits here.1 found).0 in
    ap (λ s. Some s) (slab_is e.slab (record { 0 = i }) same)
