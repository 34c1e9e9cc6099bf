-- Each move keeps what a table of slabs is, and the lenders' rows agree after it.
use Rattle.std.proofs.Common.{◌≡◌, ◌≢◌, ℕ, ◌+◌, ◌<◌, ◌≤◌, ◌^◌, Bool, true, false, ◌&&◌, not, ◌==◌, List, length, get_or, set, find, position, option_map, count_by, refl, sym, ap, ap₂, ◌∙◌, subst, arith, Option, None, Some, IsSome, ⊎_elim, length-set, eq-eqb, ne_eqb, eqb-true}
use Rattle.std.proofs.lemmas.Bool.{cases_eq, cases_Bool, cond-true, cond-false, false≢true, and_parts, and_right, and_from}
use Rattle.std.proofs.Math.Bool.{and-false}
use Rattle.std.specs.List.{insert}
use Rattle.std.proofs.lemmas.List.Edits.{length-insert}
use Rattle.std.proofs.lemmas.List.Sums.{sum_by-insert, get_or-le-sum_by, count_by-le-length}
use Rattle.swap_base.specs.declared.Slab.{Slab}
use Rattle.swap_base.specs.declared.Lender.{Lender}
use Rattle.swap_base.specs.declared.Lease.{Lease}
use Rattle.swap_places.specs.Line.{stands}
use Rattle.swap_slabs.specs.declared.Reply.{Reply}
use Rattle.swap_slabs.specs.declared.Pair.{Pair}
use Rattle.swap_slabs.specs.declared.SlabState.{SlabState}
use Rattle.swap_slabs.specs.declared.SlabState.TheVariants.{Local, Asking, Borrowing, Mapped, Draining}
use Rattle.swap_slabs.specs.declared.row.Leased.{Leased}
use Rattle.swap_base.specs.declared.TheConstants.{MOST_LENDERS, MOST_WINDOW}
use Rattle.swap_slabs.specs.Slabs.{state_of, with_state, is_local, is_mapped, lender_of, leased_of, is_lender, is_leased_at, is_lease, is_at, has_lease_at, has_lease, flying_of, with_reply, waits, by_lease}
use Rattle.swap_slabs.specs.Kept.{IsSecond, StateFits, IsSlabs}
use Rattle.swap_slabs.specs.Rows.{RowView, has_number, is_entry, without_lease, row_of, one_if, Puts, SetsBorrowing, borrows_from, RowFits, Fits}
use Rattle.swap_slabs.proofs.Change.{count_after, state_here, state_other, borrowing_same, borrowing_set, slabs_after, fits_same, fits_row, length-without, without-count, entry_of, entry_slab, count_none}

pub local_is : (state : SlabState) → is_local state ≡ true → state ≡ Local
local_is Local e = refl
local_is (Asking pair) e = absurd (false≢true e)
local_is (Borrowing lender) e = absurd (false≢true e)
local_is (Mapped lender lease flying) e = absurd (false≢true e)
local_is (Draining lender lease flying) e = absurd (false≢true e)

some_is : {X : Type 0} (x y : X) → Some x ≡ Some y → x ≡ y
some_is x y h = cc

pub leased_lender : (state : SlabState) (l : Lender) (k : Lease) → leased_of state ≡ Some (l, k) → lender_of state ≡ Some l
leased_lender Local l k e = cc
leased_lender (Asking pair) l k e = cc
leased_lender (Borrowing lender) l k e = cc
leased_lender (Mapped lender lease flying) l k e = let P : Lender × Lease → Option Lender = λ x. Some x.0 in ap P (some_is (lender, lease) (l, k) e)
leased_lender (Draining lender lease flying) l k e = let P : Lender × Lease → Option Lender = λ x. Some x.0 in ap P (some_is (lender, lease) (l, k) e)

not_other : (m l : Lender) → m.0 ≢ l.0 → is_lender m (Some l) ≡ false
not_other m l ne = ne_eqb l.0 m.0 (λ e. ne (sym e))

lender_at : (state : SlabState) (m l : Lender) → lender_of state ≡ Some l → m.0 ≢ l.0 → is_at m state ≡ false
lender_at state m l e ne = ap (λ o. is_lender m o) e ∙ not_other m l ne

-- a slab that isn't leased keeps leases as they are
only_none :
    (states : List SlabState) (before : SlabState) (st : SlabState) → leased_of st ≡ None → (l : Lender) (k : Lease) → has_lease l k st ≡ true
    → count_by (λ state. has_lease l k state) states ≤ one_if (has_lease l k before)
only_none states before st e l k t = absurd (false≢true (sym (ap (λ o. is_lease l k o) e) ∙ t))

only_same :
    (states : List SlabState) (before : SlabState) (st : SlabState) → IsSlabs states → leased_of st ≡ leased_of before → (l : Lender) (k : Lease)
    → has_lease l k st ≡ true → count_by (λ state. has_lease l k state) states ≤ one_if (has_lease l k before)
only_same states before st h e l k t = omega (arith, h.single l k, ap one_if (sym (ap (λ o. is_lease l k o) e) ∙ t))

-- a slab becomes one that has no lease
pub slabs_none :
    (states : List SlabState) (slab : Slab) (st : SlabState) → slab.0 < length states → IsSlabs states → StateFits st → leased_of st ≡ None
    → IsSlabs (with_state states slab st)
slabs_none states slab st lt h fits e = slabs_after states slab st lt h fits (only_none states (state_of states slab) st e)

-- or keeps the one that it has
pub slabs_same :
    (states : List SlabState) (slab : Slab) (st : SlabState) → slab.0 < length states → IsSlabs states → StateFits st
    → leased_of st ≡ leased_of (state_of states slab) → IsSlabs (with_state states slab st)
slabs_same states slab st lt h fits e = slabs_after states slab st lt h fits (only_same states (state_of states slab) st h e)

-- a slab keeps its lender and its lease
pub fits_kept :
    (states : List SlabState) (slab : Slab) (st : SlabState) (table : List RowView) (m m' : ℕ) → slab.0 < length states → Fits states table m → StateFits st
    → lender_of st ≡ lender_of (state_of states slab) → leased_of st ≡ leased_of (state_of states slab)
    → m' + one_if (is_mapped (state_of states slab)) ≡ m + one_if (is_mapped st) → Fits (with_state states slab st) table m'
fits_kept states slab st table m m' lt h fits at leased counted =
    fits_same states slab st lt table m m' h (slabs_same states slab st lt h.slabs fits leased) (λ l. ap (λ o. is_lender l o) (sym at))
    (λ l. ap (λ o. is_leased_at l o) (sym leased)) (λ l k. ap (λ o. is_lease l k o) (sym leased)) counted

-- the leases of a lender stay where the slab's lease does
leases_same :
    (states : List SlabState) (slab : Slab) (st : SlabState) → slab.0 < length states → (l : Lender) (leases : List Leased)
    → ((k : Lease) → has_lease l k (state_of states slab) ≡ has_lease l k st)
    → ((k : Lease) (s : Slab) → count_by (λ e. is_entry k s e) leases ≡ one_if (has_lease l k (state_of states s))) → (k : Lease) (s : Slab)
    → count_by (λ e. is_entry k s e) leases ≡ one_if (has_lease l k (state_of (set states slab.0 st) s))
leases_same states slab st lt l leases same each k s =
    each k s
    ∙ ap one_if
    (⊎_elim (λ e. ap (λ n. has_lease l k (get_or states n Local)) e ∙ same k ∙ sym (ap (λ x. has_lease l k x) (state_here states slab st lt s e)))
    (λ ne. sym (ap (λ x. has_lease l k x) (state_other states slab st lt s ne))) (cases_eq s.0 slab.0))

is_lender_self : (l : Lender) → is_lender l (Some l) ≡ true
is_lender_self l = eq-eqb l.0 l.0 refl

-- a slab at a lender borrows from it unless it has a lease
borrows_is : (l : Lender) (state : SlabState) → lender_of state ≡ Some l → leased_of state ≡ None → borrows_from l state ≡ true
borrows_is l state at leased = ap₂ (λ o m. is_lender l o && not (is_leased_at l m)) at leased ∙ ap (λ b. b && true) (is_lender_self l)

leased_not : (l : Lender) (k : Lease) (state : SlabState) → leased_of state ≡ Some (l, k) → borrows_from l state ≡ false
leased_not l k state leased =
    ap (λ o. is_at l state && not (is_leased_at l o)) leased ∙ ap (λ b. is_at l state && not b) (is_lender_self l) ∙ and-false (is_at l state)

-- a slab that has no lease enters the slabs that borrow, or is taken out
sets_fits :
    (states : List SlabState) (slab : Slab) (st : SlabState) (lt : slab.0 < length states) (l : Lender) (before : RowView) (now : Bool) (row' : RowView)
    → leased_of (state_of states slab) ≡ None → leased_of st ≡ None → borrows_from l st ≡ now → SetsBorrowing before slab now row' → RowFits states l before
    → RowFits (set states slab.0 st) l row'
sets_fits states slab st lt l before now row' none none' is sets row =
    let same : (k : Lease) → has_lease l k (state_of states slab) ≡ has_lease l k st = λ k. ap (λ o. is_lease l k o) (none ∙ sym none') in
    let put : RowFits (set states slab.0 st) l (record before { borrowing = row'.borrowing }) =
    record {
      borrowing = borrowing_set states slab st lt l before now row' sets is row.borrowing;
      leases = leases_same states slab st lt l before.leases same row.leases;
      number =
          omega
          (arith, row.number, count_after states slab st lt (λ state. has_lease_at l state), ap (λ o. one_if (is_leased_at l o)) (none ∙ sym none'));
      room = omega (arith, row.room, length-set states slab.0 st);
    } in
    subst (λ r. RowFits (set states slab.0 st) l r) (sym sets.rest) put

-- a local slab borrows
pub borrow_fits :
    (states : List SlabState) (slab : Slab) (table : List RowView) (m : ℕ) (l : Lender) (row' : RowView) → slab.0 < length states → Fits states table m
    → is_local (state_of states slab) ≡ true → l.0 < MOST_LENDERS → SetsBorrowing (row_of table l) slab true row'
    → Fits (with_state states slab (Borrowing l)) (set table l.0 row') m
borrow_fits states slab table m l row' lt h local within made =
    let was : state_of states slab ≡ Local = local_is (state_of states slab) local in
    fits_row states slab (Borrowing l) lt table m m l row' h (slabs_none states slab (Borrowing l) lt h.slabs within refl) within
    (λ other ne. (ap (λ x. is_at other x) was, not_other other l ne))
    (sets_fits states slab (Borrowing l) lt l (row_of table l) true row' (ap leased_of was) refl (borrows_is l (Borrowing l) refl refl) made (h.row l within))
    (omega (arith, ap (λ x. one_if (is_mapped x)) was))

-- there is room for one slab more at the lender
pub borrow_room :
    (states : List SlabState) (slab : Slab) (table : List RowView) (m : ℕ) (l : Lender) → slab.0 < length states → Fits states table m
    → is_local (state_of states slab) ≡ true → l.0 < MOST_LENDERS
    → (slab.0 < (row_of table l).room) × (stands (row_of table l).borrowing slab.0 ≡ false)
borrow_room states slab table m l lt h local within =
    (omega (arith, lt, (h.row l within).room), (h.row l within).borrowing slab ∙ ap (λ x. borrows_from l x) (local_is (state_of states slab) local))

-- a slab that borrows is local again
pub refuse_fits :
    (states : List SlabState) (slab : Slab) (table : List RowView) (m : ℕ) (l : Lender) (row' : RowView) → slab.0 < length states → Fits states table m
    → state_of states slab ≡ Borrowing l → l.0 < MOST_LENDERS → SetsBorrowing (row_of table l) slab false row'
    → Fits (with_state states slab Local) (set table l.0 row') m
refuse_fits states slab table m l row' lt h was within made =
    fits_row states slab Local lt table m m l row' h (slabs_none states slab Local lt h.slabs tt refl) within
    (λ other ne. (lender_at (state_of states slab) other l (ap lender_of was) ne, refl))
    (sets_fits states slab Local lt l (row_of table l) false row' (ap leased_of was) refl refl made (h.row l within))
    (omega (arith, ap (λ x. one_if (is_mapped x)) was))

-- a slab that borrows stands in its lender's row
pub borrowing_there :
    (states : List SlabState) (slab : Slab) (table : List RowView) (m : ℕ) (l : Lender) → Fits states table m → state_of states slab ≡ Borrowing l
    → l.0 < MOST_LENDERS → stands (row_of table l).borrowing slab.0 ≡ true
borrowing_there states slab table m l h was within =
    (h.row l within).borrowing slab ∙ borrows_is l (state_of states slab) (ap lender_of was) (ap leased_of was)

lender_is : (a b : Lender) → a.0 ≡ b.0 → a ≡ b
lender_is a b e = let F : ℕ → Lender = λ n. record { 0 = n } in ap F e

lease_is : (a b : Lease) → a.0 ≡ b.0 → a ≡ b
lease_is a b e = let F : ℕ → Lease = λ n. record { 0 = n } in ap F e

-- a slab that borrows is mapped by a lease that no slab of the lender has
lent_single :
    (states : List SlabState) (slab : Slab) (l : Lender) (k : Lease) (n : ℕ) → position (λ state. has_lease l k state) states ≡ None → (m : Lender) (j : Lease)
    → has_lease m j (Mapped l k n) ≡ true
    → count_by (λ state. has_lease m j state) states ≤ one_if (has_lease m j (state_of states slab))
lent_single states slab l k n none m j t =
    let parts = and_parts (l.0 == m.0) (k.0 == j.0) t in
    let same_l : m ≡ l = lender_is m l (sym (eqb-true l.0 m.0 parts.0)) in
    let same_k : j ≡ k = lease_is j k (sym (eqb-true k.0 j.0 parts.1)) in
    let zero_ : count_by (λ state. has_lease m j state) states ≡ 0 =
    ap (λ x. count_by (λ state. has_lease x j state) states) same_l ∙ ap (λ x. count_by (λ state. has_lease l x state) states) same_k
    ∙ count_none (λ state. has_lease l k state) states none in
    omega (arith, zero_)

none_of : {X : Type 0} (f : ℕ → X) (o : Option ℕ) → option_map f o ≡ None → o ≡ None
none_of f None e = refl
none_of f (Some n) e = cc

pub lent_slabs :
    (states : List SlabState) (slab : Slab) (l : Lender) (k : Lease) → slab.0 < length states → IsSlabs states → l.0 < MOST_LENDERS → by_lease states l k ≡ None
    → IsSlabs (with_state states slab (Mapped l k 0))
lent_slabs states slab l k lt h within new =
    slabs_after states slab (Mapped l k 0) lt h (within, omega arith)
    (lent_single states slab l k 0 (none_of (λ n. record { 0 = n }) (position (λ state. has_lease l k state) states) new))

and_true : (b : Bool) → (b && true) ≡ b
and_true true = refl
and_true false = refl

lent_entry :
    (states : List SlabState) (slab : Slab) (l : Lender) (k : Lease) (leases : List Leased) (i : ℕ) → slab.0 < length states
    → state_of states slab ≡ Borrowing l
    → ((j : Lease) (s : Slab) → count_by (λ e. is_entry j s e) leases ≡ one_if (has_lease l j (state_of states s)))
    → (j : Lease) (s : Slab)
    → count_by (λ e. is_entry j s e) (insert leases i (record { lease = k; slab = slab }))
    ≡ one_if (has_lease l j (state_of (set states slab.0 (Mapped l k 0)) s))
lent_entry states slab l k leases i lt was each j s =
    let added = sum_by-insert (λ (e : Leased). one_if (is_entry j s e)) leases i (record { lease = k; slab = slab }) in
    ⊎_elim
    (λ (e : s.0 ≡ slab.0).
    let old_ : one_if (has_lease l j (state_of states s)) ≡ 0 =
    ap (λ n. one_if (has_lease l j (get_or states n Local))) e ∙ ap (λ x. one_if (has_lease l j x)) was in
    let new_ : one_if (has_lease l j (state_of (set states slab.0 (Mapped l k 0)) s)) ≡ one_if (k.0 == j.0) =
    ap (λ x. one_if (has_lease l j x)) (state_here states slab (Mapped l k 0) lt s e) ∙ ap (λ b. one_if (b && (k.0 == j.0))) (is_lender_self l) in
    let more : one_if ((k.0 == j.0) && (slab.0 == s.0)) ≡ one_if (k.0 == j.0) =
    ap (λ b. one_if ((k.0 == j.0) && b)) (eq-eqb slab.0 s.0 (sym e)) ∙ ap one_if (and_true (k.0 == j.0)) in
    omega (arith, added, each j s, old_, new_, more))
    (λ (ne : s.0 ≢ slab.0).
    let new_ : one_if (has_lease l j (state_of (set states slab.0 (Mapped l k 0)) s)) ≡ one_if (has_lease l j (state_of states s)) =
    ap (λ x. one_if (has_lease l j x)) (state_other states slab (Mapped l k 0) lt s ne) in
    let more : one_if ((k.0 == j.0) && (slab.0 == s.0)) ≡ 0 = ap one_if (and_right (k.0 == j.0) (slab.0 == s.0) (ne_eqb slab.0 s.0 (λ e. ne (sym e)))) in
    omega (arith, added, each j s, new_, more))
    (cases_eq s.0 slab.0)

pub lent_fits :
    (states : List SlabState) (slab : Slab) (table : List RowView) (m : ℕ) (l : Lender) (k : Lease) (mid row' : RowView) → slab.0 < length states
    → Fits states table m → state_of states slab ≡ Borrowing l → l.0 < MOST_LENDERS → by_lease states l k ≡ None
    → SetsBorrowing (row_of table l) slab false mid → Puts mid (record { lease = k; slab = slab }) row'
    → Fits (with_state states slab (Mapped l k 0)) (set table l.0 row') (m + 1)
lent_fits states slab table m l k mid row' lt h was within new sets (i, le, made) =
    let row : RowFits states l (row_of table l) = h.row l within in
    let same : mid.leases ≡ (row_of table l).leases = ap (λ (r : RowView). r.leases) sets.rest in
    let room_ : mid.room ≡ (row_of table l).room = ap (λ (r : RowView). r.room) sets.rest in
    let P : RowView → Type 0 = λ r. Fits (with_state states slab (Mapped l k 0)) (set table l.0 r) (m + 1) in
    subst P (sym made)
    (fits_row states slab (Mapped l k 0) lt table m (m + 1) l (record mid { leases = insert mid.leases i (record { lease = k; slab = slab }) }) h
    (lent_slabs states slab l k lt h.slabs within new) within
    (λ other ne. (lender_at (state_of states slab) other l (ap lender_of was) ne, not_other other l ne))
    (record {
      borrowing =
          borrowing_set states slab (Mapped l k 0) lt l (row_of table l) false mid sets (leased_not l k (Mapped l k 0) refl) row.borrowing;
      leases =
          lent_entry states slab l k mid.leases i lt was
          (λ j s. ap (λ xs. count_by (λ e. is_entry j s e) xs) same ∙ row.leases j s);
      number =
          omega (
            arith,
            row.number,
            ap length same,
            count_after states slab (Mapped l k 0) lt (λ state. has_lease_at l state),
            ap (λ x. one_if (has_lease_at l x)) was,
            ap one_if (is_lender_self l),
            length-insert mid.leases i (record { lease = k; slab = slab }) le,
          );
      room = omega (arith, row.room, room_, length-set states slab.0 (Mapped l k 0));
    })
    (omega (arith, ap (λ x. one_if (is_mapped x)) was)))

pub lent_room :
    (states : List SlabState) (slab : Slab) (table : List RowView) (m : ℕ) (l : Lender) (k : Lease) → slab.0 < length states → Fits states table m
    → state_of states slab ≡ Borrowing l → l.0 < MOST_LENDERS
    → (length (row_of table l).leases < (row_of table l).room) × (m + 1 < 2 ^ 32)
lent_room states slab table m l k lt h was within =
    let row : RowFits states l (row_of table l) = h.row l within in (
      omega (
        arith,
        row.number,
        row.room,
        count_after states slab (Mapped l k 0) lt (λ state. has_lease_at l state),
        ap (λ x. one_if (has_lease_at l x)) was,
        ap one_if (is_lender_self l),
        count_by-le-length (λ state. has_lease_at l state) (with_state states slab (Mapped l k 0)),
        length-set states slab.0 (Mapped l k 0),
      ),
      omega (
        arith,
        h.mapped,
        h.few,
        count_after states slab (Mapped l k 0) lt is_mapped,
        ap (λ x. one_if (is_mapped x)) was,
        count_by-le-length is_mapped (with_state states slab (Mapped l k 0)),
        length-set states slab.0 (Mapped l k 0),
      ),
    )

-- a slab that has a lease gives it up
module _ (states : List SlabState) (slab : Slab) (table : List RowView) (m m' : ℕ) (l : Lender) (k : Lease) (lt : slab.0 < length states)
    (h : Fits states table m) (was : leased_of (state_of states slab) ≡ Some (l, k)) (within : l.0 < MOST_LENDERS) where
  here_lease : has_lease l k (state_of states slab) ≡ true
  here_lease = ap (λ o. is_lease l k o) was ∙ and_from (l.0 == l.0) (k.0 == k.0) (eq-eqb l.0 l.0 refl) (eq-eqb k.0 k.0 refl)

  pub lease_found : IsSome (find (has_number k) (row_of table l).leases)
  lease_found = entry_of states l (row_of table l) k slab h.slabs (h.row l within) here_lease (find (has_number k) (row_of table l).leases) refl

  given_leases :
      (e : Leased) → find (has_number k) (row_of table l).leases ≡ Some e → (j : Lease) (s : Slab)
      → count_by (λ x. is_entry j s x) (without_lease k (row_of table l).leases) ≡ one_if (has_lease l j (state_of (set states slab.0 Local) s))
  given_leases e found j s =
      let row : RowFits states l (row_of table l) = h.row l within in
      let which_ = entry_slab states l (row_of table l) k slab e h.slabs row here_lease found in
      let gone = without-count k (λ x. is_entry j s x) (row_of table l).leases e found in
      let number : e.lease.0 ≡ k.0 = eqb-true e.lease.0 k.0 which_.1 in
      ⊎_elim
      (λ (same : s.0 ≡ slab.0).
      let new_ : one_if (has_lease l j (state_of (set states slab.0 Local) s)) ≡ 0 =
      ap (λ x. one_if (has_lease l j x)) (state_here states slab Local lt s same) in
      let old_ : one_if (has_lease l j (state_of states s)) ≡ one_if (k.0 == j.0) =
      ap (λ n. one_if (has_lease l j (get_or states n Local))) same ∙ ap (λ o. one_if (is_lease l j o)) was
      ∙ ap (λ b. one_if (b && (k.0 == j.0))) (eq-eqb l.0 l.0 refl) in
      let it : one_if (is_entry j s e) ≡ one_if (k.0 == j.0) =
      ap (λ n. one_if ((n == j.0) && (e.slab.0 == s.0))) number ∙ ap (λ b. one_if ((k.0 == j.0) && b)) (eq-eqb e.slab.0 s.0 (which_.0 ∙ sym same))
      ∙ ap one_if (and_true (k.0 == j.0)) in
      omega (arith, gone, row.leases j s, new_, old_, it))
      (λ (ne : s.0 ≢ slab.0).
      let new_ : one_if (has_lease l j (state_of (set states slab.0 Local) s)) ≡ one_if (has_lease l j (state_of states s)) =
      ap (λ x. one_if (has_lease l j x)) (state_other states slab Local lt s ne) in
      let it : one_if (is_entry j s e) ≡ 0 = ap one_if (and_right (e.lease.0 == j.0) (e.slab.0 == s.0) (ne_eqb e.slab.0 s.0 (λ x. ne (sym x ∙ which_.0)))) in
      omega (arith, gone, row.leases j s, new_, it))
      (cases_eq s.0 slab.0)

  given_row :
      (o : Option Leased) → find (has_number k) (row_of table l).leases ≡ o → IsSome o
      → RowFits (set states slab.0 Local) l (record (row_of table l) { leases = without_lease k (row_of table l).leases })
  given_row None found some = absurd (false≢true some)
  given_row (Some e) found some =
      let row : RowFits states l (row_of table l) = h.row l within in
      let leased_l : one_if (has_lease_at l (state_of states slab)) ≡ 1 = ap (λ o. one_if (is_leased_at l o)) was ∙ ap one_if (is_lender_self l) in
      record {
        borrowing = borrowing_same states slab Local lt l (row_of table l).borrowing (leased_not l k (state_of states slab) was) row.borrowing;
        leases = given_leases e found;
        number =
            omega
            (arith, row.number, count_after states slab Local lt (λ state. has_lease_at l state), leased_l, length-without k (row_of table l).leases e found);
        room = omega (arith, row.room, length-set states slab.0 Local);
      }

  pub given_fits :
      (row' : RowView) → row' ≡ record (row_of table l) { leases = without_lease k (row_of table l).leases }
      → m' + one_if (is_mapped (state_of states slab)) ≡ m → Fits (with_state states slab Local) (set table l.0 row') m'
  given_fits row' made counted =
      let P : RowView → Type 0 = λ r. Fits (with_state states slab Local) (set table l.0 r) m' in
      subst P (sym made)
      (fits_row states slab Local lt table m m' l (record (row_of table l) { leases = without_lease k (row_of table l).leases }) h
      (slabs_none states slab Local lt h.slabs tt refl) within
      (λ other ne. (lender_at (state_of states slab) other l (leased_lender (state_of states slab) l k was) ne, refl))
      (given_row (find (has_number k) (row_of table l).leases) refl lease_found) (omega (arith, counted)))

-- a slab that is leased is of a lender in range, with as many flying as may be
pub leased_range :
    (state : SlabState) (l : Lender) (k : Lease) → StateFits state → leased_of state ≡ Some (l, k) → (l.0 < MOST_LENDERS) × (flying_of state ≤ MOST_WINDOW)
leased_range Local l k fits e = cc
leased_range (Asking pair) l k fits e = cc
leased_range (Borrowing lender) l k fits e = cc
leased_range (Mapped lender lease flying) l k fits e =
    let same : lender.0 ≡ l.0 = ap (λ (x : Lender × Lease). x.0.0) (some_is (lender, lease) (l, k) e) in (omega (arith, same, fits.0), fits.1)
leased_range (Draining lender lease flying) l k fits e =
    let same : lender.0 ≡ l.0 = ap (λ (x : Lender × Lease). x.0.0) (some_is (lender, lease) (l, k) e) in (omega (arith, same, fits.0), fits.2)

pub mapped_some :
    (states : List SlabState) (slab : Slab) (table : List RowView) (m : ℕ) → slab.0 < length states → Fits states table m
    → one_if (is_mapped (state_of states slab)) ≤ m
mapped_some states slab table m lt h = omega (arith, h.mapped, get_or-le-sum_by (λ (x : SlabState). one_if (is_mapped x)) states slab.0 Local lt)

pub drain_fits :
    (states : List SlabState) (slab : Slab) (table : List RowView) (m m' : ℕ) (l : Lender) (k : Lease) (n : ℕ) → slab.0 < length states → Fits states table m
    → leased_of (state_of states slab) ≡ Some (l, k) → 1 ≤ n → n ≤ flying_of (state_of states slab)
    → m' + one_if (is_mapped (state_of states slab)) ≡ m → Fits (with_state states slab (Draining l k n)) table m'
drain_fits states slab table m m' l k n lt h was some le counted =
    let range = leased_range (state_of states slab) l k (h.slabs.fits slab) was in
    fits_kept states slab (Draining l k n) table m m' lt h (range.0, some, omega (arith, le, range.1)) (sym (leased_lender (state_of states slab) l k was))
    (sym was) (omega (arith, counted))

-- the pair of a slab that asks
pub asked_fits :
    (states : List SlabState) (slab : Slab) (table : List RowView) (m : ℕ) (st : SlabState) → slab.0 < length states → Fits states table m → StateFits st
    → lender_of (state_of states slab) ≡ None → leased_of (state_of states slab) ≡ None → is_mapped (state_of states slab) ≡ false
    → lender_of st ≡ None → leased_of st ≡ None → is_mapped st ≡ false → Fits (with_state states slab st) table m
asked_fits states slab table m st lt h fits at leased unmapped at' leased' unmapped' =
    fits_kept states slab st table m m lt h fits (at' ∙ sym at) (leased' ∙ sym leased) (omega (arith, ap one_if unmapped, ap one_if unmapped'))

pub replied_fits :
    (pair : Pair) (l : Lender) (reply : Reply) → (pair.first.0 < MOST_LENDERS) × IsSecond pair.first pair.second × (waits pair ≡ true)
    → waits (with_reply pair l reply) ≡ true → StateFits (Asking (with_reply pair l reply))
replied_fits pair l reply fits waiting =
    ⊎_elim
    (λ (t : (pair.first.0 == l.0) ≡ true).
    let same : with_reply pair l reply ≡ record pair { one = reply } =
    cond-true (pair.first.0 == l.0) (record pair { one = reply }) (record pair { two = reply }) t in
    subst (λ p. StateFits (Asking p)) (sym same) (fits.0, fits.1, ap waits (sym same) ∙ waiting))
    (λ (t : (pair.first.0 == l.0) ≡ false).
    let same : with_reply pair l reply ≡ record pair { two = reply } =
    cond-false (pair.first.0 == l.0) (record pair { one = reply }) (record pair { two = reply }) t in
    subst (λ p. StateFits (Asking p)) (sym same) (fits.0, fits.1, ap waits (sym same) ∙ waiting))
    (cases_Bool (pair.first.0 == l.0))
