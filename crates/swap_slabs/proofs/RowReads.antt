-- What is read of the table of rows.
use Rattle.std.proofs.Common.{◌≡◌, ℕ, zero, suc, ◌+◌, ◌<◌, ◌≤◌, Bool, true, false, cond, not, nat_lt, List, [], ◌∷◌, length, get_or, remove, find, position, option_map, refl, sym, ap, ◌∙◌, is_some, Option, None, Some, IsSome, ⊎_elim, arith, ne_eqb, lt-ltb, le-ltb}
use Rattle.std.specs.List.{position_or_len, insert}
use Rattle.std.proofs.lemmas.Bool.{cases_Bool, cases_lt, cond-true, cond-false, false≢true, ltb-false, ltb-true, eqb-false}
use Rattle.std.proofs.lemmas.List.Edits.{length-remove, get_or-remove_below, get_or-remove_above}
use Rattle.std.proofs.lemmas.List.Sorted.{IsNonDecreasingBy-insert}
use Rattle.std.proofs.lemmas.List.Quantifiers.{position-Some}
use Rattle.std.proofs.lemmas.List.{get_or_read}
use Rattle.swap_base.specs.declared.Slab.{Slab}
use Rattle.swap_base.specs.declared.Lease.{Lease}
use Rattle.swap_base.specs.declared.Lender.{Lender}
use Rattle.swap_slabs.specs.declared.SlabState.{SlabState}
use Rattle.swap_slabs.specs.declared.SlabState.TheVariants.{Local}
use Rattle.swap_slabs.specs.declared.row.Leased.{Leased}
use Rattle.swap_slabs.specs.Slabs.{state_of}
use Rattle.swap_base.specs.declared.TheConstants.{MOST_LENDERS}
use Rattle.swap_slabs.specs.Rows.{RowView, new_row, has_number, without_lease, slab_in, number_of, Ascend, IsPlace, row_of, Fits}

pub row_read :
    (states : List SlabState) (table : List RowView) (m : ℕ) (l : Lender) → Fits states table m → l.0 < MOST_LENDERS → (row : RowView)
    → row ≡ get_or table l.0 row → row ≡ row_of table l
row_read states table m l h within row e = get_or_read table l.0 row (omega (arith, h.rows, within)) e (new_row 0)

pub state_read : (states : List SlabState) (slab : Slab) (x : SlabState) → slab.0 < length states → x ≡ get_or states slab.0 x → state_of states slab ≡ x
state_read states slab x lt e = sym (get_or_read states slab.0 x lt e Local)

-- a lease that is there has its place
none_found : (k : Lease) (xs : List Leased) → length xs ≤ position_or_len (has_number k) xs → find (has_number k) xs ≡ None
none_found k [] le = refl
none_found k (x ∷ xs) le =
    ⊎_elim
    (λ (t : has_number k x ≡ true). let e : position_or_len (has_number k) (x ∷ xs) ≡ 0 = ap (λ b. cond (not b) (1 + position_or_len (has_number k) xs) 0) t in
    absurd (omega (arith, e, le)))
    (λ (t : has_number k x ≡ false).
    let e : position_or_len (has_number k) (x ∷ xs) ≡ 1 + position_or_len (has_number k) xs =
    ap (λ b. cond (not b) (1 + position_or_len (has_number k) xs) 0) t in
    cond-false (has_number k x) (Some x) (find (has_number k) xs) t ∙ none_found k xs (omega (arith, e, le)))
    (cases_Bool (has_number k x))

found_of : (b : Bool) (n : ℕ) → cond b (Some n) None ≡ None → b ≡ false
found_of true n e = cc
found_of false n e = refl

place_of : (k : Lease) (xs : List Leased) (o : Option ℕ) → position (has_number k) xs ≡ o → IsSome (find (has_number k) xs) → IsSome o
place_of k xs None e some =
    absurd
    (false≢true
    (sym
    (ap is_some
    (none_found k xs
    (ltb-false (position_or_len (has_number k) xs) (length xs)
    (found_of (nat_lt (position_or_len (has_number k) xs) (length xs)) (position_or_len (has_number k) xs) e))))
    ∙ some))
place_of k xs (Some i) e some = refl

pub place_some : (k : Lease) (xs : List Leased) → IsSome (find (has_number k) xs) → IsSome (position (has_number k) xs)
place_some k xs some = place_of k xs (position (has_number k) xs) refl some

without_at :
    (k : Lease) (xs : List Leased) (i : ℕ) (d : Leased) → i < length xs → has_number k (get_or xs i d) ≡ true
    → ((j : ℕ) → j < i → has_number k (get_or xs j d) ≡ false) → remove xs i ≡ without_lease k xs
without_at k [] i d lt here before = absurd (omega arith)
without_at k (x ∷ xs) zero d lt here before = sym (cond-true (has_number k x) xs (x ∷ without_lease k xs) here)
without_at k (x ∷ xs) (suc i) d lt here before =
    ap (λ l. x ∷ l) (without_at k xs i d (omega arith) here (λ j lt'. before (suc j) (omega arith)))
    ∙ sym (cond-false (has_number k x) xs (x ∷ without_lease k xs) (before 0 (omega arith)))

pub removed_is : (k : Lease) (xs : List Leased) (i : ℕ) (d : Leased) → position (has_number k) xs ≡ Some i → remove xs i ≡ without_lease k xs
removed_is k xs i d e = let at = position-Some (has_number k) xs i d e in without_at k xs i d at.0 at.1 at.2

-- the first of ascending leases that isn't below this one is its place
module _ {X : Type 0} (p : X → Bool) where
  first_at : (xs : List X) (i : ℕ) (d : X) → i < length xs → p (get_or xs i d) ≡ true → ((j : ℕ) → j < i → p (get_or xs j d) ≡ false) → position_or_len p xs ≡ i
  first_at [] i d lt here before = absurd (omega arith)
  first_at (x ∷ xs) zero d lt here before = ap (λ b. cond (not b) (1 + position_or_len p xs) 0) here
  first_at (x ∷ xs) (suc i) d lt here before =
      ap (λ b. cond (not b) (1 + position_or_len p xs) 0) (before 0 (omega arith))
      ∙ omega (arith, first_at xs i d (omega arith) here (λ j lt'. before (suc j) (omega arith)))

  nowhere : (xs : List X) (d : X) → ((j : ℕ) → j < length xs → p (get_or xs j d) ≡ false) → position_or_len p xs ≡ length xs
  nowhere [] d none = refl
  nowhere (x ∷ xs) d none =
      ap (λ b. cond (not b) (1 + position_or_len p xs) 0) (none 0 (omega arith)) ∙ omega (arith, nowhere xs d (λ j lt. none (suc j) (omega arith)))

  pub position_at :
      (xs : List X) (i : ℕ) (d : X) → i < length xs → p (get_or xs i d) ≡ true → ((j : ℕ) → j < i → p (get_or xs j d) ≡ false) → position p xs ≡ Some i
  position_at xs i d lt here before =
      let e = first_at xs i d lt here before in
      cond-true (nat_lt (position_or_len p xs) (length xs)) (Some (position_or_len p xs)) None
      (lt-ltb (position_or_len p xs) (length xs) (omega (arith, e, lt)))
      ∙ ap (λ n. Some n) e

  pub no_position : (xs : List X) (d : X) → ((j : ℕ) → j < length xs → p (get_or xs j d) ≡ false) → position p xs ≡ None
  no_position xs d none =
      cond-false (nat_lt (position_or_len p xs) (length xs)) (Some (position_or_len p xs)) None
      (le-ltb (position_or_len p xs) (length xs) (omega (arith, nowhere xs d none)))

  pub find_first :
      (xs : List X) (i : ℕ) (d : X) → i < length xs → p (get_or xs i d) ≡ true → ((j : ℕ) → j < i → p (get_or xs j d) ≡ false)
      → find p xs ≡ Some (get_or xs i d)
  find_first [] i d lt here before = absurd (omega arith)
  find_first (x ∷ xs) zero d lt here before = cond-true (p x) (Some x) (find p xs) here
  find_first (x ∷ xs) (suc i) d lt here before =
      cond-false (p x) (Some x) (find p xs) (before 0 (omega arith)) ∙ find_first xs i d (omega arith) here (λ j lt'. before (suc j) (omega arith))

module _ (k : Lease) (xs : List Leased) (i : ℕ) (place : IsPlace k xs i) where
  below : (j : ℕ) (d : Leased) → j < i → has_number k (get_or xs j d) ≡ false
  below j d lt = ne_eqb (get_or xs j d).lease.0 k.0 (λ e. absurd (omega (arith, ltb-true (get_or xs j d).lease.0 k.0 (place.0 j d (omega arith) lt), e)))

  least : (j : ℕ) (d : Leased) → i ≤ j → j < length xs → k.0 ≤ (get_or xs j d).lease.0
  least j d le lt = ltb-false (get_or xs j d).lease.0 k.0 (place.1 j d le lt)

  pub placed : (d : Leased) → i < length xs → has_number k (get_or xs i d) ≡ true → position (has_number k) xs ≡ Some i
  placed d lt here = position_at (has_number k) xs i d lt here (λ j. below j d)

  -- where another lease or none stands there, it has no place
  pub unplaced : (d : Leased) → Ascend xs → (i < length xs → has_number k (get_or xs i d) ≡ false) → position (has_number k) xs ≡ None
  unplaced d ascend other =
      no_position (has_number k) xs d
      (λ j lt.
      ⊎_elim (λ (before : j < i). below j d before)
      (λ (from : i ≤ j).
      let within : i < length xs = omega (arith, from, lt) in
      let apart = eqb-false (get_or xs i d).lease.0 k.0 (other within) in
      let more = ascend i j d from lt in
      ne_eqb (get_or xs j d).lease.0 k.0 (λ e. absurd (apart (omega (arith, least i d (omega arith) within, more, e)))))
      (cases_lt j i))

  -- and put there it leaves them ascending
  pub put_ascends : (s : Slab) → Ascend xs → i ≤ length xs → Ascend (insert xs i (record { lease = k; slab = s }))
  put_ascends s ascend le =
      IsNonDecreasingBy-insert number_of xs i (record { lease = k; slab = s }) ascend le
      (λ j d lt. omega (arith, ltb-true (get_or xs j d).lease.0 k.0 (place.0 j d (omega arith) lt))) (λ j d from lt. least j d from lt)

-- the slab of a lease that has its place
pub slab_at : (k : Lease) (xs : List Leased) (i : ℕ) (d : Leased) → position (has_number k) xs ≡ Some i → slab_in k xs ≡ Some (get_or xs i d).slab
slab_at k xs i d e =
    let at = position-Some (has_number k) xs i d e in
    ap (λ (o : Option Leased). option_map (λ (l : Leased). l.slab) o) (find_first (has_number k) xs i d at.0 at.1 at.2)

pub slab_nowhere : (k : Lease) (xs : List Leased) → position (has_number k) xs ≡ None → slab_in k xs ≡ None
slab_nowhere k xs e =
    ap (λ (o : Option Leased). option_map (λ (l : Leased). l.slab) o)
    (none_found k xs
    (ltb-false (position_or_len (has_number k) xs) (length xs)
    (found_of (nat_lt (position_or_len (has_number k) xs) (length xs)) (position_or_len (has_number k) xs) e)))
