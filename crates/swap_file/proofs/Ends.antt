-- An operation is found where it is kept, and leaves.
use Rattle.std.proofs.Common.{◌≡◌, ℕ, zero, suc, ◌<◌, ◌≤◌, Bool, true, false, cond, not, List, [], ◌∷◌, length, get_or, remove, find, position, nat_lt, ◌+◌, refl, sym, ap, ◌∙◌, arith, None, Some, ⊎_elim}
use Rattle.std.proofs.lemmas.Bool.{cases_Bool, cond-true, cond-false, ltb-false}
use Rattle.std.specs.List.{position_or_len}
use Rattle.std.proofs.lemmas.List.Quantifiers.{position-Some}
use Rattle.swap_base.specs.declared.DiskWhich.{DiskWhich}
use Rattle.swap_disk.specs.Disk.{is_flight_of, without_flight}
use Rattle.swap_file.specs.declared.flights.Flying.{Flying}
use Rattle.swap_file.specs.Flights.{flight_of, is_flying, flights_of}

module _ (w : DiskWhich) where
  find_at :
      (rs : List Flying) (i : ℕ) (d : Flying) → i < length rs → is_flying w (get_or rs i d) ≡ true → ((k : ℕ) → k < i → is_flying w (get_or rs k d) ≡ false)
      → find (is_flight_of w) (flights_of rs) ≡ Some (flight_of (get_or rs i d))
  find_at [] i d lt here before = absurd (omega arith)
  find_at (r ∷ rs) zero d lt here before = cond-true (is_flying w r) (Some (flight_of r)) (find (is_flight_of w) (flights_of rs)) here
  find_at (r ∷ rs) (suc i) d lt here before =
      cond-false (is_flying w r) (Some (flight_of r)) (find (is_flight_of w) (flights_of rs)) (before 0 (omega arith))
      ∙ find_at rs i d (omega arith) here (λ k lt'. before (suc k) (omega arith))

  without_at :
      (rs : List Flying) (i : ℕ) (d : Flying) → i < length rs → is_flying w (get_or rs i d) ≡ true → ((k : ℕ) → k < i → is_flying w (get_or rs k d) ≡ false)
      → flights_of (remove rs i) ≡ without_flight w (flights_of rs)
  without_at [] i d lt here before = absurd (omega arith)
  without_at (r ∷ rs) zero d lt here before = sym (cond-true (is_flying w r) (flights_of rs) (flight_of r ∷ without_flight w (flights_of rs)) here)
  without_at (r ∷ rs) (suc i) d lt here before =
      ap (λ fs. flight_of r ∷ fs) (without_at rs i d (omega arith) here (λ k lt'. before (suc k) (omega arith)))
      ∙ sym (cond-false (is_flying w r) (flights_of rs) (flight_of r ∷ without_flight w (flights_of rs)) (before 0 (omega arith)))

  none_found : (rs : List Flying) → length rs ≤ position_or_len (is_flying w) rs → find (is_flight_of w) (flights_of rs) ≡ None
  none_found [] le = refl
  none_found (r ∷ rs) le =
      ⊎_elim
      (λ (t : is_flying w r ≡ true). let e : position_or_len (is_flying w) (r ∷ rs) ≡ 0 = ap (λ b. cond (not b) (1 + position_or_len (is_flying w) rs) 0) t in
      absurd (omega (arith, e, le)))
      (λ (t : is_flying w r ≡ false).
      let e : position_or_len (is_flying w) (r ∷ rs) ≡ 1 + position_or_len (is_flying w) rs =
      ap (λ b. cond (not b) (1 + position_or_len (is_flying w) rs) 0) t in
      cond-false (is_flying w r) (Some (flight_of r)) (find (is_flight_of w) (flights_of rs)) t ∙ none_found rs (omega (arith, e, le)))
      (cases_Bool (is_flying w r))

  found_of : (b : Bool) (n : ℕ) → cond b (Some n) None ≡ None → b ≡ false
  found_of true n e = cc
  found_of false n e = refl

  pub find_none : (rs : List Flying) → position (is_flying w) rs ≡ None → find (is_flight_of w) (flights_of rs) ≡ None
  find_none rs e =
      none_found rs
      (ltb-false (position_or_len (is_flying w) rs) (length rs)
      (found_of (nat_lt (position_or_len (is_flying w) rs) (length rs)) (position_or_len (is_flying w) rs) e))

  -- the operation at the place where it is found, and what is left
  pub leaves :
      (rs : List Flying) (i : ℕ) (r : Flying) (rs' : List Flying) → position (is_flying w) rs ≡ Some i → r ≡ get_or rs i r → rs' ≡ remove rs i
      → (find (is_flight_of w) (flights_of rs) ≡ Some (flight_of r)) × (flights_of rs' ≡ without_flight w (flights_of rs))
  leaves rs i r rs' found read gone =
      let at = position-Some (is_flying w) rs i r found in
      (find_at rs i r at.0 at.1 at.2 ∙ ap (λ x. Some (flight_of x)) (sym read), ap flights_of gone ∙ without_at rs i r at.0 at.1 at.2)
