-- Which cell is found, and that one is.
use Rattle.std.proofs.Common.{◌≡◌, ℕ, ◌+◌, ◌≤◌, Bool, true, false, cond, not, nat_lt, List, [], ◌∷◌, length, refl, ap, ◌∙◌, arith, None, Some, count_by, position, ⊎_elim}
use Rattle.std.specs.List.{position_or_len}
use Rattle.std.proofs.lemmas.Bool.{cases_Bool, ltb-false}
use Rattle.std.proofs.lemmas.List.Sums.{sum_by-cons}

module _ {X : Type 0} (p : X → Bool) where
  none_passes : (xs : List X) → length xs ≤ position_or_len p xs → count_by p xs ≡ 0
  none_passes [] le = refl
  none_passes (x ∷ xs) le =
      ⊎_elim
      (λ (t : p x ≡ true). let e : position_or_len p (x ∷ xs) ≡ 0 = ap (λ b. cond (not b) (1 + position_or_len p xs) 0) t in absurd (omega (arith, e, le)))
      (λ (t : p x ≡ false).
      let e : position_or_len p (x ∷ xs) ≡ 1 + position_or_len p xs = ap (λ b. cond (not b) (1 + position_or_len p xs) 0) t in
      let rest : count_by p xs ≡ 0 = none_passes xs (omega (arith, e, le)) in
      sum_by-cons (λ x. cond (p x) 1 0) x xs ∙ ap (λ b. cond b 1 0 + count_by p xs) t ∙ omega (arith, rest))
      (cases_Bool (p x))

  found_of : (b : Bool) (n : ℕ) → cond b (Some n) None ≡ None → b ≡ false
  found_of true n e = cc
  found_of false n e = refl

  pub count_none : (xs : List X) → position p xs ≡ None → count_by p xs ≡ 0
  count_none xs e =
      none_passes xs (ltb-false (position_or_len p xs) (length xs) (found_of (nat_lt (position_or_len p xs) (length xs)) (position_or_len p xs) e))
