-- The lenders that are asked are lenders, and two are different; and which slab a lease names.
use Rattle.std.proofs.Common.{◌≡◌, ◌≢◌, ℕ, ◌+◌, ◌<◌, ◌≤◌, Bool, true, false, ◌&&◌, not, nat_eq, List, [], ◌∷◌, ◌++◌, length, position, option_map, Option, None, Some, refl, sym, ap, ◌∙◌, subst, arith, ⊎_elim, ne_eqb, eq-eqb}
use Rattle.std.specs.List.{AllByRecursion, Contains, IsDistinct}
use Rattle.std.proofs.lemmas.Bool.{cases_Bool, cond-true, cond-false, false≢true, and_parts}
use Rattle.std.proofs.lemmas.List.Elements.{All-contains, All-from_recursion}
use Rattle.std.proofs.lemmas.List.Quantifiers.{position-Some}
use Rattle.swap_base.specs.declared.Slab.{Slab}
use Rattle.swap_base.specs.declared.Lender.{Lender}
use Rattle.swap_base.specs.declared.TheConstants.{MOST_LENDERS}
use Rattle.swap_slabs.specs.Slabs as slabs
use Rattle.swap_rings.specs.Rings.{LinkState}
use Rattle.swap_choice.specs.declared.lenders.Asked.{Asked}
use Rattle.swap_choice.specs.declared.lenders.Asked.TheVariants.{Nobody, One, Two}
use Rattle.swap_choice.specs.Asked as choice
use Rattle.swap_choice.proofs.PicksLemmas.{asked_members, asked_different}
use Rattle.swap_remote.specs.Remote.{Remote, up_from, fresh_lenders, other_lenders}
use Rattle.swap_remote.specs.Kept.{AreAsked}

-- what is true of each lender that meets a test is true of each that is listed
up_each :
    (P : ℕ → Type 0) (test : Lender → Bool) (links : List LinkState) (n : ℕ) → ((k : ℕ) → n ≤ k → k < n + length links → test (record { 0 = k }) ≡ true → P k)
    → AllByRecursion P (up_from test links n)
up_each P test [] n each = tt
up_each P test (link ∷ links) n each =
    let more : AllByRecursion P (up_from test links (n + 1)) =
    up_each P test links (n + 1) (λ k low high t. each k (omega (arith, low)) (omega (arith, high)) t) in
    ⊎_elim
    (λ (t : (link.up && test (record { 0 = n })) ≡ true).
    subst (λ l. AllByRecursion P l) (sym (cond-true (link.up && test (record { 0 = n })) (n ∷ up_from test links (n + 1)) (up_from test links (n + 1)) t))
    (each n (omega arith) (omega arith) (and_parts link.up (test (record { 0 = n })) t).1, more))
    (λ (t : (link.up && test (record { 0 = n })) ≡ false).
    subst (λ l. AllByRecursion P l)
    (sym (cond-false (link.up && test (record { 0 = n })) (n ∷ up_from test links (n + 1)) (up_from test links (n + 1)) t)) more)
    (cases_Bool (link.up && test (record { 0 = n })))

-- each stands once
up_distinct : (test : Lender → Bool) (links : List LinkState) (n : ℕ) → IsDistinct nat_eq (up_from test links n)
unfolding IsDistinct
up_distinct test [] n = tt
up_distinct test (link ∷ links) n =
    ⊎_elim
    (λ (t : (link.up && test (record { 0 = n })) ≡ true).
    subst (λ l. IsDistinct nat_eq l) (sym (cond-true (link.up && test (record { 0 = n })) (n ∷ up_from test links (n + 1)) (up_from test links (n + 1)) t))
    (up_each (λ k. nat_eq n k ≡ false) test links (n + 1) (λ k low high u. ne_eqb n k (omega (arith, low))), up_distinct test links (n + 1)))
    (λ (t : (link.up && test (record { 0 = n })) ≡ false).
    subst (λ l. IsDistinct nat_eq l) (sym (cond-false (link.up && test (record { 0 = n })) (n ∷ up_from test links (n + 1)) (up_from test links (n + 1)) t))
    (up_distinct test links (n + 1)))
    (cases_Bool (link.up && test (record { 0 = n })))

each_append : (P : ℕ → Type 0) (xs ys : List ℕ) → AllByRecursion P xs → AllByRecursion P ys → AllByRecursion P (xs ++ ys)
each_append P [] ys a b = b
each_append P (x ∷ xs) ys a b = (a.0, each_append P xs ys a.1 b)

both_distinct :
    (xs ys : List ℕ) → IsDistinct nat_eq xs → IsDistinct nat_eq ys → AllByRecursion (λ x. AllByRecursion (λ y. nat_eq x y ≡ false) ys) xs
    → IsDistinct nat_eq (xs ++ ys)
unfolding IsDistinct
both_distinct [] ys a b apart = b
both_distinct (x ∷ xs) ys a b apart = (each_append (λ y. nat_eq x y ≡ false) xs ys a.0 apart.0, both_distinct xs ys a.1 b apart.1)

-- no lender holds a slab and holds none
module _ (r : Remote) where
  not_both : (k m : ℕ) → not (slabs.holds r.slabs (record { 0 = k })) ≡ true → slabs.holds r.slabs (record { 0 = m }) ≡ true → k ≢ m
  not_both k m none some same =
      false≢true (sym (ap not (ap (λ j. slabs.holds r.slabs (record { 0 = j })) same ∙ some)) ∙ none)

  all_distinct : IsDistinct nat_eq (fresh_lenders r ++ other_lenders r)
  all_distinct =
      both_distinct (fresh_lenders r) (other_lenders r) (up_distinct (λ l. not (slabs.holds r.slabs l)) r.links 0)
      (up_distinct (λ l. slabs.holds r.slabs l) r.links 0)
      (up_each (λ x. AllByRecursion (λ y. nat_eq x y ≡ false) (other_lenders r)) (λ l. not (slabs.holds r.slabs l)) r.links 0
      (λ k low high none. up_each (λ y. nat_eq k y ≡ false) (λ l. slabs.holds r.slabs l) r.links 0 (λ m low' high' some. ne_eqb k m (not_both k m none some))))

  all_within : AllByRecursion (λ n. n < length r.links) (fresh_lenders r ++ other_lenders r)
  all_within =
      each_append (λ n. n < length r.links) (fresh_lenders r) (other_lenders r)
      (up_each (λ n. n < length r.links) (λ l. not (slabs.holds r.slabs l)) r.links 0 (λ k low high t. omega (arith, high)))
      (up_each (λ n. n < length r.links) (λ l. slabs.holds r.slabs l) r.links 0 (λ k low high t. omega (arith, high)))

  member_within : (w n : ℕ) → Contains (choice.lenders_asked (choice.two_asked w (fresh_lenders r) (other_lenders r))) n → n < length r.links
  member_within w n is =
      All-contains (λ k. k < length r.links) (fresh_lenders r
      ++ other_lenders r) n (All-from_recursion (λ k. k < length r.links) (fresh_lenders r ++ other_lenders r) all_within)
      (asked_members w (fresh_lenders r) (other_lenders r) n is)

-- two that are distinct are different
differ : (n m : ℕ) → IsDistinct nat_eq (n ∷ m ∷ []) → n ≢ m
unfolding IsDistinct
differ n m apart same = false≢true (sym apart.0.0 ∙ eq-eqb n m same)

fits : (a : Asked) → ((n : ℕ) → Contains (choice.lenders_asked a) n → n < MOST_LENDERS) → IsDistinct nat_eq (choice.lenders_asked a) → AreAsked a
fits Nobody within apart = tt
fits (One n) within apart = within n (0, omega arith, refl)
fits (Two n m) within apart = (within n (0, omega arith, refl), within m (1, omega arith, refl), differ n m apart)

pub asked_fit : (w : ℕ) (r : Remote) → length r.links ≡ MOST_LENDERS → AreAsked (choice.two_asked w (fresh_lenders r) (other_lenders r))
asked_fit w r len =
    fits (choice.two_asked w (fresh_lenders r) (other_lenders r)) (λ n is. subst (λ k. n < k) len (member_within r w n is))
    (asked_different w (fresh_lenders r) (other_lenders r) (all_distinct r))

pub asked_differ : (w : ℕ) (r : Remote) (n m : ℕ) → choice.two_asked w (fresh_lenders r) (other_lenders r) ≡ Two n m → n ≡ m → ⊥
asked_differ w r n m is =
    differ n m (subst (λ a. IsDistinct nat_eq (choice.lenders_asked a)) is (asked_different w (fresh_lenders r) (other_lenders r) (all_distinct r)))

some_is : (a b : Slab) → Some a ≡ Some b → a ≡ b
some_is a b h = cc

none_some : (a : Slab) → None ≡ Some a → ⊥
none_some a h = cc
