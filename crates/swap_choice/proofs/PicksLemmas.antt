-- The first two picks of a list by their places.
use Rattle.std.proofs.Common.{◌≡◌, ℕ, zero, suc, ◌++◌, ◌+◌, ◌-◌, ◌/◌, ◌%◌, ◌<◌, ◌≤◌, List, [], ◌∷◌, length, get_or, take, drop, nat_eq, subst, refl, sym, ap, ap₂, ◌∙◌, arith}
use Rattle.std.specs.List.{remove, Contains, IsDistinct}
use Rattle.std.specs.List.Sorted.{IsPermutation}
use Rattle.std.proofs.lemmas.List.Sorted.{IsPermutation-refl, IsPermutation-sym, IsPermutation-trans, IsPermutation-remove, IsPermutation-append, IsPermutation-append_right, Contains-permutation}
use Rattle.std.proofs.lemmas.List.{get_or_default, take-append-drop}
use Rattle.std.proofs.lemmas.List.Elements.{Contains-append_left}
use Rattle.std.proofs.lemmas.Map.Keys.{IsDistinct-IsPermutation}
use Rattle.std.proofs.Math.Nat.{mod-lt}
use Rattle.std.proofs.lemmas.List.Edits.{length-remove, get_or-remove_below, get_or-remove_above}
use Rattle.swap_choice.specs.declared.lenders.Asked.TheVariants.{Two}
use Rattle.swap_choice.specs.Picks.{first_picks, picks}
use Rattle.swap_choice.specs.Asked.{first_two, lenders_asked, two_asked}

second :
    (first n word : ℕ) (others : List ℕ) → 0 < length others
    → first_two (first ∷ first_picks (suc n) word others) ≡ Two first (get_or others (word % length others) 0)
second first n word [] some = absurd (omega arith)
second first n word (x ∷ xs) some = refl

-- a list of at least two
pub two_picked :
    (word : ℕ) (list : List ℕ) → 2 ≤ length list
    → first_two (picks word list)
    ≡ Two (get_or list (word % length list) 0) (get_or (remove list (word % length list)) (word / length list % (length list - 1)) 0)
two_picked word [] many = absurd (omega arith)
two_picked word (x ∷ []) many = absurd (omega arith)
two_picked word (x ∷ y ∷ rest) many =
    let removed = length-remove (x ∷ y ∷ rest) (word % length (x ∷ y ∷ rest)) (mod-lt word {m = length (x ∷ y ∷ rest)} (omega arith)) in
    second (get_or (x ∷ y ∷ rest) (word % length (x ∷ y ∷ rest)) 0) (length rest) (word / length (x ∷ y ∷ rest))
    (remove (x ∷ y ∷ rest) (word % length (x ∷ y ∷ rest))) (omega arith)
    ∙ ap
    (λ n.
    Two (get_or (x ∷ y ∷ rest) (word % length (x ∷ y ∷ rest)) 0)
    (get_or (remove (x ∷ y ∷ rest) (word % length (x ∷ y ∷ rest))) (word / length (x ∷ y ∷ rest) % n) 0))
    (omega arith)

-- the second pick stands in the whole list at its place among the others, or one later
pub second_below :
    (word : ℕ) (list : List ℕ) (i j : ℕ) → 2 ≤ length list → i ≡ word % length list → j ≡ word / length list % (length list - 1) → j < i
    → Two (get_or list i 0) (get_or list j 0) ≡ first_two (picks word list)
second_below word list i j many i_is j_is below =
    let within : word % length list < length list = mod-lt word (omega arith) in
    ap₂ Two (ap (λ k. get_or list k 0) i_is)
    (ap (λ k. get_or list k 0) j_is ∙ sym (get_or-remove_below list (word % length list) 0 (word / length list % (length list - 1)) (omega arith) within))
    ∙ sym (two_picked word list many)

pub second_above :
    (word : ℕ) (list : List ℕ) (i j : ℕ) → 2 ≤ length list → i ≡ word % length list → j ≡ word / length list % (length list - 1) → i ≤ j
    → Two (get_or list i 0) (get_or list (j + 1) 0) ≡ first_two (picks word list)
second_above word list i j many i_is j_is above =
    let within : word % length list < length list = mod-lt word (omega arith) in
    ap₂ Two (ap (λ k. get_or list k 0) i_is)
    (ap (λ k. get_or list (k + 1) 0) j_is
    ∙ sym (get_or-remove_above list (word % length list) 0 (word / length list % (length list - 1)) (omega arith) within))
    ∙ sym (two_picked word list many)

picked_all : (n word : ℕ) (list : List ℕ) → length list ≡ n → IsPermutation list (first_picks n word list)
picked_all zero word [] len = IsPermutation-refl []
picked_all zero word (x ∷ xs) len = absurd (omega arith)
picked_all (suc n) word [] len = absurd (omega arith)
picked_all (suc n) word (x ∷ xs) len =
    let within : word % length (x ∷ xs) < length (x ∷ xs) = mod-lt word {m = length (x ∷ xs)} (omega arith) in
    let removed = length-remove (x ∷ xs) (word % length (x ∷ xs)) within in
    let first =
    IsPermutation-remove (x ∷ xs) (word % length (x ∷ xs)) (get_or (x ∷ xs) (word % length (x ∷ xs)) 0) within
    (get_or_default (x ∷ xs) (word % length (x ∷ xs)) 0 _ within) in
    let others = picked_all n (word / length (x ∷ xs)) (remove (x ∷ xs) (word % length (x ∷ xs))) (omega arith) in
    IsPermutation-trans _ _ _ first (IsPermutation-append_right (get_or (x ∷ xs) (word % length (x ∷ xs)) 0 ∷ []) _ _ others)

pub IsPermutation-picks : (word : ℕ) (list : List ℕ) → IsPermutation list (picks word list)
IsPermutation-picks word list = picked_all (length list) word list refl

named-first_two : (list : List ℕ) → lenders_asked (first_two list) ≡ take 2 list
named-first_two [] = refl
named-first_two (a ∷ []) = refl
named-first_two (a ∷ b ∷ rest) = refl

-- to join the first two of two lists is to take the first two of both
pub first_two-append : (xs ys : List ℕ) → first_two (lenders_asked (first_two xs) ++ lenders_asked (first_two ys)) ≡ first_two (xs ++ ys)
first_two-append [] [] = refl
first_two-append [] (b ∷ []) = refl
first_two-append [] (b ∷ c ∷ rest) = refl
first_two-append (a ∷ []) [] = refl
first_two-append (a ∷ []) (b ∷ []) = refl
first_two-append (a ∷ []) (b ∷ c ∷ rest) = refl
first_two-append (a ∷ b ∷ rest) ys = refl

pub asked_members : (word : ℕ) (fresh other : List ℕ) (lender : ℕ) → Contains (lenders_asked (two_asked word fresh other)) lender
    → Contains (fresh ++ other) lender
asked_members word fresh other lender is =
    Contains-permutation (picks word fresh ++ picks word other) (fresh ++ other) lender
    (IsPermutation-sym _ _
    (IsPermutation-append fresh (picks word fresh) other (picks word other) (IsPermutation-picks word fresh) (IsPermutation-picks word other)))
    (subst (λ l. Contains l lender) (take-append-drop 2 (picks word fresh ++ picks word other))
    (Contains-append_left (take 2 (picks word fresh ++ picks word other)) (drop 2 (picks word fresh ++ picks word other)) lender
    (subst (λ l. Contains l lender) (named-first_two (picks word fresh ++ picks word other)) is)))

nat_eq_comm : (x y : ℕ) → nat_eq x y ≡ nat_eq y x
nat_eq_comm x y = grind arith

distinct_two : (list : List ℕ) → IsDistinct nat_eq list → IsDistinct nat_eq (lenders_asked (first_two list))
unfolding IsDistinct
distinct_two [] h = tt
distinct_two (a ∷ []) h = (tt, tt)
distinct_two (a ∷ b ∷ rest) h = ((h.0.0, tt), (tt, tt))

pub asked_different : (word : ℕ) (fresh other : List ℕ) → IsDistinct nat_eq (fresh ++ other) → IsDistinct nat_eq (lenders_asked (two_asked word fresh other))
asked_different word fresh other h =
    distinct_two (picks word fresh ++ picks word other)
    (IsDistinct-IsPermutation nat_eq nat_eq_comm (fresh ++ other) (picks word fresh ++ picks word other)
    (IsPermutation-append fresh (picks word fresh) other (picks word other) (IsPermutation-picks word fresh) (IsPermutation-picks word other)) h)
