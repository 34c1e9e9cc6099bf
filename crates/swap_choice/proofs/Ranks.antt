-- The least slots of a set are those before which fewer of its slots come than are wanted.
use Rattle.std.proofs.Common.{◌≡◌, ℕ, zero, suc, ◌+◌, ◌^◌, ◌<◌, ◌≤◌, max, Bool, true, false, cond, eqb, ltb, not, ◌&&◌, ◌||◌, List, [], ◌∷◌, length, get_or, bit_or, refl, sym, ap, subst, ◌∙◌, arith, inl, inr, ◌⊎◌}
use Rattle.std.specs.Int.{bit_at}
use Rattle.std.specs.List.{range_with_len, filter, fold, list_any}
use Rattle.std.proofs.lemmas.Nat.Bits.{bit_at-lt, bit_at_or, bit_at-pow_same, bit_at-pow_other, same_from_bits}
use Rattle.std.proofs.lemmas.Bool.{eq-eqb, ne_eqb, eqb-true, ltb-true, lt-ltb, le-ltb, cases_eq, cases_lt, cases_Bool, both_ways, and_parts, and_from, or_cases}
use Rattle.swap_choice.specs.Slots.{has, slots, set_of}
use Rattle.swap_choice.specs.Least.{IsBelow, IsLeast, is_below, rank, least_of}
use Rattle.swap_choice.proofs.SlotsLemmas.{has-beyond}
use Rattle.swap_choice.proofs.Filtered.{length-less}
use Rattle.swap_choice.proofs.Chosen.{has-zero}

either_bits : (x y : ℕ) → x < 2 → y < 2 → eqb (max x y) 1 ≡ (eqb x 1 || eqb y 1)
either_bits zero zero p q = refl
either_bits zero (suc zero) p q = refl
either_bits (suc zero) zero p q = refl
either_bits (suc zero) (suc zero) p q = refl
either_bits zero (suc (suc y)) p q = absurd (omega arith)
either_bits (suc zero) (suc (suc y)) p q = absurd (omega arith)
either_bits (suc (suc x)) y p q = absurd (omega arith)

has-pow : (slot i : ℕ) → has (2 ^ slot) i ≡ eqb i slot
has-pow slot i =
    elim (cases_eq i slot) [
      | inl same ↦ ap (λ k. has (2 ^ slot) k) same ∙ ap (λ b. eqb b 1) (bit_at-pow_same slot) ∙ sym (eq-eqb i slot same)
      | inr other ↦ ap (λ b. eqb b 1) (bit_at-pow_other slot i other) ∙ sym (ne_eqb i slot other)
    ]

pub has-or : (set slot i : ℕ) → has (bit_or set (2 ^ slot)) i ≡ (has set i || eqb i slot)
has-or set slot i =
    ap (λ b. eqb b 1) (bit_at_or set (2 ^ slot) i) ∙ either_bits (bit_at set i) (bit_at (2 ^ slot) i) (bit_at-lt set i) (bit_at-lt (2 ^ slot) i)
    ∙ ap (λ b. has set i || b) (has-pow slot i)

or_assoc : (a b c : Bool) → ((a || b) || c) ≡ (a || (b || c))
or_assoc true b c = refl
or_assoc false b c = refl

pub has-fold : (list : List ℕ) (set i : ℕ) → has (fold (λ s slot. bit_or s (2 ^ slot)) set list) i ≡ (has set i || list_any (λ x. eqb i x) list)
has-fold [] set i = or_none (has set i)
  where
    or_none : (b : Bool) → b ≡ (b || false)
    or_none true = refl
    or_none false = refl
has-fold (x ∷ xs) set i =
    has-fold xs (bit_or set (2 ^ x)) i ∙ ap (λ b. b || list_any (λ y. eqb i y) xs) (has-or set x i)
    ∙ or_assoc (has set i) (eqb i x) (list_any (λ y. eqb i y) xs)

pub has-set_of : (list : List ℕ) (i : ℕ) → list_any (λ x. eqb i x) list ≡ has (set_of list) i
has-set_of list i = sym (has-fold list 0 i ∙ ap (λ b. b || list_any (λ x. eqb i x) list) (has-zero i))

-- a number that isn't in the range isn't among those that pass
pub any-filter-out : (q : ℕ → Bool) (a d i : ℕ) → (i < a) ⊎ (a + d ≤ i) → list_any (λ x. eqb i x) (filter q (range_with_len a d)) ≡ false
any-filter-out q a zero i out = refl
any-filter-out q a (suc d) i out =
    any-cond (q a) a i (filter q (range_with_len (a + 1) d)) (elim out [ inl low ↦ (λ e. absurd (omega arith)) | inr high ↦ (λ e. absurd (omega arith)) ])
    ∙ any-filter-out q (a + 1) d i (elim out [ inl low ↦ inl (omega arith) | inr high ↦ inr (omega arith) ])
  where
    any-cond : (b : Bool) (x i : ℕ) (xs : List ℕ) → (i ≡ x → ⊥) → list_any (λ y. eqb i y) (cond b (x ∷ xs) xs) ≡ list_any (λ y. eqb i y) xs
    any-cond true x i xs other = ap (λ b. b || list_any (λ y. eqb i y) xs) (ne_eqb i x other)
    any-cond false x i xs other = refl

any_head :
    (q : ℕ → Bool) (a d i : ℕ) (b : Bool) → q a ≡ b → (a + 1 ≤ i → list_any (λ x. eqb i x) (filter q (range_with_len (a + 1) d)) ≡ q i) → a ≤ i
    → list_any (λ x. eqb i x) (cond b (a ∷ filter q (range_with_len (a + 1) d)) (filter q (range_with_len (a + 1) d))) ≡ q i
any_head q a d i true is later low =
    elim (cases_eq i a) [
      | inl same ↦ ap (λ b. b || list_any (λ x. eqb i x) (filter q (range_with_len (a + 1) d))) (eq-eqb i a same) ∙ sym (ap q same ∙ is)
      | inr other ↦ ap (λ b. b || list_any (λ x. eqb i x) (filter q (range_with_len (a + 1) d))) (ne_eqb i a other) ∙ later (omega arith)
    ]
any_head q a d i false is later low =
    elim (cases_eq i a) [
      | inl same ↦ any-filter-out q (a + 1) d i (inl (omega arith)) ∙ sym (ap q same ∙ is)
      | inr other ↦ later (omega arith)
    ]

pub any-filter : (q : ℕ → Bool) (a d i : ℕ) → a ≤ i → i < a + d → list_any (λ x. eqb i x) (filter q (range_with_len a d)) ≡ q i
any-filter q a zero i low high = absurd (omega arith)
any-filter q a (suc d) i low high =
    any_head q a d i (q a) refl (λ above. any-filter q (a + 1) d i above (omega arith)) low

pub bit_from_has : (x y : ℕ) → x < 2 → y < 2 → eqb x 1 ≡ eqb y 1 → x ≡ y
bit_from_has zero zero p q e = refl
bit_from_has (suc zero) (suc zero) p q e = refl
bit_from_has zero (suc zero) p q e = cc
bit_from_has (suc zero) zero p q e = cc
bit_from_has zero (suc (suc y)) p q e = absurd (omega arith)
bit_from_has (suc zero) (suc (suc y)) p q e = absurd (omega arith)
bit_from_has (suc (suc x)) y p q e = absurd (omega arith)

pub same_from_has : (a b : ℕ) → ((i : ℕ) → has a i ≡ has b i) → a ≡ b
same_from_has a b same =
    same_from_bits a b (λ i. bit_from_has (bit_at a i) (bit_at b i) (bit_at-lt a i) (bit_at-lt b i) (same i))

-- at most as many pass a test that says more
count_cond : (b c : Bool) (a : ℕ) (xs ys : List ℕ) → (b ≡ true → c ≡ true) → length xs ≤ length ys → length (cond b (a ∷ xs) xs) ≤ length (cond c (a ∷ ys) ys)
count_cond true true a xs ys more len = omega arith
count_cond false true a xs ys more len = omega arith
count_cond false false a xs ys more len = len
count_cond true false a xs ys more len = absurd (both_ways false refl (more refl))

pub length-filter-le :
    (p q : ℕ → Bool) (a d : ℕ) → ((i : ℕ) → a ≤ i → i < a + d → p i ≡ true → q i ≡ true)
    → length (filter p (range_with_len a d)) ≤ length (filter q (range_with_len a d))
length-filter-le p q a zero more = omega arith
length-filter-le p q a (suc d) more =
    count_cond (p a) (q a) a (filter p (range_with_len (a + 1) d)) (filter q (range_with_len (a + 1) d)) (more a (omega arith) (omega arith))
    (length-filter-le p q (a + 1) d (λ i low high. more i (omega arith) (omega arith)))

-- the order as a test
pub below_from_test : (rates : List ℕ) (a b : ℕ) → is_below rates a b ≡ true → IsBelow rates a b
below_from_test rates a b is =
    elim (or_cases (ltb (get_or rates a 0) (get_or rates b 0)) (eqb (get_or rates a 0) (get_or rates b 0) && ltb a b) is) [
      | inl less ↦ inl (ltb-true _ _ less)
      | inr same ↦ let parts = and_parts (eqb (get_or rates a 0) (get_or rates b 0)) (ltb a b) same in inr (eqb-true _ _ parts.0, ltb-true _ _ parts.1)
    ]

or_left : (a b : Bool) → a ≡ true → (a || b) ≡ true
or_left true b h = refl
or_left false b h = cc

or_right : (a b : Bool) → b ≡ true → (a || b) ≡ true
or_right true b h = refl
or_right false b h = h

pub test_from_below : (rates : List ℕ) (a b : ℕ) → IsBelow rates a b → is_below rates a b ≡ true
test_from_below rates a b is =
    elim is [
      | inl less ↦ or_left (ltb (get_or rates a 0) (get_or rates b 0)) (eqb (get_or rates a 0) (get_or rates b 0) && ltb a b) (lt-ltb _ _ less)
      | inr same ↦
          or_right (ltb (get_or rates a 0) (get_or rates b 0)) (eqb (get_or rates a 0) (get_or rates b 0) && ltb a b)
          (and_from _ _ (eq-eqb _ _ same.0) (lt-ltb _ _ same.1))
    ]

not_both : (rates : List ℕ) (a b : ℕ) → IsBelow rates a b → IsBelow rates b a → ⊥
not_both rates a b p q =
    elim p [
      | inl less ↦ elim q [ inl more ↦ omega arith | inr same ↦ let e = same.0 in omega arith ]
      | inr same ↦ let e = same.0 in let lower = same.1 in elim q [ inl more ↦ omega arith | inr again ↦ let higher = again.1 in omega arith ]
    ]

rank_inside :
    (rates : List ℕ) (among count least slot : ℕ) → IsLeast rates among count least → slot < 64 → has least slot ≡ true → rank rates among slot < count
unfolding rank slots
rank_inside rates among count least slot is within inside =
    let others : length (filter (λ i. not (eqb i slot) && has least i) (range_with_len 0 64)) + 1 ≡ length (filter (has least) (range_with_len 0 64)) =
    length-less (has least) (λ i. not (eqb i slot) && has least i) 0 64 slot (omega arith) (omega arith) inside (λ i low high. refl) in
    let fewer : length (filter (λ i. has among i && is_below rates i slot) (range_with_len 0 64))
    ≤ length (filter (λ i. not (eqb i slot) && has least i) (range_with_len 0 64)) =
    length-filter-le (λ i. has among i && is_below rates i slot) (λ i. not (eqb i slot) && has least i) 0 64
    (λ i low high both. in_least i (omega arith) (and_parts (has among i) (is_below rates i slot) both)) in
    omega (arith, is.size)
  where
    in_least : (i : ℕ) → i < 64 → (has among i ≡ true) × (is_below rates i slot ≡ true) → (not (eqb i slot) && has least i) ≡ true
    in_least i high both =
        let before = below_from_test rates i slot both.1 in
        let apart : not (eqb i slot) ≡ true =
        ap not
        (ne_eqb i slot
        (λ same. not_both rates i slot before (subst (λ k. IsBelow rates slot k) (sym same) (subst (λ k. IsBelow rates k slot) same before)))) in
        elim (cases_Bool (has least i)) [
          | inl there ↦ and_from _ _ apart there
          | inr out ↦ absurd (not_both rates i slot before (is.below slot i within high inside both.0 (λ e. both_ways (has least i) out e)))
        ]

rank_outside :
    (rates : List ℕ) (among count least slot : ℕ) → IsLeast rates among count least → slot < 64 → has among slot ≡ true → has least slot ≡ false
    → count ≤ rank rates among slot
unfolding rank slots
rank_outside rates among count least slot is within there out =
    let more : length (filter (has least) (range_with_len 0 64)) ≤ length (filter (λ i. has among i && is_below rates i slot) (range_with_len 0 64)) =
    length-filter-le (has least) (λ i. has among i && is_below rates i slot) 0 64
    (λ i low high inside.
    and_from _ _ (is.subset i (omega arith) inside)
    (test_from_below rates i slot (is.below i slot (omega arith) within inside there (λ e. both_ways (has least slot) out e)))) in
    omega (arith, is.size)

at_slot :
    (rates : List ℕ) (among count least slot : ℕ) (b w : Bool) → has least slot ≡ b → has among slot ≡ w → IsLeast rates among count least → slot < 64
    → b ≡ (w && ltb (rank rates among slot) count)
at_slot rates among count least slot true true inside there is within =
    sym (lt-ltb _ _ (rank_inside rates among count least slot is within inside))
at_slot rates among count least slot true false inside there is within =
    absurd (both_ways (has among slot) there (is.subset slot within inside))
at_slot rates among count least slot false true out there is within =
    sym (le-ltb _ _ (rank_outside rates among count least slot is within there out))
at_slot rates among count least slot false false out there is within = refl

-- there is one set that `IsLeast` says
pub least_is : (rates : List ℕ) (among count least : ℕ) → least < 2 ^ 64 → IsLeast rates among count least → least ≡ least_of rates among count
unfolding least_of
least_is rates among count least small is =
    same_from_has least (set_of (filter (λ slot. has among slot && ltb (rank rates among slot) count) (range_with_len 0 64))) (λ i. elim (cases_lt i 64) [
      | inl within ↦
          at_slot rates among count least i (has least i) (has among i) refl refl is within
          ∙ sym (any-filter (λ slot. has among slot && ltb (rank rates among slot) count) 0 64 i (omega arith) (omega arith)) ∙ in_set i
      | inr beyond ↦
          has-beyond least i small beyond ∙ sym (any-filter-out (λ slot. has among slot && ltb (rank rates among slot) count) 0 64 i (inr (omega arith)))
          ∙ in_set i
    ])
  where
    in_set :
        (i : ℕ)
        → list_any (λ x. eqb i x) (filter (λ slot. has among slot && ltb (rank rates among slot) count) (range_with_len 0 64))
        ≡ has (set_of (filter (λ slot. has among slot && ltb (rank rates among slot) count) (range_with_len 0 64))) i
    in_set i = has-set_of (filter (λ slot. has among slot && ltb (rank rates among slot) count) (range_with_len 0 64)) i
