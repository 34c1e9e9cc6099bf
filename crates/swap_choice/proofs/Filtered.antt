-- The numbers of a range that pass a test, before and after one of them is taken out.
use Rattle.std.proofs.Common.{◌≡◌, ℕ, zero, suc, ◌+◌, ◌<◌, ◌≤◌, Bool, true, false, cond, eqb, not, ◌&&◌, List, ◌∷◌, length, None, Some, refl, sym, ap, ap₂, add-one, ◌∙◌, arith, inl, inr}
use Rattle.std.specs.List.{range_with_len, filter, remove, slice_get}
use Rattle.std.proofs.lemmas.Bool.{eq-eqb, ne_eqb, eqb-true, eqb-false, cases_eq, both_ways, and_right}

-- the same numbers pass two tests that agree
pub filter_same : (p q : ℕ → Bool) (a d : ℕ) → ((i : ℕ) → a ≤ i → i < a + d → q i ≡ p i) → filter q (range_with_len a d) ≡ filter p (range_with_len a d)
filter_same p q a zero same = refl
filter_same p q a (suc d) same =
    ap₂ (λ b rest. cond b (a ∷ rest) rest) (same a (omega arith) (omega arith)) (filter_same p q (a + 1) d (λ i low high. same i (omega arith) (omega arith)))

-- a number that passes is in the range
pub record Passes (p : ℕ → Bool) (a d s : ℕ) : Type 0 where
  pub low : a ≤ s
  pub high : s < a + d
  pub test : p s ≡ true

passes_head :
    (p : ℕ → Bool) (a d k s : ℕ) (rest : List ℕ) (b : Bool) → p a ≡ b → slice_get (cond b (a ∷ rest) rest) k ≡ Some s
    → ((j : ℕ) → slice_get rest j ≡ Some s → Passes p (a + 1) d s) → Passes p a (suc d) s
passes_head p a d zero s rest true is got later =
    let same : a ≡ s = cc in
    record { low = omega arith; high = omega arith; test = ap p (sym same) ∙ is }
passes_head p a d (suc k) s rest true is got later =
    let more = later k got in
    record { low = omega (arith, more.low); high = omega (arith, more.high); test = more.test }
passes_head p a d k s rest false is got later =
    let more = later k got in
    record { low = omega (arith, more.low); high = omega (arith, more.high); test = more.test }

none_some : {X : Type 0} {x : X} → None ≡ Some x → ⊥
none_some h = cc

pub passes : (p : ℕ → Bool) (a d k s : ℕ) → slice_get (filter p (range_with_len a d)) k ≡ Some s → Passes p a d s
passes p a zero k s got = absurd (none_some got)
passes p a (suc d) k s got =
    passes_head p a d k s (filter p (range_with_len (a + 1) d)) (p a) refl got (λ j. passes p (a + 1) d j s)

first_head :
    (p : ℕ → Bool) (a s j : ℕ) (rest : List ℕ) (b : Bool) → p a ≡ b → slice_get (cond b (a ∷ rest) rest) 0 ≡ Some s → a ≤ j → p j ≡ true
    → (slice_get rest 0 ≡ Some s → a + 1 ≤ j → s ≤ j) → s ≤ j
first_head p a s j rest true is got low pass later =
    let same : a ≡ s = cc in
    omega arith
first_head p a s j rest false is got low pass later =
    elim (cases_eq j a) [
      | inl same ↦ absurd (both_ways (p a) is (ap p (sym same) ∙ pass))
      | inr other ↦ later got (omega arith)
    ]

-- the first that passes is the least
pub first_least : (p : ℕ → Bool) (a d s j : ℕ) → slice_get (filter p (range_with_len a d)) 0 ≡ Some s → a ≤ j → j < a + d → p j ≡ true → s ≤ j
first_least p a zero s j got low high pass = absurd (omega arith)
first_least p a (suc d) s j got low high pass =
    first_head p a s j (filter p (range_with_len (a + 1) d)) (p a) refl got low pass (λ more above. first_least p (a + 1) d s j more above (omega arith) pass)

kept : (p q : ℕ → Bool) (s i : ℕ) → (i ≡ s → ⊥) → q i ≡ (not (eqb i s) && p i) → q i ≡ p i
kept p q s i other is = is ∙ ap (λ b. not b && p i) (ne_eqb i s other)

remove_head :
    (p q : ℕ → Bool) (a d k s : ℕ) (b : Bool) → p a ≡ b
    → slice_get (cond b (a ∷ filter p (range_with_len (a + 1) d)) (filter p (range_with_len (a + 1) d))) k ≡ Some s
    → ((i : ℕ) → a ≤ i → i < a + suc d → q i ≡ (not (eqb i s) && p i))
    → ((j : ℕ) → slice_get (filter p (range_with_len (a + 1) d)) j ≡ Some s
    → filter q (range_with_len (a + 1) d) ≡ remove (filter p (range_with_len (a + 1) d)) j)
    → cond (q a) (a ∷ filter q (range_with_len (a + 1) d)) (filter q (range_with_len (a + 1) d))
    ≡ remove (cond b (a ∷ filter p (range_with_len (a + 1) d)) (filter p (range_with_len (a + 1) d))) k
remove_head p q a d zero s true is got without later =
    let same : a ≡ s = cc in
    let out : q a ≡ false = without a (omega arith) (omega arith) ∙ ap (λ b. not b && p a) (eq-eqb a s same) in
    ap (λ b. cond b (a ∷ filter q (range_with_len (a + 1) d)) (filter q (range_with_len (a + 1) d))) out
    ∙ filter_same p q (a + 1) d (λ i low high. kept p q s i (λ e. absurd (omega arith)) (without i (omega arith) (omega arith)))
remove_head p q a d (suc k) s true is got without later =
    let there = passes p (a + 1) d k s got in
    let stays : q a ≡ true = kept p q s a (λ e. absurd (omega (arith, there.low))) (without a (omega arith) (omega arith)) ∙ is in
    ap₂ (λ b rest. cond b (a ∷ rest) rest) stays (later k got)
remove_head p q a d k s false is got without later =
    let out : q a ≡ false = without a (omega arith) (omega arith) ∙ ap (λ b. not (eqb a s) && b) is ∙ and_right (not (eqb a s)) false refl in
    ap (λ b. cond b (a ∷ filter q (range_with_len (a + 1) d)) (filter q (range_with_len (a + 1) d))) out ∙ later k got

-- to take one out of the test takes it out of the list
pub filter-remove :
    (p q : ℕ → Bool) (a d k s : ℕ) → slice_get (filter p (range_with_len a d)) k ≡ Some s → ((i : ℕ) → a ≤ i → i < a + d → q i ≡ (not (eqb i s) && p i))
    → filter q (range_with_len a d) ≡ remove (filter p (range_with_len a d)) k
filter-remove p q a zero k s got without = absurd (none_some got)
filter-remove p q a (suc d) k s got without =
    remove_head p q a d k s (p a) refl got without (λ j more. filter-remove p q (a + 1) d j s more (λ i low high. without i (omega arith) (omega arith)))

length_pair : (b c : Bool) (a : ℕ) (xs ys : List ℕ) → b ≡ c → length xs + 1 ≡ length ys → length (cond b (a ∷ xs) xs) + 1 ≡ length (cond c (a ∷ ys) ys)
length_pair true true a xs ys same len = omega arith
length_pair false false a xs ys same len = len
length_pair true false a xs ys same len = cc
length_pair false true a xs ys same len = cc

length_head :
    (p q : ℕ → Bool) (a d s : ℕ) (b : Bool) → b ≡ eqb a s → p s ≡ true → s < a + suc d → ((i : ℕ) → a ≤ i → i < a + suc d → q i ≡ (not (eqb i s) && p i))
    → (a + 1 ≤ s → length (filter q (range_with_len (a + 1) d)) + 1 ≡ length (filter p (range_with_len (a + 1) d))) → a ≤ s
    → length (cond (q a) (a ∷ filter q (range_with_len (a + 1) d)) (filter q (range_with_len (a + 1) d))) + 1
    ≡ length (cond (p a) (a ∷ filter p (range_with_len (a + 1) d)) (filter p (range_with_len (a + 1) d)))
length_head p q a d s true is pass high without later low =
    let same : a ≡ s = eqb-true a s (sym is) in
    let out : q a ≡ false = without a (omega arith) (omega arith) ∙ ap (λ b. not b && p a) (eq-eqb a s same) in
    let stays : p a ≡ true = ap p same ∙ pass in
    ap (λ b. length (cond b (a ∷ filter q (range_with_len (a + 1) d)) (filter q (range_with_len (a + 1) d))) + 1) out
    ∙ ap (λ xs. length xs + 1) (filter_same p q (a + 1) d (λ i below above. kept p q s i (λ e. absurd (omega arith)) (without i (omega arith) (omega arith))))
    ∙ add-one _
    ∙ sym (ap (λ b. length (cond b (a ∷ filter p (range_with_len (a + 1) d)) (filter p (range_with_len (a + 1) d)))) stays)
length_head p q a d s false is pass high without later low =
    let other : a ≡ s → ⊥ = eqb-false a s (sym is) in
    let stays : q a ≡ p a = kept p q s a other (without a (omega arith) (omega arith)) in
    length_pair (q a) (p a) a (filter q (range_with_len (a + 1) d)) (filter p (range_with_len (a + 1) d)) stays (later (omega arith))

-- and makes it one shorter
pub length-less :
    (p q : ℕ → Bool) (a d s : ℕ) → a ≤ s → s < a + d → p s ≡ true → ((i : ℕ) → a ≤ i → i < a + d → q i ≡ (not (eqb i s) && p i))
    → length (filter q (range_with_len a d)) + 1 ≡ length (filter p (range_with_len a d))
length-less p q a zero s low high pass without = absurd (omega arith)
length-less p q a (suc d) s low high pass without =
    length_head p q a d s (eqb a s) refl pass high without
    (λ above. length-less p q (a + 1) d s above (omega arith) pass (λ i below up. without i (omega arith) (omega arith))) low
