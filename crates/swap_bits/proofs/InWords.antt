-- One number is put into words or taken out of them.
use Rattle.std.proofs.Common.{◌≡◌, ◌≢◌, ℕ, ◌*◌, ◌/◌, ◌%◌, ◌^◌, ◌<◌, Bool, true, false, cond, ◌==◌, List, length, get_or, set, replicate, sym, ap, ◌∙◌, arith, ⊎_elim, length-set, eq-eqb, ne_eqb, get_or-set_same, get_or-set_other, bit_and, bit_or, w64}
use Rattle.std.specs.Int.{bit_at, bit_not}
use Rattle.std.proofs.lemmas.Bool.{cases_eq, cond-true, cond-false}
use Rattle.std.proofs.lemmas.List.{get_or-replicate, length-replicate}
use Rattle.std.proofs.lemmas.List.FromFn.{length-map-range_with_len, get_or-map-range_with_len, fill_by_all}
use Rattle.std.proofs.lemmas.Nat.Bits.{bit_at_set_same, bit_at_set_other, bit_at_clear_same, bit_at_clear_other, bit_at-zero, shr_and_one}
use Rattle.swap_bits.specs.Bits.{has}
use Rattle.swap_bits.specs.Words.{is_in, set_of}
use Rattle.swap_bits.proofs.Numbers.{has_set}

pub length-set_of : (words : List ℕ) (n : ℕ) → length (set_of words n) ≡ n
length-set_of words n = length-map-range_with_len (λ i. is_in words i) 0 n

pub bound_of : (words : List ℕ) (n : ℕ) (set : List Bool) → set_of words n ≡ set → length set ≡ n
bound_of words n set is = ap length (sym is) ∙ length-set_of words n

pub has_of : (words : List ℕ) (n i : ℕ) → i < n → has (set_of words n) i ≡ is_in words i
has_of words n i lt = get_or-map-range_with_len (λ j. is_in words j) 0 n i i false lt (omega arith)

-- a set with the same numbers is the one that the words mean
pub set_by_all : (words : List ℕ) (s : List Bool) (n : ℕ) → length s ≡ n → ((i : ℕ) → i < n → has s i ≡ is_in words i) → set_of words n ≡ s
set_by_all words s n long same = sym (fill_by_all (λ i. is_in words i) s n false long same)

pub is_in_word : (words : List ℕ) (k w i : ℕ) → k ≡ i / 64 → k < length words → is_in (set words k w) i ≡ (bit_at w (i % 64) == 1)
is_in_word words k w i e lt = ap (λ x. bit_at x (i % 64) == 1) (ap (λ j. get_or (set words k w) j 0) (sym e) ∙ get_or-set_same words k w 0 lt)

pub is_in_other : (words : List ℕ) (k w i : ℕ) → i / 64 ≢ k → is_in (set words k w) i ≡ is_in words i
is_in_other words k w i ne = ap (λ x. bit_at x (i % 64) == 1) (get_or-set_other words k (i / 64) w 0 ne)

-- a word that has one bit other than the word that it replaces
pub is_in_changed :
    (words : List ℕ) (i j w : ℕ) (v : Bool) → i / 64 < length words → (bit_at w (i % 64) == 1) ≡ v
    → ((k : ℕ) → k < 64 → k ≢ i % 64 → bit_at w k ≡ bit_at (get_or words (i / 64) 0) k) → is_in (set words (i / 64) w) j ≡ cond (i == j) v (is_in words j)
is_in_changed words i j w v lt here others =
    ⊎_elim
    (λ (same : j / 64 ≡ i / 64).
    is_in_word words (i / 64) w j (sym same) lt
    ∙ ⊎_elim
    (λ (e : j % 64 ≡ i % 64).
    let ij : i ≡ j = omega arith in
    ap (λ k. bit_at w k == 1) e ∙ here ∙ sym (cond-true (i == j) v (is_in words j) (eq-eqb i j ij)))
    (λ (ne : j % 64 ≢ i % 64).
    let apart : i ≢ j = λ e. ne (ap (λ k. k % 64) (sym e)) in
    ap (λ b. b == 1) (others (j % 64) (omega arith) ne) ∙ ap (λ k. bit_at (get_or words k 0) (j % 64) == 1) (sym same)
    ∙ sym (cond-false (i == j) v (is_in words j) (ne_eqb i j apart)))
    (cases_eq (j % 64) (i % 64)))
    (λ (ne : j / 64 ≢ i / 64).
    let apart : i ≢ j = λ e. ne (ap (λ k. k / 64) (sym e)) in
    is_in_other words (i / 64) w j ne ∙ sym (cond-false (i == j) v (is_in words j) (ne_eqb i j apart)))
    (cases_eq (j / 64) (i / 64))

changed_set :
    (words : List ℕ) (n i w : ℕ) (v : Bool) → i < n → i / 64 < length words → (bit_at w (i % 64) == 1) ≡ v
    → ((k : ℕ) → k < 64 → k ≢ i % 64 → bit_at w k ≡ bit_at (get_or words (i / 64) 0) k) → set_of (set words (i / 64) w) n ≡ set (set_of words n) i v
changed_set words n i w v lt within here others =
    set_by_all (set words (i / 64) w) (set (set_of words n) i v) n (length-set (set_of words n) i v ∙ length-set_of words n)
    (λ j below. has_set (set_of words n) i j v (omega (arith, length-set_of words n)) ∙ ap (λ b. cond (i == j) v b) (has_of words n j below)
    ∙ sym (is_in_changed words i j w v within here others))

pub added :
    (words : List ℕ) (n i : ℕ) → i < n → i / 64 < length words
    → set_of (set words (i / 64) (bit_or (get_or words (i / 64) 0) (1 * 2 ^ (i % 64) % 2 ^ 64))) n ≡ set (set_of words n) i true
added words n i lt within =
    let place : i % 64 < 64 = omega arith in
    changed_set words n i (bit_or (get_or words (i / 64) 0) (1 * 2 ^ (i % 64) % 2 ^ 64)) true lt within
    (ap (λ b. b == 1) (bit_at_set_same w64 (get_or words (i / 64) 0) (i % 64) place))
    (λ k below ne. bit_at_set_other w64 (get_or words (i / 64) 0) (i % 64) place k ne)

pub taken :
    (words : List ℕ) (n i : ℕ) → i < n → i / 64 < length words
    → set_of (set words (i / 64) (bit_and (get_or words (i / 64) 0) (bit_not w64 (1 * 2 ^ (i % 64) % 2 ^ 64)))) n ≡ set (set_of words n) i false
taken words n i lt within =
    let place : i % 64 < 64 = omega arith in
    changed_set words n i (bit_and (get_or words (i / 64) 0) (bit_not w64 (1 * 2 ^ (i % 64) % 2 ^ 64))) false lt within
    (ap (λ b. b == 1) (bit_at_clear_same w64 (get_or words (i / 64) 0) (i % 64) place))
    (λ k below ne. bit_at_clear_other w64 (get_or words (i / 64) 0) (i % 64) place k below ne)

-- no number is in words of zeros
pub none_in : (count n : ℕ) → n < 64 * count → set_of (replicate count 0) n ≡ replicate n false
none_in count n lt =
    set_by_all (replicate count 0) (replicate n false) n (length-replicate n false)
    (λ i below.
    let word : get_or (replicate count 0) (i / 64) 0 ≡ 0 = get_or-replicate count (i / 64) 0 0 (omega arith) in
    get_or-replicate n i false false below ∙ sym (ap (λ x. bit_at x (i % 64) == 1) word ∙ ap (λ b. b == 1) (bit_at-zero (i % 64))))

-- the test of one bit
pub tested : (words : List ℕ) (n i : ℕ) → i < n → (bit_and (get_or words (i / 64) 0 / 2 ^ (i % 64)) 1 == 1) ≡ has (set_of words n) i
tested words n i lt = ap (λ b. b == 1) (shr_and_one (get_or words (i / 64) 0) (i % 64)) ∙ sym (has_of words n i lt)
