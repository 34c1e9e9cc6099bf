-- A range of numbers is taken out of words.
use Rattle.std.proofs.Common.{◌≡◌, ◌≢◌, ℕ, ◌-◌, ◌*◌, ◌/◌, ◌%◌, ◌^◌, ◌<◌, ◌≤◌, Bool, true, false, cond, ◌==◌, max, nat_lt, nat_le, List, ◌++◌, length, take, drop, get_or, set, replicate, sym, ap, ◌∙◌, arith, ⊎_elim, length-set, length-append, length-drop, lt-ltb, le-ltb, le-leb, get_or-set_same, get_or-set_other, get_or-take, get_or-drop, bit_or}
use Rattle.std.specs.Int.{bit_at}
use Rattle.std.proofs.lemmas.Bool.{cases_eq, cases_lt, lt-leb, cond-true, cond-false, and_left, and_right, and_from}
use Rattle.std.proofs.lemmas.List.{get_or_append_left, get_or-append_right, get_or-replicate, length-replicate, length-take-le}
use Rattle.std.proofs.lemmas.Nat.{pow_pos, mod_below, div-add-mod'}
use Rattle.std.proofs.lemmas.Nat.Bits.{bit_at_or, bit_at-zero, bit_at_above, bit_at_cat_low, bit_at_cat_high}
use Rattle.swap_bits.specs.Bits.{is_in_range, without_range}
use Rattle.swap_bits.specs.Words.{is_in, set_of}
use Rattle.swap_bits.specs.lemmas.Taken.{takes_range}
use Rattle.swap_bits.proofs.Numbers.{keeps_bound}
use Rattle.swap_bits.proofs.InWords.{length-set_of, has_of, set_by_all, is_in_word, is_in_other}

in_range : (first end i : ℕ) → first ≤ i → i < end → is_in_range first end i ≡ true
in_range first end i le lt = and_from (nat_le first i) (nat_lt i end) (le-leb first i le) (lt-ltb i end lt)

before_range : (first end i : ℕ) → i < first → is_in_range first end i ≡ false
before_range first end i lt = and_left (nat_le first i) (nat_lt i end) (lt-leb first i lt)

past_range : (first end i : ℕ) → end ≤ i → is_in_range first end i ≡ false
past_range first end i le = and_right (nat_le first i) (nat_lt i end) (le-ltb i end le)

-- ---- the bits of a word below a place, and those from a place on

pub low_below : (w k i : ℕ) → i < k → bit_at (w % 2 ^ k) i ≡ bit_at w i
low_below w k i lt = sym (bit_at_cat_low (w / 2 ^ k) k (w % 2 ^ k) i lt) ∙ ap (λ x. bit_at x i) (div-add-mod' w (2 ^ k))

pub low_above : (w k i : ℕ) → k ≤ i → bit_at (w % 2 ^ k) i ≡ 0
low_above w k i le = bit_at_above (w % 2 ^ k) k i (mod_below w (2 ^ k) (pow_pos k)) le

high_below : (w k i : ℕ) → i < k → bit_at (w / 2 ^ k * 2 ^ k) i ≡ 0
high_below w k i lt = ap (λ x. bit_at x i) (omega arith) ∙ bit_at_cat_low (w / 2 ^ k) k 0 i lt ∙ bit_at-zero i

high_above : (w k i : ℕ) → k ≤ i → bit_at (w / 2 ^ k * 2 ^ k) i ≡ bit_at w i
high_above w k i le =
    ap (λ x. bit_at x i) (omega arith) ∙ bit_at_cat_high (w / 2 ^ k) k 0 i (pow_pos k) le
    ∙ sym (bit_at_cat_high (w / 2 ^ k) k (w % 2 ^ k) i (mod_below w (2 ^ k) (pow_pos k)) le) ∙ ap (λ x. bit_at x i) (div-add-mod' w (2 ^ k))

or_left : (a b i : ℕ) → bit_at b i ≡ 0 → bit_at (bit_or a b) i ≡ bit_at a i
or_left a b i none = bit_at_or a b i ∙ ap (λ x. max (bit_at a i) x) none ∙ omega arith

or_right : (a b i : ℕ) → bit_at a i ≡ 0 → bit_at (bit_or a b) i ≡ bit_at b i
or_right a b i none = bit_at_or a b i ∙ ap (λ x. max x (bit_at b i)) none ∙ omega arith

-- ---- words of which some are zeros

abbrev pub zeroed : List ℕ → ℕ → ℕ → List ℕ
zeroed words low high = take low words ++ (replicate (high - low) 0 ++ drop high words)

pub length-zeroed : (words : List ℕ) (low high : ℕ) → low ≤ high → high ≤ length words → length (zeroed words low high) ≡ length words
length-zeroed words low high le within =
    length-append (take low words) (replicate (high - low) 0 ++ drop high words)
    ∙ omega (
      arith,
      length-take-le low words (omega arith),
      length-append (replicate (high - low) 0) (drop high words),
      length-replicate {A = ℕ} (high - low) 0,
      length-drop high words,
    )

zeroed_inside : (words : List ℕ) (low high k : ℕ) → low ≤ k → k < high → high ≤ length words → get_or (zeroed words low high) k 0 ≡ 0
zeroed_inside words low high k le lt within =
    get_or-append_right (take low words) (replicate (high - low) 0 ++ drop high words) low k 0 (length-take-le low words (omega arith)) le
    ∙ get_or_append_left (replicate (high - low) 0) (drop high words) 0 (k - low) (omega (arith, length-replicate {A = ℕ} (high - low) 0))
    ∙ get_or-replicate (high - low) (k - low) 0 0 (omega arith)

zeroed_before : (words : List ℕ) (low high k : ℕ) → k < low → low ≤ high → high ≤ length words → get_or (zeroed words low high) k 0 ≡ get_or words k 0
zeroed_before words low high k lt le within =
    get_or_append_left (take low words) (replicate (high - low) 0 ++ drop high words) 0 k (omega (arith, length-take-le low words (omega arith)))
    ∙ get_or-take low words k 0 lt

zeroed_past : (words : List ℕ) (low high k : ℕ) → high ≤ k → low ≤ high → high ≤ length words → get_or (zeroed words low high) k 0 ≡ get_or words k 0
zeroed_past words low high k past le within =
    get_or-append_right (take low words) (replicate (high - low) 0 ++ drop high words) low k 0 (length-take-le low words (omega arith)) (omega arith)
    ∙ get_or-append_right (replicate (high - low) 0) (drop high words) (high - low) (k - low) 0 (length-replicate {A = ℕ} (high - low) 0) (omega arith)
    ∙ get_or-drop high words (k - low - (high - low)) 0
    ∙ ap (λ n. get_or words n 0) (omega arith)

-- ---- the words that a cleared range leaves

abbrev pub left_of : List ℕ → ℕ → ℕ → ℕ → ℕ → List ℕ
left_of words low high front back = let emptied = set (zeroed words low high) high back in set emptied low (bit_or (get_or emptied low 0) front)

keeps :
    (words : List ℕ) (first end i : ℕ) (b : Bool) → b ≡ is_in words i → (is_in_range first end i ≡ false)
    → b ≡ cond (is_in_range first end i) false (is_in words i)
keeps words first end i b e out = e ∙ sym (cond-false (is_in_range first end i) false (is_in words i) out)

drops : (words : List ℕ) (first end i : ℕ) (b : Bool) → b ≡ false → (is_in_range first end i ≡ true) → b ≡ cond (is_in_range first end i) false (is_in words i)
drops words first end i b e within = e ∙ sym (cond-true (is_in_range first end i) false (is_in words i) within)

-- the bits that the first and the last word keep
abbrev front_of : List ℕ → ℕ → ℕ
front_of words first = get_or words (first / 64) 0 % 2 ^ (first % 64)

abbrev back_of : List ℕ → ℕ → ℕ
back_of words end = get_or words (end / 64) 0 / 2 ^ (end % 64) * 2 ^ (end % 64)

in_one_word : (words : List ℕ) (first end i : ℕ) → first ≤ end → i / 64 ≡ first / 64 → first / 64 ≡ end / 64
    → (bit_at (bit_or (back_of words end) (front_of words first)) (i % 64) == 1) ≡ cond (is_in_range first end i) false (is_in words i)
in_one_word words first end i order at one =
    let old : ℕ = get_or words (i / 64) 0 in
    let front_old : get_or words (first / 64) 0 ≡ old = ap (λ k. get_or words k 0) (sym at) in
    let back_old : get_or words (end / 64) 0 ≡ old = ap (λ k. get_or words k 0) (sym (at ∙ one)) in
    ⊎_elim
    (λ (lt : i % 64 < first % 64).
    keeps words first end i (bit_at (bit_or (back_of words end) (front_of words first)) (i % 64) == 1)
    (ap (λ b. b == 1)
    (or_right (back_of words end) (front_of words first) (i % 64) (high_below (get_or words (end / 64) 0) (end % 64) (i % 64) (omega arith))
    ∙ low_below (get_or words (first / 64) 0) (first % 64) (i % 64) lt ∙ ap (λ x. bit_at x (i % 64)) front_old))
    (before_range first end i (omega arith)))
    (λ (ge : first % 64 ≤ i % 64).
    let none : bit_at (front_of words first) (i % 64) ≡ 0 = low_above (get_or words (first / 64) 0) (first % 64) (i % 64) ge in
    ⊎_elim
    (λ (lt : i % 64 < end % 64).
    drops words first end i (bit_at (bit_or (back_of words end) (front_of words first)) (i % 64) == 1)
    (ap (λ b. b == 1) (or_left (back_of words end) (front_of words first) (i % 64) none ∙ high_below (get_or words (end / 64) 0) (end % 64) (i % 64) lt))
    (in_range first end i (omega arith) (omega arith)))
    (λ (past : end % 64 ≤ i % 64).
    keeps words first end i (bit_at (bit_or (back_of words end) (front_of words first)) (i % 64) == 1)
    (ap (λ b. b == 1)
    (or_left (back_of words end) (front_of words first) (i % 64) none ∙ high_above (get_or words (end / 64) 0) (end % 64) (i % 64) past
    ∙ ap (λ x. bit_at x (i % 64)) back_old))
    (past_range first end i (omega arith)))
    (cases_lt (i % 64) (end % 64)))
    (cases_lt (i % 64) (first % 64))

in_first_word : (words : List ℕ) (first end i : ℕ) → i / 64 ≡ first / 64 → first / 64 < end / 64
    → (bit_at (bit_or 0 (front_of words first)) (i % 64) == 1) ≡ cond (is_in_range first end i) false (is_in words i)
in_first_word words first end i at more =
    let front_old : get_or words (first / 64) 0 ≡ get_or words (i / 64) 0 = ap (λ k. get_or words k 0) (sym at) in
    let here : bit_at (bit_or 0 (front_of words first)) (i % 64) ≡ bit_at (front_of words first) (i % 64) =
    or_right 0 (front_of words first) (i % 64) (bit_at-zero (i % 64)) in
    ⊎_elim
    (λ (lt : i % 64 < first % 64).
    keeps words first end i (bit_at (bit_or 0 (front_of words first)) (i % 64) == 1)
    (ap (λ b. b == 1) (here ∙ low_below (get_or words (first / 64) 0) (first % 64) (i % 64) lt ∙ ap (λ x. bit_at x (i % 64)) front_old))
    (before_range first end i (omega arith)))
    (λ (ge : first % 64 ≤ i % 64).
    drops words first end i (bit_at (bit_or 0 (front_of words first)) (i % 64) == 1)
    (ap (λ b. b == 1) (here ∙ low_above (get_or words (first / 64) 0) (first % 64) (i % 64) ge))
    (in_range first end i (omega arith) (omega arith)))
    (cases_lt (i % 64) (first % 64))

in_last_word : (words : List ℕ) (first end i : ℕ) → i / 64 ≡ end / 64 → first / 64 < end / 64
    → (bit_at (back_of words end) (i % 64) == 1) ≡ cond (is_in_range first end i) false (is_in words i)
in_last_word words first end i at more =
    let back_old : get_or words (end / 64) 0 ≡ get_or words (i / 64) 0 = ap (λ k. get_or words k 0) (sym at) in
    ⊎_elim
    (λ (lt : i % 64 < end % 64).
    drops words first end i (bit_at (back_of words end) (i % 64) == 1)
    (ap (λ b. b == 1) (high_below (get_or words (end / 64) 0) (end % 64) (i % 64) lt))
    (in_range first end i (omega arith) (omega arith)))
    (λ (past : end % 64 ≤ i % 64).
    keeps words first end i (bit_at (back_of words end) (i % 64) == 1)
    (ap (λ b. b == 1) (high_above (get_or words (end / 64) 0) (end % 64) (i % 64) past ∙ ap (λ x. bit_at x (i % 64)) back_old))
    (past_range first end i (omega arith)))
    (cases_lt (i % 64) (end % 64))

in_no_end : (words : List ℕ) (first end i : ℕ) → first ≤ end → end / 64 ≤ length words → i / 64 ≢ first / 64 → i / 64 ≢ end / 64
    → is_in (zeroed words (first / 64) (end / 64)) i ≡ cond (is_in_range first end i) false (is_in words i)
in_no_end words first end i order within apart apart' =
    ⊎_elim
    (λ (lt : i / 64 < first / 64).
    keeps words first end i (is_in (zeroed words (first / 64) (end / 64)) i)
    (ap (λ x. bit_at x (i % 64) == 1) (zeroed_before words (first / 64) (end / 64) (i / 64) lt (omega arith) within))
    (before_range first end i (omega arith)))
    (λ (ge : first / 64 ≤ i / 64).
    ⊎_elim
    (λ (lt : i / 64 < end / 64).
    drops words first end i (is_in (zeroed words (first / 64) (end / 64)) i)
    (ap (λ x. bit_at x (i % 64) == 1) (zeroed_inside words (first / 64) (end / 64) (i / 64) ge lt within) ∙ ap (λ b. b == 1) (bit_at-zero (i % 64)))
    (in_range first end i (omega arith) (omega arith)))
    (λ (past : end / 64 ≤ i / 64).
    keeps words first end i (is_in (zeroed words (first / 64) (end / 64)) i)
    (ap (λ x. bit_at x (i % 64) == 1) (zeroed_past words (first / 64) (end / 64) (i / 64) past (omega arith) within))
    (past_range first end i (omega arith)))
    (cases_lt (i / 64) (end / 64)))
    (cases_lt (i / 64) (first / 64))

pub range_left : (words : List ℕ) (first end : ℕ) → first ≤ end → end < 64 * length words → (i : ℕ)
    → is_in (left_of words (first / 64) (end / 64) (front_of words first) (back_of words end)) i ≡ cond (is_in_range first end i) false (is_in words i)
range_left words first end order within i =
    let low : ℕ = first / 64 in
    let high : ℕ = end / 64 in
    let emptied : List ℕ = set (zeroed words low high) high (back_of words end) in
    let long : length (zeroed words low high) ≡ length words = length-zeroed words low high (omega arith) (omega arith) in
    let longer : length emptied ≡ length words = length-set (zeroed words low high) high (back_of words end) ∙ long in
    let above : high < length (zeroed words low high) = omega arith in
    ⊎_elim
    (λ (at : i / 64 ≡ low).
    is_in_word emptied low (bit_or (get_or emptied low 0) (front_of words first)) i (sym at) (omega arith)
    ∙ ⊎_elim
    (λ (one : low ≡ high).
    ap (λ x. bit_at (bit_or x (front_of words first)) (i % 64) == 1)
    (ap (λ k. get_or emptied k 0) one ∙ get_or-set_same (zeroed words low high) high (back_of words end) 0 above)
    ∙ in_one_word words first end i order at one)
    (λ (ne : low ≢ high).
    ap (λ x. bit_at (bit_or x (front_of words first)) (i % 64) == 1)
    (get_or-set_other (zeroed words low high) high low (back_of words end) 0 ne ∙ zeroed_inside words low high low (omega arith) (omega arith) (omega arith))
    ∙ in_first_word words first end i at (omega arith))
    (cases_eq low high))
    (λ (ne : i / 64 ≢ low).
    is_in_other emptied low (bit_or (get_or emptied low 0) (front_of words first)) i ne
    ∙ ⊎_elim
    (λ (at : i / 64 ≡ high).
    is_in_word (zeroed words low high) high (back_of words end) i (sym at) above ∙ in_last_word words first end i at (omega arith))
    (λ (ne' : i / 64 ≢ high).
    is_in_other (zeroed words low high) high (back_of words end) i ne' ∙ in_no_end words first end i order (omega arith) ne ne')
    (cases_eq (i / 64) high))
    (cases_eq (i / 64) low)

-- the set that is left, where that holds of each number
pub range_taken :
    (words left : List ℕ) (n first end : ℕ) → first ≤ end → end ≤ n → ((i : ℕ) → is_in left i ≡ cond (is_in_range first end i) false (is_in words i))
    → set_of left n ≡ without_range (set_of words n) first end
range_taken words left n first end order within same =
    let long : length (set_of words n) ≡ n = length-set_of words n in
    set_by_all left (without_range (set_of words n) first end) n ((keeps_bound (set_of words n) first end 0 order (omega arith)).2 ∙ long)
    (λ i lt. takes_range (set_of words n) first end i order (omega arith) ∙ ap (λ b. cond (is_in_range first end i) false b) (has_of words n i lt)
    ∙ sym (same i))
