-- How many numbers of a range are in the set that words mean.
use Rattle.std.proofs.Common.{◌≡◌, ◌≢◌, ℕ, zero, suc, ◌+◌, ◌-◌, ◌*◌, ◌/◌, ◌%◌, ◌^◌, ◌<◌, ◌≤◌, Bool, cond, ◌==◌, List, length, take, drop, get_or, sum_by, count_ones, sym, ap, ◌∙◌, arith, ⊎_elim, eq-eqb, ne_eqb, get_or-drop, length-drop}
use Rattle.std.specs.Int.{bit_at}
use Rattle.std.proofs.lemmas.Bool.{cases_eq, cond-true, cond-false}
use Rattle.std.proofs.lemmas.List.Sums.{sum_by_more}
use Rattle.std.proofs.lemmas.Nat.{ones_cat, ones_le_self, zero_from_ones, mod-pow-add, mod_below}
use Rattle.std.proofs.lemmas.Nat.Bits.{bit_at_lowest, bit_at-suc}
use Rattle.swap_bits.specs.Bits.{has, count_in}
use Rattle.swap_bits.specs.Words.{is_in, set_of}
use Rattle.swap_bits.proofs.Numbers.{counts_parts, counts_one}
use Rattle.swap_bits.proofs.InWords.{length-set_of, has_of}

ones_bit : (b : ℕ) → b < 2 → count_ones b ≡ b
ones_bit b lt =
    ⊎_elim
    (λ (e : b ≡ 0). omega (arith, ones_le_self b))
    (λ (ne : b ≢ 0). let some : count_ones b ≢ 0 = λ e. ne (zero_from_ones b e) in omega (arith, ones_le_self b))
    (cases_eq b 0)

-- the lowest bit, and the count of the others
ones_low : (x m : ℕ) → count_ones (x % 2 ^ (m + 1)) ≡ x % 2 + count_ones (x / 2 % 2 ^ m)
ones_low x m =
    ap count_ones (mod-pow-add x m 1) ∙ ones_cat 1 (x / 2 % 2 ^ m) (x % 2) (mod_below x 2 (omega arith))
    ∙ ap (λ n. count_ones (x / 2 % 2 ^ m) + n) (ones_bit (x % 2) (mod_below x 2 (omega arith))) ∙ omega arith

bit_number : (b : ℕ) → b < 2 → cond (b == 1) 1 0 ≡ b
bit_number b lt =
    ⊎_elim (λ (e : b ≡ 1). cond-true (b == 1) 1 0 (eq-eqb b 1 e) ∙ sym e) (λ (ne : b ≢ 1). cond-false (b == 1) 1 0 (ne_eqb b 1 ne) ∙ omega arith) (cases_eq b 1)

none_counted : (s : List Bool) (a : ℕ) → a ≤ length s → count_in s a a ≡ 0
none_counted s a within = let twice : count_in s a a ≡ count_in s a a + count_in s a a = counts_parts s a a a (omega arith) (omega arith) within in omega arith

-- the numbers from a on that lie in the low bits of x
word_count :
    (s : List Bool) (m x a : ℕ) → a + m ≤ length s → ((j : ℕ) → j < m → has s (a + j) ≡ (bit_at x j == 1)) → count_in s a (a + m) ≡ count_ones (x % 2 ^ m)
word_count s zero x a within same =
    let none : x % 2 ^ 0 ≡ 0 = omega (arith, mod_below x 1 (omega arith)) in
    ap (λ n. count_in s a n) (omega arith) ∙ none_counted s a (omega arith) ∙ sym (ap count_ones none ∙ omega (arith, ones_le_self 0))
word_count s (suc m) x a within same =
    let rest : count_in s (a + 1) (a + 1 + m) ≡ count_ones (x / 2 % 2 ^ m) =
    word_count s m (x / 2) (a + 1) (omega arith)
    (λ j lt. ap (λ n. has s n) (omega arith) ∙ same (suc j) (omega arith) ∙ ap (λ b. b == 1) (bit_at-suc x j)) in
    let first : count_in s a (a + 1) ≡ x % 2 =
    counts_one s a (omega arith) ∙ ap (λ b. cond b 1 0) (ap (λ n. has s n) (omega arith) ∙ same 0 (omega arith) ∙ ap (λ b. b == 1) (bit_at_lowest x))
    ∙ bit_number (x % 2) (mod_below x 2 (omega arith)) in
    counts_parts s a (a + 1) (a + suc m) (omega arith) (omega arith) within
    ∙ ap (λ n. n + count_in s (a + 1) (a + suc m)) first ∙ ap (λ n. x % 2 + count_in s (a + 1) n) (omega arith) ∙ ap (λ n. x % 2 + n) rest
    ∙ sym (ap (λ k. count_ones (x % 2 ^ k)) (omega arith) ∙ ones_low x m)

whole_word : (w : ℕ) → w < 2 ^ 64 → w % 2 ^ 64 ≡ w
whole_word w lt = omega arith

-- the set has the numbers that the words say
abbrev pub Means : List Bool → List ℕ → Type 0
Means s words = (i : ℕ) → i < length s → has s i ≡ is_in words i

-- the numbers of a word that lie below one of them
part_count :
    (s : List Bool) (words : List ℕ) (k m : ℕ) → Means s words → 64 * k + m ≤ length s → m ≤ 64
    → count_in s (64 * k) (64 * k + m) ≡ count_ones (get_or words k 0 % 2 ^ m)
part_count s words k m same within narrow =
    word_count s m (get_or words k 0) (64 * k) within
    (λ j lt.
    let word : (64 * k + j) / 64 ≡ k = omega arith in
    let place : (64 * k + j) % 64 ≡ j = omega arith in
    same (64 * k + j) (omega arith) ∙ ap (λ n. bit_at (get_or words n 0) ((64 * k + j) % 64) == 1) word ∙ ap (λ n. bit_at (get_or words k 0) n == 1) place)

-- the numbers of whole words
whole_count :
    (s : List Bool) (words : List ℕ) (low m : ℕ) → Means s words → ((k : ℕ) → get_or words k 0 < 2 ^ 64) → 64 * (low + m) ≤ length s → low + m ≤ length words
    → count_in s (64 * low) (64 * (low + m)) ≡ sum_by count_ones (take m (drop low words))
whole_count s words low zero same fits within there =
    let e : 64 * (low + zero) ≡ 64 * low = omega arith in ap (λ n. count_in s (64 * low) n) e ∙ none_counted s (64 * low) (omega arith)
whole_count s words low (suc m) same fits within there =
    let word : ℕ = get_or words (low + m) 0 in
    let one_more : suc m ≡ m + 1 = omega arith in
    let end : 64 * (low + suc m) ≡ 64 * (low + m) + 64 = omega arith in
    let last : count_in s (64 * (low + m)) (64 * (low + m) + 64) ≡ count_ones (get_or words (low + m) 0) =
    part_count s words (low + m) 64 same (omega arith) (omega arith) ∙ ap count_ones (whole_word (get_or words (low + m) 0) (fits (low + m))) in
    let more : sum_by count_ones (take (m + 1) (drop low words)) ≡ sum_by count_ones (take m (drop low words)) + count_ones (get_or (drop low words) m 0) =
    sum_by_more count_ones (drop low words) m 0 (omega (arith, length-drop low words)) in
    ap (λ n. count_in s (64 * low) n) end
    ∙ counts_parts s (64 * low) (64 * (low + m)) (64 * (low + m) + 64) (omega arith) (omega arith) (omega arith)
    ∙ ap (λ n. n + count_in s (64 * (low + m)) (64 * (low + m) + 64)) (whole_count s words low m same fits (omega arith) (omega arith))
    ∙ ap (λ n. sum_by count_ones (take m (drop low words)) + n) (last ∙ ap count_ones (sym (get_or-drop low words m 0)))
    ∙ sym (ap (λ n. sum_by count_ones (take n (drop low words))) one_more ∙ more)

-- what is counted is the whole words with the last word's part, less the first word's
pub range_count :
    (s : List Bool) (words : List ℕ) (first end : ℕ) → Means s words → ((k : ℕ) → get_or words k 0 < 2 ^ 64) → first ≤ end → end ≤ length s
    → end / 64 ≤ length words
    → count_ones (get_or words (first / 64) 0 % 2 ^ (first % 64)) + count_in s first end
    ≡ sum_by count_ones (take (end / 64 - first / 64) (drop (first / 64) words)) + count_ones (get_or words (end / 64) 0 % 2 ^ (end % 64))
range_count s words first end same fits order within there =
    let low : ℕ = first / 64 in
    let high : ℕ = end / 64 in
    let first_is : 64 * low + first % 64 ≡ first = omega arith in
    let end_is : 64 * high + end % 64 ≡ end = omega arith in
    let high_is : 64 * (low + (high - low)) ≡ 64 * high = omega arith in
    let before : count_in s (64 * low) first ≡ count_ones (get_or words low 0 % 2 ^ (first % 64)) =
    ap (λ n. count_in s (64 * low) n) (sym first_is) ∙ part_count s words low (first % 64) same (omega arith) (omega arith) in
    let last : count_in s (64 * high) end ≡ count_ones (get_or words high 0 % 2 ^ (end % 64)) =
    ap (λ n. count_in s (64 * high) n) (sym end_is) ∙ part_count s words high (end % 64) same (omega arith) (omega arith) in
    let whole : count_in s (64 * low) (64 * high) ≡ sum_by count_ones (take (high - low) (drop low words)) =
    ap (λ n. count_in s (64 * low) n) (sym high_is) ∙ whole_count s words low (high - low) same fits (omega arith) (omega arith) in
    let one : count_in s (64 * low) end ≡ count_in s (64 * low) first + count_in s first end = counts_parts s (64 * low) first end (omega arith) order within in
    let other : count_in s (64 * low) end ≡ count_in s (64 * low) (64 * high) + count_in s (64 * high) end =
    counts_parts s (64 * low) (64 * high) end (omega arith) (omega arith) within in
    ap (λ n. n + count_in s first end) (sym before) ∙ sym one ∙ other ∙ ap (λ n. n + count_in s (64 * high) end) whole
    ∙ ap (λ n. sum_by count_ones (take (high - low) (drop low words)) + n) last

-- the same of what was counted
pub counted : (words : List ℕ) (first end n before last whole : ℕ) → ((k : ℕ) → get_or words k 0 < 2 ^ 64) → first ≤ end → end < 64 * length words → end ≤ n
    → before ≡ get_or words (first / 64) 0 % 2 ^ (first % 64) → last ≡ get_or words (end / 64) 0 % 2 ^ (end % 64)
    → whole ≡ sum_by count_ones (take (end / 64 - first / 64) (drop (first / 64) words))
    → count_ones before + count_in (set_of words n) first end ≡ whole + count_ones last
counted words first end n before last whole fits order within below is is' is'' =
    let long : length (set_of words n) ≡ n = length-set_of words n in
    let all : count_ones (get_or words (first / 64) 0 % 2 ^ (first % 64)) + count_in (set_of words n) first end
    ≡ sum_by count_ones (take (end / 64 - first / 64) (drop (first / 64) words)) + count_ones (get_or words (end / 64) 0 % 2 ^ (end % 64)) =
    range_count (set_of words n) words first end (λ i lt. has_of words n i (omega arith)) fits order (omega arith) (omega arith) in
    ap (λ b. count_ones b + count_in (set_of words n) first end) is ∙ all ∙ ap (λ w. w + count_ones (get_or words (end / 64) 0 % 2 ^ (end % 64))) (sym is'')
    ∙ ap (λ l. whole + count_ones l) (sym is')
