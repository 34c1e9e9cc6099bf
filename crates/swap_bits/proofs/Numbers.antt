-- The set, number by number.
use Rattle.std.proofs.Common.{◌≡◌, ◌≢◌, ℕ, ◌+◌, ◌-◌, ◌<◌, ◌≤◌, Bool, true, false, cond, ◌==◌, List, [], ◌∷◌, ◌++◌, length, take, drop, get_or, set, count_by, sym, ap, ◌∙◌, arith, ⊎_elim, length-set, eq-eqb, ne_eqb, get_or-set_same, get_or-set_other, take-add, drop-drop, zero-add}
use Rattle.std.proofs.lemmas.Bool.{cases_eq, cases_lt, cond-true, cond-false}
use Rattle.std.proofs.lemmas.List.{set_past, get_or_past, drop_more}
use Rattle.std.proofs.lemmas.List.Sums.{sum_by-append}
use Rattle.swap_bits.specs.lemmas.Taken.{length-without_range}
use Rattle.swap_bits.specs.Bits.{has, AddsOne, TakesOne, CountsParts, CountsOne, KeepsBound}

-- the set with one value replaced
pub has_set : (s : List Bool) (i j : ℕ) (v : Bool) → i < length s → has (set s i v) j ≡ cond (i == j) v (has s j)
has_set s i j v lt =
    ⊎_elim
    (λ (e : i ≡ j). ap (λ n. get_or (set s i v) n false) (sym e) ∙ get_or-set_same s i v false lt ∙ sym (cond-true (i == j) v (has s j) (eq-eqb i j e)))
    (λ (ne : i ≢ j). get_or-set_other s i j v false (λ e. ne (sym e)) ∙ sym (cond-false (i == j) v (has s j) (ne_eqb i j ne)))
    (cases_eq i j)

pub adds_one : AddsOne
adds_one s i j lt = has_set s i j true lt

cleared_here : (s : List Bool) (i : ℕ) → get_or (set s i false) i false ≡ false
cleared_here s i =
    ⊎_elim
    (λ (lt : i < length s). get_or-set_same s i false false lt)
    (λ (ge : length s ≤ i). ap (λ l. get_or l i false) (set_past s i false ge) ∙ get_or_past s i false ge)
    (cases_lt i (length s))

pub takes_one : TakesOne
takes_one s i j =
    ⊎_elim
    (λ (e : i ≡ j). ap (λ n. get_or (set s i false) n false) (sym e) ∙ cleared_here s i ∙ sym (cond-true (i == j) false (has s j) (eq-eqb i j e)))
    (λ (ne : i ≢ j). get_or-set_other s i j false false (λ e. ne (sym e)) ∙ sym (cond-false (i == j) false (has s j) (ne_eqb i j ne)))
    (cases_eq i j)

pub counts_parts : CountsParts
counts_parts s first middle end le le' within =
    let split : take (end - first) (drop first s) ≡ take (middle - first) (drop first s) ++ take (end - middle) (drop middle s) =
    ap (λ n. take n (drop first s)) (omega (arith, le, le')) ∙ take-add (middle - first) (end - middle) (drop first s)
    ∙ ap (λ l. take (middle - first) (drop first s) ++ take (end - middle) l) (drop-drop (middle - first) first s ∙ ap (λ n. drop n s) (omega (arith, le))) in
    ap (λ l. count_by (λ (b : Bool). b) l) split
    ∙ sum_by-append (λ (b : Bool). cond b 1 0) (take (middle - first) (drop first s)) (take (end - middle) (drop middle s))

pub counts_one : CountsOne
counts_one s i lt =
    let wide : i + 1 - i ≡ 1 = omega arith in
    let one : take (i + 1 - i) (drop i s) ≡ has s i ∷ [] = ap (λ n. take n (drop i s)) wide ∙ ap (λ l. take 1 l) (drop_more s i false lt) in
    ap (λ l. count_by (λ (b : Bool). b) l) one ∙ zero-add (cond (has s i) 1 0)

pub keeps_bound : KeepsBound
keeps_bound s first end i le within = (length-set s i true, length-set s i false, length-without_range s first end le within)
