-- A range is taken out of a set: number by number, and the bound stays.
use Rattle.std.specs.Prelude.{◌≡◌, ℕ, ◌+◌, ◌-◌, ◌<◌, ◌≤◌, Bool, false, nat_lt, nat_le, List, ◌++◌, length, take, drop, replicate}
use Rattle.std.proofs.Common.{get_or, sym, ap, ◌∙◌, subst, ⊎_elim, length-append, lt-ltb, le-ltb, le-leb, get_or-take, get_or-drop}
use Rattle.std.proofs.Math.Arith.{add-le_cancel_left}
use Rattle.std.proofs.Math.Nat.{le_trans, add_assoc, add-sub_of_le, sub-add-eq, sub-lt_left_of_lt-add}
use Rattle.std.proofs.lemmas.Bool.{cases_lt, lt-leb, cond-true, cond-false, and_left, and_right, and_from}
use Rattle.std.proofs.lemmas.List.{get_or_append_left, get_or-append_right, get_or-replicate, length-replicate, length-take-le, length-drop}
use Rattle.swap_bits.specs.Bits.{has, is_in_range, without_range, TakesRange}

-- what lies before, within and behind the range
module _ (s : List Bool) (first end i : ℕ) (order : first ≤ end) (within : end ≤ length s) where
  abbrev middle : List Bool
  middle = replicate (end - first) false

  front : length (take first s) ≡ first
  front = length-take-le first s (le_trans order within)

  before : i < first → has (without_range s first end) i ≡ has s i
  before lt =
      get_or_append_left (take first s) (middle ++ drop end s) false i (subst (λ n. i < n) (sym front) lt)
      ∙ get_or-take first s i false lt

  behind :
      first ≤ i
      → has (without_range s first end) i ≡ get_or (middle ++ drop end s) (i - first) false
  behind le = get_or-append_right (take first s) (middle ++ drop end s) first i false front le

  inside : first ≤ i → i < end → has (without_range s first end) i ≡ false
  inside le lt =
      let upto : i < first + (end - first) = subst (λ n. i < n) (sym (add-sub_of_le order)) lt in
      let short : i - first < end - first = sub-lt_left_of_lt-add le upto in
      behind le
      ∙ get_or_append_left middle (drop end s) false (i - first)
      (subst (λ n. i - first < n) (sym (length-replicate (end - first) false)) short)
      ∙ get_or-replicate (end - first) (i - first) false false short

  past : end ≤ i → has (without_range s first end) i ≡ has s i
  past le =
      let from : first ≤ i = le_trans order le in
      let wide : first + (end - first) ≤ first + (i - first) =
      subst (λ n. n ≤ first + (i - first)) (sym (add-sub_of_le order))
      (subst (λ n. end ≤ n) (sym (add-sub_of_le from)) le) in
      let far : i - first - (end - first) ≡ i - end =
      sym (sub-add-eq i first (end - first)) ∙ ap (λ n. i - n) (add-sub_of_le order) in
      behind from
      ∙ get_or-append_right middle (drop end s) (end - first) (i - first) false (length-replicate (end - first) false)
      (add-le_cancel_left first wide)
      ∙ get_or-drop end s (i - first - (end - first)) false
      ∙ ap (λ n. get_or s (end + n) false) far ∙ ap (λ n. get_or s n false) (add-sub_of_le le)

pub takes_range : TakesRange
takes_range s first end i order within =
    ⊎_elim
    (λ (lt : i < first).
    before s first end i order within lt
    ∙ sym
    (cond-false (is_in_range first end i) false (has s i)
    (and_left (nat_le first i) (nat_lt i end) (lt-leb first i lt))))
    (λ (le : first ≤ i).
    ⊎_elim
    (λ (lt : i < end).
    inside s first end i order within le lt
    ∙ sym
    (cond-true (is_in_range first end i) false (has s i)
    (and_from (nat_le first i) (nat_lt i end) (le-leb first i le) (lt-ltb i end lt))))
    (λ (ge : end ≤ i).
    past s first end i order within ge
    ∙ sym
    (cond-false (is_in_range first end i) false (has s i)
    (and_right (nat_le first i) (nat_lt i end) (le-ltb i end ge))))
    (cases_lt i end))
    (cases_lt i first)

pub length-without_range :
    (s : List Bool) (first end : ℕ) → first ≤ end → end ≤ length s → length (without_range s first end) ≡ length s
length-without_range s first end order within =
    length-append (take first s) (replicate (end - first) false ++ drop end s)
    ∙ ap (λ n. n + length (replicate (end - first) false ++ drop end s))
    (length-take-le first s (le_trans order within))
    ∙ ap (λ n. first + n)
    (length-append (replicate (end - first) false) (drop end s)
    ∙ ap (λ n. n + length (drop end s)) (length-replicate (end - first) false)
    ∙ ap (λ n. end - first + n) (length-drop end s))
    ∙ sym (add_assoc first (end - first) (length s - end))
    ∙ ap (λ n. n + (length s - end)) (add-sub_of_le order) ∙ add-sub_of_le within
