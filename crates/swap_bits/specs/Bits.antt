-- A set of the numbers below a bound, as the list that tells of each number whether it is in the set.
use Rattle.std.specs.Prelude.{◌≡◌, ℕ, ◌+◌, ◌-◌, ◌<◌, ◌≤◌, Bool, true, false, ◌&&◌, nat_lt, nat_le, ◌==◌, if◌then◌else◌, List, ◌++◌, length, take, drop, replicate, count_by, slice_index_or, slice_set}

-- no number of these
abbrev pub no_numbers : ℕ → List Bool
no_numbers n = replicate n false

-- a number is in the set
abbrev pub has : List Bool → ℕ → Bool
has set i = slice_index_or set i false

abbrev pub with_number : List Bool → ℕ → List Bool
with_number set i = slice_set set i true

abbrev pub without_number : List Bool → ℕ → List Bool
without_number set i = slice_set set i false

-- the numbers from first on and before the end are taken out
abbrev pub without_range : List Bool → ℕ → ℕ → List Bool
without_range set first end = take first set ++ (no_numbers (end - first) ++ drop end set)

-- how many numbers from first on and before the end are in the set
abbrev pub count_in : List Bool → ℕ → ℕ → ℕ
count_in set first end = count_by (λ b. b) (take (end - first) (drop first set))

-- a number is from first on and before the end
abbrev pub is_in_range : ℕ → ℕ → ℕ → Bool
is_in_range first end i = nat_le first i && nat_lt i end

-- what each change makes of the set, number by number
abbrev pub AddsOne : Type 0
AddsOne =
    (set : List Bool) (i j : ℕ) → i < length set → has (with_number set i) j ≡ (if i == j then true else has set j)

abbrev pub TakesOne : Type 0
TakesOne = (set : List Bool) (i j : ℕ) → has (without_number set i) j ≡ (if i == j then false else has set j)

abbrev pub TakesRange : Type 0
TakesRange =
    (set : List Bool) (first end i : ℕ) → first ≤ end → end ≤ length set
    → has (without_range set first end) i ≡ (if is_in_range first end i then false else has set i)

-- a count over a range is that of its two parts
abbrev pub CountsParts : Type 0
CountsParts =
    (set : List Bool) (first middle end : ℕ) → first ≤ middle → middle ≤ end → end ≤ length set
    → count_in set first end ≡ count_in set first middle + count_in set middle end

abbrev pub CountsOne : Type 0
CountsOne = (set : List Bool) (i : ℕ) → i < length set → count_in set i (i + 1) ≡ (if has set i then 1 else 0)

-- the bound stays
abbrev pub KeepsBound : Type 0
KeepsBound =
    (set : List Bool) (first end i : ℕ) → first ≤ end → end ≤ length set
    → (length (with_number set i) ≡ length set) × (length (without_number set i) ≡ length set)
    × (length (without_range set first end) ≡ length set)
