-- A line: numbers below a bound in the order in which they entered, each at most once.
use Rattle.std.specs.Prelude.{◌≡◌, ◌≢◌, ℕ, ◌<◌, Bool, true, false, ◌||◌, ◌==◌, if◌then◌else◌, List, [], ◌∷◌, ◌++◌, slice_get, Option, None}

pub record Line : Type 0 where
  pub bound : ℕ
  pub numbers : List ℕ

abbrev pub empty_line : ℕ → Line
empty_line bound = record { bound = bound; numbers = [] }

-- a number stands in the line
abbrev pub stands : List ℕ → ℕ → Bool
stands [] k = false
stands (x ∷ xs) k = x == k || stands xs k

-- the line without a number
abbrev pub without_number : ℕ → List ℕ → List ℕ
without_number k [] = []
without_number k (x ∷ xs) = if x == k then xs else x ∷ without_number k xs

-- who stands next behind a number
abbrev pub number_behind : ℕ → List ℕ → Option ℕ
number_behind k [] = None
number_behind k (x ∷ xs) = if x == k then slice_get xs 0 else number_behind k xs

-- a number is none of these
abbrev pub IsNoneOf : ℕ → List ℕ → Type 0
IsNoneOf k [] = Unit {0}
IsNoneOf k (x ∷ xs) = (k ≢ x) × IsNoneOf k xs

abbrev pub AreOnce : List ℕ → Type 0
AreOnce [] = Unit {0}
AreOnce (x ∷ xs) = IsNoneOf x xs × AreOnce xs

abbrev pub AreBelow : ℕ → List ℕ → Type 0
AreBelow bound [] = Unit {0}
AreBelow bound (x ∷ xs) = (x < bound) × AreBelow bound xs

-- what every line is
pub record IsLine (line : Line) : Type 0 where
  pub once : AreOnce line.numbers
  pub below : AreBelow line.bound line.numbers

-- what each call makes of the line, number by number
abbrev pub EntersOne : Type 0
EntersOne = (numbers : List ℕ) (k j : ℕ) → stands (numbers ++ k ∷ []) j ≡ (if k == j then true else stands numbers j)

abbrev pub LeavesOne : Type 0
LeavesOne =
    (numbers : List ℕ) (k j : ℕ) → AreOnce numbers
    → stands (without_number k numbers) j ≡ (if k == j then false else stands numbers j)

abbrev pub KeepsOnce : Type 0
KeepsOnce =
    (numbers : List ℕ) (k : ℕ) → AreOnce numbers
    → AreOnce (without_number k numbers) × (stands numbers k ≡ false → AreOnce (numbers ++ k ∷ []))
