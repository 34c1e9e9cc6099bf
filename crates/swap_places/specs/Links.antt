-- How a line is kept: each number has the one after it and the one before it, and the bound stands at both ends.
use Rattle.std.specs.Prelude.{◌≡◌, ℕ, zero, suc, ◌+◌, ◌<◌, false, List, [], ◌∷◌, length, slice_index}
use Rattle.swap_places.specs.Line.{stands, AreOnce, AreBelow}

-- from a number through these to an end, each after the one before
abbrev pub IsChain : (ℕ → ℕ) → (ℕ → ℕ) → ℕ → List ℕ → ℕ → Type 0
IsChain after before start [] end = (after start ≡ end) × (before end ≡ start)
IsChain after before start (x ∷ xs) end = (after start ≡ x) × (before x ≡ start) × IsChain after before x xs end

-- so many numbers, each after the one before
abbrev pub walk : (ℕ → ℕ) → ℕ → ℕ → List ℕ
walk after zero k = []
walk after (suc count) k = k ∷ walk after count (after k)

abbrev pub numbers_in : List ℕ → ℕ → ℕ → List ℕ
numbers_in after bound count = walk (λ k. slice_index after k) count (slice_index after bound)

-- what the links keep: a chain of the line's numbers from the bound to the bound, and who is out is after itself
pub record IsLinked (after before : List ℕ) (bound count : ℕ) : Type 0 where
  pub chain : IsChain (λ k. slice_index after k) (λ k. slice_index before k) bound (numbers_in after bound count) bound
  pub once : AreOnce (numbers_in after bound count)
  pub below : AreBelow bound (numbers_in after bound count)
  pub out : (k : ℕ) → k < bound → stands (numbers_in after bound count) k ≡ false → slice_index after k ≡ k
  pub after_fits : length after ≡ bound + 1
  pub before_fits : length before ≡ bound + 1

-- each number stands for itself
abbrev pub IsOwn : List ℕ → ℕ → Type 0
IsOwn links count = (k : ℕ) → k < count → slice_index links k ≡ k
