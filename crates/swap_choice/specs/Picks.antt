-- Picks of a word from a list, without repeats.
use Rattle.std.specs.Prelude.{ℕ, zero, suc, ◌/◌, ◌%◌, List, [], ◌∷◌, length, remove, slice_index}

-- at most so many picks: the word's remainder by the length names the first, and its quotient picks from the others
abbrev pub first_picks : ℕ → ℕ → List ℕ → List ℕ
first_picks zero word list = []
first_picks (suc n) word [] = []
first_picks (suc n) word (x ∷ xs) =
    slice_index (x ∷ xs) (word % length (x ∷ xs))
    ∷ first_picks n (word / length (x ∷ xs)) (remove (x ∷ xs) (word % length (x ∷ xs)))

-- the whole list, in the order in which the word picks it
abbrev pub picks : ℕ → List ℕ → List ℕ
picks word list = first_picks (length list) word list
