-- How a set lies in words of 64 bits: the number i is bit i % 64 of word i / 64.
use Rattle.std.specs.Prelude.{ℕ, ◌/◌, ◌%◌, ◌==◌, Bool, List, map, slice_index}
use Rattle.std.specs.Int.{bit_at}
use Rattle.std.specs.List.{range_with_len}

-- a number is in the set
abbrev pub is_in : List ℕ → ℕ → Bool
is_in words i = bit_at (slice_index words (i / 64)) (i % 64) == 1

-- the set of numbers below n that words mean
abbrev pub set_of : List ℕ → ℕ → List Bool
set_of words n = map (λ i. is_in words i) (range_with_len 0 n)
