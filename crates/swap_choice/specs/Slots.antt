-- A word of 64 bits stands for a set of slots, bit i for slot i.
use Rattle.std.specs.Prelude.{ℕ, ◌^◌, Bool, ◌==◌, List, length, filter, fold, bit_or}
use Rattle.std.specs.Int.{bit_at}
use Rattle.std.specs.List.{range_with_len}

abbrev pub has : ℕ → ℕ → Bool
has set slot = bit_at set slot == 1

-- the slots of a set, ascending
unfoldable pub slots : ℕ → List ℕ
slots set = filter (has set) (range_with_len 0 64)

abbrev pub size : ℕ → ℕ
size set = length (slots set)

-- the set of the slots in a list
abbrev pub set_of : List ℕ → ℕ
set_of list = fold (λ set slot. bit_or set (2 ^ slot)) 0 list
