-- Blocks one after another in one list of bytes.
use Rattle.std.specs.Prelude.{ℕ, ◌+◌, ◌*◌, List, map}
use Rattle.std.specs.List.{between, range_with_len}

-- the blocks, and how long each is
pub record Blocks : Type 0 where
  pub blocks : List (List ℕ)
  pub page_bytes : ℕ

-- a block of a list of blocks of one width, and so many of them
abbrev pub block_in : ℕ → List ℕ → ℕ → List ℕ
block_in width bytes block = between (block * width) (block * width + width) bytes

abbrev pub blocks_in : ℕ → ℕ → List ℕ → List (List ℕ)
blocks_in blocks width bytes = map (λ block. block_in width bytes block) (range_with_len 0 blocks)
