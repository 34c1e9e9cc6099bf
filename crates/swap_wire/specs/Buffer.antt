-- What a buffer of frames is seen as.
use Rattle.std.specs.Prelude.{ℕ, ◌-◌, List, ◌++◌, length, drop}

-- the bytes that it holds, and how many it may hold
pub record BufferView : Type 0 where
  pub bytes : List ℕ
  pub capacity : ℕ

-- how many bytes are free
abbrev pub free_bytes : BufferView → ℕ
free_bytes h = h.capacity - length h.bytes

-- with bytes at its end, and without its first ones
abbrev pub append_after : BufferView → List ℕ → BufferView
append_after h bytes = record h { bytes = h.bytes ++ bytes }

abbrev pub drop_after : BufferView → ℕ → BufferView
drop_after h n = record h { bytes = drop n h.bytes }
