-- Sources and sinks in memory, which fail at the calls that are listed.
use Rattle.std.specs.Prelude.{ℕ, ◌+◌, ◌-◌, ◌^◌, min, Bool, ◌||◌, ◌==◌, nat_le, if◌then◌else◌, List, ◌++◌, length, take, drop, Result, Ok, Err}
use Rattle.std.specs.List.{list_any}
use Rattle.swap_io.specs.declared.sources.ReadFailed.{ReadFailed}
use Rattle.swap_io.specs.declared.sinks.WriteFailed.{WriteFailed}

-- a count that stops at 2 ^ 64 - 1, one more
abbrev pub raise : ℕ → ℕ
raise n = min (n + 1) (2 ^ 64 - 1)

-- what a source in memory is: the bytes that it has left, the numbers from 0 of the calls that fail, how many
-- calls were made, and how many failed
pub record Given : Type 0 where
  pub left : List ℕ
  pub failing : List ℕ
  pub calls : ℕ
  pub faults : ℕ

-- what a sink in memory is
pub record Taken : Type 0 where
  pub taken : List ℕ
  pub capacity : ℕ
  pub failing : List ℕ
  pub calls : ℕ
  pub faults : ℕ

abbrev pub is_listed : List ℕ → ℕ → Bool
is_listed failing call = list_any (λ n. n == call) failing

-- one read with room for so many bytes: it fails where it is listed, and else gives as many as there are and fit
abbrev pub after_read : Given → ℕ → Given
after_read s room =
    if is_listed s.failing s.calls then record s { calls = raise s.calls; faults = raise s.faults }
    else record s { left = drop room s.left; calls = raise s.calls }

abbrev pub read_gives : Given → ℕ → Result ℕ ReadFailed
read_gives s room = if is_listed s.failing s.calls then Err (record {}) else Ok (min room (length s.left))

-- a write fails where it is listed, and where the capacity is used up
abbrev pub write_fails : Taken → Bool
write_fails s = is_listed s.failing s.calls || nat_le s.capacity (length s.taken)

-- one write of these bytes: else it takes as many as there are and fit
abbrev pub after_write : Taken → List ℕ → Taken
after_write s bytes =
    if write_fails s then record s { calls = raise s.calls; faults = raise s.faults }
    else record s { taken = s.taken ++ take (s.capacity - length s.taken) bytes; calls = raise s.calls }

abbrev pub write_gives : Taken → List ℕ → Result ℕ WriteFailed
write_gives s bytes = if write_fails s then Err (record {}) else Ok (min (length bytes) (s.capacity - length s.taken))
