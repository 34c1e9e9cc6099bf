-- A sink that gathers before another one.
use Rattle.std.specs.Prelude.{ℕ, List, Option}
use Rattle.std.specs.Io.KnownBytes.{append_known}

-- what the other sink took, where it tells it, what is held and not handed on, how many bytes more can be held
-- before it hands on, and the other's count of faults
pub record Gathered : Type 0 where
  pub handed : Option (List ℕ)
  pub held : List ℕ
  pub room : ℕ
  pub faults : ℕ

-- what was taken in all
abbrev pub gathered_bytes : Gathered → Option (List ℕ)
gathered_bytes s = append_known s.handed s.held
