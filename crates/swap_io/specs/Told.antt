-- What a stream of std is seen as.
use Rattle.std.specs.Prelude.{ℕ, List, Option}

-- the bytes that it has left or took, where it tells them, and a count of its errors
pub record Told : Type 0 where
  pub bytes : Option (List ℕ)
  pub faults : ℕ
