-- What is seen of a lender that sends what it may not, and of one that is sent what it may not be.
use Rattle.std.specs.Prelude.{Bool, true, false}
use Rattle.swap_wire.specs.declared.Seen.{Seen}
use Rattle.swap_wire.specs.declared.Seen.TheVariants as seen

-- the device ends a link by what it is sent
abbrev pub is_lied : Seen → Bool
is_lied seen.Lied = true
is_lied _ = false

-- a lender ends a link by what it is sent
abbrev pub is_ended : Seen → Bool
is_ended (seen.GaveEnded msg) = true
is_ended _ = false
