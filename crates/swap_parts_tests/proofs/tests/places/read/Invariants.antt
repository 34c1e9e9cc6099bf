use Rattle.std.proofs.Common.{◌≡◌, ℕ, true, IfSome}
use Rattle.swap_places.specs.Line.{stands}
use Rattle.swap_parts_tests.proofs.tests.places.read.Given as goal

abbrev pub invariant-loop : goal.invariant-loop
invariant-loop l = IfSome l.at (λ (k : ℕ). stands l.line.numbers k ≡ true)
