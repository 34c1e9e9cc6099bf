use Rattle.std.proofs.Common.{◌≡◌, map}
use Rattle.swap_play.proofs.callers.tickets_of.Given as goal

abbrev pub invariant-passes : goal.invariant-passes
invariant-passes l = map (λ s. s.0) l.seats.items ≡ l.yielded
