use Rattle.std.proofs.Common.{◌≡◌, ◌≤◌, length, vec_capacity}
use Rattle.swap_disk.proofs.flight.make_kept.Given as goal

abbrev pub invariant-loop : goal.invariant-loop
invariant-loop l = (length l.kept.items ≡ l.counter) × (l.count ≤ vec_capacity l.kept)
