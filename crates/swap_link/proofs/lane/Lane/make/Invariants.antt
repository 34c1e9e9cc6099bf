use Rattle.std.proofs.Common.{◌≡◌, ◌≤◌, length}
use Rattle.std.specs.Prelude.{All}
use Rattle.std.specs.VecDeque.{deque_capacity}
use Rattle.swap_link.specs.Lane.{Kept}
use Rattle.swap_link.proofs.lane.Lane.make.Given as goal

abbrev pub invariant-loop : goal.invariant-loop
invariant-loop l = (length l.places.items ≡ l.counter) × (l.room ≤ deque_capacity l.places) × All (λ (k : Kept). length k.page ≡ l.page_bytes) l.places.items
