use Rattle.std.proofs.Common.{◌≡◌, ◌≤◌, ℕ, replicate, vec_capacity}
use Rattle.swap_disk.proofs.flight.make_buffers.Given as goal

abbrev pub invariant-loop : goal.invariant-loop
invariant-loop l = (l.buffers.items ≡ replicate l.counter (replicate {A = ℕ} l.page_bytes 0)) × (l.count ≤ vec_capacity l.buffers)
