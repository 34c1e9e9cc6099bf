use Rattle.std.proofs.Common.{◌≡◌, ℕ, ◌≤◌}
use Rattle.std.specs.Prelude.{vec_len, vec_capacity}
use Rattle.swap_queue.specs.Stored.{times_free, one_below}
use Rattle.swap_queue.proofs.store.make_places.Given as goal

abbrev pub invariant-loop-place : goal.invariant-loop-place
invariant-loop-place l = record {
  len : vec_len l.free ≡ l.place;
  room : l.count ≤ vec_capacity l.free;
  once : (i : ℕ) → times_free l.free.items i ≡ one_below l.place i;
}
