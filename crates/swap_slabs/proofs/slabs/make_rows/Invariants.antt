use Rattle.std.proofs.Common.{◌≡◌, replicate}
use Rattle.swap_slabs.specs.Rows.{new_row}
use Rattle.swap_slabs.proofs.slabs.make_rows.Given as goal

abbrev pub invariant-loop : goal.invariant-loop
invariant-loop l = l.rows.items ≡ replicate l.counter (new_row l.room)
