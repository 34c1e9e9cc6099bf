use Rattle.std.proofs.Common.{◌≡◌}
use Rattle.swap_queue.specs.Cells.{free_cells}
use Rattle.swap_queue.proofs.store.make_cells.Given as goal

abbrev pub invariant-loop : goal.invariant-loop
invariant-loop l = l.cells.items ≡ free_cells l.counter l.page_bytes
