use Rattle.std.proofs.Common.{◌≡◌, List, sym, subst, arith, rules, replicate}
use Rattle.swap_queue.specs.declared.store.Spot.{Spot}
use Rattle.swap_queue.specs.Cells.{Kept, free_cells}
use Rattle.swap_queue.specs.Stored.{no_spot, IsStored}
use Rattle.swap_queue.proofs.StoredSteps.{new_stored}
use Rattle.std.specs.Prelude.{vec_capacity}
use Rattle.swap_queue.proofs.store.Store.make.Goals as goal

pub invariant_of-result : goal.invariant_of-result
invariant_of-result c =
    let spots : c.in-Ok.spots.items ≡ replicate c.args.pages no_spot = search rules in
    let S : List Kept → Type 0 = λ cells. IsStored cells c.in-Ok.spots.items c.in_ok-free.free.items (vec_capacity c.in_ok-free.free) in
    let T : List Spot → Type 0 = λ spots. IsStored (free_cells c.args.count c.args.page_bytes) spots c.in_ok-free.free.items (vec_capacity c.in_ok-free.free) in
    subst S (sym c.in_ok-cells.ensures) (subst T (sym spots)
    (new_stored c.args.count c.args.page_bytes c.args.pages (vec_capacity c.in_ok-free.free) c.in_ok-free.free.items
    (omega (arith, c.in_ok-free.ensures.len, c.in_ok-free.free.ok)) c.in_ok-free.ensures.room c.in_ok-free.ensures.once))
