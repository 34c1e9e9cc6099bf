use Rattle.std.proofs.Common.{◌≡◌, ◌<◌, length, ap, sym, ◌∙◌, subst, set, position, true, false, Some, None}
use Rattle.std.specs.Prelude.{vec_capacity}
use Rattle.std.proofs.lemmas.List.Quantifiers.{position-Some}
use Rattle.swap_queue.specs.Cells.{Kept, free_cell, is_for, with_flying}
use Rattle.swap_queue.specs.Stored.{StoreView, IsStored}
use Rattle.swap_queue.proofs.Copies.{cell_at}
use Rattle.swap_queue.proofs.StoredSteps.{cell_read, launch_stored}
use Rattle.swap_queue.proofs.store.Store.launch.Goals as goal

pub invariant_of-self : goal.invariant_of-self
invariant_of-self c =
    let lt : c.args.page.0 < length c.self.inside.spots.items = subst (λ (s : StoreView). c.args.page.0 < s.pages) (sym c.self.view_is) c.requires.page in
    let waits : position (is_for false c.args.page.0) c.self.inside.cells.items ≡ Some c.args.place =
    ap (λ (s : StoreView). position (is_for false c.args.page.0) s.cells) c.self.view_is ∙ c.requires.waits in
    let alone : position (is_for true c.args.page.0) c.self.inside.cells.items ≡ None =
    ap (λ (s : StoreView). position (is_for true c.args.page.0) s.cells) c.self.view_is ∙ c.requires.alone in
    let at = position-Some (is_for false c.args.page.0) c.self.inside.cells.items c.args.place free_cell waits in
    let read : c.index_mut-cell.result.now ≡ cell_at c.self.inside.cells.items c.args.place =
    cell_read c.self.inside.cells.items c.args.place c.index_mut-cell.result.now at.0 c.index_mut-cell.ensures.value in
    let F : Kept → Kept = λ x. record { held = with_flying true x.held; bytes = x.bytes } in
    let P : Kept → Type 0 =
    λ x.
    IsStored (set c.self.inside.cells.items c.args.place x)
    (set c.self.inside.spots.items c.args.page.0 (record { flying = Some c.args.place; next = None })) c.self.inside.free.items
    (vec_capacity c.self.inside.free) in
    subst P (sym (c.launch.ensures ∙ ap F read))
    (launch_stored c.self.inside.cells.items c.self.inside.spots.items c.self.inside.free.items
    (vec_capacity c.self.inside.free) c.args.page c.args.place c.self.invariant lt waits alone)
