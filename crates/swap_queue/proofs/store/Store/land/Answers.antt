use Rattle.std.proofs.Common.{◌≡◌, ◌<◌, ℕ, List, length, ap, sym, ◌∙◌, subst, set, position, true, false, not, Some, None, arith, if◌then◌else◌}
use Rattle.std.specs.Prelude.{vec_capacity}
use Rattle.std.proofs.lemmas.List.Quantifiers.{position-Some}
use Rattle.swap_queue.specs.declared.store.Spot.{Spot}
use Rattle.swap_queue.specs.Cells.{Kept, free_cell, is_for, land_after}
use Rattle.swap_queue.specs.Stored.{StoreView, IsStored, spot_in, free_list_after}
use Rattle.swap_queue.proofs.Copies.{cell_at, used_for}
use Rattle.swap_queue.proofs.StoredSteps.{cell_read, spot_read, land_stored, room_left}
use Rattle.swap_queue.proofs.store.Store.land.Goals as goal

pub land-entry-requires : goal.land-entry-requires
land-entry-requires c =
    let flies : position (is_for true c.args.page.0) c.self.inside.cells.items ≡ Some c.args.place =
    ap (λ (s : StoreView). position (is_for true c.args.page.0) s.cells) c.self.view_is ∙ c.requires.flies in
    let at = position-Some (is_for true c.args.page.0) c.self.inside.cells.items c.args.place free_cell flies in
    let read : c.index_mut-cell.result.now ≡ cell_at c.self.inside.cells.items c.args.place =
    cell_read c.self.inside.cells.items c.args.place c.index_mut-cell.result.now at.0 c.index_mut-cell.ensures.value in
    used_for true c.args.page.0 c.index_mut-cell.result.now.held (ap (is_for true c.args.page.0) read ∙ at.1)

pub give_back-requires : goal.give_back-requires
give_back-requires c =
    λ _.
    let lt : c.args.page.0 < length c.self.inside.spots.items = subst (λ (s : StoreView). c.args.page.0 < s.pages) (sym c.self.view_is) c.requires.page in
    let flies : position (is_for true c.args.page.0) c.self.inside.cells.items ≡ Some c.args.place =
    ap (λ (s : StoreView). position (is_for true c.args.page.0) s.cells) c.self.view_is ∙ c.requires.flies in
    let left : length c.self.inside.free.items < vec_capacity c.self.inside.free =
    room_left c.self.inside.cells.items c.self.inside.spots.items c.self.inside.free.items
    (vec_capacity c.self.inside.free) c.args.page c.args.place c.self.invariant lt flies in
    omega (arith, left, c.self.inside.free.ok)

pub invariant_of-self : goal.invariant_of-self
invariant_of-self c =
    let lt : c.args.page.0 < length c.self.inside.spots.items = subst (λ (s : StoreView). c.args.page.0 < s.pages) (sym c.self.view_is) c.requires.page in
    let flies : position (is_for true c.args.page.0) c.self.inside.cells.items ≡ Some c.args.place =
    ap (λ (s : StoreView). position (is_for true c.args.page.0) s.cells) c.self.view_is ∙ c.requires.flies in
    let at = position-Some (is_for true c.args.page.0) c.self.inside.cells.items c.args.place free_cell flies in
    let read : c.index_mut-cell.result.now ≡ cell_at c.self.inside.cells.items c.args.place =
    cell_read c.self.inside.cells.items c.args.place c.index_mut-cell.result.now at.0 c.index_mut-cell.ensures.value in
    let spot : c.index-spot.result.now ≡ spot_in c.self.inside.cells.items c.args.page.0 =
    spot_read c.self.inside.cells.items c.self.inside.spots.items _ _ c.args.page.0 c.index-spot.result.now c.self.invariant lt c.index-spot.ensures in
    let F : Kept → Kept = λ x. record { held = land_after c.args.keeps x.held; bytes = x.bytes } in
    let G : Spot → Spot = λ x. record { flying = None; next = if c.args.keeps then Some c.args.place else x.next } in
    let P : Kept → Spot → List ℕ → ℕ → Type 0 =
    λ x sp free room. IsStored (set c.self.inside.cells.items c.args.place x) (set c.self.inside.spots.items c.args.page.0 sp) free room in
    subst (λ x. P x c.landed_spot.result c.give_back.new.free.items (vec_capacity c.give_back.new.free)) (sym (c.land-entry.ensures.cell ∙ ap F read))
    (subst (λ sp. P (F (cell_at c.self.inside.cells.items c.args.place)) sp c.give_back.new.free.items (vec_capacity c.give_back.new.free))
    (sym (c.landed_spot.ensures ∙ ap G spot))
    (subst
    (λ free.
    P (F (cell_at c.self.inside.cells.items c.args.place)) (G (spot_in c.self.inside.cells.items c.args.page.0)) free (vec_capacity c.give_back.new.free))
    (sym c.give_back.ensures.items)
    (subst
    (λ room.
    P (F (cell_at c.self.inside.cells.items c.args.place)) (G (spot_in c.self.inside.cells.items c.args.page.0))
    (free_list_after c.self.inside.free.items c.args.place (not c.args.keeps)) room)
    (sym c.give_back.ensures.capacity)
    (land_stored c.self.inside.cells.items c.self.inside.spots.items c.self.inside.free.items
    (vec_capacity c.self.inside.free) c.args.page c.args.place c.self.invariant lt flies c.args.keeps
    (λ keeps. ap (λ (s : StoreView). position (is_for false c.args.page.0) s.cells) c.self.view_is ∙ c.requires.alone keeps)))))
