use Rattle.std.proofs.Common.{◌≡◌, ◌<◌, ℕ, length, ap, sym, ◌∙◌, subst, set, position, true, false, Option, Some, arith}
use Rattle.std.specs.Prelude.{vec_capacity}
use Rattle.swap_queue.specs.declared.store.Spot.{Spot}
use Rattle.swap_queue.specs.Cells.{Kept, is_for}
use Rattle.swap_queue.specs.Stored.{StoreView, IsStored, IsPlaceFor, HasRoom, IsSized, spot_in}
use Rattle.swap_queue.proofs.Copies.{cell_at}
use Rattle.swap_queue.proofs.StoredSteps.{cell_read, spot_read, takes_place, put_stored, room_free}
use Rattle.swap_queue.proofs.store.Store.put.Goals as goal

pub take_place-place-requires : goal.take_place-place-requires
take_place-place-requires c =
    λ none.
    let lt : c.args.page.0 < length c.self.inside.spots.items = subst (λ (s : StoreView). c.args.page.0 < s.pages) (sym c.self.view_is) c.requires.page in
    let spot : c.index-spot.result.now ≡ spot_in c.self.inside.cells.items c.args.page.0 =
    spot_read c.self.inside.cells.items c.self.inside.spots.items _ _ c.args.page.0 c.index-spot.result.now c.self.invariant lt c.index-spot.ensures in
    let room : HasRoom c.self.inside.cells.items c.args.page.0 =
    subst (λ (s : StoreView). HasRoom s.cells c.args.page.0) (sym c.self.view_is) c.requires.room in
    let some : 0 < length c.self.inside.free.items =
    room_free c.self.inside.cells.items c.self.inside.spots.items c.self.inside.free.items
    (vec_capacity c.self.inside.free) c.args.page.0 c.index-spot.result.now.next c.self.invariant room (ap (λ (x : Spot). x.next) spot) none in
    omega (arith, some, c.self.inside.free.ok)

pub index_mut-cell-requires : goal.index_mut-cell-requires
index_mut-cell-requires c =
    let lt : c.args.page.0 < length c.self.inside.spots.items = subst (λ (s : StoreView). c.args.page.0 < s.pages) (sym c.self.view_is) c.requires.page in
    let spot : c.index-spot.result.now ≡ spot_in c.self.inside.cells.items c.args.page.0 =
    spot_read c.self.inside.cells.items c.self.inside.spots.items _ _ c.args.page.0 c.index-spot.result.now c.self.invariant lt c.index-spot.ensures in
    let place : IsPlaceFor c.self.inside.cells.items c.args.page.0 c.take_place-place.result =
    takes_place c.self.inside.cells.items c.self.inside.spots.items c.self.inside.free.items
    (vec_capacity c.self.inside.free) c.args.page c.take_place-place.result c.self.invariant lt c.index-spot.result.now.next
    c.take_place-place.new.free.items
    (ap (λ (x : Spot). x.next) spot) c.take_place-place.ensures.taken in
    omega (arith, place.0, c.self.inside.cells.ok)

pub keep-requires : goal.keep-requires
keep-requires c =
    let lt : c.args.page.0 < length c.self.inside.spots.items = subst (λ (s : StoreView). c.args.page.0 < s.pages) (sym c.self.view_is) c.requires.page in
    let spot : c.index-spot.result.now ≡ spot_in c.self.inside.cells.items c.args.page.0 =
    spot_read c.self.inside.cells.items c.self.inside.spots.items _ _ c.args.page.0 c.index-spot.result.now c.self.invariant lt c.index-spot.ensures in
    let place : IsPlaceFor c.self.inside.cells.items c.args.page.0 c.take_place-place.result =
    takes_place c.self.inside.cells.items c.self.inside.spots.items c.self.inside.free.items
    (vec_capacity c.self.inside.free) c.args.page c.take_place-place.result c.self.invariant lt c.index-spot.result.now.next
    c.take_place-place.new.free.items
    (ap (λ (x : Spot). x.next) spot) c.take_place-place.ensures.taken in
    let read : c.index_mut-cell.result.now ≡ cell_at c.self.inside.cells.items c.take_place-place.result =
    cell_read c.self.inside.cells.items c.take_place-place.result c.index_mut-cell.result.now place.0 c.index_mut-cell.ensures.value in
    let sized : IsSized c.self.inside.cells.items (length c.args.bytes.now) =
    subst (λ (s : StoreView). IsSized s.cells (length c.args.bytes.now)) (sym c.self.view_is) c.requires.sized in
    sym (ap (λ (x : Kept). length x.bytes) read ∙ sized c.take_place-place.result place.0)

pub invariant_of-self : goal.invariant_of-self
invariant_of-self c =
    let lt : c.args.page.0 < length c.self.inside.spots.items = subst (λ (s : StoreView). c.args.page.0 < s.pages) (sym c.self.view_is) c.requires.page in
    let spot : c.index-spot.result.now ≡ spot_in c.self.inside.cells.items c.args.page.0 =
    spot_read c.self.inside.cells.items c.self.inside.spots.items _ _ c.args.page.0 c.index-spot.result.now c.self.invariant lt c.index-spot.ensures in
    let next : c.index-spot.result.now.next ≡ position (is_for false c.args.page.0) c.self.inside.cells.items = ap (λ (x : Spot). x.next) spot in
    let place : IsPlaceFor c.self.inside.cells.items c.args.page.0 c.take_place-place.result =
    takes_place c.self.inside.cells.items c.self.inside.spots.items c.self.inside.free.items
    (vec_capacity c.self.inside.free) c.args.page c.take_place-place.result c.self.invariant lt c.index-spot.result.now.next
    c.take_place-place.new.free.items next c.take_place-place.ensures.taken in
    let new : Kept = record { held = Some (record { page = c.args.page; entry = c.args.entry; flying = false }); bytes = c.args.bytes.now } in
    let G : Option ℕ → Spot = λ f. record { flying = f; next = Some c.take_place-place.result } in
    let P : Kept → Spot → ℕ → Type 0 =
    λ x sp room.
    IsStored (set c.self.inside.cells.items c.take_place-place.result x)
    (set c.self.inside.spots.items c.args.page.0 sp) c.take_place-place.new.free.items room in
    subst (λ x. P x (G c.index-spot.result.now.flying) (vec_capacity c.take_place-place.new.free)) (sym c.keep.ensures)
    (subst (λ f. P new (G f) (vec_capacity c.take_place-place.new.free)) (sym (ap (λ (x : Spot). x.flying) spot))
    (subst (λ room. P new (G (position (is_for true c.args.page.0) c.self.inside.cells.items)) room) (sym c.take_place-place.ensures.capacity)
    (put_stored c.self.inside.cells.items c.self.inside.spots.items c.self.inside.free.items
    (vec_capacity c.self.inside.free) c.args.page c.take_place-place.result c.self.invariant lt c.args.entry c.args.bytes.now place
    c.index-spot.result.now.next c.take_place-place.new.free.items next c.take_place-place.ensures.taken)))

pub returns-clause-place : goal.returns-clause-place
returns-clause-place c =
    let lt : c.args.page.0 < length c.self.inside.spots.items = subst (λ (s : StoreView). c.args.page.0 < s.pages) (sym c.self.view_is) c.requires.page in
    let spot : c.index-spot.result.now ≡ spot_in c.self.inside.cells.items c.args.page.0 =
    spot_read c.self.inside.cells.items c.self.inside.spots.items _ _ c.args.page.0 c.index-spot.result.now c.self.invariant lt c.index-spot.ensures in
    subst (λ (s : StoreView). IsPlaceFor s.cells c.args.page.0 c.take_place-place.result) c.self.view_is
    (takes_place c.self.inside.cells.items c.self.inside.spots.items c.self.inside.free.items
    (vec_capacity c.self.inside.free) c.args.page c.take_place-place.result c.self.invariant lt c.index-spot.result.now.next c.take_place-place.new.free.items
    (ap (λ (x : Spot). x.next) spot) c.take_place-place.ensures.taken)
