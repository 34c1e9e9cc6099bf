use Rattle.std.proofs.Common.{◌≡◌, ◌<◌, length, ap, sym, ◌∙◌, subst, position, true, false}
use Rattle.swap_queue.specs.declared.store.Spot.{Spot}
use Rattle.swap_queue.specs.Queue.{first_of}
use Rattle.swap_queue.specs.Cells.{is_for}
use Rattle.swap_queue.specs.Stored.{StoreView, spot_in}
use Rattle.swap_queue.proofs.StoredSteps.{spot_read}
use Rattle.swap_queue.proofs.store.Store.newest_place.Goals as goal

pub returns-in-Some : goal.returns-in-Some
returns-in-Some c =
    let lt : c.args.page.0 < length c.self.inside.spots.items = subst (λ (s : StoreView). c.args.page.0 < s.pages) (sym c.self.view_is) c.requires in
    let spot : c.index-spot.result.now ≡ spot_in c.self.inside.cells.items c.args.page.0 =
    spot_read c.self.inside.cells.items c.self.inside.spots.items _ _ c.args.page.0 c.index-spot.result.now c.self.invariant lt c.index-spot.ensures in
    sym (ap (λ o. first_of o c.index-spot.result.now.flying) c.in-Some.is) ∙ ap (λ (x : Spot). first_of x.next x.flying) spot
    ∙ ap (λ (s : StoreView). first_of (position (is_for false c.args.page.0) s.cells) (position (is_for true c.args.page.0) s.cells)) c.self.view_is

pub returns-in-None : goal.returns-in-None
returns-in-None c =
    let lt : c.args.page.0 < length c.self.inside.spots.items = subst (λ (s : StoreView). c.args.page.0 < s.pages) (sym c.self.view_is) c.requires in
    let spot : c.index-spot.result.now ≡ spot_in c.self.inside.cells.items c.args.page.0 =
    spot_read c.self.inside.cells.items c.self.inside.spots.items _ _ c.args.page.0 c.index-spot.result.now c.self.invariant lt c.index-spot.ensures in
    sym (ap (λ o. first_of o c.index-spot.result.now.flying) c.in-None.is) ∙ ap (λ (x : Spot). first_of x.next x.flying) spot
    ∙ ap (λ (s : StoreView). first_of (position (is_for false c.args.page.0) s.cells) (position (is_for true c.args.page.0) s.cells)) c.self.view_is
