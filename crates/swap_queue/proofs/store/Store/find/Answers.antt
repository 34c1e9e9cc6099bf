use Rattle.std.proofs.Common.{◌≡◌, ◌<◌, length, ap, sym, ◌∙◌, subst, position}
use Rattle.swap_queue.specs.declared.store.Spot.{Spot}
use Rattle.swap_queue.specs.Cells.{is_for}
use Rattle.swap_queue.specs.Stored.{StoreView, spot_in}
use Rattle.swap_queue.proofs.StoredSteps.{spot_read}
use Rattle.swap_queue.proofs.store.Store.find.Goals as goal

pub returns-then-flying : goal.returns-then-flying
returns-then-flying c =
    let lt : c.args.page.0 < length c.self.inside.spots.items = subst (λ (s : StoreView). c.args.page.0 < s.pages) (sym c.self.view_is) c.requires in
    let spot : c.index-spot.result.now ≡ spot_in c.self.inside.cells.items c.args.page.0 =
    spot_read c.self.inside.cells.items c.self.inside.spots.items _ _ c.args.page.0 c.index-spot.result.now c.self.invariant lt c.index-spot.ensures in
    ap (λ (x : Spot). x.flying) spot ∙ ap (λ k. position (is_for k c.args.page.0) c.self.inside.cells.items) (sym c.if-flying.true)
    ∙ ap (λ (s : StoreView). position (is_for c.args.flying c.args.page.0) s.cells) c.self.view_is

pub returns-else-flying : goal.returns-else-flying
returns-else-flying c =
    let lt : c.args.page.0 < length c.self.inside.spots.items = subst (λ (s : StoreView). c.args.page.0 < s.pages) (sym c.self.view_is) c.requires in
    let spot : c.index-spot.result.now ≡ spot_in c.self.inside.cells.items c.args.page.0 =
    spot_read c.self.inside.cells.items c.self.inside.spots.items _ _ c.args.page.0 c.index-spot.result.now c.self.invariant lt c.index-spot.ensures in
    ap (λ (x : Spot). x.next) spot ∙ ap (λ k. position (is_for k c.args.page.0) c.self.inside.cells.items) (sym c.if-flying.false)
    ∙ ap (λ (s : StoreView). position (is_for c.args.flying c.args.page.0) s.cells) c.self.view_is
