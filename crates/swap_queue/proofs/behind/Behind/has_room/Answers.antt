use Rattle.std.proofs.Common.{◌≡◌, ℕ, ◌<◌, false, sym, ap, ◌∙◌, subst, is_some, Option, position}
use Rattle.swap_base.specs.Sizes.{pages_of}
use Rattle.swap_queue.specs.Queue.{has_room}
use Rattle.swap_queue.specs.BehindView.{BehindView}
use Rattle.swap_queue.specs.Cells.{is_for}
use Rattle.swap_queue.proofs.Steps.{has_room_next, has_room_else}
use Rattle.swap_queue.proofs.behind.Behind.has_room.Goals as goal

pub find-requires : goal.find-requires
find-requires c =
    let lt : c.args.page.0 < pages_of c.self.inside.geometry = subst (λ (b : BehindView). c.args.page.0 < pages_of b.sizes) (sym c.self.view_is) c.requires in
    let in_table : c.args.page.0 < c.self.inside.store.pages = subst (λ n. c.args.page.0 < n) (sym c.self.invariant.2) lt in
    in_table

pub returns-then-is_some : goal.returns-then-is_some
returns-then-is_some c =
    let lt : c.args.page.0 < pages_of c.self.inside.geometry = subst (λ (b : BehindView). c.args.page.0 < pages_of b.sizes) (sym c.self.view_is) c.requires in
    let found : is_some (position (is_for false c.args.page.0) c.self.inside.store.cells) ≡ c.is_some.result =
    sym (c.is_some.ensures ∙ ap (λ (o : Option ℕ). is_some o) c.find.ensures) in
    c.if-is_some.true
    ∙ sym
    (has_room_next c.self.inside.geometry c.self.inside.store.cells c.self.inside.line.items c.self.invariant.0 c.args.page lt (found ∙ c.if-is_some.true))
    ∙ ap (λ (b : BehindView). has_room b.queue c.args.page) c.self.view_is

pub returns-else-is_some : goal.returns-else-is_some
returns-else-is_some c =
    let lt : c.args.page.0 < pages_of c.self.inside.geometry = subst (λ (b : BehindView). c.args.page.0 < pages_of b.sizes) (sym c.self.view_is) c.requires in
    let found : is_some (position (is_for false c.args.page.0) c.self.inside.store.cells) ≡ c.is_some.result =
    sym (c.is_some.ensures ∙ ap (λ (o : Option ℕ). is_some o) c.find.ensures) in
    has_room_else c.self.inside.geometry c.self.inside.store.cells c.self.inside.line.items c.self.invariant.0 c.args.page lt c.count_used.result c.queue.result
    (found ∙ c.if-is_some.false) (c.count_used.ensures) c.queue.ensures
    ∙ ap (λ (b : BehindView). has_room b.queue c.args.page) c.self.view_is
