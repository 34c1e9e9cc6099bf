use Rattle.std.proofs.Common.{ℕ, ◌<◌, is_some, sym, ap, ◌∙◌, subst, Option}
use Rattle.swap_base.specs.Sizes.{pages_of}
use Rattle.swap_queue.specs.Queue.{holds}
use Rattle.swap_queue.specs.BehindView.{BehindView}
use Rattle.swap_queue.proofs.Steps.{newest_some}
use Rattle.swap_queue.proofs.behind.Behind.holds.Goals as goal

pub newest_place-requires : goal.newest_place-requires
newest_place-requires c =
    let lt : c.args.page.0 < pages_of c.self.inside.geometry = subst (λ (b : BehindView). c.args.page.0 < pages_of b.sizes) (sym c.self.view_is) c.requires in
    let in_table : c.args.page.0 < c.self.inside.store.pages = subst (λ n. c.args.page.0 < n) (sym c.self.invariant.2) lt in
    in_table

pub returns : goal.returns
returns c =
    let lt : c.args.page.0 < pages_of c.self.inside.geometry = subst (λ (b : BehindView). c.args.page.0 < pages_of b.sizes) (sym c.self.view_is) c.requires in
    c.is_some.ensures
    ∙ ap (λ (o : Option ℕ). is_some o) (c.newest_place.ensures)
    ∙ newest_some c.self.inside.geometry c.self.inside.store.cells c.self.inside.line.items c.self.invariant.0 c.args.page lt
    ∙ ap (λ (b : BehindView). holds b.queue c.args.page) c.self.view_is
