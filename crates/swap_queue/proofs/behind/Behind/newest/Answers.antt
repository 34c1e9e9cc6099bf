use Rattle.std.proofs.Common.{◌≡◌, ◌<◌, sym, ap, ◌∙◌, subst, Option, None, option_map}
use Rattle.swap_base.specs.Sizes.{pages_of}
use Rattle.swap_queue.specs.Queue.{Copy, newest}
use Rattle.swap_queue.specs.BehindView.{BehindView, bytes_or}
use Rattle.swap_queue.specs.Cells.{queue_in}
use Rattle.swap_queue.proofs.Copies.{cell_at}
use Rattle.swap_queue.proofs.Steps.{newest_found, newest_lost, copy_entry, copy_bytes}
use Rattle.swap_queue.proofs.behind.Behind.newest.Goals as goal

pub newest_place-requires : goal.newest_place-requires
newest_place-requires c =
    let lt : c.args.page.0 < pages_of c.self.inside.geometry =
    subst (λ (b : BehindView). c.args.page.0 < pages_of b.sizes) (sym c.self.view_is) c.requires.page in
    let in_table : c.args.page.0 < c.self.inside.store.pages = subst (λ n. c.args.page.0 < n) (sym c.self.invariant.2) lt in
    in_table

pub returns-in_err-place-clause-entry : goal.returns-in_err-place-clause-entry
returns-in_err-place-clause-entry c =
    let lt : c.args.page.0 < pages_of c.self.inside.geometry =
    subst (λ (b : BehindView). c.args.page.0 < pages_of b.sizes) (sym c.self.view_is) c.requires.page in
    let lost : newest (queue_in c.self.inside.geometry c.self.inside.store.cells c.self.inside.line.items) c.args.page ≡ None =
    newest_lost c.self.inside.geometry c.self.inside.store.cells c.self.inside.line.items c.self.invariant.0 c.args.page lt
    (sym c.newest_place.ensures ∙ c.in_err-place.was) in
    c.from_residual.ensures
    ∙ sym
    (ap (λ (o : Option Copy). option_map (λ (copy : Copy). copy.entry) o) (ap (λ (b : BehindView). newest b.queue c.args.page) (sym c.self.view_is) ∙ lost))

pub returns-in_err-place-clause-bytes : goal.returns-in_err-place-clause-bytes
returns-in_err-place-clause-bytes c =
    let lt : c.args.page.0 < pages_of c.self.inside.geometry =
    subst (λ (b : BehindView). c.args.page.0 < pages_of b.sizes) (sym c.self.view_is) c.requires.page in
    let lost : newest (queue_in c.self.inside.geometry c.self.inside.store.cells c.self.inside.line.items) c.args.page ≡ None =
    newest_lost c.self.inside.geometry c.self.inside.store.cells c.self.inside.line.items c.self.invariant.0 c.args.page lt
    (sym c.newest_place.ensures ∙ c.in_err-place.was) in
    sym (ap (λ (o : Option Copy). bytes_or o c.args.buf.now) (ap (λ (b : BehindView). newest b.queue c.args.page) (sym c.self.view_is) ∙ lost))

pub give-requires-clause-within : goal.give-requires-clause-within
give-requires-clause-within c =
    let lt : c.args.page.0 < pages_of c.self.inside.geometry =
    subst (λ (b : BehindView). c.args.page.0 < pages_of b.sizes) (sym c.self.view_is) c.requires.page in
    let found =
    newest_found c.self.inside.geometry c.self.inside.store.cells c.self.inside.line.items c.self.invariant.0 c.args.page lt c.in_ok-place.place
    (sym c.newest_place.ensures ∙ c.in_ok-place.was) in
    found.0

pub give-requires-clause-used : goal.give-requires-clause-used
give-requires-clause-used c =
    let lt : c.args.page.0 < pages_of c.self.inside.geometry =
    subst (λ (b : BehindView). c.args.page.0 < pages_of b.sizes) (sym c.self.view_is) c.requires.page in
    let found =
    newest_found c.self.inside.geometry c.self.inside.store.cells c.self.inside.line.items c.self.invariant.0 c.args.page lt c.in_ok-place.place
    (sym c.newest_place.ensures ∙ c.in_ok-place.was) in
    found.1

pub give-requires-clause-length : goal.give-requires-clause-length
give-requires-clause-length c =
    let lt : c.args.page.0 < pages_of c.self.inside.geometry =
    subst (λ (b : BehindView). c.args.page.0 < pages_of b.sizes) (sym c.self.view_is) c.requires.page in
    let found =
    newest_found c.self.inside.geometry c.self.inside.store.cells c.self.inside.line.items c.self.invariant.0 c.args.page lt c.in_ok-place.place
    (sym c.newest_place.ensures ∙ c.in_ok-place.was) in
    c.requires.buf ∙ ap (λ (b : BehindView). b.sizes.page_bytes) (sym c.self.view_is) ∙ sym (c.self.invariant.0.sized c.in_ok-place.place found.0)

pub returns-clause-entry : goal.returns-clause-entry
returns-clause-entry c =
    let lt : c.args.page.0 < pages_of c.self.inside.geometry =
    subst (λ (b : BehindView). c.args.page.0 < pages_of b.sizes) (sym c.self.view_is) c.requires.page in
    let found =
    newest_found c.self.inside.geometry c.self.inside.store.cells c.self.inside.line.items c.self.invariant.0 c.args.page lt c.in_ok-place.place
    (sym c.newest_place.ensures ∙ c.in_ok-place.was) in
    c.give.ensures.entry
    ∙ sym (copy_entry (cell_at c.self.inside.store.cells c.in_ok-place.place).bytes (cell_at c.self.inside.store.cells c.in_ok-place.place).held)
    ∙ sym
    (ap (λ (o : Option Copy). option_map (λ (copy : Copy). copy.entry) o) (ap (λ (b : BehindView). newest b.queue c.args.page) (sym c.self.view_is) ∙ found.2))

pub returns-clause-bytes : goal.returns-clause-bytes
returns-clause-bytes c =
    let lt : c.args.page.0 < pages_of c.self.inside.geometry =
    subst (λ (b : BehindView). c.args.page.0 < pages_of b.sizes) (sym c.self.view_is) c.requires.page in
    let found =
    newest_found c.self.inside.geometry c.self.inside.store.cells c.self.inside.line.items c.self.invariant.0 c.args.page lt c.in_ok-place.place
    (sym c.newest_place.ensures ∙ c.in_ok-place.was) in
    c.give.ensures.bytes
    ∙ sym
    (copy_bytes (cell_at c.self.inside.store.cells c.in_ok-place.place).bytes c.args.buf.now
    (cell_at c.self.inside.store.cells c.in_ok-place.place).held found.1)
    ∙ sym (ap (λ (o : Option Copy). bytes_or o c.args.buf.now) (ap (λ (b : BehindView). newest b.queue c.args.page) (sym c.self.view_is) ∙ found.2))
