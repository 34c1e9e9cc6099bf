use Rattle.std.proofs.Common.{◌≡◌, ℕ, ◌<◌, length, refl, sym, ap, ◌∙◌, arith, is_some, Option, Some, option_map}
use Rattle.std.proofs.lemmas.Bool.{false≢true}
use Rattle.swap_queue.specs.Queue.{Copy, flying, done_after}
use Rattle.swap_queue.specs.BehindView.{BehindView}
use Rattle.swap_queue.specs.Cells.{queue_in, line_with}
use Rattle.swap_queue.proofs.Steps.{flying_found, flying_entry, entry_told, line_room, done_step}
use Rattle.swap_queue.proofs.Landings.{flies_in, flying_low, in_table, landing}
use Rattle.swap_queue.proofs.behind.Behind.done.Goals as goal

pub find-requires : goal.find-requires
find-requires c =
    let inside = in_table c.self.inside.geometry c.self.inside.store c.self.inside.line.items _ c.args.self.now c.args.page c.self.invariant c.self.view_is in
    inside
    (flying_low c.self.inside.geometry c.self.inside.store c.self.inside.line.items _ c.args.self.now c.args.page c.self.invariant c.self.view_is c.requires)

pub unwrap-place-requires : goal.unwrap-place-requires
unwrap-place-requires c =
    ap (λ (o : Option ℕ). is_some o) c.find-2.ensures
    ∙ flying_found c.self.inside.geometry c.self.inside.store.cells c.self.inside.line.items c.self.invariant.0 c.args.page
    (flies_in c.self.inside.geometry c.self.inside.store c.self.inside.line.items _ c.args.self.now c.args.page c.self.invariant c.self.view_is c.requires)

pub land-entry-requires-clause-flies : goal.land-entry-requires-clause-flies
land-entry-requires-clause-flies c = sym c.find-2.ensures ∙ c.unwrap-place.ensures

pub land-entry-requires-clause-alone : goal.land-entry-requires-clause-alone
land-entry-requires-clause-alone c = λ e. absurd (false≢true e)

pub join-requires : goal.join-requires
join-requires c =
    λ joins.
    let at =
    landing c.self.inside.geometry c.self.inside.store c.self.inside.line.items _ c.args.self.now c.args.page c.self.invariant c.self.view_is
    c.unwrap-place.result c.is_some-waits.result _ _ c.requires c.find-2.ensures c.unwrap-place.ensures c.find.ensures c.is_some-waits.ensures in
    let moved =
    done_step c.self.inside.geometry c.self.inside.store.cells c.land-entry.new.self.cells c.self.inside.line.items
    (line_with c.self.inside.line.items c.args.page c.is_some-waits.result) c.args.page c.unwrap-place.result c.is_some-waits.result c.self.invariant.0 at.flies
    at.found c.land-entry.ensures.cells at.next refl in
    let room_left : length c.self.inside.line.items < c.self.inside.geometry.queue =
    line_room c.self.inside.geometry c.land-entry.new.self.cells c.self.inside.line.items c.args.page c.is_some-waits.result
    (done_after (queue_in c.self.inside.geometry c.self.inside.store.cells c.self.inside.line.items) c.args.page) moved joins in
    omega (arith, room_left, c.self.invariant.1, c.self.inside.line.ok)

pub invariant_of-self : goal.invariant_of-self
invariant_of-self c =
    let at =
    landing c.self.inside.geometry c.self.inside.store c.self.inside.line.items _ c.args.self.now c.args.page c.self.invariant c.self.view_is
    c.unwrap-place.result c.is_some-waits.result _ _ c.requires c.find-2.ensures c.unwrap-place.ensures c.find.ensures c.is_some-waits.ensures in
    let moved =
    done_step c.self.inside.geometry c.self.inside.store.cells c.land-entry.new.self.cells c.self.inside.line.items c.join.new.line.items c.args.page
    c.unwrap-place.result c.is_some-waits.result c.self.invariant.0 at.flies at.found c.land-entry.ensures.cells at.next c.join.ensures.items in
    (moved.fits, omega (arith, c.self.invariant.1, c.join.ensures.capacity), c.land-entry.ensures.pages ∙ c.self.invariant.2)

pub returns-clause-queue : goal.returns-clause-queue
returns-clause-queue c =
    let at =
    landing c.self.inside.geometry c.self.inside.store c.self.inside.line.items _ c.args.self.now c.args.page c.self.invariant c.self.view_is
    c.unwrap-place.result c.is_some-waits.result _ _ c.requires c.find-2.ensures c.unwrap-place.ensures c.find.ensures c.is_some-waits.ensures in
    let moved =
    done_step c.self.inside.geometry c.self.inside.store.cells c.land-entry.new.self.cells c.self.inside.line.items c.join.new.line.items c.args.page
    c.unwrap-place.result c.is_some-waits.result c.self.invariant.0 at.flies at.found c.land-entry.ensures.cells at.next c.join.ensures.items in
    moved.is ∙ ap (λ (b : BehindView). done_after b.queue c.args.page) c.self.view_is

pub returns-clause-entry : goal.returns-clause-entry
returns-clause-entry c =
    let at =
    landing c.self.inside.geometry c.self.inside.store c.self.inside.line.items _ c.args.self.now c.args.page c.self.invariant c.self.view_is
    c.unwrap-place.result c.is_some-waits.result _ _ c.requires c.find-2.ensures c.unwrap-place.ensures c.find.ensures c.is_some-waits.ensures in
    let entry : option_map (λ (copy : Copy). copy.entry) (flying c.args.self.now.queue c.args.page) ≡ Some c.land-entry.result =
    ap (λ (b : BehindView). option_map (λ (copy : Copy). copy.entry) (flying b.queue c.args.page)) (sym c.self.view_is)
    ∙ flying_entry c.self.inside.geometry c.self.inside.store.cells c.self.inside.line.items c.self.invariant.0 c.args.page c.unwrap-place.result
    c.land-entry.result at.flies at.found c.land-entry.ensures.entry in
    entry_told (flying c.args.self.now.queue c.args.page) c.land-entry.result entry
