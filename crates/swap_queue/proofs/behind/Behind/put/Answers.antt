use Rattle.std.proofs.Common.{◌≡◌, ◌<◌, true, not, length, refl, sym, ap, ◌∙◌, subst, arith}
use Rattle.swap_base.specs.Sizes.{pages_of}
use Rattle.swap_queue.specs.Queue.{has_room, put_after}
use Rattle.swap_queue.specs.BehindView.{BehindView}
use Rattle.swap_queue.specs.Cells.{queue_in, line_with}
use Rattle.swap_queue.proofs.Steps.{room_place, line_room, put_step}
use Rattle.swap_queue.proofs.Landings.{putting}
use Rattle.swap_queue.proofs.behind.Behind.put.Goals as goal

pub put-place-requires-clause-page : goal.put-place-requires-clause-page
put-place-requires-clause-page c =
    let lt : c.args.page.0 < pages_of c.self.inside.geometry =
    subst (λ (b : BehindView). c.args.page.0 < pages_of b.sizes) (sym c.self.view_is) c.requires.page in
    let in_table : c.args.page.0 < c.self.inside.store.pages = subst (λ n. c.args.page.0 < n) (sym c.self.invariant.2) lt in
    in_table

pub put-place-requires-clause-room : goal.put-place-requires-clause-room
put-place-requires-clause-room c =
    let lt : c.args.page.0 < pages_of c.self.inside.geometry =
    subst (λ (b : BehindView). c.args.page.0 < pages_of b.sizes) (sym c.self.view_is) c.requires.page in
    let room : has_room (queue_in c.self.inside.geometry c.self.inside.store.cells c.self.inside.line.items) c.args.page ≡ true =
    subst (λ (b : BehindView). has_room b.queue c.args.page ≡ true) (sym c.self.view_is) c.requires.room in
    room_place c.self.inside.geometry c.self.inside.store.cells c.self.inside.line.items c.self.invariant.0 c.args.page lt room

pub put-place-requires-clause-sized : goal.put-place-requires-clause-sized
put-place-requires-clause-sized c =
    let fills : length c.args.bytes.now ≡ c.self.inside.geometry.page_bytes =
    c.requires.bytes ∙ ap (λ (b : BehindView). b.sizes.page_bytes) (sym c.self.view_is) in
    λ i lt. c.self.invariant.0.sized i lt ∙ sym fills

pub join-requires : goal.join-requires
join-requires c =
    λ joins.
    let at =
    putting c.self.inside.geometry c.self.inside.store c.self.inside.line.items _ c.args.self.now c.args.page c.self.invariant c.self.view_is
    c.args.bytes.now c.holds-waits.result c.requires.page c.requires.bytes c.requires.room c.holds-waits.ensures in
    let moved =
    put_step c.self.inside.geometry c.self.inside.store.cells c.put-place.new.self.cells c.self.inside.line.items
    (line_with c.self.inside.line.items c.args.page (not c.holds-waits.result)) c.args.page c.args.entry c.args.bytes.now c.put-place.result
    (not c.holds-waits.result) c.self.invariant.0 at.low at.fills at.room c.put-place.ensures.place c.put-place.ensures.cells at.waits refl in
    let room_left : length c.self.inside.line.items < c.self.inside.geometry.queue =
    line_room c.self.inside.geometry c.put-place.new.self.cells c.self.inside.line.items c.args.page (not c.holds-waits.result)
    (put_after (queue_in c.self.inside.geometry c.self.inside.store.cells c.self.inside.line.items) c.args.page
    (record { entry = c.args.entry; bytes = c.args.bytes.now }))
    moved joins in
    omega (arith, room_left, c.self.invariant.1, c.self.inside.line.ok)

pub invariant_of-self : goal.invariant_of-self
invariant_of-self c =
    let at =
    putting c.self.inside.geometry c.self.inside.store c.self.inside.line.items _ c.args.self.now c.args.page c.self.invariant c.self.view_is
    c.args.bytes.now c.holds-waits.result c.requires.page c.requires.bytes c.requires.room c.holds-waits.ensures in
    let moved =
    put_step c.self.inside.geometry c.self.inside.store.cells c.put-place.new.self.cells c.self.inside.line.items c.join.new.line.items c.args.page
    c.args.entry c.args.bytes.now c.put-place.result
    (not c.holds-waits.result) c.self.invariant.0 at.low at.fills at.room c.put-place.ensures.place c.put-place.ensures.cells at.waits c.join.ensures.items in
    (moved.fits, omega (arith, c.self.invariant.1, c.join.ensures.capacity), c.put-place.ensures.pages ∙ c.self.invariant.2)

pub returns-clause-queue : goal.returns-clause-queue
returns-clause-queue c =
    let at =
    putting c.self.inside.geometry c.self.inside.store c.self.inside.line.items _ c.args.self.now c.args.page c.self.invariant c.self.view_is
    c.args.bytes.now c.holds-waits.result c.requires.page c.requires.bytes c.requires.room c.holds-waits.ensures in
    let moved =
    put_step c.self.inside.geometry c.self.inside.store.cells c.put-place.new.self.cells c.self.inside.line.items c.join.new.line.items c.args.page
    c.args.entry c.args.bytes.now c.put-place.result
    (not c.holds-waits.result) c.self.invariant.0 at.low at.fills at.room c.put-place.ensures.place c.put-place.ensures.cells at.waits c.join.ensures.items in
    moved.is ∙ ap (λ (b : BehindView). put_after b.queue c.args.page (record { entry = c.args.entry; bytes = c.args.bytes.now })) c.self.view_is
