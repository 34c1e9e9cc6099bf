use Rattle.std.proofs.Common.{◌≡◌, ℕ, ◌<◌, Bool, true, false, not, length, refl, sym, ap, ◌∙◌, arith, is_some, Option, None, Some, option_map, position}
use Rattle.std.proofs.lemmas.Bool.{false≢true}
use Rattle.swap_queue.specs.Queue.{Copy, flying, next_copy, failed_after}
use Rattle.swap_queue.specs.BehindView.{BehindView}
use Rattle.swap_queue.specs.Cells.{is_for, queue_in, line_with}
use Rattle.swap_queue.proofs.Steps.{flying_found, flying_entry, failed_told, line_room, failed_step}
use Rattle.swap_queue.proofs.Landings.{flies_in, flying_low, in_table, landing}
use Rattle.swap_queue.proofs.behind.Behind.failed.Goals.{then-newer, else-newer}
use Rattle.swap_queue.proofs.behind.Behind.failed.Goals as goal

pub find-requires : goal.find-requires
find-requires c =
    let inside = in_table c.self.inside.geometry c.self.inside.store c.self.inside.line.items _ c.args.self.now c.args.page c.self.invariant c.self.view_is in
    inside
    (flying_low c.self.inside.geometry c.self.inside.store c.self.inside.line.items _ c.args.self.now c.args.page c.self.invariant c.self.view_is c.requires)

pub unwrap-place-requires : goal.unwrap-place-requires
unwrap-place-requires c =
    ap (λ (o : Option ℕ). is_some o) c.find-2.ensures
    ∙ flying_found c.self.inside.geometry c.self.inside.store.cells c.self.inside.line.items c.self.invariant.0 c.args.page
    (flies_in c.self.inside.geometry c.self.inside.store c.self.inside.line.items _ c.args.self.now c.args.page c.self.invariant c.self.view_is c.requires)

pub land-entry-requires-clause-flies : goal.land-entry-requires-clause-flies
land-entry-requires-clause-flies c = sym c.find-2.ensures ∙ c.unwrap-place.ensures

not_found : (o : Option ℕ) (b : Bool) → b ≡ is_some o → not b ≡ true → o ≡ None
not_found None b e lone = refl
not_found (Some n) b e lone = absurd (false≢true (sym (ap not e) ∙ lone))

pub land-entry-requires-clause-alone : goal.land-entry-requires-clause-alone
land-entry-requires-clause-alone c =
    λ lone.
    not_found (position (is_for false c.args.page.0) c.self.inside.store.cells) c.is_some-newer.result
    (c.is_some-newer.ensures ∙ ap (λ (o : Option ℕ). is_some o) c.find.ensures) lone

pub join-requires : goal.join-requires
join-requires c =
    λ joins.
    let at =
    landing c.self.inside.geometry c.self.inside.store c.self.inside.line.items _ c.args.self.now c.args.page c.self.invariant c.self.view_is
    c.unwrap-place.result c.is_some-newer.result _ _ c.requires c.find-2.ensures c.unwrap-place.ensures c.find.ensures c.is_some-newer.ensures in
    let moved =
    failed_step c.self.inside.geometry c.self.inside.store.cells c.land-entry.new.self.cells c.self.inside.line.items
    (line_with c.self.inside.line.items c.args.page true) c.args.page c.unwrap-place.result c.is_some-newer.result c.self.invariant.0 at.flies at.found
    c.land-entry.ensures.cells at.next refl in
    let room_left : length c.self.inside.line.items < c.self.inside.geometry.queue =
    line_room c.self.inside.geometry c.land-entry.new.self.cells c.self.inside.line.items c.args.page true
    (failed_after (queue_in c.self.inside.geometry c.self.inside.store.cells c.self.inside.line.items) c.args.page) moved joins in
    omega (arith, room_left, c.self.invariant.1, c.self.inside.line.ok)

pub invariant_of-self : goal.invariant_of-self
invariant_of-self c =
    let at =
    landing c.self.inside.geometry c.self.inside.store c.self.inside.line.items _ c.args.self.now c.args.page c.self.invariant c.self.view_is
    c.unwrap-place.result c.is_some-newer.result _ _ c.requires c.find-2.ensures c.unwrap-place.ensures c.find.ensures c.is_some-newer.ensures in
    let moved =
    failed_step c.self.inside.geometry c.self.inside.store.cells c.land-entry.new.self.cells c.self.inside.line.items c.join.new.line.items c.args.page
    c.unwrap-place.result c.is_some-newer.result c.self.invariant.0 at.flies at.found c.land-entry.ensures.cells at.next c.join.ensures.items in
    (moved.fits, omega (arith, c.self.invariant.1, c.join.ensures.capacity), c.land-entry.ensures.pages ∙ c.self.invariant.2)

pub returns-clause-queue : goal.returns-clause-queue
returns-clause-queue c =
    let at =
    landing c.self.inside.geometry c.self.inside.store c.self.inside.line.items _ c.args.self.now c.args.page c.self.invariant c.self.view_is
    c.unwrap-place.result c.is_some-newer.result _ _ c.requires c.find-2.ensures c.unwrap-place.ensures c.find.ensures c.is_some-newer.ensures in
    let moved =
    failed_step c.self.inside.geometry c.self.inside.store.cells c.land-entry.new.self.cells c.self.inside.line.items c.join.new.line.items c.args.page
    c.unwrap-place.result c.is_some-newer.result c.self.invariant.0 at.flies at.found c.land-entry.ensures.cells at.next c.join.ensures.items in
    moved.is ∙ ap (λ (b : BehindView). failed_after b.queue c.args.page) c.self.view_is

pub returns-clause-answer : goal.returns-clause-answer
returns-clause-answer c =
    let at =
    landing c.self.inside.geometry c.self.inside.store c.self.inside.line.items _ c.args.self.now c.args.page c.self.invariant c.self.view_is
    c.unwrap-place.result c.is_some-newer.result _ _ c.requires c.find-2.ensures c.unwrap-place.ensures c.find.ensures c.is_some-newer.ensures in
    let entry : option_map (λ (copy : Copy). copy.entry) (flying c.args.self.now.queue c.args.page) ≡ Some c.land-entry.result =
    ap (λ (b : BehindView). option_map (λ (copy : Copy). copy.entry) (flying b.queue c.args.page)) (sym c.self.view_is)
    ∙ flying_entry c.self.inside.geometry c.self.inside.store.cells c.self.inside.line.items c.self.invariant.0 c.args.page c.unwrap-place.result
    c.land-entry.result at.flies at.found c.land-entry.ensures.entry in
    failed_told (flying c.args.self.now.queue c.args.page)
    (next_copy c.args.self.now.queue c.args.page) c.land-entry.result c.is_some-newer.result c.if-newer.result entry
    (at.next ∙ ap (λ (b : BehindView). is_some (next_copy b.queue c.args.page)) c.self.view_is)
    (λ yes_. elim c.if-newer.branch [ then-newer w ↦ w.result-is | else-newer w ↦ absurd (false≢true (sym w.if-newer.false ∙ yes_)) ])
    (λ no_. elim c.if-newer.branch [ then-newer w ↦ absurd (false≢true (sym no_ ∙ w.if-newer.true)) | else-newer w ↦ w.result-is ])
