use Rattle.std.proofs.Common.{◌≡◌, ◌<◌, ℕ, false, ◌∷◌, ◌++◌, sym, ap, ◌∙◌, subst, arith, is_some, Option, Some, position, option_to_list}
use Rattle.std.proofs.lemmas.List.Quantifiers.{position-Some}
use Rattle.swap_base.specs.declared.Page.{Page}
use Rattle.swap_queue.specs.Queue.{Queue, flying, front, start}
use Rattle.swap_queue.specs.BehindView.{BehindView, started_answer, started_bytes}
use Rattle.swap_queue.specs.Cells.{free_cell, is_for}
use Rattle.swap_queue.proofs.Copies.{cell_at, used_for}
use Rattle.swap_queue.proofs.Steps.{front_flies, front_place, front_range, front_alone, front_found, started_entry, started_copy, start_step}
use Rattle.swap_queue.proofs.behind.Behind.start.Goals as goal

pub find-requires : goal.find-requires
find-requires c =
    let first : c.self.inside.line.items ≡ c.in_ok-page.page ∷ c.pop_front.new.self.items =
    c.pop_front.ensures.items ∙ ap (λ (o : Option Page). option_to_list o ++ c.pop_front.new.self.items) c.in_ok-page.was in
    subst (λ n. c.in_ok-page.page.0 < n) (sym c.self.invariant.2)
    (front_range c.self.inside.geometry c.self.inside.store.cells c.self.inside.line.items c.pop_front.new.self.items c.self.invariant.0 c.in_ok-page.page
    first)

pub unwrap-place-requires : goal.unwrap-place-requires
unwrap-place-requires c =
    let first : c.self.inside.line.items ≡ c.in_ok-page.page ∷ c.pop_front.new.self.items =
    c.pop_front.ensures.items ∙ ap (λ (o : Option Page). option_to_list o ++ c.pop_front.new.self.items) c.in_ok-page.was in
    ap (λ (o : Option ℕ). is_some o) c.find.ensures
    ∙ front_place c.self.inside.geometry c.self.inside.store.cells c.self.inside.line.items c.pop_front.new.self.items c.self.invariant.0 c.in_ok-page.page
    first

pub give-entry-requires-clause-within : goal.give-entry-requires-clause-within
give-entry-requires-clause-within c =
    let found : position (is_for false c.in_ok-page.page.0) c.self.inside.store.cells ≡ Some c.unwrap-place.result =
    sym c.find.ensures ∙ c.unwrap-place.ensures in
    let at = position-Some (is_for false c.in_ok-page.page.0) c.self.inside.store.cells c.unwrap-place.result free_cell found in
    at.0

pub give-entry-requires-clause-used : goal.give-entry-requires-clause-used
give-entry-requires-clause-used c =
    let found : position (is_for false c.in_ok-page.page.0) c.self.inside.store.cells ≡ Some c.unwrap-place.result =
    sym c.find.ensures ∙ c.unwrap-place.ensures in
    let at = position-Some (is_for false c.in_ok-page.page.0) c.self.inside.store.cells c.unwrap-place.result free_cell found in
    used_for false c.in_ok-page.page.0 (cell_at c.self.inside.store.cells c.unwrap-place.result).held at.1

pub give-entry-requires-clause-length : goal.give-entry-requires-clause-length
give-entry-requires-clause-length c =
    let found : position (is_for false c.in_ok-page.page.0) c.self.inside.store.cells ≡ Some c.unwrap-place.result =
    sym c.find.ensures ∙ c.unwrap-place.ensures in
    let at = position-Some (is_for false c.in_ok-page.page.0) c.self.inside.store.cells c.unwrap-place.result free_cell found in
    c.requires ∙ ap (λ (b : BehindView). b.sizes.page_bytes) (sym c.self.view_is) ∙ sym (c.self.invariant.0.sized c.unwrap-place.result at.0)

pub launch-requires-clause-page : goal.launch-requires-clause-page
launch-requires-clause-page c =
    let first : c.self.inside.line.items ≡ c.in_ok-page.page ∷ c.pop_front.new.self.items =
    c.pop_front.ensures.items ∙ ap (λ (o : Option Page). option_to_list o ++ c.pop_front.new.self.items) c.in_ok-page.was in
    subst (λ n. c.in_ok-page.page.0 < n) (sym c.self.invariant.2)
    (front_range c.self.inside.geometry c.self.inside.store.cells c.self.inside.line.items c.pop_front.new.self.items c.self.invariant.0 c.in_ok-page.page
    first)

pub launch-requires-clause-waits : goal.launch-requires-clause-waits
launch-requires-clause-waits c =
    let found : position (is_for false c.in_ok-page.page.0) c.self.inside.store.cells ≡ Some c.unwrap-place.result =
    sym c.find.ensures ∙ c.unwrap-place.ensures in
    found

pub launch-requires-clause-alone : goal.launch-requires-clause-alone
launch-requires-clause-alone c =
    let first : c.self.inside.line.items ≡ c.in_ok-page.page ∷ c.pop_front.new.self.items =
    c.pop_front.ensures.items ∙ ap (λ (o : Option Page). option_to_list o ++ c.pop_front.new.self.items) c.in_ok-page.was in
    front_alone c.self.inside.geometry c.self.inside.store.cells c.self.inside.line.items c.pop_front.new.self.items c.self.invariant.0 c.in_ok-page.page first

pub invariant_of-self-2 : goal.invariant_of-self-2
invariant_of-self-2 c =
    let first : c.self.inside.line.items ≡ c.in_ok-page.page ∷ c.pop_front.new.self.items =
    c.pop_front.ensures.items ∙ ap (λ (o : Option Page). option_to_list o ++ c.pop_front.new.self.items) c.in_ok-page.was in
    let found : position (is_for false c.in_ok-page.page.0) c.self.inside.store.cells ≡ Some c.unwrap-place.result =
    sym c.find.ensures ∙ c.unwrap-place.ensures in
    let moved =
    start_step c.self.inside.geometry c.self.inside.store.cells c.launch.new.self.cells c.self.inside.line.items c.pop_front.new.self.items c.in_ok-page.page
    c.unwrap-place.result c.self.invariant.0 first found c.launch.ensures.cells in
    (moved.fits, omega (arith, c.self.invariant.1, c.pop_front.ensures.capacity), c.launch.ensures.pages ∙ c.self.invariant.2)

pub returns-clause-front : goal.returns-clause-front
returns-clause-front c =
    let first : c.self.inside.line.items ≡ c.in_ok-page.page ∷ c.pop_front.new.self.items =
    c.pop_front.ensures.items ∙ ap (λ (o : Option Page). option_to_list o ++ c.pop_front.new.self.items) c.in_ok-page.was in
    let found : position (is_for false c.in_ok-page.page.0) c.self.inside.store.cells ≡ Some c.unwrap-place.result =
    sym c.find.ensures ∙ c.unwrap-place.ensures in
    let front_is =
    ap (λ (b : BehindView). front b.queue) (sym c.self.view_is)
    ∙ front_found c.self.inside.geometry c.self.inside.store.cells c.self.inside.line.items c.pop_front.new.self.items c.self.invariant.0 c.in_ok-page.page
    c.unwrap-place.result first found in
    sym
    (ap started_answer front_is
    ∙ started_entry c.in_ok-page.page (cell_at c.self.inside.store.cells c.unwrap-place.result).bytes
    (cell_at c.self.inside.store.cells c.unwrap-place.result).held c.give-entry.result c.give-entry.ensures.entry)

pub returns-clause-bytes : goal.returns-clause-bytes
returns-clause-bytes c =
    let first : c.self.inside.line.items ≡ c.in_ok-page.page ∷ c.pop_front.new.self.items =
    c.pop_front.ensures.items ∙ ap (λ (o : Option Page). option_to_list o ++ c.pop_front.new.self.items) c.in_ok-page.was in
    let found : position (is_for false c.in_ok-page.page.0) c.self.inside.store.cells ≡ Some c.unwrap-place.result =
    sym c.find.ensures ∙ c.unwrap-place.ensures in
    let at = position-Some (is_for false c.in_ok-page.page.0) c.self.inside.store.cells c.unwrap-place.result free_cell found in
    let front_is =
    ap (λ (b : BehindView). front b.queue) (sym c.self.view_is)
    ∙ front_found c.self.inside.geometry c.self.inside.store.cells c.self.inside.line.items c.pop_front.new.self.items c.self.invariant.0 c.in_ok-page.page
    c.unwrap-place.result first found in
    c.give-entry.ensures.bytes
    ∙ sym
    (ap (λ f. started_bytes f c.args.buf.now) front_is
    ∙ started_copy c.in_ok-page.page (cell_at c.self.inside.store.cells c.unwrap-place.result).bytes c.args.buf.now
    (cell_at c.self.inside.store.cells c.unwrap-place.result).held
    (used_for false c.in_ok-page.page.0 (cell_at c.self.inside.store.cells c.unwrap-place.result).held at.1))

pub returns-clause-queue : goal.returns-clause-queue
returns-clause-queue c =
    let first : c.self.inside.line.items ≡ c.in_ok-page.page ∷ c.pop_front.new.self.items =
    c.pop_front.ensures.items ∙ ap (λ (o : Option Page). option_to_list o ++ c.pop_front.new.self.items) c.in_ok-page.was in
    let found : position (is_for false c.in_ok-page.page.0) c.self.inside.store.cells ≡ Some c.unwrap-place.result =
    sym c.find.ensures ∙ c.unwrap-place.ensures in
    let moved =
    start_step c.self.inside.geometry c.self.inside.store.cells c.launch.new.self.cells c.self.inside.line.items c.pop_front.new.self.items c.in_ok-page.page
    c.unwrap-place.result c.self.invariant.0 first found c.launch.ensures.cells in
    moved.is ∙ ap (λ (b : BehindView). start b.queue) c.self.view_is

pub returns-clause-flies : goal.returns-clause-flies
returns-clause-flies c =
    let first : c.self.inside.line.items ≡ c.in_ok-page.page ∷ c.pop_front.new.self.items =
    c.pop_front.ensures.items ∙ ap (λ (o : Option Page). option_to_list o ++ c.pop_front.new.self.items) c.in_ok-page.was in
    let found : position (is_for false c.in_ok-page.page.0) c.self.inside.store.cells ≡ Some c.unwrap-place.result =
    sym c.find.ensures ∙ c.unwrap-place.ensures in
    let moved =
    start_step c.self.inside.geometry c.self.inside.store.cells c.launch.new.self.cells c.self.inside.line.items c.pop_front.new.self.items c.in_ok-page.page
    c.unwrap-place.result c.self.invariant.0 first found c.launch.ensures.cells in
    ap (λ (q : Queue). is_some (flying q c.in_ok-page.page)) moved.is
    ∙ front_flies c.self.inside.geometry c.self.inside.store.cells c.self.inside.line.items c.pop_front.new.self.items c.self.invariant.0 c.in_ok-page.page
    first
