use Rattle.std.proofs.Common.{◌≡◌, ◌+◌, ◌<◌, true, length, option_map, sym, ap, ◌∙◌, subst, arith, Option, Some}
use Rattle.std.proofs.lemmas.Bool.{ltb-true}
use Rattle.std.proofs.lemmas.List.{get_or_default}
use Rattle.swap_base.specs.declared.Page.{Page}
use Rattle.swap_base.specs.declared.DiskWhich.TheVariants as which
use Rattle.swap_base.specs.Sizes.{pages_of}
use Rattle.swap_places.specs.Line.{stands}
use Rattle.swap_disk.specs.Disk.{Flight, page_of}
use Rattle.swap_disk.specs.Flights.{FlightsView, number_of, is_known, flight_at, page_read}
use Rattle.swap_disk.proofs.Numbers.{at_write, at_caller, seen_in, seen_at}
use Rattle.swap_disk.proofs.flight.Flights.page.Goals as goal

pub index-requires : goal.index-requires
index-requires c =
    let in' =
    seen_in c.self.inside.geometry c.self.inside.reading.items c.self.inside.kept.items c.self.inside.order c.args.self.now c.self.view_is
    c.self.invariant.0.order_bound c.keeps.ensures.line.below c.args.which c.requires in
    let known : is_known c.self.inside.geometry (which.Read c.in-Read.caller) ≡ true =
    subst (λ w. is_known c.self.inside.geometry w ≡ true) c.in-Read.is in'.0 in
    omega (arith, ltb-true c.in-Read.caller.0 c.self.inside.geometry.callers known, c.self.invariant.0.reading_len, c.self.inside.reading.ok)

pub returns-in-Write-clause-page : goal.returns-in-Write-clause-page
returns-in-Write-clause-page c =
    let in' =
    seen_in c.self.inside.geometry c.self.inside.reading.items c.self.inside.kept.items c.self.inside.order c.args.self.now c.self.view_is
    c.self.invariant.0.order_bound c.keeps.ensures.line.below c.args.which c.requires in
    let known : is_known c.self.inside.geometry (which.Write c.in-Write.page) ≡ true =
    subst (λ w. is_known c.self.inside.geometry w ≡ true) c.in-Write.is in'.0 in
    let within : c.in-Write.page.0 < pages_of c.self.inside.geometry = ltb-true c.in-Write.page.0 (pages_of c.self.inside.geometry) known in
    ap (λ (o : Option Flight). option_map page_of o)
    (seen_at c.self.inside.geometry c.self.inside.reading.items c.self.inside.kept.items c.self.inside.order c.args.self.now c.self.view_is
    c.self.invariant.0.order_bound c.keeps.ensures.line.below c.args.which c.requires)
    ∙ ap
    (λ w. Some (page_of (flight_at c.self.inside.geometry c.self.inside.reading.items c.self.inside.kept.items (number_of c.self.inside.geometry w))))
    c.in-Write.is
    ∙ ap (λ f. Some (page_of f)) (at_write c.self.inside.geometry c.self.inside.reading.items c.self.inside.kept.items c.in-Write.page.0 within)

pub returns-in-Write-clause-within : goal.returns-in-Write-clause-within
returns-in-Write-clause-within c =
    let in' =
    seen_in c.self.inside.geometry c.self.inside.reading.items c.self.inside.kept.items c.self.inside.order c.args.self.now c.self.view_is
    c.self.invariant.0.order_bound c.keeps.ensures.line.below c.args.which c.requires in
    let known : is_known c.self.inside.geometry (which.Write c.in-Write.page) ≡ true =
    subst (λ w. is_known c.self.inside.geometry w ≡ true) c.in-Write.is in'.0 in
    subst (λ (f : FlightsView). c.in-Write.page.0 < pages_of f.sizes) c.self.view_is (ltb-true c.in-Write.page.0 (pages_of c.self.inside.geometry) known)

pub returns-in-Read-clause-page : goal.returns-in-Read-clause-page
returns-in-Read-clause-page c =
    let in' =
    seen_in c.self.inside.geometry c.self.inside.reading.items c.self.inside.kept.items c.self.inside.order c.args.self.now c.self.view_is
    c.self.invariant.0.order_bound c.keeps.ensures.line.below c.args.which c.requires in
    let known : is_known c.self.inside.geometry (which.Read c.in-Read.caller) ≡ true =
    subst (λ w. is_known c.self.inside.geometry w ≡ true) c.in-Read.is in'.0 in
    let within : c.in-Read.caller.0 < length c.self.inside.reading.items =
    omega (arith, ltb-true c.in-Read.caller.0 c.self.inside.geometry.callers known, c.self.invariant.0.reading_len) in
    ap (λ (o : Option Flight). option_map page_of o)
    (seen_at c.self.inside.geometry c.self.inside.reading.items c.self.inside.kept.items c.self.inside.order c.args.self.now c.self.view_is
    c.self.invariant.0.order_bound c.keeps.ensures.line.below c.args.which c.requires)
    ∙ ap
    (λ w. Some (page_of (flight_at c.self.inside.geometry c.self.inside.reading.items c.self.inside.kept.items (number_of c.self.inside.geometry w))))
    c.in-Read.is
    ∙ ap (λ f. Some (page_of f)) (at_caller c.self.inside.geometry c.self.inside.reading.items c.self.inside.kept.items c.in-Read.caller.0)
    ∙ ap (λ (p : Page). Some p)
    (sym (c.index.ensures ∙ get_or_default c.self.inside.reading.items c.in-Read.caller.0 c.index.result.now (record { 0 = 0 }) within))

pub returns-in-Read-clause-within : goal.returns-in-Read-clause-within
returns-in-Read-clause-within c =
    let in' =
    seen_in c.self.inside.geometry c.self.inside.reading.items c.self.inside.kept.items c.self.inside.order c.args.self.now c.self.view_is
    c.self.invariant.0.order_bound c.keeps.ensures.line.below c.args.which c.requires in
    let known : is_known c.self.inside.geometry (which.Read c.in-Read.caller) ≡ true =
    subst (λ w. is_known c.self.inside.geometry w ≡ true) c.in-Read.is in'.0 in
    let there : stands c.self.inside.order.numbers (pages_of c.self.inside.geometry + c.in-Read.caller.0) ≡ true =
    subst (λ w. stands c.self.inside.order.numbers (number_of c.self.inside.geometry w) ≡ true) c.in-Read.is in'.1 in
    let within : c.in-Read.caller.0 < length c.self.inside.reading.items =
    omega (arith, ltb-true c.in-Read.caller.0 c.self.inside.geometry.callers known, c.self.invariant.0.reading_len) in
    let read : c.index.result.now ≡ page_read c.self.inside.reading.items c.in-Read.caller.0 =
    c.index.ensures ∙ get_or_default c.self.inside.reading.items c.in-Read.caller.0 c.index.result.now (record { 0 = 0 }) within in
    subst (λ (f : FlightsView). c.index.result.now.0 < pages_of f.sizes) c.self.view_is
    (subst (λ (p : Page). p.0 < pages_of c.self.inside.geometry) (sym read) (c.self.invariant.0.reads_fit c.in-Read.caller.0 there))
