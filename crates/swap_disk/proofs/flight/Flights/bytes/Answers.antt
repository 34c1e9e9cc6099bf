use Rattle.std.proofs.Common.{◌≡◌, ◌<◌, get_or, length, is_some, sym, ap, ◌∙◌, subst, arith, None, Some}
use Rattle.std.specs.Option.{option_copied}
use Rattle.std.proofs.lemmas.List.{get_or_default}
use Rattle.swap_base.specs.declared.DiskWhich.TheVariants as which
use Rattle.swap_base.specs.Sizes.{pages_of}
use Rattle.swap_disk.specs.Disk.{Write}
use Rattle.swap_disk.specs.Flights.{FlightsView, bytes_kept}
use Rattle.swap_disk.proofs.Numbers.{at_write, seen_at, writing}
use Rattle.swap_disk.proofs.flight.Flights.bytes.Goals as goal

pub index-requires : goal.index-requires
index-requires c =
    let at =
    writing c.self.inside.geometry c.self.inside.order c.self.inside.writes c.self.inside.reading.items c.self.inside.kept.items _ c.args.self.now c.args.page
    c.self.invariant.0 c.self.view_is c.keeps.ensures.line.below c.requires in
    omega (arith, at.low, c.self.invariant.0.kept_len, c.self.inside.kept.ok)

pub unwrap-requires : goal.unwrap-requires
unwrap-requires c =
    let at =
    writing c.self.inside.geometry c.self.inside.order c.self.inside.writes c.self.inside.reading.items c.self.inside.kept.items _ c.args.self.now c.args.page
    c.self.invariant.0 c.self.view_is c.keeps.ensures.line.below c.requires in
    let slot =
    c.index.ensures ∙ get_or_default c.self.inside.kept.items c.args.page.0 c.index.result.now None (omega (arith, at.low, c.self.invariant.0.kept_len)) in
    c.as_ref.ensures.variant ∙ ap is_some slot ∙ (c.self.invariant.0.kept_fits c.args.page.0 at.waits).0

pub returns-clause-bytes : goal.returns-clause-bytes
returns-clause-bytes c =
    let at =
    writing c.self.inside.geometry c.self.inside.order c.self.inside.writes c.self.inside.reading.items c.self.inside.kept.items _ c.args.self.now c.args.page
    c.self.invariant.0 c.self.view_is c.keeps.ensures.line.below c.requires in
    let slot =
    c.index.ensures ∙ get_or_default c.self.inside.kept.items c.args.page.0 c.index.result.now None (omega (arith, at.low, c.self.invariant.0.kept_len)) in
    let held : get_or c.self.inside.kept.items c.args.page.0 None ≡ Some c.unwrap.result.now =
    sym slot ∙ sym c.as_ref.ensures.value ∙ ap option_copied c.unwrap.ensures in
    seen_at c.self.inside.geometry c.self.inside.reading.items c.self.inside.kept.items c.self.inside.order c.args.self.now c.self.view_is
    c.self.invariant.0.order_bound c.keeps.ensures.line.below
    (which.Write c.args.page) c.requires
    ∙ ap (λ f. Some f) (at_write c.self.inside.geometry c.self.inside.reading.items c.self.inside.kept.items c.args.page.0 at.low)
    ∙ ap (λ bs. Some (Write c.args.page bs)) (ap bytes_kept held ∙ sym c.bytes.ensures)

pub returns-clause-len : goal.returns-clause-len
returns-clause-len c =
    let at =
    writing c.self.inside.geometry c.self.inside.order c.self.inside.writes c.self.inside.reading.items c.self.inside.kept.items _ c.args.self.now c.args.page
    c.self.invariant.0 c.self.view_is c.keeps.ensures.line.below c.requires in
    let slot =
    c.index.ensures ∙ get_or_default c.self.inside.kept.items c.args.page.0 c.index.result.now None (omega (arith, at.low, c.self.invariant.0.kept_len)) in
    let held : get_or c.self.inside.kept.items c.args.page.0 None ≡ Some c.unwrap.result.now =
    sym slot ∙ sym c.as_ref.ensures.value ∙ ap option_copied c.unwrap.ensures in
    ap length (c.bytes.ensures ∙ sym (ap bytes_kept held)) ∙ (c.self.invariant.0.kept_fits c.args.page.0 at.waits).1
    ∙ ap (λ (f : FlightsView). f.sizes.page_bytes) c.self.view_is

pub returns-clause-within : goal.returns-clause-within
returns-clause-within c =
    let at =
    writing c.self.inside.geometry c.self.inside.order c.self.inside.writes c.self.inside.reading.items c.self.inside.kept.items _ c.args.self.now c.args.page
    c.self.invariant.0 c.self.view_is c.keeps.ensures.line.below c.requires in
    subst (λ (f : FlightsView). c.args.page.0 < pages_of f.sizes) c.self.view_is at.low
