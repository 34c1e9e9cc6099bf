use Rattle.std.proofs.Common.{◌+◌, ap, ◌∙◌, arith}
use Rattle.std.proofs.lemmas.Bool.{ltb-true}
use Rattle.swap_base.specs.declared.DiskWhich.TheVariants as which
use Rattle.swap_places.specs.Line.{stands}
use Rattle.swap_places.specs.Line as line
use Rattle.swap_disk.specs.Disk.{without_flight}
use Rattle.swap_disk.specs.Flights.{FlightsView}
use Rattle.swap_disk.proofs.Numbers.{seen_in}
use Rattle.swap_disk.proofs.FlightMoves.{still_reading, read_landed}
use Rattle.swap_disk.proofs.flight.Flights.land_read.Goals as goal

pub overflow_add-pages : goal.overflow_add-pages
overflow_add-pages c =
    let in' =
    seen_in c.self.inside.geometry c.self.inside.reading.items c.self.inside.kept.items c.self.inside.order c.args.self.now c.self.view_is
    c.self.invariant.0.order_bound c.keeps.ensures.line.below
    (which.Read c.args.caller) c.requires in
    record {
      fits =
          omega (
            arith,
            ltb-true c.args.caller.0 c.self.inside.geometry.callers in'.0,
            c.pages.ensures,
            c.limits.ensures.within.pages,
            c.limits.ensures.within.callers,
          );
    }

pub leave-requires : goal.leave-requires
leave-requires c =
    let in' =
    seen_in c.self.inside.geometry c.self.inside.reading.items c.self.inside.kept.items c.self.inside.order c.args.self.now c.self.view_is
    c.self.invariant.0.order_bound c.keeps.ensures.line.below
    (which.Read c.args.caller) c.requires in
    ap (λ p. stands c.self.inside.order.numbers (p + c.args.caller.0)) c.pages.ensures ∙ in'.1

pub invariant_of-self : goal.invariant_of-self
invariant_of-self c =
    let in' =
    seen_in c.self.inside.geometry c.self.inside.reading.items c.self.inside.kept.items c.self.inside.order c.args.self.now c.self.view_is
    c.self.invariant.0.order_bound c.keeps.ensures.line.below
    (which.Read c.args.caller) c.requires in
    let known = ltb-true c.args.caller.0 c.self.inside.geometry.callers in'.0 in
    let left = c.leave.ensures.numbers ∙ ap (λ p. line.without_number (p + c.args.caller.0) c.self.inside.order.numbers) c.pages.ensures in (
      still_reading c.is_a_line.ensures.leave c.self.inside.geometry c.self.inside.order c.self.inside.writes c.leave.new.self c.self.inside.reading.items
          c.self.inside.kept.items c.self.inside.spare.items c.args.caller c.self.invariant.0 c.keeps.ensures.line.once known left c.leave.ensures.bound,
      c.self.invariant.1,
    )

pub returns : goal.returns
returns c =
    let in' =
    seen_in c.self.inside.geometry c.self.inside.reading.items c.self.inside.kept.items c.self.inside.order c.args.self.now c.self.view_is
    c.self.invariant.0.order_bound c.keeps.ensures.line.below
    (which.Read c.args.caller) c.requires in
    let known = ltb-true c.args.caller.0 c.self.inside.geometry.callers in'.0 in
    let left = c.leave.ensures.numbers ∙ ap (λ p. line.without_number (p + c.args.caller.0) c.self.inside.order.numbers) c.pages.ensures in
    ap (λ l. record { sizes = c.self.inside.geometry; flights = l })
    (read_landed c.is_a_line.ensures.leave c.self.inside.geometry c.self.inside.order c.self.inside.writes c.leave.new.self c.self.inside.reading.items
    c.self.inside.kept.items c.self.inside.spare.items c.args.caller c.self.invariant.0 c.keeps.ensures.line.once known left)
    ∙ ap (λ (f : FlightsView). record { sizes = f.sizes; flights = without_flight (which.Read c.args.caller) f.flights }) c.self.view_is
