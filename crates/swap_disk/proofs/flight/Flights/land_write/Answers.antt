use Rattle.std.proofs.Common.{◌≡◌, List, get_or, set, is_some, sym, ap, ◌∙◌, arith, None, Some}
use Rattle.std.proofs.lemmas.List.{get_or_default}
use Rattle.swap_base.specs.declared.DiskWhich.TheVariants as which
use Rattle.swap_disk.specs.Disk.{Flight, without_flight}
use Rattle.swap_disk.specs.Flights.{FlightsView}
use Rattle.swap_disk.proofs.Numbers.{length-without, writing}
use Rattle.swap_disk.proofs.FlightMoves.{landed_kept, write_landed}
use Rattle.swap_disk.proofs.flight.Flights.land_write.Goals as goal

pub index_mut-requires : goal.index_mut-requires
index_mut-requires c =
    let at =
    writing c.self.inside.geometry c.self.inside.order c.self.inside.writes c.self.inside.reading.items c.self.inside.kept.items _ c.args.self.now c.args.page
    c.self.invariant.0 c.self.view_is c.keeps.ensures.line.below c.requires in
    omega (arith, at.low, c.self.invariant.0.kept_len, c.self.inside.kept.ok)

pub unwrap-buffer-requires : goal.unwrap-buffer-requires
unwrap-buffer-requires c =
    let at =
    writing c.self.inside.geometry c.self.inside.order c.self.inside.writes c.self.inside.reading.items c.self.inside.kept.items _ c.args.self.now c.args.page
    c.self.invariant.0 c.self.view_is c.keeps.ensures.line.below c.requires in
    let slot =
    c.index_mut.ensures.value
    ∙ get_or_default c.self.inside.kept.items c.args.page.0 c.index_mut.result.now None (omega (arith, at.low, c.self.invariant.0.kept_len)) in
    ap is_some (c.take.ensures.value ∙ slot) ∙ (c.self.invariant.0.kept_fits c.args.page.0 at.waits).0

pub push_reserved-requires : goal.push_reserved-requires
push_reserved-requires c =
    let at =
    writing c.self.inside.geometry c.self.inside.order c.self.inside.writes c.self.inside.reading.items c.self.inside.kept.items _ c.args.self.now c.args.page
    c.self.invariant.0 c.self.view_is c.keeps.ensures.line.below c.requires in
    omega (arith, c.self.invariant.0.room, length-without c.self.inside.writes.numbers c.args.page.0 at.waits, c.self.invariant.1, c.self.inside.spare.ok)

pub leave-requires : goal.leave-requires
leave-requires c =
    let at =
    writing c.self.inside.geometry c.self.inside.order c.self.inside.writes c.self.inside.reading.items c.self.inside.kept.items _ c.args.self.now c.args.page
    c.self.invariant.0 c.self.view_is c.keeps.ensures.line.below c.requires in
    at.flies

pub leave-requires-2 : goal.leave-requires-2
leave-requires-2 c =
    let at =
    writing c.self.inside.geometry c.self.inside.order c.self.inside.writes c.self.inside.reading.items c.self.inside.kept.items _ c.args.self.now c.args.page
    c.self.invariant.0 c.self.view_is c.keeps.ensures.line.below c.requires in
    at.waits

pub invariant_of-self : goal.invariant_of-self
invariant_of-self c =
    let at =
    writing c.self.inside.geometry c.self.inside.order c.self.inside.writes c.self.inside.reading.items c.self.inside.kept.items _ c.args.self.now c.args.page
    c.self.invariant.0 c.self.view_is c.keeps.ensures.line.below c.requires in
    let slot =
    c.index_mut.ensures.value
    ∙ get_or_default c.self.inside.kept.items c.args.page.0 c.index_mut.result.now None (omega (arith, at.low, c.self.invariant.0.kept_len)) in
    let took : get_or c.self.inside.kept.items c.args.page.0 None ≡ Some c.unwrap-buffer.result =
    sym slot ∙ sym c.take.ensures.value ∙ c.unwrap-buffer.ensures in (
      landed_kept c.is_a_line.ensures.leave c.self.inside.geometry c.self.inside.order c.self.inside.writes c.leave.new.self c.leave-2.new.self
          c.self.inside.reading.items c.self.inside.kept.items
          (set c.self.inside.kept.items c.args.page.0 c.take.new.self) c.self.inside.spare.items c.push_reserved.new.self.items c.args.page
          c.unwrap-buffer.result
          c.self.invariant.0 c.keeps.ensures.line.once c.keeps-2.ensures.line.once at.low at.flies took c.push_reserved.ensures.items c.leave.ensures.numbers
          c.leave-2.ensures.numbers
          (ap (λ o. set c.self.inside.kept.items c.args.page.0 o) c.take.ensures.after) c.leave.ensures.bound c.leave-2.ensures.bound,
      omega (arith, c.self.invariant.1, c.push_reserved.ensures.capacity),
    )

pub returns : goal.returns
returns c =
    let at =
    writing c.self.inside.geometry c.self.inside.order c.self.inside.writes c.self.inside.reading.items c.self.inside.kept.items _ c.args.self.now c.args.page
    c.self.invariant.0 c.self.view_is c.keeps.ensures.line.below c.requires in
    let slot =
    c.index_mut.ensures.value
    ∙ get_or_default c.self.inside.kept.items c.args.page.0 c.index_mut.result.now None (omega (arith, at.low, c.self.invariant.0.kept_len)) in
    let took : get_or c.self.inside.kept.items c.args.page.0 None ≡ Some c.unwrap-buffer.result =
    sym slot ∙ sym c.take.ensures.value ∙ c.unwrap-buffer.ensures in
    ap (λ (l : List Flight). record { sizes = c.self.inside.geometry; flights = l })
    (write_landed c.is_a_line.ensures.leave c.self.inside.geometry c.self.inside.order c.self.inside.writes c.leave.new.self c.leave-2.new.self
    c.self.inside.reading.items c.self.inside.kept.items
    (set c.self.inside.kept.items c.args.page.0 c.take.new.self) c.self.inside.spare.items c.push_reserved.new.self.items c.args.page c.unwrap-buffer.result
    c.self.invariant.0 c.keeps.ensures.line.once c.keeps-2.ensures.line.once at.low at.flies took c.push_reserved.ensures.items c.leave.ensures.numbers
    c.leave-2.ensures.numbers
    (ap (λ o. set c.self.inside.kept.items c.args.page.0 o) c.take.ensures.after))
    ∙ ap (λ (f : FlightsView). record { sizes = f.sizes; flights = without_flight (which.Write c.args.page) f.flights }) c.self.view_is
