use Rattle.std.proofs.Common.{◌≡◌, List, [], ◌∷◌, ◌++◌, sym, ap, ◌∙◌, subst, arith}
use Rattle.std.proofs.lemmas.List.{length-map, map-append}
use Rattle.swap_disk.specs.Disk.{Flight}
use Rattle.swap_file.specs.Flights.{FlightsView, flight_of, flights_of, MayStart, Holds}
use Rattle.swap_file.proofs.Room.{has_room, holds_started}
use Rattle.swap_file.proofs.flights.Flights.start.Goals as goal

pub push_reserved-requires : goal.push_reserved-requires
push_reserved-requires c =
    let items = c.self.inside.list.items in
    let r : FlightsView = record { flights = flights_of items; queue = c.self.inside.queue; callers = c.self.inside.callers } in
    let may : MayStart r (flight_of c.args.flying) = subst (λ (x : FlightsView). MayStart x (flight_of c.args.flying)) (sym c.self.view_is) c.requires in
    omega (arith, has_room r (flight_of c.args.flying) may c.self.invariant.0, length-map items flight_of, c.self.invariant.1, c.self.inside.list.ok.0)

pub invariant_of-self : goal.invariant_of-self
invariant_of-self c =
    let items = c.self.inside.list.items in
    let F : List Flight → FlightsView = λ fs. record { flights = fs; queue = c.self.inside.queue; callers = c.self.inside.callers } in
    let may : MayStart (F (flights_of items)) (flight_of c.args.flying) =
    subst (λ (x : FlightsView). MayStart x (flight_of c.args.flying)) (sym c.self.view_is) c.requires in
    let more : flights_of c.push_reserved.new.self.items ≡ flights_of items ++ flight_of c.args.flying ∷ [] =
    ap flights_of c.push_reserved.ensures.items ∙ map-append flight_of items (c.args.flying ∷ []) in (
      subst (λ (fs : List Flight). Holds (F fs)) (sym more) (holds_started (F (flights_of items)) (flight_of c.args.flying) may c.self.invariant.0),
      omega (arith, c.self.invariant.1, c.push_reserved.ensures.capacity),
    )
