use Rattle.std.proofs.Common.{◌≡◌, ℕ, ◌<◌, false, List, [], ◌∷◌, ◌++◌, length, get_or, set, refl, sym, ap, ◌∙◌, subst, arith, Option, Some, option_to_list, lt-ltb}
use Rattle.std.proofs.lemmas.List.{get_or_push, length_push}
use Rattle.swap_base.specs.declared.DiskWhich.TheVariants as which
use Rattle.swap_base.specs.Sizes.{pages_of}
use Rattle.swap_places.specs.Line.{stands}
use Rattle.swap_disk.specs.Disk.{Flight, Write}
use Rattle.swap_disk.specs.Port.{writes_in}
use Rattle.swap_disk.specs.Flights.{FlightsView, flights_in}
use Rattle.swap_disk.proofs.Numbers.{page_stands, writes_counted, seen_out}
use Rattle.swap_disk.proofs.FlightMoves.{write_kept, write_flies}
use Rattle.swap_disk.proofs.flight.Flights.start_write.Goals as goal

pub unwrap-buffer-requires : goal.unwrap-buffer-requires
unwrap-buffer-requires c =
    let room_in : writes_in (flights_in c.self.inside.geometry c.self.inside.reading.items c.self.inside.kept.items c.self.inside.order.numbers)
    < c.self.inside.geometry.queue =
    subst (λ (f : FlightsView). writes_in f.flights < f.sizes.queue) (sym c.self.view_is) c.requires.room in
    let some_spare : 0 < length c.self.inside.spare.items =
    omega (
      arith,
      room_in,
      writes_counted c.self.inside.geometry c.self.inside.reading.items c.self.inside.kept.items c.self.inside.order.numbers,
      ap length c.self.invariant.0.writes_are,
      c.self.invariant.0.room,
    ) in
    c.pop.ensures.variant.1 (omega (arith, some_spare, c.self.inside.spare.ok))

pub fill-requires : goal.fill-requires
fill-requires c =
    let room_in : writes_in (flights_in c.self.inside.geometry c.self.inside.reading.items c.self.inside.kept.items c.self.inside.order.numbers)
    < c.self.inside.geometry.queue =
    subst (λ (f : FlightsView). writes_in f.flights < f.sizes.queue) (sym c.self.view_is) c.requires.room in
    let some_spare : 0 < length c.self.inside.spare.items =
    omega (
      arith,
      room_in,
      writes_counted c.self.inside.geometry c.self.inside.reading.items c.self.inside.kept.items c.self.inside.order.numbers,
      ap length c.self.invariant.0.writes_are,
      c.self.invariant.0.room,
    ) in
    let popped : c.self.inside.spare.items ≡ c.pop.new.self.items ++ c.unwrap-buffer.result ∷ [] =
    c.pop.ensures.items ∙ ap (λ (o : Option (List ℕ)). c.pop.new.self.items ++ option_to_list o) c.unwrap-buffer.ensures in
    let long : length c.args.bytes.now ≡ c.self.inside.geometry.page_bytes =
    subst (λ (f : FlightsView). length c.args.bytes.now ≡ f.sizes.page_bytes) (sym c.self.view_is) c.requires.bytes in
    let last : length c.unwrap-buffer.result ≡ c.self.inside.geometry.page_bytes =
    ap length
    (sym
    (ap (λ l. get_or l (length c.pop.new.self.items) []) popped
    ∙ get_or_push c.pop.new.self.items c.unwrap-buffer.result [] (length c.pop.new.self.items) refl))
    ∙ c.self.invariant.0.spare_fits (length c.pop.new.self.items) []
    (omega (arith, ap length popped, length_push c.pop.new.self.items c.unwrap-buffer.result)) in
    long ∙ sym last

pub enter-requires-clause-out : goal.enter-requires-clause-out
enter-requires-clause-out c =
    let within : c.args.page.0 < pages_of c.self.inside.geometry =
    subst (λ (f : FlightsView). c.args.page.0 < pages_of f.sizes) (sym c.self.view_is) c.requires.page in
    let out : stands c.self.inside.order.numbers c.args.page.0 ≡ false =
    seen_out c.self.inside.geometry c.self.inside.reading.items c.self.inside.kept.items c.self.inside.order c.args.self.now c.self.view_is
    c.self.invariant.0.order_bound c.keeps.ensures.line.below
    (which.Write c.args.page) (lt-ltb c.args.page.0 (pages_of c.self.inside.geometry) within) c.requires.free in
    out

pub enter-requires-2-clause-out : goal.enter-requires-2-clause-out
enter-requires-2-clause-out c =
    let within : c.args.page.0 < pages_of c.self.inside.geometry =
    subst (λ (f : FlightsView). c.args.page.0 < pages_of f.sizes) (sym c.self.view_is) c.requires.page in
    let out : stands c.self.inside.order.numbers c.args.page.0 ≡ false =
    seen_out c.self.inside.geometry c.self.inside.reading.items c.self.inside.kept.items c.self.inside.order c.args.self.now c.self.view_is
    c.self.invariant.0.order_bound c.keeps.ensures.line.below
    (which.Write c.args.page) (lt-ltb c.args.page.0 (pages_of c.self.inside.geometry) within) c.requires.free in
    ap (λ l. stands l c.args.page.0) c.self.invariant.0.writes_are
    ∙ page_stands c.self.inside.geometry c.self.inside.reading.items c.self.inside.kept.items c.self.inside.order.numbers c.args.page.0 within ∙ out

pub invariant_of-self : goal.invariant_of-self
invariant_of-self c =
    let within : c.args.page.0 < pages_of c.self.inside.geometry =
    subst (λ (f : FlightsView). c.args.page.0 < pages_of f.sizes) (sym c.self.view_is) c.requires.page in
    let out : stands c.self.inside.order.numbers c.args.page.0 ≡ false =
    seen_out c.self.inside.geometry c.self.inside.reading.items c.self.inside.kept.items c.self.inside.order c.args.self.now c.self.view_is
    c.self.invariant.0.order_bound c.keeps.ensures.line.below
    (which.Write c.args.page) (lt-ltb c.args.page.0 (pages_of c.self.inside.geometry) within) c.requires.free in
    let popped : c.self.inside.spare.items ≡ c.pop.new.self.items ++ c.unwrap-buffer.result ∷ [] =
    c.pop.ensures.items ∙ ap (λ (o : Option (List ℕ)). c.pop.new.self.items ++ option_to_list o) c.unwrap-buffer.ensures in
    let long : length c.args.bytes.now ≡ c.self.inside.geometry.page_bytes =
    subst (λ (f : FlightsView). length c.args.bytes.now ≡ f.sizes.page_bytes) (sym c.self.view_is) c.requires.bytes in (
      write_kept c.is_a_line.ensures.enter c.self.inside.geometry c.self.inside.order c.self.inside.writes c.enter.new.self c.enter-2.new.self
          c.self.inside.reading.items c.self.inside.kept.items
          (set c.self.inside.kept.items c.args.page.0 (Some c.fill.new.self)) c.self.inside.spare.items c.pop.new.self.items c.args.page c.fill.new.self
          c.unwrap-buffer.result c.self.invariant.0 within
          (ap length c.fill.ensures ∙ long) out popped c.enter.ensures.numbers c.enter-2.ensures.numbers refl c.enter.ensures.bound c.enter-2.ensures.bound,
      omega (arith, c.self.invariant.1, c.pop.ensures.capacity),
    )

pub returns : goal.returns
returns c =
    let within : c.args.page.0 < pages_of c.self.inside.geometry =
    subst (λ (f : FlightsView). c.args.page.0 < pages_of f.sizes) (sym c.self.view_is) c.requires.page in
    let out : stands c.self.inside.order.numbers c.args.page.0 ≡ false =
    seen_out c.self.inside.geometry c.self.inside.reading.items c.self.inside.kept.items c.self.inside.order c.args.self.now c.self.view_is
    c.self.invariant.0.order_bound c.keeps.ensures.line.below
    (which.Write c.args.page) (lt-ltb c.args.page.0 (pages_of c.self.inside.geometry) within) c.requires.free in
    let popped : c.self.inside.spare.items ≡ c.pop.new.self.items ++ c.unwrap-buffer.result ∷ [] =
    c.pop.ensures.items ∙ ap (λ (o : Option (List ℕ)). c.pop.new.self.items ++ option_to_list o) c.unwrap-buffer.ensures in
    let long : length c.args.bytes.now ≡ c.self.inside.geometry.page_bytes =
    subst (λ (f : FlightsView). length c.args.bytes.now ≡ f.sizes.page_bytes) (sym c.self.view_is) c.requires.bytes in
    ap (λ (l : List Flight). record { sizes = c.self.inside.geometry; flights = l })
    (write_flies c.is_a_line.ensures.enter c.self.inside.geometry c.self.inside.order c.self.inside.writes c.enter.new.self c.enter-2.new.self
    c.self.inside.reading.items c.self.inside.kept.items
    (set c.self.inside.kept.items c.args.page.0 (Some c.fill.new.self)) c.self.inside.spare.items c.pop.new.self.items c.args.page c.fill.new.self
    c.unwrap-buffer.result c.self.invariant.0 within
    (ap length c.fill.ensures ∙ long) out popped c.enter.ensures.numbers c.enter-2.ensures.numbers refl)
    ∙ ap
    (λ bs.
    record {
      sizes = c.self.inside.geometry;
      flights =
          flights_in c.self.inside.geometry c.self.inside.reading.items c.self.inside.kept.items c.self.inside.order.numbers ++ Write c.args.page bs ∷ [];
    })
    c.fill.ensures
    ∙ ap (λ (f : FlightsView). record { sizes = f.sizes; flights = f.flights ++ Write c.args.page c.args.bytes.now ∷ [] }) c.self.view_is
