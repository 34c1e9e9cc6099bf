use Rattle.std.proofs.Common.{◌≡◌, ◌+◌, ◌<◌, false, List, [], ◌∷◌, ◌++◌, set, refl, sym, ap, ◌∙◌, subst, lt-ltb}
use Rattle.swap_base.specs.declared.DiskWhich.TheVariants as which
use Rattle.swap_base.specs.Sizes.{pages_of}
use Rattle.swap_places.specs.Line.{stands}
use Rattle.swap_disk.specs.Disk.{Flight, Read}
use Rattle.swap_disk.specs.Flights.{FlightsView}
use Rattle.swap_disk.proofs.Numbers.{seen_out}
use Rattle.swap_disk.proofs.FlightMoves.{read_kept, read_flies}
use Rattle.swap_disk.proofs.flight.Flights.start_read.Goals as goal

pub enter-requires-clause-out : goal.enter-requires-clause-out
enter-requires-clause-out c =
    let known : c.args.caller.0 < c.self.inside.geometry.callers =
    subst (λ (f : FlightsView). c.args.caller.0 < f.sizes.callers) (sym c.self.view_is) c.requires.caller in
    let within : c.args.page.0 < pages_of c.self.inside.geometry =
    subst (λ (f : FlightsView). c.args.page.0 < pages_of f.sizes) (sym c.self.view_is) c.requires.page in
    let out : stands c.self.inside.order.numbers (pages_of c.self.inside.geometry + c.args.caller.0) ≡ false =
    seen_out c.self.inside.geometry c.self.inside.reading.items c.self.inside.kept.items c.self.inside.order c.args.self.now c.self.view_is
    c.self.invariant.0.order_bound c.keeps.ensures.line.below
    (which.Read c.args.caller) (lt-ltb c.args.caller.0 c.self.inside.geometry.callers known) c.requires.free in
    ap (λ p. stands c.self.inside.order.numbers (p + c.args.caller.0)) c.pages.ensures ∙ out

pub invariant_of-self : goal.invariant_of-self
invariant_of-self c =
    let known : c.args.caller.0 < c.self.inside.geometry.callers =
    subst (λ (f : FlightsView). c.args.caller.0 < f.sizes.callers) (sym c.self.view_is) c.requires.caller in
    let within : c.args.page.0 < pages_of c.self.inside.geometry =
    subst (λ (f : FlightsView). c.args.page.0 < pages_of f.sizes) (sym c.self.view_is) c.requires.page in
    let out : stands c.self.inside.order.numbers (pages_of c.self.inside.geometry + c.args.caller.0) ≡ false =
    seen_out c.self.inside.geometry c.self.inside.reading.items c.self.inside.kept.items c.self.inside.order c.args.self.now c.self.view_is
    c.self.invariant.0.order_bound c.keeps.ensures.line.below
    (which.Read c.args.caller) (lt-ltb c.args.caller.0 c.self.inside.geometry.callers known) c.requires.free in
    let entered = c.enter.ensures.numbers ∙ ap (λ p. c.self.inside.order.numbers ++ (p + c.args.caller.0) ∷ []) c.pages.ensures in (
      read_kept c.is_a_line.ensures.enter c.self.inside.geometry c.self.inside.order c.self.inside.writes c.enter.new.self c.self.inside.reading.items
          (set c.self.inside.reading.items c.args.caller.0 c.args.page) c.self.inside.kept.items c.self.inside.spare.items c.args.caller c.args.page
          c.self.invariant.0 known within out entered refl c.enter.ensures.bound,
      c.self.invariant.1,
    )

pub returns : goal.returns
returns c =
    let known : c.args.caller.0 < c.self.inside.geometry.callers =
    subst (λ (f : FlightsView). c.args.caller.0 < f.sizes.callers) (sym c.self.view_is) c.requires.caller in
    let within : c.args.page.0 < pages_of c.self.inside.geometry =
    subst (λ (f : FlightsView). c.args.page.0 < pages_of f.sizes) (sym c.self.view_is) c.requires.page in
    let out : stands c.self.inside.order.numbers (pages_of c.self.inside.geometry + c.args.caller.0) ≡ false =
    seen_out c.self.inside.geometry c.self.inside.reading.items c.self.inside.kept.items c.self.inside.order c.args.self.now c.self.view_is
    c.self.invariant.0.order_bound c.keeps.ensures.line.below
    (which.Read c.args.caller) (lt-ltb c.args.caller.0 c.self.inside.geometry.callers known) c.requires.free in
    let entered = c.enter.ensures.numbers ∙ ap (λ p. c.self.inside.order.numbers ++ (p + c.args.caller.0) ∷ []) c.pages.ensures in
    ap (λ (l : List Flight). record { sizes = c.self.inside.geometry; flights = l })
    (read_flies c.is_a_line.ensures.enter c.self.inside.geometry c.self.inside.order c.self.inside.writes c.enter.new.self c.self.inside.reading.items
    (set c.self.inside.reading.items c.args.caller.0 c.args.page) c.self.inside.kept.items c.self.inside.spare.items c.args.caller c.args.page
    c.self.invariant.0 known within out entered refl)
    ∙ ap (λ (f : FlightsView). record { sizes = f.sizes; flights = f.flights ++ Read c.args.caller c.args.page ∷ [] }) c.self.view_is
