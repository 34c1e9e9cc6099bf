use Rattle.std.proofs.Common.{◌≡◌, ◌+◌, true, false, ◌&&◌, find, is_some, sym, ap, ◌∙◌, subst}
use Rattle.swap_base.specs.Sizes.{Sizes, pages_of}
use Rattle.swap_places.specs.Line.{stands, AreBelow}
use Rattle.swap_disk.specs.Disk.{is_flight_of}
use Rattle.swap_disk.specs.Flights.{FlightsView, number_of, is_known}
use Rattle.swap_disk.proofs.Numbers.{has_is}
use Rattle.swap_disk.proofs.flight.Flights.has.Goals as goal

pub returns-then-knows : goal.returns-then-knows
returns-then-knows c =
    let sizes : c.self.inside.geometry ≡ c.args.self.now.sizes = ap (λ (f : FlightsView). f.sizes) c.self.view_is in
    let known : is_known c.self.inside.geometry c.args.which ≡ true =
    ap (λ (s : Sizes). is_known s c.args.which) sizes ∙ sym c.knows.ensures ∙ c.if-knows.true in
    let below : AreBelow (pages_of c.self.inside.geometry + c.self.inside.geometry.callers) c.self.inside.order.numbers =
    subst (λ b. AreBelow b c.self.inside.order.numbers) c.self.invariant.0.order_bound c.keeps.ensures.line.below in
    c.has.ensures ∙ ap (λ k. stands c.self.inside.order.numbers k) (c.number.ensures.number ∙ sym (ap (λ (s : Sizes). number_of s c.args.which) sizes))
    ∙ sym (ap (λ b. b && stands c.self.inside.order.numbers (number_of c.self.inside.geometry c.args.which)) known)
    ∙ has_is c.self.inside.geometry c.self.inside.reading.items c.self.inside.kept.items c.args.which c.self.inside.order.numbers below
    ∙ ap (λ (f : FlightsView). is_some (find (is_flight_of c.args.which) f.flights)) c.self.view_is

pub returns-else-knows : goal.returns-else-knows
returns-else-knows c =
    let sizes : c.self.inside.geometry ≡ c.args.self.now.sizes = ap (λ (f : FlightsView). f.sizes) c.self.view_is in
    let unknown : is_known c.self.inside.geometry c.args.which ≡ false =
    ap (λ (s : Sizes). is_known s c.args.which) sizes ∙ sym c.knows.ensures ∙ c.if-knows.false in
    let below : AreBelow (pages_of c.self.inside.geometry + c.self.inside.geometry.callers) c.self.inside.order.numbers =
    subst (λ b. AreBelow b c.self.inside.order.numbers) c.self.invariant.0.order_bound c.keeps.ensures.line.below in
    c.if-knows.false ∙ sym (ap (λ b. b && stands c.self.inside.order.numbers (number_of c.self.inside.geometry c.args.which)) unknown)
    ∙ has_is c.self.inside.geometry c.self.inside.reading.items c.self.inside.kept.items c.args.which c.self.inside.order.numbers below
    ∙ ap (λ (f : FlightsView). is_some (find (is_flight_of c.args.which) f.flights)) c.self.view_is
