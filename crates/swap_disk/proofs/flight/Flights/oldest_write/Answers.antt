use Rattle.std.proofs.Common.{ℕ, List, slice_get, sym, ap, ◌∙◌, option_map, Option}
use Rattle.swap_disk.specs.Port.{oldest_write_in}
use Rattle.swap_disk.specs.Flights.{FlightsView}
use Rattle.swap_disk.proofs.Numbers.{page_numbered, oldest_write_is}
use Rattle.swap_disk.proofs.flight.Flights.oldest_write.Goals as goal

pub returns-in_err-number : goal.returns-in_err-number
returns-in_err-number c =
    c.from_residual.ensures
    ∙ ap (λ (o : Option ℕ). option_map page_numbered o)
    (sym c.in_err-number.was ∙ c.first.ensures.number ∙ ap (λ (l : List ℕ). slice_get l 0) c.self.invariant.0.writes_are)
    ∙ oldest_write_is c.self.inside.geometry c.self.inside.reading.items c.self.inside.kept.items c.self.inside.order.numbers
    ∙ ap (λ (f : FlightsView). oldest_write_in f.flights) c.self.view_is

pub returns : goal.returns
returns c =
    ap (λ (o : Option ℕ). option_map page_numbered o)
    (sym c.in_ok-number.was ∙ c.first.ensures.number ∙ ap (λ (l : List ℕ). slice_get l 0) c.self.invariant.0.writes_are)
    ∙ oldest_write_is c.self.inside.geometry c.self.inside.reading.items c.self.inside.kept.items c.self.inside.order.numbers
    ∙ ap (λ (f : FlightsView). oldest_write_in f.flights) c.self.view_is
