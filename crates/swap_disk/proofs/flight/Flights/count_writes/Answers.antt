use Rattle.std.proofs.Common.{length, ap, ◌∙◌}
use Rattle.swap_disk.specs.Port.{writes_in}
use Rattle.swap_disk.specs.Flights.{FlightsView}
use Rattle.swap_disk.proofs.Numbers.{writes_counted}
use Rattle.swap_disk.proofs.flight.Flights.count_writes.Goals as goal

pub returns : goal.returns
returns c =
    c.len.ensures ∙ ap length c.self.invariant.0.writes_are
    ∙ writes_counted c.self.inside.geometry c.self.inside.reading.items c.self.inside.kept.items c.self.inside.order.numbers
    ∙ ap (λ (f : FlightsView). writes_in f.flights) c.self.view_is
