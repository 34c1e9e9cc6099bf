use Rattle.std.proofs.Common.{ℕ, sym, ap, ◌∙◌, option_map, Option, Some}
use Rattle.swap_base.specs.declared.DiskWhich.{DiskWhich}
use Rattle.swap_disk.specs.Port.{oldest_in}
use Rattle.swap_disk.specs.Flights.{FlightsView, which_at}
use Rattle.swap_disk.proofs.Numbers.{oldest_is}
use Rattle.swap_disk.proofs.flight.Flights.oldest.Goals as goal

pub returns : goal.returns
returns c =
    ap (λ (w : DiskWhich). Some w) c.which_of.ensures
    ∙ ap (λ (o : Option ℕ). option_map (λ n. which_at c.self.inside.geometry n) o) (sym c.in_ok-number.was ∙ c.first.ensures.number)
    ∙ oldest_is c.self.inside.geometry c.self.inside.reading.items c.self.inside.kept.items c.self.inside.order.numbers
    ∙ ap (λ (f : FlightsView). oldest_in f.flights) c.self.view_is
