use Rattle.std.proofs.Common.{◌≡◌, drop, None}
use Rattle.swap_rates.specs.Table.{best_from}
use Rattle.swap_rates.proofs.rates.best_of.Given as goal

abbrev pub invariant-loop-number : goal.invariant-loop-number
invariant-loop-number l = best_from l.hot l.rates (drop l.number l.slabs) l.number l.best ≡ best_from l.hot l.rates l.slabs 0 None
