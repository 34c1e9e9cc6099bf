use Rattle.std.proofs.Common.{◌≡◌, ◌++◌, take, drop, map}
use Rattle.swap_activity.specs.Rates.{end_period}
use Rattle.swap_rates.proofs.rates.end_each.Given as goal

abbrev pub invariant-loop-rate : goal.invariant-loop-rate
invariant-loop-rate l = l.rates ≡ map end_period (take l.rate-index l.initial.rates) ++ drop l.rate-index l.initial.rates
