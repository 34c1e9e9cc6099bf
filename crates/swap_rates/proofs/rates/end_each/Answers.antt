use Rattle.std.proofs.Common.{arith, get_or}
use Rattle.std.proofs.lemmas.List.{get_or_default}
use Rattle.std.proofs.lemmas.List.Edits.{map_over_more}
use Rattle.swap_activity.specs.Rates.{end_period}
use Rattle.swap_rates.proofs.rates.end_each.Goals as goal

pub loop-rate-preserved : goal.loop-rate-preserved
loop-rate-preserved c =
    rw c.period.ensures
    (map_over_more end_period c.args.rates.now c.loop-rate.rates c.loop-rate.rate-index (get_or c.loop-rate.rates c.loop-rate.rate-index c.rate-item.result)
    (omega arith) c.loop-rate.invariant (get_or_default c.loop-rate.rates c.loop-rate.rate-index c.rate-item.result _ (omega arith)))
