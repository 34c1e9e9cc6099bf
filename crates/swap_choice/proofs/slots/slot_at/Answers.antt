use Rattle.std.proofs.Common.{rules, tests, refl}
use Rattle.std.proofs.lemmas.Iterator.{YieldsList-from_range}
use Rattle.std.proofs.lemmas.Iterator.Consumers.{nth_from_yields_List, YieldsList-from_filter}
use Rattle.swap_choice.specs.Slots.{has}
use Rattle.swap_choice.proofs.SlotsLemmas.{slot_at_is}
use Rattle.swap_choice.proofs.slots.slot_at.Goals as goal

pub returns : goal.returns
returns c =
    slot_at_is c.args.set c.args.place c.nth.result
    (nth_from_yields_List c.nth.result _ c.args.place c.nth.ensures.ran
    (YieldsList-from_filter _ (has c.args.set) (YieldsList-from_range 0 64 64 (search rules) refl) c.filter.ensures.closure
    (λ x r q k. search (rules, tests))))
