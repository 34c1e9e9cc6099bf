use Rattle.std.proofs.Common.{arith, get_or}
use Rattle.std.proofs.lemmas.List.{get_or_default}
use Rattle.std.proofs.lemmas.List.Edits.{map_over_more}
use Rattle.swap_lender.specs.declared.SlotState.TheVariants.{Free}
use Rattle.swap_lender.specs.Table.{free_slot}
use Rattle.swap_lender.proofs.slots.free_all.Goals as goal

pub loop-state-preserved : goal.loop-state-preserved
loop-state-preserved c =
    rw c.freed.ensures
    (map_over_more (λ state. free_slot c.args.link state) c.args.slots.now c.loop-state.slots c.loop-state.state-index
    (get_or c.loop-state.slots c.loop-state.state-index Free)
    (omega arith) c.loop-state.invariant (get_or_default c.loop-state.slots c.loop-state.state-index Free _ (omega arith)))
