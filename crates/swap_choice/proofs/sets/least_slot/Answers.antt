use Rattle.std.proofs.Common.{arith, sym, ◌∙◌}
use Rattle.swap_choice.proofs.Chosen.{slot_there, lowest_slot}
use Rattle.swap_choice.proofs.sets.least_slot.Goals as goal

pub loop-slot-init : goal.loop-slot-init
loop-slot-init c =
    let got = sym c.slot_at.ensures ∙ c.unwrap-best.ensures in
    let there = slot_there c.args.set 0 c.unwrap-best.result got in
    record {
      range = there.high;
      member = there.test;
      seen = λ i within is below. absurd (omega (arith, lowest_slot c.args.set c.unwrap-best.result i got within is));
      least = λ i below is. absurd (omega arith);
    }
