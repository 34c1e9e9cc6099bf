use Rattle.std.proofs.Common.{arith, ap, ◌∙◌, ◌+◌}
use Rattle.std.proofs.lemmas.Bool.{both_ways}
use Rattle.swap_choice.specs.Slots.{has}
use Rattle.swap_choice.proofs.Chosen.{moved, size-with, size-without, size-zero, has-zero, start_split, not_chosen, below_more, is_part, is_left}
use Rattle.swap_choice.proofs.Ranks.{least_is}
use Rattle.swap_choice.proofs.sets.least.Goals as goal
use Rattle.swap_choice.proofs.sets.least.Goals.{After-loop-taken}
use Rattle.swap_choice.specs.Least.{IsLeast}

pub loop-taken-init : goal.loop-taken-init
loop-taken-init c = record {
  split = start_split c.args.among;
  count = size-zero;
  rest = omega arith;
  small = omega arith;
  below = λ i j iw jw is there. absurd (both_ways (has 0 i) (has-zero i) is);
}

pub loop-taken-preserved : goal.loop-taken-preserved
loop-taken-preserved c =
    let now = c.loop-taken in
    let before = c.loop-taken.invariant in
    let slot = c.least_slot-slot.result in
    let least = c.least_slot-slot.ensures in
    let with_it = c.with_slot-chosen.ensures.slots in
    let without_it = c.without_slot-left.ensures in
    let fresh = not_chosen (has now.chosen slot) (has now.left slot) (before.split.apart slot least.range) least.member in
    record {
      split = moved c.args.among now.chosen now.left c.with_slot-chosen.result c.without_slot-left.result slot before.split least.member with_it without_it;
      count = size-with now.chosen c.with_slot-chosen.result slot least.range fresh with_it ∙ ap (λ n. n + 1) before.count;
      rest = omega (arith, size-without now.left c.without_slot-left.result slot least.range least.member without_it, before.rest);
      small = c.with_slot-chosen.type_inv;
      below =
          below_more c.args.rates.now now.chosen now.left c.with_slot-chosen.result c.without_slot-left.result slot before.below least.least with_it without_it;
    }

all_least : (c : After-loop-taken) → IsLeast c.args.rates.now c.args.among c.args.count c.loop-taken.chosen
all_least c =
    let end = c.loop-taken.invariant in
    record {
      subset = λ slot within is. is_part c.args.among c.loop-taken.chosen c.loop-taken.left slot end.split within is;
      size = omega (arith, end.count);
      below =
          λ inside outside iw ow is there out.
          end.below inside outside iw ow is (is_left c.args.among c.loop-taken.chosen c.loop-taken.left outside end.split ow there out);
    }

pub returns-clause-least : goal.returns-clause-least
returns-clause-least c = all_least c

pub returns-clause-value : goal.returns-clause-value
returns-clause-value c = least_is c.args.rates.now c.args.among c.args.count c.loop-taken.chosen c.loop-taken.invariant.small (all_least c)
