use Rattle.std.proofs.Common.{arith, ◌≡◌, ◌+◌, ◌-◌, ◌%◌, ◌/◌, ◌^◌, bit_or, take, Some, sym, ap, ◌∙◌}
use Rattle.std.specs.List.{fold, slice_get}
use Rattle.swap_choice.specs.Picks.{picks}
use Rattle.swap_choice.specs.Slots.{has, slots}
use Rattle.swap_choice.proofs.Chosen.{slot_there, slots-without, some_within, moved, size-with, size-without, size-zero, start_split, not_chosen, picks_step}
use Rattle.swap_choice.proofs.sets.picked.Goals as goal

pub loop-taken-init : goal.loop-taken-init
loop-taken-init c = record {
  split = start_split c.args.held;
  count = size-zero;
  rest = omega arith;
  picks =
      let all : c.args.count - 0 ≡ c.args.count = omega arith in
      ap (λ k. fold (λ set slot. bit_or set (2 ^ slot)) 0 (take k (picks c.args.word (slots c.args.held)))) all;
}

pub unwrap-slot-requires : goal.unwrap-slot-requires
unwrap-slot-requires c =
    rw c.slot_at.ensures
    (some_within (slots c.loop-taken.left) c.first_pick-place.result.0 (omega (arith, c.first_pick-place.ensures.within, c.slot_count.ensures)))

pub with_slot-chosen-requires : goal.with_slot-chosen-requires
with_slot-chosen-requires c =
    (slot_there c.loop-taken.left c.first_pick-place.result.0 c.unwrap-slot.result (sym c.slot_at.ensures ∙ c.unwrap-slot.ensures)).high

pub without_slot-left-requires : goal.without_slot-left-requires
without_slot-left-requires c =
    (slot_there c.loop-taken.left c.first_pick-place.result.0 c.unwrap-slot.result (sym c.slot_at.ensures ∙ c.unwrap-slot.ensures)).high

pub loop-taken-preserved : goal.loop-taken-preserved
loop-taken-preserved c =
    let now = c.loop-taken in
    let before = c.loop-taken.invariant in
    let slot = c.unwrap-slot.result in
    let place = c.first_pick-place.result.0 in
    let got : slice_get (slots now.left) place ≡ Some slot = sym c.slot_at.ensures ∙ c.unwrap-slot.ensures in
    let there = slot_there now.left place slot got in
    let with_it = c.with_slot-chosen.ensures.slots in
    let without_it = c.without_slot-left.ensures in
    let fresh = not_chosen (has now.chosen slot) (has now.left slot) (before.split.apart slot there.high) there.test in
    record {
      split = moved c.args.held now.chosen now.left c.with_slot-chosen.result c.without_slot-left.result slot before.split there.test with_it without_it;
      count = size-with now.chosen c.with_slot-chosen.result slot there.high fresh with_it ∙ ap (λ n. n + 1) before.count;
      rest = omega (arith, size-without now.left c.without_slot-left.result slot there.high there.test without_it, before.rest);
      picks =
          picks_step
          (λ set s. bit_or set (2 ^ s)) now.chosen c.with_slot-chosen.result now.rest c.first_pick-place.result.1 now.left c.without_slot-left.result place slot
          c.args.count now._taken _
          (omega arith) (omega (arith, c.first_pick-place.ensures.within, c.slot_count.ensures))
          (c.first_pick-place.ensures.place ∙ ap (λ n. now.rest % n) c.slot_count.ensures)
          (c.first_pick-place.ensures.rest ∙ ap (λ n. now.rest / n) c.slot_count.ensures) got c.with_slot-chosen.ensures.value
          (slots-without now.left c.without_slot-left.result place slot got without_it) before.picks;
    }
