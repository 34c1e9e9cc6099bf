use Rattle.std.proofs.Common.{◌≡◌, ◌+◌, ◌-◌, ◌^◌, take, bit_or}
use Rattle.std.specs.List.{fold}
use Rattle.swap_choice.specs.Picks.{picks}
use Rattle.swap_choice.specs.Slots.{slots, size, set_of}
use Rattle.swap_choice.proofs.Chosen.{Split}
use Rattle.swap_choice.proofs.sets.picked.Given as goal

abbrev pub invariant-loop-taken : goal.invariant-loop-taken
invariant-loop-taken l = record {
  split : Split l.held l.chosen l.left;
  count : size l.chosen ≡ l._taken;
  rest : size l.left + l._taken ≡ size l.held;
  picks : fold (λ set slot. bit_or set (2 ^ slot)) l.chosen (take (l.count - l._taken) (picks l.rest (slots l.left)))
      ≡ set_of (take l.count (picks l.word (slots l.held)));
}
