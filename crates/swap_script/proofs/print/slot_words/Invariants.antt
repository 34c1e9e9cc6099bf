use Rattle.std.proofs.Common.{◌≡◌, ◌+◌, ◌*◌, ◌≤◌, ◌++◌, length, map, decimal, filter}
use Rattle.std.specs.List.{range_with_len}
use Rattle.swap_choice.specs.Slots.{has}
use Rattle.swap_script.specs.Lines.{words_behind}
use Rattle.swap_script.proofs.print.slot_words.Given as goal

abbrev pub invariant-loop-slot : goal.invariant-loop-slot
invariant-loop-slot l = record {
  text : l.out ≡ l.initial.out ++ words_behind (map decimal (filter (has l.set) (range_with_len 0 l.slot)));
  room : length l.out ≤ length l.initial.out + 21 * l.slot;
}
