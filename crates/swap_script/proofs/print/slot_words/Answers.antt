-- One more number below 64.
use Rattle.std.proofs.Common.{◌≡◌, ◌++◌, [], ◌∷◌, ap, sym, ◌∙◌, arith, append_assoc, map, decimal, cond}
use Rattle.std.specs.List.{filter, range_with_len}
use Rattle.swap_choice.specs.Slots.{has, slots}
use Rattle.swap_script.specs.Lines.{words_behind}
use Rattle.swap_script.proofs.Spaced.{led-numbers_more}
use Rattle.swap_script.proofs.print.slot_words.Goals as goal

pub loop-slot-preserved : goal.loop-slot-preserved
loop-slot-preserved c =
    let below = words_behind (map decimal (filter (has c.args.set) (range_with_len 0 c.loop-slot.slot))) in
    let one = words_behind (cond (has c.args.set c.loop-slot.slot) (decimal c.loop-slot.slot ∷ []) []) in
    record {
      text =
          c.slot_word.ensures.text ∙ ap (λ o. o ++ one) c.loop-slot.invariant.text ∙ append_assoc c.args.out.now below one
          ∙ ap (λ l. c.args.out.now ++ l) (sym (led-numbers_more (has c.args.set) c.loop-slot.slot));
      room = omega arith;
    }

pub returns-clause-text : goal.returns-clause-text
unfolding slots
returns-clause-text c =
    let all : c.loop-slot.slot ≡ 64 = omega arith in
    c.loop-slot.invariant.text ∙ ap (λ n. c.args.out.now ++ words_behind (map decimal (filter (has c.args.set) (range_with_len 0 n)))) all
