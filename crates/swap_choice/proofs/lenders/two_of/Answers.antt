use Rattle.std.proofs.Common.{arith, ◌-◌, ◌%◌, length, ap, ◌∙◌}
use Rattle.swap_choice.proofs.PicksLemmas.{second_below, second_above}
use Rattle.swap_choice.proofs.lenders.two_of.Goals as goal

pub returns-then-j-i : goal.returns-then-j-i
returns-then-j-i c =
    let j_is = c.first_pick-j.ensures.place ∙ ap (λ w. w % (length c.args.list.now - 1)) c.first_pick-i.ensures.rest in
    second_below c.args.word c.args.list.now c.first_pick-i.result.0 c.first_pick-j.result.0 (omega arith) c.first_pick-i.ensures.place j_is c.if-j-i.true

pub returns-else-j-i : goal.returns-else-j-i
returns-else-j-i c =
    let j_is = c.first_pick-j.ensures.place ∙ ap (λ w. w % (length c.args.list.now - 1)) c.first_pick-i.ensures.rest in
    second_above c.args.word c.args.list.now c.first_pick-i.result.0 c.first_pick-j.result.0 (omega arith) c.first_pick-i.ensures.place j_is c.if-j-i.false
