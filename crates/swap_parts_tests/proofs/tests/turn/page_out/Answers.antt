use Rattle.std.proofs.Common.{ℕ, ap, subst, sym, ◌∙◌}
use Rattle.swap_record.specs.History.{History}
use Rattle.swap_turn.specs.PassView.{PassView}
use Rattle.swap_turn.specs.Turns.{Extends, IsEarlier}
use Rattle.swap_turn.proofs.Earlier.{earlier_trans}
use Rattle.swap_parts_tests.proofs.tests.turn.page_out.Goals as goal

pub give-requires-clause-own : goal.give-requires-clause-own
give-requires-clause-own g c =
    let seen = ap (λ (p : PassView). p.seen) c.take-turn.ensures.turn in
    let number = ap (λ (p : PassView). p.number) c.take-turn.ensures.turn in
    let lent = ap (λ log. log.record.history) c.value.ensures.value in
    subst (λ (n : ℕ). Extends n c.take-turn.result.seat.me.0.seen c.page_out-outcome.new.self.record.history) (c.number-caller.ensures ∙ sym number)
    (subst (λ (H : History). Extends c.number-caller.result H c.page_out-outcome.new.self.record.history) (lent ∙ sym seen) c.page_out-outcome.ensures)

pub returns-clause-seen : goal.returns-clause-seen
returns-clause-seen g c =
    earlier_trans _ _ _ c.take-turn.ensures.seen
    (subst (λ (H : History). IsEarlier H c.give.new.pass.seen) (ap (λ (p : PassView). p.seen) c.take-turn.ensures.turn) c.give.ensures.seen)
