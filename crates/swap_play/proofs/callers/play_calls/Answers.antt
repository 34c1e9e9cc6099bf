use Rattle.std.proofs.Common.{◌≡◌, ◌∙◌, sym, subst, Some}
use Rattle.swap_script.specs.Reading.{Script, first_event}
use Rattle.swap_play.specs.Callers.{AreCallsOf, Plays, caller}
use Rattle.swap_play.proofs.Walking.{next_left, next_plays}
use Rattle.swap_play.proofs.callers.play_calls.Goals as goal

pub calls-preserved : goal.calls-preserved
calls-preserved g c =
    let n = g.N.Naming.named in
    let inv = c.calls.invariant in
    let own = caller c.args.pass.now.number in
    let is : first_event c.calls.left.inputs ≡ Some c.in-Some.event = sym c.next.ensures.event ∙ c.in-Some.is in
    let P : Script → Type 0 = AreCallsOf n.sizes n.lenders own in
    record {
      free = c.play_call.ensures.pass.0;
      number = c.play_call.ensures.pass.1 ∙ inv.number;
      left = subst P (sym c.next.ensures.left) (next_left n.sizes n.lenders own c.calls.left inv.left);
      page = c.play_call.auto.page ∙ c.next.auto.page ∙ inv.page;
      plays = λ now more.
          let Q : Script → Type 0 = λ l. Plays l.inputs c.play_call.new.pass.mine now in
          inv.plays now
          (next_plays c.calls.left c.in-Some.event c.calls.page c.next.new.page c.calls.pass.mine c.play_call.new.pass.mine now is c.next.ensures.page
          (c.play_call.ensures.plays c.if-not-play_call.false) (subst Q c.next.ensures.left more));
    }
