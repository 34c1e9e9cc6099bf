use Rattle.std.proofs.Common.{◌≡◌, length}
use Rattle.swap_record.specs.History.{History}
use Rattle.swap_turn.specs.PassView.{IsFreeOf}
use Rattle.swap_play.specs.Callers.{AreCallsOf, Plays, caller}
use Rattle.swap_play.proofs.callers.play_calls.Given as goal

abbrev pub invariant-calls : goal.invariant-calls
invariant-calls g l = record {
  free : IsFreeOf l.fn.swap l.pass;
  number : l.pass.number ≡ l.fn.pass.number;
  left : AreCallsOf g.N.Naming.named.sizes g.N.Naming.named.lenders (caller l.fn.pass.number) l.left;
  page : length l.page ≡ g.N.Naming.named.sizes.page_bytes;
  plays : (now : History) → Plays l.left.inputs l.pass.mine now → Plays l.fn.calls.inputs l.fn.pass.mine now;
}

abbrev pub decreases-calls : goal.decreases-calls
decreases-calls g l = length l.left.inputs
