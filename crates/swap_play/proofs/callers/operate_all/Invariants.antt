use Rattle.std.proofs.Common.{◌≡◌}
use Rattle.swap_turn.specs.PassView.{IsFreeOf}
use Rattle.swap_play.proofs.callers.operate_all.Given as goal

abbrev pub invariant-events : goal.invariant-events
invariant-events g l = IsFreeOf l.fn.swap l.pass × (l.pass.number ≡ l.fn.pass.number)
