use Rattle.std.proofs.Common.{◌≡◌}
use Rattle.swap_turn.specs.PassView.{IsFreeOf}
use Rattle.swap_play.proofs.callers.pump_while_busy.Given as goal

abbrev pub invariant-turns : goal.invariant-turns
invariant-turns g l = IsFreeOf l.fn.swap l.pass × (l.pass.number ≡ l.fn.pass.number)
