use Rattle.std.proofs.Common.{◌≡◌}
use Rattle.swap_turn.specs.PassView.{IsFreeOf}
use Rattle.swap_player.specs.Turns.{Looked}
use Rattle.swap_player.proofs.swap.Swap.call.Given as goal

abbrev pub invariant-steps : goal.invariant-steps
invariant-steps g l = IsFreeOf l.fn.self l.pass × (l.pass.number ≡ l.fn.pass.number) × Looked l.fn.pass l.pass × (l.page ≡ l.fn.page)
