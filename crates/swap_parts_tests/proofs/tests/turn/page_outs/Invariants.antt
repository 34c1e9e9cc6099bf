use Rattle.std.proofs.Common.{◌≡◌}
use Rattle.swap_turn.specs.PassView.{IsFreeOf}
use Rattle.swap_parts_tests.proofs.tests.turn.page_outs.Given as goal

abbrev pub invariant-pages : goal.invariant-pages
invariant-pages g l = IsFreeOf l.lock l.pass × (l.pass.number ≡ l.initial.pass.number)
