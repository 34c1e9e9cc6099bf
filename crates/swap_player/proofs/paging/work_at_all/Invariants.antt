use Rattle.std.proofs.Common.{◌≡◌}
use Rattle.swap_player.proofs.paging.work_at_all.Given as goal

abbrev pub invariant-links : goal.invariant-links
invariant-links g l = l.board.world.core.device.history ≡ l.fn.board.world.core.device.history
