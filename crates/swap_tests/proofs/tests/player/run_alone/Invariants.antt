use Rattle.std.proofs.Common.{Some, []}
use Rattle.swap_tests.proofs.tests.player.run_alone.Given as goal

abbrev pub ghosts-call_once : goal.ghosts-call_once
ghosts-call_once g a =
    record {
      named =
          record { opening = Some a.world; sizes = a.world.core.device.sizes; lenders = a.world.core.device.lenders; operator = []; calls = 1; number = 1 };
    }
