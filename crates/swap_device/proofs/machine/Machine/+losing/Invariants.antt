use Rattle.std.proofs.Common.{◌≡◌, ◌-◌, ◌*◌, ◌+◌}
use Rattle.swap_device.specs.State.{IsReady, LeavesRest, lose_in_turn}
use Rattle.swap_device.proofs.Falls.{ComesOf}
use Rattle.swap_device.proofs.machine.Machine.+losing.Given as goal

abbrev pub decreases-fall : goal.decreases-fall
decreases-fall g l = 3 * l.more

abbrev pub decreases-give_up : goal.decreases-give_up
decreases-give_up g l = 3 * l.more + 2

abbrev pub decreases-choose : goal.decreases-choose
decreases-choose g l = 3 * l.more + 1

abbrev pub invariant-fall-loop-number : goal.invariant-fall-loop-number
invariant-fall-loop-number g l = record {
  comes : ComesOf g.D.DiskPort.moves g.F.Fabric.moves
      (lose_in_turn (l.more - 1)) l.slabs l.number l.lender l.self.device l.self.disk l.self.fabric l.initial.self.device l.initial.self.disk
      l.initial.self.fabric;
  slabs : l.self.device.sizes.slabs ≡ l.slabs;
  ready : IsReady g.F.Fabric l.self;
  rest : LeavesRest l.initial.self l.self;
}
