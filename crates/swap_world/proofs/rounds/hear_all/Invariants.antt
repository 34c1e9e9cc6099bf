use Rattle.std.proofs.Common.{◌*◌, ◌≡◌, ◌≤◌, ℕ}
use Rattle.swap_table.specs.Device.{of_device}
use Rattle.swap_device.specs.State.{KeepsRoom}
use Rattle.swap_world.proofs.RoundsKeepPlans.{HeardOn}
use Rattle.swap_world.proofs.rounds.hear_all.Given as goal

abbrev pub invariant-each : goal.invariant-each
invariant-each g l = record {
  heard : HeardOn g.D.DiskPort.moves g.F.Fabric.moves l.fn.times l.fn.lenders l.number l.fn.device l.device l.effects;
  room : KeepsRoom l.fn.device l.device;
  of : of_device l.device.device ≡ of_device l.fn.device.device;
  most : l.effects ≤ 260 * l.number;
}
