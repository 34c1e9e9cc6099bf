use Rattle.std.proofs.Common.{◌-◌, ◌≡◌, ◌≤◌, ℕ}
use Rattle.swap_wire.specs.declared.Event.TheVariants as event
use Rattle.swap_table.specs.Device.{of_device}
use Rattle.swap_device.specs.State.{KeepsRoom}
use Rattle.swap_world.proofs.RoundsKeepPlans.{GoesOn}
use Rattle.swap_world.proofs.rounds.take_all.Given as goal

abbrev pub invariant-messages : goal.invariant-messages
invariant-messages g l = record {
  goes : GoesOn g.D.DiskPort.moves g.F.Fabric.moves (event.Take l.fn.lender) l.fn.times l.fn.device l.device l.effects;
  room : KeepsRoom l.fn.device l.device;
  of : of_device l.device.device ≡ of_device l.fn.device.device;
  most : l.effects ≤ l.fn.times;
}

abbrev pub decreases-messages : goal.decreases-messages
decreases-messages g l = l.times - l.effects
