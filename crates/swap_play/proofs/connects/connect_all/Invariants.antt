use Rattle.std.proofs.Common.{◌≡◌, length}
use Rattle.swap_table.specs.Device.{of_device}
use Rattle.swap_play.specs.Connects.{Connects}
use Rattle.swap_play.proofs.connects.connect_all.Given as goal

abbrev pub invariant-links : goal.invariant-links
invariant-links g l = record {
  connects : Connects g.D.DiskPort.moves g.F.Fabric.moves l.lender l.fn.world l.world;
  of : of_device l.world.core.device ≡ of_device l.fn.world.core.device;
  page : length l.page ≡ l.world.core.device.sizes.page_bytes;
}
