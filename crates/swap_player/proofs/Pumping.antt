-- What pumps and the operator leave of a history.
use Rattle.std.proofs.Common.{◌≡◌, ℕ, List, refl, ap}
use Rattle.swap_wire.specs.declared.Event.{Event}
use Rattle.swap_wire.specs.Fabric.{FabricCall, FabricAnswer}
use Rattle.swap_disk.specs.Port.{Port, DiskCall, DiskAnswer}
use Rattle.swap_table.specs.Device.{Device}
use Rattle.swap_world.specs.Runs.{WorldView}
use Rattle.swap_board.specs.Works.{PumpsAs}
use Rattle.swap_board.specs.Boards.{BoardView, OperatesAs}
use Rattle.swap_board.specs.declared.works.Point.{Point}
use Rattle.swap_board.specs.declared.works.Moved.{Moved}
use Rattle.swap_board.specs.declared.works.Moved.TheVariants as moved
use Rattle.swap_board.specs.declared.board.Operated.{Operated}
use Rattle.swap_board.specs.declared.board.Operated.TheVariants as operating

module _ {D F : Type 0} (disk_moves : D → (c : DiskCall) → DiskAnswer c → D → Type 0) (moves : F → (c : FabricCall) → FabricAnswer c → F → Type 0) where
  pub pumped_history :
      (means : D → Port) (p : Point) (m : Moved) (w w' : WorldView D F) → PumpsAs disk_moves moves means p m w w'
      → w'.core.device.history ≡ w.core.device.history
  pumped_history means p moved.Did w w' pumps = pumps.works.history
  pumped_history means p moved.Nothing w w' pumps = pumps.works.history
  pumped_history means p moved.NoMemory w w' same = ap (λ (d : Device). d.history) same.device

  pub operated_history :
      (es : List Event) (o : Operated) (b b' : BoardView D F) → OperatesAs disk_moves moves es o b b'
      → b'.world.core.device.history ≡ b.world.core.device.history
  operated_history es operating.Made b b' operates = operates.works.history
  operated_history es operating.Nothing b b' operates = operates.works.history
  operated_history es operating.Ended b b' ended = ap (λ (x : BoardView D F). x.world.core.device.history) ended.1
  operated_history es operating.NoMemory b b' stays = ap (λ (d : Device). d.history) stays.world.device
