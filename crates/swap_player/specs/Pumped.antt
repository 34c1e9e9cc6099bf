-- What a turn of a pump or of the operator made of the board under the lock, and what its pass has seen of that.
use Rattle.std.specs.Prelude.{◌≡◌, List}
use Rattle.swap_wire.specs.declared.Event.{Event}
use Rattle.swap_wire.specs.Fabric.{FabricCall, FabricAnswer}
use Rattle.swap_disk.specs.Port.{Port, DiskCall, DiskAnswer}
use Rattle.swap_world.specs.Runs.{WorldView}
use Rattle.swap_turn.specs.PassView.{PassView}
use Rattle.swap_board.specs.Boards.{BoardView, OperatesAs}
use Rattle.swap_board.specs.Works.{PumpsAs}
use Rattle.swap_board.specs.declared.works.Point.{Point}
use Rattle.swap_board.specs.declared.works.Moved.{Moved}
use Rattle.swap_board.specs.declared.works.Moved.TheVariants as moved
use Rattle.swap_board.specs.declared.board.Operated.{Operated}
use Rattle.swap_player.specs.declared.swap.Pumped.{Pumped}
use Rattle.swap_player.specs.declared.swap.Pumped.TheVariants as pumped

-- the world under the lock went so by the pump's work at a point, and the pass has seen the history that it then had
pub record PumpedBy {D F : Type 0} (disk_moves : D → (c : DiskCall) → DiskAnswer c → D → Type 0)
    (moves : F → (c : FabricCall) → FabricAnswer c → F → Type 0) (means : D → Port) (point : Point) (m : Moved)
    (q : PassView) : Type 0 where
  pub was : WorldView D F
  pub now : WorldView D F
  pub pumps : PumpsAs disk_moves moves means point m was now
  pub seen : q.seen ≡ now.core.device.history

-- so by its answer; where the gate held it there was no turn, and the pass is as it was
abbrev pub PumpedAs : {D F T : Type 0} → (D → (c : DiskCall) → DiskAnswer c → D → Type 0)
    → (F → (c : FabricCall) → FabricAnswer c → F → Type 0) → (D → Port) → Point → Pumped T → PassView → PassView
    → Type 0
PumpedAs disk_moves moves means point pumped.Did p q = PumpedBy disk_moves moves means point moved.Did q
PumpedAs disk_moves moves means point pumped.Nothing p q = PumpedBy disk_moves moves means point moved.Nothing q
PumpedAs disk_moves moves means point (pumped.Held why) p q = q ≡ p
PumpedAs disk_moves moves means point pumped.NoMemory p q = PumpedBy disk_moves moves means point moved.NoMemory q

-- the board under the lock went so by the operator's next event, and the pass has seen the history that it then had
pub record OperatedBy {D F : Type 0} (disk_moves : D → (c : DiskCall) → DiskAnswer c → D → Type 0)
    (moves : F → (c : FabricCall) → FabricAnswer c → F → Type 0) (events : List Event) (o : Operated)
    (q : PassView) : Type 0 where
  pub was : BoardView D F
  pub now : BoardView D F
  pub operates : OperatesAs disk_moves moves events o was now
  pub seen : q.seen ≡ now.world.core.device.history
