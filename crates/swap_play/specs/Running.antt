-- Acts are a run of the machine.
use Rattle.std.specs.Prelude.{◌≡◌, ◌++◌, ℕ, List}
use Rattle.std.specs.List.{AllByRecursion}
use Rattle.swap_base.specs.Sizes.{Sizes}
use Rattle.swap_wire.specs.declared.Event.{Event}
use Rattle.swap_wire.specs.declared.Seen.{Seen}
use Rattle.swap_disk.specs.Port.{DiskCall, DiskAnswer}
use Rattle.swap_disk.specs.declared.port.DiskPort.{Ghosts as DiskMeaning}
use Rattle.swap_wire.specs.Fabric.{FabricCall, FabricAnswer}
use Rattle.swap_wire.specs.declared.fabric.Fabric.{Ghosts as FabricMeaning}
use Rattle.swap_table.specs.Device.{Device, device_at_start}
use Rattle.swap_world.specs.Runs.{IsRun, Written, HasParts, made_of, logged_of}
use Rattle.swap_world.specs.Laws.{Began}
use Rattle.swap_board.specs.Acts.{Act, IsActed, lines_of}

-- events that had an effect, a Round by its parts, led from one device and its ports to another, and left these lines
pub record RunsTo {D F : Type 0} (disk_moves : D → (c : DiskCall) → DiskAnswer c → D → Type 0)
    (moves : F → (c : FabricCall) → FabricAnswer c → F → Type 0) (first : Device) (disk : D) (fabric : F)
    (log : List (Event × Seen)) (d : Device) (k : D) (f : F) : Type 0 where
  pub written : List Written
  pub parts : AllByRecursion HasParts written
  pub run : IsRun disk_moves moves first disk fabric (made_of written) d k f
  pub logged : log ≡ logged_of written

-- what is made behind a run is a run, with its lines behind those of the first
abbrev pub ActsAreRuns : {D F : Type 0} → DiskMeaning D → FabricMeaning F → Type 0
ActsAreRuns {D} {F} disk fabric =
    (s : Sizes) (n : ℕ) (first : D) (first_fabric : F) (log : List (Event × Seen)) (d : Device) (k : D) (f : F)
    (acts : List Act) (d' : Device) (k' : D) (f' : F)
    → Began disk fabric s n first first_fabric
    → RunsTo disk.moves fabric.moves (device_at_start s n) first first_fabric log d k f
    → IsActed disk.moves fabric.moves d k f acts d' k' f'
    → RunsTo disk.moves fabric.moves (device_at_start s n) first first_fabric (log ++ lines_of acts) d' k' f'
