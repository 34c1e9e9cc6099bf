-- What holds of a device over these ports, whatever happens to it.
use Rattle.std.specs.Prelude.{◌≡◌, ℕ, ◌≤◌, List, is_some}
use Rattle.swap_base.specs.Sizes.{Sizes}
use Rattle.swap_wire.specs.Input.{Input}
use Rattle.swap_wire.specs.declared.Seen.{Seen}
use Rattle.swap_wire.specs.Fabric.{FabricCall, FabricAnswer, FabricOf}
use Rattle.swap_disk.specs.Port.{Port, DiskCall, DiskAnswer}
use Rattle.swap_base.specs.declared.TheConstants.{MOST_LENDERS}
use Rattle.swap_table.specs.Device.{Device, device_at_start}
use Rattle.swap_table.specs.Fits.{IsBlank}
use Rattle.swap_world.specs.Laws.{Holds}
use Rattle.swap_world.specs.Runs.{IsRun}

-- After every run of events over a disk that was blank and a fabric of these sizes and so many lenders: the history is
-- ordered, each page-in from zeros or the queue is faithful, from the disk too where it tells its blocks, from a lender
-- as far as the fabric's answers tell, each caller's calls were answered once, in order, and each failure has its
-- cause.
abbrev pub HoldsOver : {D F : Type 0} → (D → Port) → (D → (c : DiskCall) → DiskAnswer c → D → Type 0)
    → (F → FabricOf) → (F → (c : FabricCall) → FabricAnswer c → F → Type 0) → (List ℕ → List ℕ → Type 0) → Type 0
HoldsOver {D} {F} means disk_moves of moves answers =
    (s : Sizes) (n : ℕ) (first : D) (first_fabric : F) (made : List (Input × Seen)) (d : Device) (k : D) (f : F)
    → IsBlank s (means first) → of first_fabric ≡ record { sizes = s; lenders = n } → n ≤ MOST_LENDERS
    → IsRun disk_moves moves (device_at_start s n) first first_fabric made d k f
    → Holds (is_some (means first).blocks) answers s made d

-- a fabric that promises nothing of pages takes any for an answer
abbrev pub AnyPage : List ℕ → List ℕ → Type 0
AnyPage page given = Unit {0}
