-- A set bit means that the remote copy is the newest, and a lent slab has one owner, after every run.
use Rattle.std.specs.Prelude.{◌≡◌, ℕ, ◌≤◌, false, List, length, take}
use Rattle.swap_base.specs.declared.geometry.LenderSpec.{LenderSpec}
use Rattle.swap_base.specs.Sizes.{Sizes}
use Rattle.swap_wire.specs.declared.Seen.{Seen}
use Rattle.swap_wire.specs.Input.{Input, IsInRange}
use Rattle.swap_wire.specs.declared.Event.{Event}
use Rattle.swap_disk.specs.declared.port.DiskPort.{Ghosts as DiskMeaning}
use Rattle.swap_base.specs.declared.TheConstants.{MOST_LENDERS}
use Rattle.swap_link.specs.Harbor as harbor
use Rattle.swap_link.specs.Harbor.{Harbor}
use Rattle.swap_table.specs.Device.{Device, device_at_start}
use Rattle.swap_table.specs.Fits.{IsBlank}
use Rattle.swap_table.specs.Goes.{AllAsked}
use Rattle.swap_table.specs.Happens.{happens}
use Rattle.swap_joint.specs.Owned.{IsLent}
use Rattle.swap_joint.specs.Sends.{FindsUp}
use Rattle.swap_joint.specs.Lies.{is_lied, is_ended}
use Rattle.swap_world.specs.Runs.{IsRun}
use Rattle.swap_world.specs.Laws.{AreInputs}
use Rattle.swap_world.specs.World.{World, IsStep, start, reach}

-- over the disk and the lenders in memory, after each front of every list of events
abbrev pub AlwaysLent : Type 0
AlwaysLent =
    (s : Sizes) (specs : List LenderSpec) (is : List Input) (n : ℕ) → length specs ≤ MOST_LENDERS → AreInputs s specs is
    → let w : World = reach (start s specs) (take n is) in
    IsLent w.device w.harbor

-- a device over any disk and lenders in memory: what its lenders hold, and of whatever event comes next, whatever the
-- disk answers, that each send is taken, that no message of a lender is one that it may not send, and that no lender
-- ends a link by what the device sent
pub record Holds {D : Type 0} (disk : DiskMeaning D) (d : Device) (k : D) (h : Harbor) : Type 0 where
  pub lent : IsLent d h
  pub taken :
      (page : List ℕ) (e : Event) → IsInRange d.sizes d.lenders e
      → AllAsked disk.moves harbor.Moves FindsUp (happens d page e) k h
  pub honest :
      (i : Input) (s : Seen) (d' : Device) (k' : D) (h' : Harbor) → IsInRange d.sizes d.lenders i.event
      → IsStep disk.moves harbor.Moves d k h i s d' k' h' → is_lied s ≡ false
  pub heeded :
      (i : Input) (s : Seen) (d' : Device) (k' : D) (h' : Harbor) → IsInRange d.sizes d.lenders i.event
      → IsStep disk.moves harbor.Moves d k h i s d' k' h' → is_ended s ≡ false

-- it holds after every run over a disk that was blank and lenders as they are made
abbrev pub HoldsAfterEach : {D : Type 0} → DiskMeaning D → Type 0
HoldsAfterEach {D} disk =
    (s : Sizes) (n : ℕ) (first : D) (harbor_first : Harbor) (made : List (Input × Seen)) (d : Device) (k : D)
    (h : Harbor)
    → IsBlank s (disk.means first) → harbor.IsFresh harbor_first (record { sizes = s; lenders = n }) → n ≤ MOST_LENDERS
    → IsRun disk.moves harbor.Moves (device_at_start s n) first harbor_first made d k h → Holds disk d k h
