-- What holds of a trace that was played over ports of any kind.
use Rattle.std.specs.Prelude.{◌≡◌, ℕ, List, [], length, is_some}
use Rattle.std.specs.List.{AllByRecursion}
use Rattle.swap_disk.specs.declared.port.DiskPort.{Ghosts as DiskMeaning}
use Rattle.swap_wire.specs.declared.fabric.Fabric.{Ghosts as FabricMeaning}
use Rattle.swap_script.specs.Reading.{Script}
use Rattle.swap_table.specs.Device.{device_at_start}
use Rattle.swap_world.specs.Runs.{WorldView, IsRun, Written, HasParts, made_of, logged_of}
use Rattle.swap_world.specs.Laws.{Began, Holds}
use Rattle.swap_play.specs.Playing.{IsPlayedOut}

-- a device that nothing happened to, over these ports
pub record IsFirstOver {D F : Type 0} (t : Script) (disk : D) (fabric : F) (w : WorldView D F) : Type 0 where
  pub device : w.core.device ≡ device_at_start t.sizes (length t.lenders)
  pub disk_is : w.core.disk ≡ disk
  pub fabric_is : w.core.fabric ≡ fabric
  pub log : w.log ≡ []

-- The machine's run behind a played world, from the ports as they were given to the ports as they are: what had an
-- effect,
-- a Round by its parts, with what was seen of it. The log is its. The history is ordered; each page-in gives what it
-- may:
-- from nowhere, the queue, and a disk that tells its blocks its page's content, from a lender what answers it; it holds
-- each
-- caller's answered calls once, in its order; and it is exactly the entries that were seen, each failure with its
-- cause.
pub record IsRunOver {D F : Type 0} (disk : DiskMeaning D) (fabric : FabricMeaning F) (t : Script) (given : D) (net : F)
    (w : WorldView D F) : Type 0 where
  pub written : List Written
  pub parts : AllByRecursion HasParts written
  pub run : IsRun disk.moves fabric.moves (device_at_start t.sizes (length t.lenders)) given net
      (made_of written) w.core.device w.core.disk w.core.fabric
  pub logged : w.log ≡ logged_of written
  pub holds : Holds (is_some (disk.means given).blocks) fabric.answers t.sizes (made_of written) w.core.device

-- so it is of each trace that was played from a disk that was blank and a fabric of its sizes and lenders
abbrev pub PlaysAreRuns : {D F : Type 0} → DiskMeaning D → FabricMeaning F → Type 0
PlaysAreRuns {D} {F} disk fabric =
    (t : Script) (number : ℕ) (given : D) (net : F) (first w : WorldView D F)
    → Began disk fabric t.sizes (length t.lenders) given net → IsFirstOver t given net first
    → IsPlayedOut disk.moves fabric.moves t number first w → IsRunOver disk fabric t given net w

-- a trace was played over these ports, from a world that nothing happened in to this one
pub record WasPlayedOver {D F : Type 0} (disk : DiskMeaning D) (fabric : FabricMeaning F) (t : Script) (number : ℕ)
    (given : D) (net : F) (w : WorldView D F) : Type 0 where
  pub first : WorldView D F
  pub is_first : IsFirstOver t given net first
  pub played : IsPlayedOut disk.moves fabric.moves t number first w
  pub run : IsRunOver disk fabric t given net w
