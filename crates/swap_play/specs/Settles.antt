-- How a trace ends: all copies are on the disk and nothing moves on a link, or the disk failed a write.
use Rattle.std.specs.Prelude.{◌≡◌, ◌+◌, ◌⊎◌, ℕ, true, false, List, [], ◌∷◌, Some, slice_get}
use Rattle.swap_wire.specs.declared.Event.{Event}
use Rattle.swap_wire.specs.declared.Seen.{Seen}
use Rattle.swap_wire.specs.declared.Event.TheVariants as event
use Rattle.swap_disk.specs.Port.{DiskCall, DiskAnswer}
use Rattle.swap_wire.specs.Fabric.{FabricCall, FabricAnswer}
use Rattle.swap_queue.specs.Queue.{copies}
use Rattle.swap_world.specs.Failures.{is_write_failed}
use Rattle.swap_world.specs.Runs.{WorldView, has_effect}
use Rattle.swap_board.specs.Acts.{Act, Made, Player, Makes}
use Rattle.swap_board.specs.Boards.{BoardView}

-- a Give, and a Take, of this lender
abbrev pub give : ℕ → List ℕ → Seen → Act
give n page s = Made Player (record { event = event.Give (record { 0 = n }); page = page }) s

abbrev pub get : ℕ → List ℕ → Seen → Act
get n page s = Made Player (record { event = event.Take (record { 0 = n }); page = page }) s

-- a Give and then a Take of each of the first so many lenders, ascending, none with an effect; the newest stands first
pub data AreQuiet : ℕ → List Act → Type 0 where
  none : AreQuiet 0 []
  more : {n : ℕ} {acts : List Act} (page : List ℕ) (gave : Seen) (page' : List ℕ) (took : Seen)
      → AreQuiet n acts → has_effect (event.Give (record { 0 = n })) gave ≡ false
      → has_effect (event.Take (record { 0 = n })) took ≡ false
      → AreQuiet (n + 1) (get n page' took ∷ give n page gave ∷ acts)

-- a world was left so by the last that was made: each lender, and then the device, found nothing on its link
pub record LinksAreQuiet {D F : Type 0} (disk_moves : D → (c : DiskCall) → DiskAnswer c → D → Type 0)
    (moves : F → (c : FabricCall) → FabricAnswer c → F → Type 0) (lenders : ℕ) (w : WorldView D F) : Type 0 where
  pub before : WorldView D F
  pub acts : List Act
  pub are : AreQuiet lenders acts
  pub makes : Makes disk_moves moves acts before w

-- so of one lender
pub record LinkIsQuiet {D F : Type 0} (disk_moves : D → (c : DiskCall) → DiskAnswer c → D → Type 0)
    (moves : F → (c : FabricCall) → FabricAnswer c → F → Type 0) (n : ℕ) (before w : WorldView D F) : Type 0 where
  pub page : List ℕ
  pub gave : Seen
  pub gave_nothing : has_effect (event.Give (record { 0 = n })) gave ≡ false
  pub page' : List ℕ
  pub took : Seen
  pub took_nothing : has_effect (event.Take (record { 0 = n })) took ≡ false
  pub makes : Makes disk_moves moves (get n page' took ∷ give n page gave ∷ []) before w

-- a disk write was seen to fail
pub record WriteFailed (log : List (Event × Seen)) : Type 0 where
  pub at : ℕ
  pub line : Event × Seen
  pub stands : slice_get log at ≡ Some line
  pub failed : is_write_failed line.1 ≡ true

-- the queue is empty and the links are quiet, or a disk write failed
abbrev pub Settles :
    {D F : Type 0} → (D → (c : DiskCall) → DiskAnswer c → D → Type 0)
    → (F → (c : FabricCall) → FabricAnswer c → F → Type 0) → ℕ → WorldView D F → Type 0
Settles disk_moves moves lenders w =
    ((copies w.core.device.queue ≡ 0) × LinksAreQuiet disk_moves moves lenders w) ⊎ WriteFailed w.log

-- a board whose world went on with its history as it was, and of which nothing else changed
pub record KeepsHistory {D F : Type 0} (b b' : BoardView D F) : Type 0 where
  pub rest : b' ≡ record b { world = b'.world }
  pub history : b'.world.core.device.history ≡ b.world.core.device.history
