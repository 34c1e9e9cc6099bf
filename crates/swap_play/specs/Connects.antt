-- The links that are made before the callers begin.
use Rattle.std.specs.Prelude.{◌≡◌, ◌+◌, ℕ, true, List, [], ◌∷◌}
use Rattle.swap_wire.specs.declared.Seen.{Seen}
use Rattle.swap_wire.specs.declared.Event.TheVariants as event
use Rattle.swap_disk.specs.Port.{DiskCall, DiskAnswer}
use Rattle.swap_wire.specs.Fabric.{FabricCall, FabricAnswer}
use Rattle.swap_world.specs.Runs.{WorldView, has_effect}
use Rattle.swap_board.specs.Acts.{Act, Made, Operator}
use Rattle.swap_board.specs.Works.{Works}

-- a Connect of this lender
abbrev pub connect : ℕ → List ℕ → Seen → Act
connect n page s = Made Operator (record { event = event.Connect (record { 0 = n }); page = page }) s

-- a Connect of each of the first so many lenders, ascending, each with an effect; the newest stands first
pub data AreConnects : ℕ → List Act → Type 0 where
  none : AreConnects 0 []
  more :
      {n : ℕ} {acts : List Act} (page : List ℕ) (s : Seen) → AreConnects n acts
      → has_effect (event.Connect (record { 0 = n })) s ≡ true → AreConnects (n + 1) (connect n page s ∷ acts)

-- the first so many lenders were connected, and nothing else was done
pub record Connects {D F : Type 0} (disk_moves : D → (c : DiskCall) → DiskAnswer c → D → Type 0)
    (moves : F → (c : FabricCall) → FabricAnswer c → F → Type 0) (n : ℕ) (first w : WorldView D F) : Type 0 where
  pub acts : List Act
  pub are : AreConnects n acts
  pub works : Works disk_moves moves acts first w

-- so of one lender
pub record ConnectsOne {D F : Type 0} (disk_moves : D → (c : DiskCall) → DiskAnswer c → D → Type 0)
    (moves : F → (c : FabricCall) → FabricAnswer c → F → Type 0) (n : ℕ) (w w' : WorldView D F) : Type 0 where
  pub page : List ℕ
  pub seen : Seen
  pub has : has_effect (event.Connect (record { 0 = n })) seen ≡ true
  pub works : Works disk_moves moves (connect n page seen ∷ []) w w'
