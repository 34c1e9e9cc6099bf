-- Links are made one after another.
use Rattle.std.proofs.Common.{◌≡◌, ◌+◌, ℕ, true, List, [], ◌∷◌, refl, arith}
use Rattle.swap_wire.specs.declared.Seen.{Seen}
use Rattle.swap_wire.specs.declared.Event.TheVariants as event
use Rattle.swap_wire.specs.Fabric.{FabricCall, FabricAnswer}
use Rattle.swap_disk.specs.Port.{DiskCall, DiskAnswer}
use Rattle.swap_world.specs.Runs.{WorldView, has_effect}
use Rattle.swap_board.specs.Works.{IsSame, Works}
use Rattle.swap_board.proofs.Working.{works_on, works_same, works_after}
use Rattle.swap_play.specs.Connects.{connect, none, more, Connects, ConnectsOne}

module _ {D F : Type 0} (disk_moves : D → (c : DiskCall) → DiskAnswer c → D → Type 0) (moves : F → (c : FabricCall) → FabricAnswer c → F → Type 0) where
  pub connects_none : (w : WorldView D F) → Connects disk_moves moves 0 w w
  connects_none w =
      record {
        acts = [];
        are = none;
        works = works_same disk_moves moves w w (record { device = refl; disk = refl; fabric = refl; log = refl; spare = omega arith });
      }

  pub connects_more :
      (n : ℕ) (first w w' : WorldView D F) → Connects disk_moves moves n first w → ConnectsOne disk_moves moves n w w'
      → Connects disk_moves moves (n + 1) first w'
  connects_more n first w w' was one = record {
    acts = connect n one.page one.seen ∷ was.acts;
    are = more one.page one.seen was.are one.has;
    works = works_on disk_moves moves first w w' was.acts (connect n one.page one.seen ∷ []) was.works one.works;
  }

  pub connected_one :
      (n : ℕ) (w w1 w' : WorldView D F) (page : List ℕ) (s : Seen) → IsSame w w1 → has_effect (event.Connect (record { 0 = n })) s ≡ true
      → Works disk_moves moves (connect n page s ∷ []) w1 w' → ConnectsOne disk_moves moves n w w'
  connected_one n w w1 w' page s same has works =
      record { page = page; seen = s; has = has; works = works_after disk_moves moves w w1 w' (connect n page s ∷ []) same works }
