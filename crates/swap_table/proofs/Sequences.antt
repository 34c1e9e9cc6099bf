-- Laws of one program after another.
use Rattle.std.proofs.Common.{◌≡◌, refl}
use Rattle.swap_disk.specs.Port.{DiskCall, DiskAnswer}
use Rattle.swap_wire.specs.Fabric.{FabricCall, FabricAnswer}
use Rattle.swap_table.specs.Ports.{Prog, Ret, AskDisk, AskFabric, Along, Leads, run}
use Rattle.swap_table.specs.Ports.{and_then}

module _ {D F : Type 0} (disk_moves : D → (c : DiskCall) → DiskAnswer c → D → Type 0) (moves : F → (c : FabricCall) → FabricAnswer c → F → Type 0) where
  pub Leads-then :
      {A B : Type 0} (p : Prog A) (next : A → Prog B) (k : D) (f : F) (P : B → D → F → Type 0)
      → Leads disk_moves moves p k f (λ a k' f'. Leads disk_moves moves (next a) k' f' P) → Leads disk_moves moves (and_then p next) k f P
  Leads-then (Ret a) next k f P leads = leads
  Leads-then (AskDisk c more) next k f P leads = λ r mid moved. Leads-then (more r) next mid f P (leads r mid moved)
  Leads-then (AskFabric c more) next k f P leads = λ r mid moved. Leads-then (more r) next k mid P (leads r mid moved)

  -- what went along a sequence went along its first part, and then along the second
  pub Along-then :
      {A B : Type 0} (p : Prog A) (next : A → Prog B) (k k' : D) (f f' : F) (b : B) → Along disk_moves moves (and_then p next) k f k' f' b
      → (a : A) × (mid : D) × (mid_f : F) × Along disk_moves moves p k f mid mid_f a × Along disk_moves moves (next a) mid mid_f k' f' b
  Along-then (Ret a) next k k' f f' b along = (a, k, f, (refl, refl, refl), along)
  Along-then (AskDisk c more) next k k' f f' b along =
      let rest = Along-then (more along.0) next along.1 k' f f' b along.3 in (rest.0, rest.1, rest.2, (along.0, along.1, along.2, rest.3), rest.4)
  Along-then (AskFabric c more) next k k' f f' b along =
      let rest = Along-then (more along.0) next k k' along.1 f' b along.3 in (rest.0, rest.1, rest.2, (along.0, along.1, along.2, rest.3), rest.4)

module _ {D F : Type 0} (ask_disk : D → (c : DiskCall) → DiskAnswer c × D) (ask_fabric : F → (c : FabricCall) → FabricAnswer c × F) where
  pub run-then :
      {A B : Type 0} (p : Prog A) (next : A → Prog B) (k : D) (f : F)
      → run ask_disk ask_fabric (and_then p next) k f ≡ (let r = run ask_disk ask_fabric p k f in run ask_disk ask_fabric (next r.0) r.1.0 r.1.1)
  run-then (Ret a) next k f = refl
  run-then (AskDisk c more) next k f = run-then (more (ask_disk k c).0) next (ask_disk k c).1 f
  run-then (AskFabric c more) next k f = run-then (more (ask_fabric f c).0) next k (ask_fabric f c).1
