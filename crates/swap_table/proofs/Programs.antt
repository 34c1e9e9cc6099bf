-- Laws of programs over a disk and a fabric.
use Rattle.std.proofs.Common.{◌≡◌, refl, ap}
use Rattle.swap_disk.specs.Port.{DiskCall, DiskAnswer}
use Rattle.swap_wire.specs.Fabric.{FabricCall, FabricAnswer}
use Rattle.swap_table.specs.Ports.{Prog, Ret, AskDisk, AskFabric, answering, Along, Leads, run}

module _ {D F : Type 0} (disk_moves : D → (c : DiskCall) → DiskAnswer c → D → Type 0) (fabric_moves : F → (c : FabricCall) → FabricAnswer c → F → Type 0) where
  -- what a program leads to holds where the ports went along it
  pub Leads-Along :
      {A : Type 0} (p : Prog A) (d : D) (f : F) (e : D) (g : F) (a : A) (P : A → D → F → Type 0) → Leads disk_moves fabric_moves p d f P
      → Along disk_moves fabric_moves p d f e g a → P a e g
  Leads-Along (Ret b) d f e g a P leads along = rw (along.0, along.1, along.2) leads
  Leads-Along (AskDisk c next) d f e g a P leads along = Leads-Along (next along.0) along.1 f e g a P (leads along.0 along.1 along.2) along.3
  Leads-Along (AskFabric c next) d f e g a P leads along = Leads-Along (next along.0) d along.1 e g a P (leads along.0 along.1 along.2) along.3

  pub Leads-implies :
      {A : Type 0} (p : Prog A) (d : D) (f : F) (P Q : A → D → F → Type 0) → ((a : A) (e : D) (g : F) → P a e g → Q a e g)
      → Leads disk_moves fabric_moves p d f P
      → Leads disk_moves fabric_moves p d f Q
  Leads-implies (Ret a) d f P Q each leads = each a d f leads
  Leads-implies (AskDisk c next) d f P Q each leads = λ r mid moved. Leads-implies (next r) mid f P Q each (leads r mid moved)
  Leads-implies (AskFabric c next) d f P Q each leads = λ r mid moved. Leads-implies (next r) d mid P Q each (leads r mid moved)

  pub Leads-answering :
      {A B : Type 0} (h : A → B) (p : Prog A) (d : D) (f : F) (P : B → D → F → Type 0) → Leads disk_moves fabric_moves p d f (λ a e g. P (h a) e g)
      → Leads disk_moves fabric_moves (answering h p) d f P
  Leads-answering h (Ret a) d f P leads = leads
  Leads-answering h (AskDisk c next) d f P leads = λ r mid moved. Leads-answering h (next r) mid f P (leads r mid moved)
  Leads-answering h (AskFabric c next) d f P leads = λ r mid moved. Leads-answering h (next r) d mid P (leads r mid moved)

  pub Along-answering :
      {A B : Type 0} (h : A → B) (p : Prog A) (d : D) (f : F) (e : D) (g : F) (a : A) → Along disk_moves fabric_moves p d f e g a
      → Along disk_moves fabric_moves (answering h p) d f e g (h a)
  Along-answering h (Ret b) d f e g a along = (along.0, along.1, ap h along.2)
  Along-answering h (AskDisk c next) d f e g a along = (along.0, along.1, along.2, Along-answering h (next along.0) along.1 f e g a along.3)
  Along-answering h (AskFabric c next) d f e g a along = (along.0, along.1, along.2, Along-answering h (next along.0) d along.1 e g a along.3)

module _ {D F : Type 0} (ask_disk : D → (c : DiskCall) → DiskAnswer c × D) (ask_fabric : F → (c : FabricCall) → FabricAnswer c × F) where
  -- over ports that are functions a program gives what it computes
  pub Along-run :
      {A : Type 0} (p : Prog A) (d : D) (f : F) (e : D) (g : F) (a : A)
      → Along (λ d c r e. ask_disk d c ≡ (r, e)) (λ f c r g. ask_fabric f c ≡ (r, g)) p d f e g a → run ask_disk ask_fabric p d f ≡ (a, (e, g))
  Along-run (Ret b) d f e g a along = rw (along.0, along.1, along.2) refl
  Along-run (AskDisk c next) d f e g a along = rw along.2 (Along-run (next along.0) along.1 f e g a along.3)
  Along-run (AskFabric c next) d f e g a along = rw along.2 (Along-run (next along.0) d along.1 e g a along.3)
