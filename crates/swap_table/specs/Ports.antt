-- Programs that ask a disk and a fabric, and go on by what they answer. Each call of the device is defined once as such
-- a program: it is the contract of the call over any ports, and what the world and its laws read.
use Rattle.std.specs.Prelude.{◌≡◌}
use Rattle.swap_disk.specs.Port.{DiskCall, DiskAnswer}
use Rattle.swap_wire.specs.Fabric.{FabricCall, FabricAnswer}

pub data Prog (A : Type 0) : Type 0 where
  Ret : A → Prog A
  AskDisk : (c : DiskCall) → (DiskAnswer c → Prog A) → Prog A
  AskFabric : (c : FabricCall) → (FabricAnswer c → Prog A) → Prog A

-- a program with its answer changed
abbrev pub answering : {A B : Type 0} → (A → B) → Prog A → Prog B
answering f (Ret a) = Ret (f a)
answering f (AskDisk c next) = AskDisk c (λ r. answering f (next r))
answering f (AskFabric c next) = AskFabric c (λ r. answering f (next r))

module _ {D F : Type 0} (disk_moves : D → (c : DiskCall) → DiskAnswer c → D → Type 0)
    (fabric_moves : F → (c : FabricCall) → FabricAnswer c → F → Type 0) where
  -- the disk went from d to e, and the fabric from f to g, along the program, which gave a
  abbrev pub Along : {A : Type 0} → Prog A → D → F → D → F → A → Type 0
  Along (Ret b) d f e g a = (e ≡ d) × (g ≡ f) × (a ≡ b)
  Along (AskDisk c next) d f e g a = (r : DiskAnswer c) × (mid : D) × disk_moves d c r mid × Along (next r) mid f e g a
  Along (AskFabric c next) d f e g a =
      (r : FabricAnswer c) × (mid : F) × fabric_moves f c r mid × Along (next r) d mid e g a

  -- whatever the ports do along the program, P holds of what it gives and of the ports after it
  abbrev pub Leads : {A : Type 0} → Prog A → D → F → (A → D → F → Type 0) → Type 0
  Leads (Ret a) d f P = P a d f
  Leads (AskDisk c next) d f P = (r : DiskAnswer c) (mid : D) → disk_moves d c r mid → Leads (next r) mid f P
  Leads (AskFabric c next) d f P = (r : FabricAnswer c) (mid : F) → fabric_moves f c r mid → Leads (next r) d mid P

-- what a program gives over ports that are functions
abbrev pub run :
    {D F A : Type 0} → (D → (c : DiskCall) → DiskAnswer c × D) → (F → (c : FabricCall) → FabricAnswer c × F) → Prog A
    → D
    → F → A × (D × F)
run ask_disk ask_fabric (Ret a) d f = (a, (d, f))
run ask_disk ask_fabric (AskDisk c next) d f = run ask_disk ask_fabric (next (ask_disk d c).0) (ask_disk d c).1 f
run ask_disk ask_fabric (AskFabric c next) d f = run ask_disk ask_fabric (next (ask_fabric f c).0) d (ask_fabric f c).1

-- one program after another, which goes by what the first gave
abbrev pub and_then : {A B : Type 0} → Prog A → (A → Prog B) → Prog B
and_then (Ret a) next = next a
and_then (AskDisk c more) next = AskDisk c (λ r. and_then (more r) next)
and_then (AskFabric c more) next = AskFabric c (λ r. and_then (more r) next)
