-- What goes by moves leads where its moves lead.
use Rattle.std.proofs.Common.{◌≡◌, refl}
use Rattle.swap_disk.specs.Port.{DiskCall, DiskAnswer}
use Rattle.swap_wire.specs.Fabric.{FabricCall, FabricAnswer}
use Rattle.swap_table.specs.Ports.{Prog, Ret, AskDisk, AskFabric, answering, Along, Leads, run}
use Rattle.swap_table.proofs.Programs.{Leads-Along}
use Rattle.swap_table.specs.Ports.{and_then}
use Rattle.swap_table.specs.Goes.{Asked, Nothing, OfDisk, OfFabric, Goes, ends, first, asks_disk, asks_fabric, After, by, PortsGo, stay, by_disk, by_fabric, EachKeeps, EachKeepsWhere, AllAsked}

module _ {S : Type 0} (Move : S → Asked → S → Type 0) where
  mutual
    pub Goes-implies : {A : Type 0} (Q R : A → S → Type 0) → ((a : A) (t : S) → Q a t → R a t) → {s : S} {p : Prog A} → Goes Move Q s p → Goes Move R s p
    Goes-implies Q R each (ends q) = ends (each _ _ q)
    Goes-implies Q R each (first m g) = first m (Goes-implies Q R each g)
    Goes-implies Q R each (asks_disk g) = asks_disk (λ r. After-implies Q R each (g r))
    Goes-implies Q R each (asks_fabric g) = asks_fabric (λ r. After-implies Q R each (g r))

    pub After-implies :
        {A : Type 0} (Q R : A → S → Type 0) → ((a : A) (t : S) → Q a t → R a t) → {s : S} {asked : Asked} {p : Prog A} → After Move Q s asked p
        → After Move R s asked p
    After-implies Q R each (by m g) = by m (Goes-implies Q R each g)

  mutual
    pub Goes-then :
        {A B : Type 0} (Q : A → S → Type 0) (R : B → S → Type 0) (next : A → Prog B) → ((a : A) (t : S) → Q a t → Goes Move R t (next a)) → {s : S} {p : Prog A}
        → Goes Move Q s p → Goes Move R s (and_then p next)
    Goes-then Q R next each (ends q) = each _ _ q
    Goes-then Q R next each (first m g) = first m (Goes-then Q R next each g)
    Goes-then Q R next each (asks_disk g) = asks_disk (λ r. After-then Q R next each (g r))
    Goes-then Q R next each (asks_fabric g) = asks_fabric (λ r. After-then Q R next each (g r))

    After-then :
        {A B : Type 0} (Q : A → S → Type 0) (R : B → S → Type 0) (next : A → Prog B) → ((a : A) (t : S) → Q a t → Goes Move R t (next a))
        → {s : S} {asked : Asked} {p : Prog A} → After Move Q s asked p → After Move R s asked (and_then p next)
    After-then Q R next each (by m g) = by m (Goes-then Q R next each g)

  mutual
    pub Goes-answering :
        {A B : Type 0} (Q : A → S → Type 0) (R : B → S → Type 0) (h : A → B) → ((a : A) (t : S) → Q a t → R (h a) t) → {s : S} {p : Prog A} → Goes Move Q s p
        → Goes Move R s (answering h p)
    Goes-answering Q R h each (ends q) = ends (each _ _ q)
    Goes-answering Q R h each (first m g) = first m (Goes-answering Q R h each g)
    Goes-answering Q R h each (asks_disk g) = asks_disk (λ r. After-answering Q R h each (g r))
    Goes-answering Q R h each (asks_fabric g) = asks_fabric (λ r. After-answering Q R h each (g r))

    After-answering :
        {A B : Type 0} (Q : A → S → Type 0) (R : B → S → Type 0) (h : A → B) → ((a : A) (t : S) → Q a t → R (h a) t) → {s : S} {asked : Asked} {p : Prog A}
        → After Move Q s asked p → After Move R s asked (answering h p)
    After-answering Q R h each (by m g) = by m (Goes-answering Q R h each g)

  module _ {D F : Type 0} (disk_moves : D → (c : DiskCall) → DiskAnswer c → D → Type 0) (moves : F → (c : FabricCall) → FabricAnswer c → F → Type 0)
      (P : S → D → F → Type 0) (each : EachKeeps disk_moves moves Move P) where
    abbrev pub Reaches : {A : Type 0} → (A → S → Type 0) → A → D → F → Type 0
    Reaches Q a k f = (t : S) × Q a t × P t k f

    mutual
      pub Goes-leads :
          {A : Type 0} (Q : A → S → Type 0) (k : D) (f : F) → {s : S} {p : Prog A} → Goes Move Q s p → P s k f → Leads disk_moves moves p k f (Reaches Q)
      Goes-leads Q k f {s = s} (ends q) h = (s, q, h)
      Goes-leads Q k f {s = s} (first {t = t} m g) h = Goes-leads Q k f g (each s Nothing t k k f f m stay h)
      Goes-leads Q k f (asks_disk {c = c} g) h = λ r mid moved. After-leads Q k mid f f (g r) (by_disk moved) h
      Goes-leads Q k f (asks_fabric {c = c} g) h = λ r mid moved. After-leads Q k k f mid (g r) (by_fabric moved) h

      After-leads :
          {A : Type 0} (Q : A → S → Type 0) (k k' : D) (f f' : F) → {s : S} {asked : Asked} {p : Prog A} → After Move Q s asked p
          → PortsGo disk_moves moves asked k f k' f' → P s k f → Leads disk_moves moves p k' f' (Reaches Q)
      After-leads Q k k' f f' {s = s} {asked = asked} (by {t = t} m g) went h = Goes-leads Q k' f' g (each s asked t k k' f f' m went h)

    -- and along what the ports did
    pub Goes-along :
        {A : Type 0} (Q : A → S → Type 0) (k k' : D) (f f' : F) (a : A) (s : S) (p : Prog A) → Goes Move Q s p → P s k f → Along disk_moves moves p k f k' f' a
        → Reaches Q a k' f'
    Goes-along Q k k' f f' a s p g h along = Leads-Along disk_moves moves p k f k' f' a (Reaches Q) (Goes-leads Q k f g h) along

    -- what each move asks of the ports, where P holds
    module _ (R : Asked → Type 0)
        (asks : (s : S) (asked : Asked) (t : S) (k k' : D) (f f' : F) → Move s asked t → PortsGo disk_moves moves asked k f k' f' → P s k f → R asked) where
      mutual
        pub Goes-asks : {A : Type 0} (Q : A → S → Type 0) (k : D) (f : F) → {s : S} {p : Prog A} → Goes Move Q s p → P s k f → AllAsked disk_moves moves R p k f
        Goes-asks Q k f (ends q) h = tt
        Goes-asks Q k f {s = s} (first {t = t} m g) h = Goes-asks Q k f g (each s Nothing t k k f f m stay h)
        Goes-asks Q k f (asks_disk g) h = λ r mid moved. After-asks Q k mid f f (g r) (by_disk moved) h
        Goes-asks Q k f (asks_fabric g) h = λ r mid moved. After-asks Q k k f mid (g r) (by_fabric moved) h

        After-asks :
            {A : Type 0} (Q : A → S → Type 0) (k k' : D) (f f' : F) → {s : S} {asked : Asked} {p : Prog A} → After Move Q s asked p
            → PortsGo disk_moves moves asked k f k' f' → P s k f → R asked × AllAsked disk_moves moves R p k' f'
        After-asks Q k k' f f' {s = s} {asked = asked} (by {t = t} m g) went h =
            (asks s asked t k k' f f' m went h, Goes-asks Q k' f' g (each s asked t k k' f f' m went h))

-- one invariant on another: what is kept where P holds is kept beside P
pub beside :
    {S D F : Type 0} (Move : S → Asked → S → Type 0) (disk_moves : D → (c : DiskCall) → DiskAnswer c → D → Type 0)
    (moves : F → (c : FabricCall) → FabricAnswer c → F → Type 0) (P Q : S → D → F → Type 0)
    → EachKeeps disk_moves moves Move P → EachKeepsWhere disk_moves moves Move P Q → EachKeeps disk_moves moves Move (λ s k f. P s k f × Q s k f)
beside Move disk_moves moves P Q one two s asked t k k' f f' m went h = (one s asked t k k' f f' m went h.0, two s asked t k k' f f' m went h.0 h.1)

-- over ports that are functions
module _ {D F : Type 0} (ask_disk : D → (c : DiskCall) → DiskAnswer c × D) (ask_fabric : F → (c : FabricCall) → FabricAnswer c × F) where
  abbrev pub Does : D → (c : DiskCall) → DiskAnswer c → D → Type 0
  Does k c r k' = ask_disk k c ≡ (r, k')

  abbrev pub DoesOf : F → (c : FabricCall) → FabricAnswer c → F → Type 0
  DoesOf f c r f' = ask_fabric f c ≡ (r, f')

  pub Leads-runs : {A : Type 0} (p : Prog A) (k : D) (f : F) (P : A → D → F → Type 0) → Leads Does DoesOf p k f P → let r = run ask_disk ask_fabric p k f in
      P r.0 r.1.0 r.1.1
  Leads-runs (Ret a) k f P leads = leads
  Leads-runs (AskDisk c next) k f P leads = Leads-runs (next (ask_disk k c).0) (ask_disk k c).1 f P (leads (ask_disk k c).0 (ask_disk k c).1 refl)
  Leads-runs (AskFabric c next) k f P leads = Leads-runs (next (ask_fabric f c).0) k (ask_fabric f c).1 P (leads (ask_fabric f c).0 (ask_fabric f c).1 refl)

-- over ports that are functions, and whose answers are moves where P holds, a program goes along what it computes
module _ {S D F : Type 0} (Move : S → Asked → S → Type 0) (ask_disk : D → (c : DiskCall) → DiskAnswer c × D)
    (ask_fabric : F → (c : FabricCall) → FabricAnswer c × F) (disk_moves : D → (c : DiskCall) → DiskAnswer c → D → Type 0)
    (moves : F → (c : FabricCall) → FabricAnswer c → F → Type 0)
    (P : S → D → F → Type 0) (each : EachKeeps (Does ask_disk ask_fabric) (DoesOf ask_disk ask_fabric) Move P)
    (told : (s : S) (asked : Asked) (t : S) (k k' : D) (f f' : F) → Move s asked t
    → PortsGo (Does ask_disk ask_fabric) (DoesOf ask_disk ask_fabric) asked k f k' f' → P s k f → PortsGo disk_moves moves asked k f k' f') where
  disk_moved : (c : DiskCall) (r : DiskAnswer c) (k k' : D) (f f' : F) → PortsGo disk_moves moves (OfDisk c r) k f k' f' → disk_moves k c r k'
  disk_moved c r k k' f f' (by_disk moved) = moved

  fabric_moved : (c : FabricCall) (r : FabricAnswer c) (k k' : D) (f f' : F) → PortsGo disk_moves moves (OfFabric c r) k f k' f' → moves f c r f'
  fabric_moved c r k k' f f' (by_fabric moved) = moved

  mutual
    pub Goes-went : {A : Type 0} (Q : A → S → Type 0) (k : D) (f : F) → {s : S} {p : Prog A} → Goes Move Q s p → P s k f
        → let r = run ask_disk ask_fabric p k f in
        Along disk_moves moves p k f r.1.0 r.1.1 r.0
    Goes-went Q k f (ends q) h = (refl, refl, refl)
    Goes-went Q k f {s = s} (first {t = t} m g) h = Goes-went Q k f g (each s Nothing t k k f f m stay h)
    Goes-went Q k f (asks_disk {c = c} g) h =
        let after = After-went Q k (ask_disk k c).1 f f (g (ask_disk k c).0) (by_disk refl) h in
        ((ask_disk k c).0, (ask_disk k c).1, disk_moved c (ask_disk k c).0 k (ask_disk k c).1 f f after.0, after.1)
    Goes-went Q k f (asks_fabric {c = c} g) h =
        let after = After-went Q k k f (ask_fabric f c).1 (g (ask_fabric f c).0) (by_fabric refl) h in
        ((ask_fabric f c).0, (ask_fabric f c).1, fabric_moved c (ask_fabric f c).0 k k f (ask_fabric f c).1 after.0, after.1)

    After-went :
        {A : Type 0} (Q : A → S → Type 0) (k k' : D) (f f' : F) → {s : S} {asked : Asked} {p : Prog A} → After Move Q s asked p
        → PortsGo (Does ask_disk ask_fabric) (DoesOf ask_disk ask_fabric) asked k f k' f' → P s k f
        → PortsGo disk_moves moves asked k f k' f' × (let r = run ask_disk ask_fabric p k' f' in Along disk_moves moves p k' f' r.1.0 r.1.1 r.0)
    After-went Q k k' f f' {s = s} {asked = asked} (by {t = t} m g) went h =
        (told s asked t k k' f f' m went h, Goes-went Q k' f' g (each s asked t k k' f f' m went h))
