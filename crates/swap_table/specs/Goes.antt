-- A program goes by moves: from a state that is kept beside it, each of its calls with each of its answers is a move to
-- the next state, and between calls moves may be made that ask nothing.
use Rattle.swap_disk.specs.Port.{DiskCall, DiskAnswer}
use Rattle.swap_wire.specs.Fabric.{FabricCall, FabricAnswer}
use Rattle.swap_table.specs.Ports.{Prog, Ret, AskDisk, AskFabric}

-- what a move asks, and what it's answered
pub data Asked : Type 0 where
  Nothing : Asked
  OfDisk : (c : DiskCall) → DiskAnswer c → Asked
  OfFabric : (c : FabricCall) → FabricAnswer c → Asked

-- Q holds of what the program gives and of the state then
mutual
  pub data Goes {S : Type 0} (Move : S → Asked → S → Type 0) {A : Type 0} (Q : A → S → Type 0) :
      S → Prog A → Type 0 where
    ends : {s : S} {a : A} → Q a s → Goes Move Q s (Ret a)
    first : {s t : S} {p : Prog A} → Move s Nothing t → Goes Move Q t p → Goes Move Q s p
    asks_disk :
        {s : S} {c : DiskCall} {next : DiskAnswer c → Prog A}
        → ((r : DiskAnswer c) → After Move Q s (OfDisk c r) (next r)) → Goes Move Q s (AskDisk c next)
    asks_fabric :
        {s : S} {c : FabricCall} {next : FabricAnswer c → Prog A}
        → ((r : FabricAnswer c) → After Move Q s (OfFabric c r) (next r)) → Goes Move Q s (AskFabric c next)

  pub data After {S : Type 0} (Move : S → Asked → S → Type 0) {A : Type 0} (Q : A → S → Type 0) :
      S → Asked → Prog A → Type 0 where
    by : {s t : S} {asked : Asked} {p : Prog A} → Move s asked t → Goes Move Q t p → After Move Q s asked p

-- the ports go along a move
module _ {D F : Type 0} (disk_moves : D → (c : DiskCall) → DiskAnswer c → D → Type 0)
    (moves : F → (c : FabricCall) → FabricAnswer c → F → Type 0) where
  pub data PortsGo : Asked → D → F → D → F → Type 0 where
    stay : {k : D} {f : F} → PortsGo Nothing k f k f
    by_disk : {k k' : D} {f : F} {c : DiskCall} {r : DiskAnswer c} → disk_moves k c r k' → PortsGo (OfDisk c r) k f k' f
    by_fabric :
        {k : D} {f f' : F} {c : FabricCall} {r : FabricAnswer c} → moves f c r f' → PortsGo (OfFabric c r) k f k f'

  -- each move keeps P, whatever the ports do
  abbrev pub EachKeeps : {S : Type 0} → (S → Asked → S → Type 0) → (S → D → F → Type 0) → Type 0
  EachKeeps {S} Move P =
      (s : S) (asked : Asked) (t : S) (k k' : D) (f f' : F) → Move s asked t → PortsGo asked k f k' f' → P s k f
      → P t k' f'

  -- each move keeps Q where P holds before it
  abbrev pub EachKeepsWhere :
      {S : Type 0} → (S → Asked → S → Type 0) → (S → D → F → Type 0) → (S → D → F → Type 0) → Type 0
  EachKeepsWhere {S} Move P Q =
      (s : S) (asked : Asked) (t : S) (k k' : D) (f f' : F) → Move s asked t → PortsGo asked k f k' f' → P s k f
      → Q s k f
      → Q t k' f'

  -- whatever the ports do along the program, R holds of each of its calls with the answer
  abbrev pub AllAsked : (Asked → Type 0) → {A : Type 0} → Prog A → D → F → Type 0
  AllAsked R (Ret a) k f = Unit {0}
  AllAsked R (AskDisk c next) k f =
      (r : DiskAnswer c) (k' : D) → disk_moves k c r k' → R (OfDisk c r) × AllAsked R (next r) k' f
  AllAsked R (AskFabric c next) k f =
      (r : FabricAnswer c) (f' : F) → moves f c r f' → R (OfFabric c r) × AllAsked R (next r) k f'
