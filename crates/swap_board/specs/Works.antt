-- What a board makes of its world besides the steps of calls.
use Rattle.std.specs.Prelude.{◌≡◌, ◌+◌, ◌≤◌, ◌<◌, ℕ, nat_le, nat_lt, if◌then◌else◌, true, List, [], ◌∷◌, ◌++◌, length, Option, None, Some}
use Rattle.swap_base.specs.Sizes.{Sizes, pages_of}
use Rattle.swap_base.specs.declared.Caller.{Caller}
use Rattle.swap_base.specs.declared.DiskWhich.{DiskWhich}
use Rattle.swap_base.specs.declared.DiskWhich.TheVariants as which
use Rattle.swap_wire.specs.declared.Event.{Event}
use Rattle.swap_wire.specs.declared.Event.TheVariants as event
use Rattle.swap_wire.specs.declared.Seen.{Seen}
use Rattle.swap_wire.specs.Fabric.{FabricCall, FabricAnswer}
use Rattle.swap_disk.specs.Port.{Port, DiskCall, DiskAnswer, TellsOldest}
use Rattle.swap_calls.specs.Calls.{state_of, is_idle}
use Rattle.swap_table.specs.declared.DiskStep.{DiskStep}
use Rattle.swap_world.specs.Runs.{WorldView, busy_callers}
use Rattle.rand_pcg.specs.Lcg.{Lcg}
use Rattle.rand_pcg.specs.Pcg.{pcg32}
use Rattle.swap_board.specs.Acts.{Act, Made, Polled, Maker, Player, Pacer, Makes, lines_of, seed_after, PACE}
use Rattle.swap_board.specs.declared.works.Point.{Point}
use Rattle.swap_board.specs.declared.works.Point.TheVariants as point
use Rattle.swap_board.specs.declared.works.Moved.{Moved}
use Rattle.swap_board.specs.declared.works.Moved.TheVariants as moved

-- nothing of a world changed but its room, which is no less
pub record IsSame {D F : Type 0} (w w' : WorldView D F) : Type 0 where
  pub device : w'.core.device ≡ w.core.device
  pub disk : w'.core.disk ≡ w.core.disk
  pub fabric : w'.core.fabric ≡ w.core.fabric
  pub log : w'.log ≡ w.log
  pub spare : w.core.spare ≤ w'.core.spare

-- acts that begin no call and end none
pub record Works {D F : Type 0} (disk_moves : D → (c : DiskCall) → DiskAnswer c → D → Type 0)
    (moves : F → (c : FabricCall) → FabricAnswer c → F → Type 0) (acts : List Act) (w w' : WorldView D F) : Type 0 where
  pub makes : Makes disk_moves moves acts w w'
  pub history : w'.core.device.history ≡ w.core.device.history
  pub busy : busy_callers w'.core.device ≤ busy_callers w.core.device
  pub spare : w.core.spare ≤ w'.core.spare

-- an event that is no step of a call
abbrev pub IsCallless : Event → Type 0
IsCallless (event.PageOut c p) = ⊥
IsCallless (event.PageIn c p) = ⊥
IsCallless (event.Finish c) = ⊥
IsCallless _ = Unit {0}

-- such an event was made, whoever makes it
pub record Stepped {D F : Type 0} (disk_moves : D → (c : DiskCall) → DiskAnswer c → D → Type 0)
    (moves : F → (c : FabricCall) → FabricAnswer c → F → Type 0) (e : Event) (w w' : WorldView D F) : Type 0 where
  pub page : List ℕ
  pub seen : Seen
  pub works : (by : Maker) → Works disk_moves moves (Made by (record { event = e; page = page }) seen ∷ []) w w'

-- an operation that the geometry knows
abbrev pub known_by : Sizes → DiskWhich → Option DiskWhich
known_by s (which.Write p) = if nat_lt p.0 (pages_of s) then Some (which.Write p) else None
known_by s (which.Read c) = if nat_lt c.0 s.callers then Some (which.Read c) else None

abbrev pub known_operation : Sizes → Option DiskWhich → Option DiskWhich
known_operation s None = None
known_operation s (Some w) = known_by s w

-- the end of an operation that a disk in memory lets finish
abbrev pub ends : Option DiskWhich → List ℕ → Seen → List Act
ends None page s = []
ends (Some w) page s = Made Player (record { event = event.Disk w true; page = page }) s ∷ []

-- what a pump makes at the disk: a copy leaves for it, the oldest operation of a disk in memory finishes, and what
-- finished by itself is taken
pub record WorksDisk {D F : Type 0} (disk_moves : D → (c : DiskCall) → DiskAnswer c → D → Type 0)
    (moves : F → (c : FabricCall) → FabricAnswer c → F → Type 0) (means : D → Port) (acts : List Act)
    (w w' : WorldView D F) : Type 0 where
  pub started : WorldView D F
  pub start_page : List ℕ
  pub start_seen : Seen
  pub start : Makes disk_moves moves
      (Made Player (record { event = event.Start; page = start_page }) start_seen ∷ []) w started
  pub oldest : Option DiskWhich
  pub tells : TellsOldest (means started.core.disk).blocks (means started.core.disk).flights oldest
  pub end_page : List ℕ
  pub end_seen : Seen
  pub step : DiskStep
  pub rest : Makes disk_moves moves (Polled step ∷ ends (known_operation w.core.device.sizes oldest) end_page end_seen)
      started w'
  pub acts_are : acts ≡ (Polled step ∷ ends (known_operation w.core.device.sizes oldest) end_page end_seen)
      ++ Made Player (record { event = event.Start; page = start_page }) start_seen ∷ []

-- a pump's points: the lender is one of so many
abbrev pub IsPoint : ℕ → Point → Type 0
IsPoint lenders point.Disk = Unit {0}
IsPoint lenders (point.Give l) = l.0 < lenders
IsPoint lenders (point.Take l) = l.0 < lenders

-- what a point makes
abbrev pub WorksAt :
    {D F : Type 0} → (D → (c : DiskCall) → DiskAnswer c → D → Type 0)
    → (F → (c : FabricCall) → FabricAnswer c → F → Type 0) → (D → Port) → Point → List Act → WorldView D F
    → WorldView D F
    → Type 0
WorksAt disk_moves moves means point.Disk acts w w' = WorksDisk disk_moves moves means acts w w'
WorksAt disk_moves moves means (point.Give l) acts w w' =
    (page : List ℕ) × (s : Seen) × (acts ≡ Made Player (record { event = event.Give l; page = page }) s ∷ [])
WorksAt disk_moves moves means (point.Take l) acts w w' =
    (page : List ℕ) × (s : Seen) × (acts ≡ Made Player (record { event = event.Take l; page = page }) s ∷ [])

-- whether anything of it had an effect
abbrev pub moved_by : List (Event × Seen) → Moved
moved_by [] = moved.Nothing
moved_by (line ∷ lines) = moved.Did

-- and so whether a log grew
abbrev pub moved_between : ℕ → ℕ → Moved
moved_between before now = if nat_lt before now then moved.Did else moved.Nothing

-- a point's acts were made, and the answer says whether one of them had an effect
pub record Pumps {D F : Type 0} (disk_moves : D → (c : DiskCall) → DiskAnswer c → D → Type 0)
    (moves : F → (c : FabricCall) → FabricAnswer c → F → Type 0) (means : D → Port) (p : Point) (m : Moved)
    (w w' : WorldView D F) : Type 0 where
  pub acts : List Act
  pub works : Works disk_moves moves acts w w'
  pub at_point : WorksAt disk_moves moves means p acts w w'
  pub says : m ≡ moved_by (lines_of acts)

-- or there was no memory
abbrev pub PumpsAs :
    {D F : Type 0} → (D → (c : DiskCall) → DiskAnswer c → D → Type 0)
    → (F → (c : FabricCall) → FabricAnswer c → F → Type 0) → (D → Port) → Point → Moved → WorldView D F → WorldView D F
    → Type 0
PumpsAs disk_moves moves means p moved.Did w w' = Pumps disk_moves moves means p moved.Did w w'
PumpsAs disk_moves moves means p moved.Nothing w w' = Pumps disk_moves moves means p moved.Nothing w w'
PumpsAs disk_moves moves means p moved.NoMemory w w' = IsSame w w'

-- so of an event
pub record MakesOne {D F : Type 0} (disk_moves : D → (c : DiskCall) → DiskAnswer c → D → Type 0)
    (moves : F → (c : FabricCall) → FabricAnswer c → F → Type 0) (e : Event) (m : Moved)
    (w w' : WorldView D F) : Type 0 where
  pub page : List ℕ
  pub seen : Seen
  pub works : (by : Maker) → Works disk_moves moves (Made by (record { event = e; page = page }) seen ∷ []) w w'
  pub says : m ≡ moved_by (lines_of (Made Player (record { event = e; page = page }) seen ∷ []))

abbrev pub MakesAs :
    {D F : Type 0} → (D → (c : DiskCall) → DiskAnswer c → D → Type 0)
    → (F → (c : FabricCall) → FabricAnswer c → F → Type 0) → Event → Moved → WorldView D F → WorldView D F → Type 0
MakesAs disk_moves moves e moved.Did w w' = MakesOne disk_moves moves e moved.Did w w'
MakesAs disk_moves moves e moved.Nothing w w' = MakesOne disk_moves moves e moved.Nothing w w'
MakesAs disk_moves moves e moved.NoMemory w w' = IsSame w w'

-- of what a pump makes at the disk the middle
pub record Ended {D F : Type 0} (disk_moves : D → (c : DiskCall) → DiskAnswer c → D → Type 0)
    (moves : F → (c : FabricCall) → FabricAnswer c → F → Type 0) (means : D
    → Port) (w w' : WorldView D F) : Type 0 where
  pub oldest : Option DiskWhich
  pub tells : TellsOldest (means w.core.disk).blocks (means w.core.disk).flights oldest
  pub page : List ℕ
  pub seen : Seen
  pub works : Works disk_moves moves (ends (known_operation w.core.device.sizes oldest) page seen) w w'

-- and the end
pub record Polls {D F : Type 0} (disk_moves : D → (c : DiskCall) → DiskAnswer c → D → Type 0)
    (moves : F → (c : FabricCall) → FabricAnswer c → F → Type 0) (w w' : WorldView D F) : Type 0 where
  pub step : DiskStep
  pub works : Works disk_moves moves (Polled step ∷ []) w w'

-- what a call makes first: a Round with the generator's next word, where so many calls were begun since the last
abbrev pub paces : ℕ → Lcg → List ℕ → Seen → List Act
paces since g page s =
    if nat_le PACE since then Made Pacer (record { event = event.Round (pcg32 g).0; page = page }) s ∷ [] else []

abbrev pub since_now : ℕ → ℕ
since_now since = if nat_le PACE since then 0 else since

-- the Round that was due was made, and there is room for one event more
pub record Paced {D F : Type 0} (disk_moves : D → (c : DiskCall) → DiskAnswer c → D → Type 0)
    (moves : F → (c : FabricCall) → FabricAnswer c → F → Type 0) (since : ℕ) (g : Lcg) (w : WorldView D F) (since' : ℕ)
    (g' : Lcg) (w' : WorldView D F) : Type 0 where
  pub page : List ℕ
  pub seen : Seen
  pub works : Works disk_moves moves (paces since g page seen) w w'
  pub words : g' ≡ seed_after g (paces since g page seen)
  pub since_is : since' ≡ since_now since
  pub room : 0 < w'.log_spare
  pub idle :
      (c : Caller) → c.0 < w.core.device.sizes.callers → is_idle (state_of w.core.device.calls c) ≡ true
      → is_idle (state_of w'.core.device.calls c) ≡ true
