-- What holds of every run.
use Rattle.std.specs.Prelude.{◌≡◌, ℕ, ◌<◌, ◌≤◌, Bool, true, false, List, is_some, [], length}
use Rattle.std.specs.List.{AllByRecursion}
use Rattle.swap_base.specs.declared.Caller.{Caller}
use Rattle.swap_base.specs.declared.geometry.LenderSpec.{LenderSpec}
use Rattle.swap_base.specs.Sizes.{Sizes, zeros}
use Rattle.swap_wire.specs.declared.Seen.{Seen}
use Rattle.swap_wire.specs.Input.{Input}
use Rattle.swap_wire.specs.declared.fabric.Fabric.{Ghosts as FabricMeaning}
use Rattle.swap_record.specs.History.{IsOrdered, IsLegal}
use Rattle.swap_disk.specs.declared.port.DiskPort.{Ghosts as DiskMeaning}
use Rattle.swap_disk.specs.MemDiskView as drive
use Rattle.swap_disk.specs.MemDiskView.{MemDiskView}
use Rattle.swap_base.specs.declared.TheConstants.{MOST_LENDERS}
use Rattle.swap_link.specs.Harbor as harbor
use Rattle.swap_link.specs.Harbor.{Harbor}
use Rattle.swap_table.specs.Device.{Device, device_at_start}
use Rattle.swap_table.specs.Fits.{Fits, IsFaithfulOver, IsBlank}
use Rattle.swap_table.specs.Laws.{AgreeWith}
use Rattle.swap_world.specs.Answered.{AreAnsweredOnce}
use Rattle.swap_world.specs.Failures.{HoldsEntriesSeen}
use Rattle.swap_world.specs.Runs.{IsRun, IsInput, GoesOn, has_effect}
use Rattle.swap_world.specs.World.{World, IsEvent, start, next, reach, history, made_by}

-- every event names what there is, and every page-out hands in a page
abbrev pub AreInputs : Sizes → List LenderSpec → List Input → Type 0
AreInputs s specs is = AllByRecursion (IsInput s (length specs)) is

-- over the disk and the lenders in memory the history is one of an array of pages that starts as zeros
abbrev pub AlwaysLegal : Type 0
AlwaysLegal =
    (s : Sizes) (specs : List LenderSpec) (is : List Input) → length specs ≤ MOST_LENDERS → AreInputs s specs is
    → IsLegal (zeros s) (history (reach (start s specs) is))

-- After these events the history is ordered, and each page-in gives what it may for its page's content: the content
-- where it comes from nowhere or from the queue, or from a disk that tells its blocks, and from a lender what answers
-- it;
-- each caller's calls were answered once, in its order; and the history holds exactly the entries that were seen, where
-- each failure has its cause.
pub record Holds (told : Bool) (answers : List ℕ → List ℕ → Type 0) (s : Sizes) (made : List (Input × Seen))
    (d : Device) : Type 0 where
  pub ordered : IsOrdered d.history
  pub faithful : IsFaithfulOver told answers (zeros s) d.history
  pub once : (c : Caller) → c.0 < s.callers → AreAnsweredOnce c made d
  pub entries : HoldsEntriesSeen made d.history

-- a run over a disk that was blank and a fabric of these sizes and so many lenders
pub record Began {D F : Type 0} (disk : DiskMeaning D) (fabric : FabricMeaning F) (s : Sizes) (n : ℕ) (first : D)
    (first_fabric : F) : Type 0 where
  pub blank : IsBlank s (disk.means first)
  pub is_of : fabric.of first_fabric ≡ record { sizes = s; lenders = n }
  pub few : n ≤ MOST_LENDERS

-- it holds after every such run
abbrev pub HoldsAfterEach : {D F : Type 0} → DiskMeaning D → FabricMeaning F → Type 0
HoldsAfterEach {D} {F} disk fabric =
    (s : Sizes) (n : ℕ) (first : D) (first_fabric : F) (made : List (Input × Seen)) (d : Device) (k : D) (f : F)
    → Began disk fabric s n first first_fabric
    → IsRun disk.moves fabric.moves (device_at_start s n) first first_fabric made d k f
    → Holds (is_some (disk.means first).blocks) fabric.answers s made d

-- and the device, its disk and its fabric agree: on the queue and the disk, on each link's requests and what it owes,
-- and
-- on what the lenders keep of the mapped slabs
abbrev pub AgreesAfterEach : {D F : Type 0} → DiskMeaning D → FabricMeaning F → Type 0
AgreesAfterEach {D} {F} disk fabric =
    (s : Sizes) (n : ℕ) (first : D) (first_fabric : F) (made : List (Input × Seen)) (d : Device) (k : D) (f : F)
    → Began disk fabric s n first first_fabric
    → IsRun disk.moves fabric.moves (device_at_start s n) first first_fabric made d k f
    → AgreeWith disk fabric (is_some (disk.means first).blocks) d k f

-- over the disk and the lenders in memory: a page that answers is the page that was owed
abbrev pub Agrees : World → Type 0
Agrees w =
    Fits true (λ page given. page ≡ given) (harbor.KeepsAt w.harbor) (harbor.OwesAt w.harbor) w.device
    (drive.port_of w.drive)

abbrev pub AlwaysAgrees : Type 0
AlwaysAgrees =
    (s : Sizes) (specs : List LenderSpec) (is : List Input) → length specs ≤ MOST_LENDERS → AreInputs s specs is
    → Agrees (reach (start s specs) is)

-- one event over the disk and the lenders in memory leads to the next world
abbrev pub StepsAreNext : Type 0
StepsAreNext =
    (d d' : Device) (k k' : MemDiskView) (h h' : Harbor) (i : Input) (s : Seen)
    → IsEvent drive.Moves harbor.Moves d k h i s d' k' h'
    → next (record { device = d; drive = k; harbor = h }) i
    ≡ record { world = record { device = d'; drive = k'; harbor = h' }; seen = s }

-- over the disk and the lenders in memory an event without an effect leaves the whole world as it was, ports too
abbrev pub NothingChanges : Type 0
NothingChanges =
    (s : Sizes) (specs : List LenderSpec) (is : List Input) (i : Input) → length specs ≤ MOST_LENDERS
    → AreInputs s specs is → let w : World = reach (start s specs) is in
    has_effect i.event (next w i).seen ≡ false → (next w i).world ≡ w

-- a history goes on with every event
abbrev pub HistoriesGoOn : Type 0
HistoriesGoOn = (w : World) (is : List Input) → GoesOn (history w) (history (reach w is))

-- over the disk and the lenders in memory the history holds exactly the entries that were seen, and each failure has
-- its
-- cause
abbrev pub EntriesAreSeen : Type 0
EntriesAreSeen =
    (s : Sizes) (specs : List LenderSpec) (is : List Input) → length specs ≤ MOST_LENDERS → AreInputs s specs is
    → HoldsEntriesSeen (made_by [] (start s specs) is) (history (reach (start s specs) is))

-- and each caller's calls are answered once, in its order
abbrev pub EachCallOnce : Type 0
EachCallOnce =
    (s : Sizes) (specs : List LenderSpec) (is : List Input) (c : Caller) → c.0 < s.callers → length specs ≤ MOST_LENDERS
    → AreInputs s specs is → AreAnsweredOnce c (made_by [] (start s specs) is) (reach (start s specs) is).device
