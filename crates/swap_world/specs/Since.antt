-- What disk and fabric were asked along a run, and what became of a caller's call since its last start: what was handed
-- over to it, whether its page was paged out, and whether its link ended.
use Rattle.std.specs.Prelude.{◌≡◌, ◌⊎◌, Bool, true, false, ◌&&◌, ◌==◌, if◌then◌else◌, List, [], ◌∷◌, ℕ, Option, None, Some}
use Rattle.swap_base.specs.declared.Page.{Page}
use Rattle.swap_base.specs.declared.Caller.{Caller}
use Rattle.swap_base.specs.declared.Lender.{Lender}
use Rattle.swap_base.specs.declared.EntryNo.{EntryNo}
use Rattle.swap_base.specs.declared.DiskWhich.{DiskWhich}
use Rattle.swap_base.specs.declared.DiskWhich.TheVariants as which
use Rattle.swap_base.specs.declared.Origin.{Origin}
use Rattle.swap_base.specs.declared.Origin.TheVariants as origin
use Rattle.swap_base.specs.declared.Via.{Via}
use Rattle.swap_base.specs.declared.Via.TheVariants as via
use Rattle.swap_base.specs.Sizes.{Sizes}
use Rattle.swap_record.specs.declared.Op.{Op}
use Rattle.swap_record.specs.declared.Op.TheVariants as op
use Rattle.swap_record.specs.History.{Row, next_name, last}
use Rattle.swap_queue.specs.Queue.{first_of}
use Rattle.swap_disk.specs.Disk.{Taken}
use Rattle.swap_disk.specs.Port.{DiskCall, DiskAnswer, TakeDone}
use Rattle.swap_disk.specs.declared.port.DiskPort.{Ghosts as DiskMeaning}
use Rattle.swap_wire.specs.Input.{Input}
use Rattle.swap_wire.specs.declared.Seen.{Seen}
use Rattle.swap_wire.specs.declared.Seen.TheVariants as seen
use Rattle.swap_wire.specs.declared.Event.TheVariants as event
use Rattle.swap_wire.specs.declared.fabric.Sent.TheVariants as sent
use Rattle.swap_wire.specs.declared.fabric.Fabric.{Ghosts as FabricMeaning}
use Rattle.swap_wire.specs.Fabric.{Handed, Brought, NothingCame, LinkLost, FabricCall, FabricAnswer, Connect, Send, Take, End, Give, Cut, Crash, Host, is_page}
use Rattle.swap_calls.specs.Calls.{state_of, is_waiting}
use Rattle.swap_calls.specs.declared.Arrived.{Arrived}
use Rattle.swap_calls.specs.declared.CallState.TheVariants.{Reading}
use Rattle.swap_rings.specs.Rings.{ring_of, oldest}
use Rattle.swap_rings.specs.declared.Request.{Request}
use Rattle.swap_rings.specs.declared.Request.TheVariants as request
use Rattle.swap_table.specs.Ports.{Prog, Ret, AskDisk, AskFabric, Along}
use Rattle.swap_table.specs.Goes.{Asked, Nothing, OfDisk, OfFabric}
use Rattle.swap_table.specs.Device.{Device, device_at_start, disk_take}
use Rattle.swap_table.specs.Happens.{happens}
use Rattle.swap_world.specs.World.{IsStep}
use Rattle.swap_world.specs.Failures.{is_start_of}
use Rattle.swap_world.specs.Runs.{IsRun, begin, effect, without, polled}

-- a disk read of this caller's came back well
abbrev pub is_read_back : Caller → DiskWhich → Bool → Bool
is_read_back c (which.Write p) ok = false
is_read_back c (which.Read e) ok = (e.0 == c.0) && ok

-- what the disk, or a link, hands over to a caller's read
abbrev pub from_disk : Caller → Option Taken → Option (List ℕ)
from_disk c None = None
from_disk c (Some t) = if is_read_back c t.done.which t.done.ok then Some t.bytes else None

abbrev pub is_of_caller : Caller → Option Request → Bool
is_of_caller c (Some (request.Read e p)) = e.0 == c.0
is_of_caller c _ = false

abbrev pub from_link : Caller → Device → Lender → Handed → Option (List ℕ)
from_link c d l (Brought q) =
    if is_of_caller c (oldest (ring_of d.remote.links l)) && is_page q.msg then Some q.page else None
from_link c d l NothingCame = None
from_link c d l LinkLost = None

abbrev pub by_disk_call : Caller → (call : DiskCall) → DiskAnswer call → Option (List ℕ)
by_disk_call c TakeDone taken = from_disk c taken
by_disk_call c _ r = None

abbrev pub by_fabric_call : Caller → Device → (call : FabricCall) → FabricAnswer call → Option (List ℕ)
by_fabric_call c d (Take l) handed = from_link c d l handed
by_fabric_call c d _ r = None

abbrev pub by_call : Caller → Device → Asked → Option (List ℕ)
by_call c d Nothing = None
by_call c d (OfDisk call r) = by_disk_call c call r
by_call c d (OfFabric call r) = by_fabric_call c d call r

-- what take handed over to a call that waits for it, among these calls of disk and fabric
abbrev pub handed_in : Caller → Device → List Asked → Option (List ℕ)
handed_in c d [] = None
handed_in c d (asked ∷ more) = first_of (handed_in c d more) (by_call c d asked)

abbrev pub handed_to : Caller → Device → List Asked → Option (List ℕ)
handed_to c d asked = if is_waiting (state_of d.calls c) then handed_in c d asked else None

-- a call of the fabric that ends a lender's link: a send that finds it down, a take that finds it lost, its end, and a
-- link that is made in its place
abbrev pub ends_by : Lender → (call : FabricCall) → FabricAnswer call → Bool
ends_by l (Connect m n) r = m.0 == l.0
ends_by l (Send m q) sent.Sent = false
ends_by l (Send m q) sent.Down = m.0 == l.0
ends_by l (Take m) (Brought q) = false
ends_by l (Take m) NothingCame = false
ends_by l (Take m) LinkLost = m.0 == l.0
ends_by l (End m) r = m.0 == l.0
ends_by l (Give m) r = false
ends_by l (Cut m a b) r = false
ends_by l (Crash m) r = false
ends_by l (Host m used word) r = false

abbrev pub ends_link : Lender → Asked → Bool
ends_link l Nothing = false
ends_link l (OfDisk call r) = false
ends_link l (OfFabric call r) = ends_by l call r

abbrev pub EndsIn : Lender → List Asked → Type 0
EndsIn l [] = ⊥
EndsIn l (asked ∷ more) = (ends_link l asked ≡ true) ⊎ EndsIn l more

-- a page-out of the page was accepted: the page's newest entry is the one that was added
abbrev pub AcceptsOut : Page → Device → Device → Type 0
AcceptsOut p d d' = last d'.history p ≡ Some (next_name d.history)

-- since a start: what holds of an event counts where the event isn't the start itself
abbrev pub SinceStart : Bool → Type 0 → Type 0
SinceStart true X = ⊥
SinceStart false X = X

-- an origin of a page-in that a read brought
abbrev pub is_read : Origin → Bool
is_read origin.Zero = false
is_read origin.Queue = false
is_read origin.Disk = true
is_read (origin.Lender l) = true

abbrev pub is_read_op : Op → Bool
is_read_op op.PageOut = false
is_read_op (op.PageIn named from) = is_read from
is_read_op (op.Failed kind since at) = false

module _ {D F : Type 0} (disk_moves : D → (c : DiskCall) → DiskAnswer c → D → Type 0)
    (moves : F → (c : FabricCall) → FabricAnswer c → F → Type 0) where
  -- the calls of disk and fabric along a program, with their answers, in order
  abbrev pub asked_along :
      {A : Type 0} (p : Prog A) (k : D) (f : F) (k' : D) (f' : F) (a : A) → Along disk_moves moves p k f k' f' a
      → List Asked
  asked_along (Ret b) k f k' f' a along = []
  asked_along (AskDisk c next) k f k' f' a along =
      OfDisk c along.0 ∷ asked_along (next along.0) along.1 f k' f' a along.3
  asked_along (AskFabric c next) k f k' f' a along =
      OfFabric c along.0 ∷ asked_along (next along.0) k along.1 k' f' a along.3

  -- what was handed over for a caller's last started read
  abbrev pub last_handed :
      {first : Device} {disk : D} {fabric : F} {made : List (Input × Seen)} {d : Device} {k : D} {f : F} → Caller
      → IsRun disk_moves moves first disk fabric made d k f → Option (List ℕ)
  last_handed c begin = None
  last_handed c (effect {d = d} {k = k} {f = f} i s d' k' f' run range step has) =
      if is_start_of c i.event s then None
      else first_of (handed_to c d (asked_along (happens d i.page i.event) k f k' f' (d', s) step)) (last_handed c run)
  last_handed c (without i s k' f' run range step has) = last_handed c run
  last_handed c (polled {d = d} {k = k} {f = f} step d' k' f' run along) =
      first_of (handed_to c d (asked_along (disk_take d) k f k' f' (d', step) along)) (last_handed c run)

  -- a page-out of a page was accepted, and a lender's link ended, since a caller's last start
  abbrev pub AcceptedSince :
      {first : Device} {disk : D} {fabric : F} {made : List (Input × Seen)} {d : Device} {k : D} {f : F} → Caller → Page
      → IsRun disk_moves moves first disk fabric made d k f → Type 0
  AcceptedSince c p begin = ⊥
  AcceptedSince c p (effect {d = d} i s d' k' f' run range step has) =
      SinceStart (is_start_of c i.event s) (AcceptsOut p d d' ⊎ AcceptedSince c p run)
  AcceptedSince c p (without i s k' f' run range step has) = AcceptedSince c p run
  AcceptedSince c p (polled step d' k' f' run along) = AcceptedSince c p run

  abbrev pub EndedSince :
      {first : Device} {disk : D} {fabric : F} {made : List (Input × Seen)} {d : Device} {k : D} {f : F} → Caller
      → Lender
      → IsRun disk_moves moves first disk fabric made d k f → Type 0
  EndedSince c l begin = ⊥
  EndedSince c l (effect {d = d} {k = k} {f = f} i s d' k' f' run range step has) =
      SinceStart (is_start_of c i.event s)
      (EndsIn l (asked_along (happens d i.page i.event) k f k' f' (d', s) step) ⊎ EndedSince c l run)
  EndedSince c l (without i s k' f' run range step has) = EndedSince c l run
  EndedSince c l (polled step d' k' f' run along) = EndedSince c l run

-- A page-in that a read answered gives exactly what was handed over for its caller's last started read.
abbrev pub GivesWhatWasHanded :
    {D F : Type 0} → (D → (c : DiskCall) → DiskAnswer c → D → Type 0)
    → (F → (c : FabricCall) → FabricAnswer c → F → Type 0) → Type 0
GivesWhatWasHanded {D} {F} disk_moves moves =
    (s : Sizes) (n : ℕ) (first : D) (first_fabric : F) (made : List (Input × Seen)) (d : Device) (k : D) (f : F)
    (run : IsRun disk_moves moves (device_at_start s n) first first_fabric made d k f) (i : Input) (seen_ : Seen)
    (d' : Device)
    (k' : D) (f' : F) (row : Row)
    → IsStep disk_moves moves d k f i seen_ d' k' f' → d'.history ≡ row ∷ d.history → is_read_op row.entry.op ≡ true
    → last_handed disk_moves moves row.entry.caller run ≡ Some row.bytes

-- A call that reads anew has its cause: since its last start a page-out of its page was accepted, or the link ended
-- through which it waited.
pub record HasAgainCause {D F : Type 0} (disk : DiskMeaning D) (fabric : FabricMeaning F) (s : Sizes) (n : ℕ)
    (first : D) (first_fabric : F) (made : List (Input × Seen)) (d : Device) (k : D) (f : F)
    (run : IsRun disk.moves fabric.moves (device_at_start s n) first first_fabric made d k f) (c : Caller) : Type 0
  where
    pub page : Page
    pub entry : EntryNo
    pub through : Via
    pub how : Arrived
    pub newer : Bool
    pub since : ℕ
    pub reads : state_of d.calls c ≡ Reading page entry through how newer since
    pub cause : AcceptedSince disk.moves fabric.moves c page run
        ⊎ ((l : Lender) × (through ≡ via.Lender l) × EndedSince disk.moves fabric.moves c l run)

abbrev pub AgainHasCause : {D F : Type 0} → DiskMeaning D → FabricMeaning F → Type 0
AgainHasCause {D} {F} disk fabric =
    (s : Sizes) (n : ℕ) (first : D) (first_fabric : F) (made : List (Input × Seen)) (d : Device) (k : D) (f : F)
    (run : IsRun disk.moves fabric.moves (device_at_start s n) first first_fabric made d k f) (c : Caller)
    (page : List ℕ)
    (v : Via) (d' : Device) (k' : D) (f' : F)
    → IsStep disk.moves fabric.moves d k f (record { event = event.Finish c; page = page }) (seen.Again v) d' k' f'
    → HasAgainCause disk fabric s n first first_fabric made d k f run c
