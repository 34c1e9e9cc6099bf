-- What the tables of a device keep: each knows the device's sizes, and the newest entry of each page is the
-- history's last page-out of it. And what the steps of its calls need and leave.
use Rattle.std.specs.Prelude.{◌≡◌, ℕ, zero, suc, ◌+◌, ◌<◌, ◌≤◌, List, [], ◌∷◌, length, is_some, slice_index_or, IsSome, true, false, if◌then◌else◌, option_map, Option, None, Some}
use Rattle.swap_base.specs.declared.Page.{Page}
use Rattle.swap_base.specs.declared.Caller.{Caller}
use Rattle.swap_base.specs.declared.EntryNo.{EntryNo}
use Rattle.swap_base.specs.Sizes.{Sizes, pages_of}
use Rattle.swap_record.specs.RecordView.{RecordView}
use Rattle.swap_record.specs.declared.Op.{Op}
use Rattle.swap_record.specs.declared.Op.TheVariants.{PageOut, PageIn, Failed}
use Rattle.swap_record.specs.History.{History, last}
use Rattle.swap_queue.specs.BehindView.{BehindView}
use Rattle.swap_queue.specs.Queue.{Queue, flying}
use Rattle.swap_base.specs.declared.DiskWhich.{DiskWhich}
use Rattle.swap_base.specs.declared.DiskWhich.TheVariants as which
use Rattle.swap_base.specs.declared.Via.{Via}
use Rattle.swap_calls.specs.Calls.{CallsView, state_of, is_waiting, may_read}
use Rattle.swap_calls.specs.declared.Arrived.TheVariants as arrived
use Rattle.swap_calls.specs.declared.CallState.{CallState}
use Rattle.swap_calls.specs.declared.CallState.TheVariants.{Reading}
use Rattle.swap_disk.specs.Port.{DiskCall, DiskAnswer}
use Rattle.swap_table.specs.declared.InStep.{InStep}
use Rattle.swap_table.specs.declared.InStep.TheVariants as ins
use Rattle.swap_table.specs.declared.Step.{Step}
use Rattle.swap_table.specs.declared.Step.TheVariants as steps
use Rattle.swap_table.specs.Device.{Device, Core, of_device, lost_after, lose_with, give_up_one, Heard, query_reply, borrow_reply, write_reply, read_reply, rate_asked, taken_back, query_answered, borrow_answered, write_answered, read_answered, rate_told, heard_evict}
use Rattle.swap_wire.specs.Fabric.{Parcel, carries_page, parcel_of, FabricCall, FabricAnswer}
use Rattle.swap_base.specs.declared.Slab.{Slab}
use Rattle.swap_base.specs.declared.Lender.{Lender}
use Rattle.swap_base.specs.declared.Lease.{Lease}
use Rattle.swap_slabs.specs.Slabs.{is_mapped, flying_of}
use Rattle.swap_base.specs.declared.TheConstants.{MOST_LENDERS, MOST_WINDOW}
use Rattle.swap_slabs.specs.Slabs as slabs
use Rattle.swap_slabs.specs.declared.SlabState.{SlabState}
use Rattle.swap_slabs.specs.declared.SlabState.TheVariants.{Asking, Borrowing}
use Rattle.swap_activity.specs.Rates.{Activity}
use Rattle.swap_wire.specs.declared.Msg.{Msg}
use Rattle.swap_rings.specs.declared.Request.{Request}
use Rattle.swap_rings.specs.declared.Request.TheVariants as request
use Rattle.swap_rings.specs.Rings.{is_up, ring_of}
use Rattle.swap_remote.specs.Remote.{RemoteView, Remote, state_for, mapped_by}
use Rattle.swap_table.specs.Ports.{Prog, Ret, Along}
use Rattle.swap_table.specs.Laws.{AgreeWith}
use Rattle.swap_disk.specs.declared.port.DiskPort.{Ghosts as DiskMeaning}
use Rattle.swap_wire.specs.declared.fabric.Fabric.{Ghosts as FabricMeaning}
use Rattle.swap_device.specs.declared.links.Answer.{Answer}

-- a device without its ports, and the entries that its history has room for
pub record StateView : Type 0 where
  pub device : Device
  pub spare : ℕ

-- the newest entry of each page
abbrev pub IsNewest : ℕ → List (Option EntryNo) → History → Type 0
IsNewest pages newest H = (p : Page) → p.0 < pages → slice_index_or newest p.0 None ≡ last H p

pub record AreTables (s : Sizes) (book : RecordView) (queue : BehindView) (calls : CallsView)
    (newest : List (Option EntryNo))
    (remote : RemoteView) (rates : List Activity) : Type 0 where
  pub remote_sizes : remote.sizes ≡ s
  pub record_page : book.page_bytes ≡ s.page_bytes
  pub queue_sizes : queue.sizes ≡ s
  pub calls_page : calls.page_bytes ≡ s.page_bytes
  pub calls_len : length calls.calls ≡ s.callers
  pub newest_len : length newest ≡ pages_of s
  pub newest_is : IsNewest (pages_of s) newest book.history
  pub rates_len : length rates ≡ s.slabs

-- a device, its disk and its fabric agree, and the fabric is of the device
abbrev pub Agree : {D F : Type 0} → DiskMeaning D → FabricMeaning F → Core D F → Type 0
Agree disk fabric core = AgreeWith disk fabric (is_some (disk.means core.disk).blocks) core.device core.disk core.fabric

-- they agree, and there is room for a page on its way
pub record IsDevice {D F : Type 0} (disk : DiskMeaning D) (fabric : FabricMeaning F) (core : Core D F)
    (page : List ℕ) : Type 0 where
  pub agree : Agree disk fabric core
  pub page_len : length page ≡ core.device.sizes.page_bytes

-- a call went along its program: disk and fabric did what it asked, and the device is what it gave, with its answer
abbrev pub Went :
    {D F R : Type 0} → (D → (c : DiskCall) → DiskAnswer c → D → Type 0)
    → (F → (c : FabricCall) → FabricAnswer c → F → Type 0) → (Device → Prog (Device × R)) → Core D F → Core D F → R
    → Type 0
Went disk_moves moves program before now answer =
    Along disk_moves moves (program before.device) before.disk before.fabric now.disk now.fabric (now.device, answer)

-- so one whose program gives the device alone
abbrev pub Became :
    {D F : Type 0} → (D → (c : DiskCall) → DiskAnswer c → D → Type 0)
    → (F → (c : FabricCall) → FabricAnswer c → F → Type 0) → (Device → Prog Device) → Core D F → Core D F → Type 0
Became disk_moves moves program before now =
    Along disk_moves moves (program before.device) before.disk before.fabric now.disk now.fabric now.device

-- the fabric is of the device, and each link that is up leads to one of its lenders
pub record IsReady {D F : Type 0} (fabric : FabricMeaning F) (core : Core D F) : Type 0 where
  pub of : fabric.of core.fabric ≡ of_device core.device
  pub few : core.device.lenders ≤ MOST_LENDERS
  pub lead : (l : Lender) → is_up core.device.remote.links l ≡ true → l.0 < core.device.lenders

-- what a loss leaves as it was; a caller that may read may still
pub record LeavesRest {D F : Type 0} (before now : Core D F) : Type 0 where
  pub of : of_device now.device ≡ of_device before.device
  pub history : now.device.history ≡ before.device.history
  pub links_made : now.device.links_made ≡ before.device.links_made
  pub disk : now.disk ≡ before.disk
  pub spare : now.spare ≡ before.spare
  pub reads :
      (c : Caller) → may_read (state_of before.device.calls c) ≡ true → may_read (state_of now.device.calls c) ≡ true

-- a link is lost, of so many at most; after the last one no choice is looked at
abbrev pub lose_in_turn : ℕ → Device → Lender → Prog Device
lose_in_turn zero d l = Ret (lost_after d l)
lose_in_turn (suc more) d l = lose_with more d l

-- a slab that waits for a lender which is gone waits no more
abbrev pub given_up : (Device → Lender → Prog Device) → Device → Lender → Slab → Prog Device
given_up down d l slab = if slabs.asks l (slabs.state_of d.remote.slabs slab) then give_up_one down d l slab else Ret d

-- a slab and a lender there are
abbrev pub MayBorrow : Sizes → Option (Slab × Lender) → Type 0
MayBorrow s None = Unit {0}
MayBorrow s (Some at) = (at.0.0 < s.slabs) × (at.1.0 < MOST_LENDERS)

-- a second lender is asked beside another one that was asked alone
abbrev pub IsAskedAlone : Option Lender → Lender → SlabState → Type 0
IsAskedAlone None lender state = Unit {0}
IsAskedAlone (Some first) lender state = (state ≡ Asking (slabs.pair_of first None)) × (lender.0 ≡ first.0 → ⊥)

-- an answered page-in gives the bytes that its entry keeps; else the buffer is as it was
abbrev pub GivesBytes : Op → List ℕ → List ℕ → List ℕ → Type 0
GivesBytes PageOut bytes before given = given ≡ before
GivesBytes (PageIn named from) bytes before given = given ≡ bytes
GivesBytes (Failed kind since at) bytes before given = given ≡ before

abbrev pub GivesLast : History → List ℕ → List ℕ → Type 0
GivesLast [] before given = given ≡ before
GivesLast (row ∷ H) before given = GivesBytes row.entry.op row.bytes before given

abbrev pub GivesIn : InStep → History → List ℕ → List ℕ → Type 0
GivesIn (ins.Done entry) H before given = GivesLast H before given
GivesIn (ins.Wait via) H before given = given ≡ before

abbrev pub GivesStep : Step → History → List ℕ → List ℕ → Type 0
GivesStep (steps.Done entry sent) H before given = GivesLast H before given
GivesStep _ H before given = given ≡ before

-- each entry takes one from the room for entries
abbrev pub KeepsRoom : {D F : Type 0} → Core D F → Core D F → Type 0
KeepsRoom before now = length now.device.history + now.spare ≡ length before.device.history + before.spare

-- a page-out's later step gives no bytes
abbrev pub IsOutOp : Op → Type 0
IsOutOp PageOut = Unit {0}
IsOutOp (PageIn named from) = ⊥
IsOutOp (Failed kind since at) = Unit {0}

abbrev pub EndsInOut : History → Type 0
EndsInOut [] = Unit {0}
EndsInOut (row ∷ H) = IsOutOp row.entry.op

abbrev pub IsOutStep : Step → History → Type 0
IsOutStep (steps.Done entry sent) H = EndsInOut H
IsOutStep _ H = Unit {0}

-- a call whose page came, or whose read failed, and that isn't newer
abbrev pub CameFor : Page → EntryNo → Via → CallState → Type 0
CameFor page newest via state = (since : ℕ) × (state ≡ Reading page newest via arrived.Came false since)

abbrev pub FailedFor : Page → ℕ → CallState → Type 0
FailedFor page since state =
    (newest : EntryNo) × ((via : Via) × (state ≡ Reading page newest via arrived.Failed false since))

-- a write that came back is of a copy that flies; a read that came back is waited for
abbrev pub WritesBack : Queue → DiskWhich → Page → Type 0
WritesBack q (which.Write r) page = IsSome (flying q page)
WritesBack q (which.Read c) page = Unit {0}

abbrev pub ReadsBack : Device → DiskWhich → Type 0
ReadsBack d (which.Write r) = Unit {0}
ReadsBack d (which.Read c) = (c.0 < d.sizes.callers) × (is_waiting (state_of d.calls c) ≡ true)

-- a request for a page may go to this lender: its slab is mapped, with few requests flying, and the ring has room
pub record MayGo (s : Sizes) (r : Remote) (page : Page) (lender : Lender) : Type 0 where
  pub few : lender.0 < MOST_LENDERS
  pub mapped : is_mapped (state_for s r.slabs page) ≡ true
  pub flying : flying_of (state_for s r.slabs page) < MOST_WINDOW
  pub room : length (ring_of r.links lender) < s.window

-- and the lender is one of the fabric's
abbrev pub MayGoTo : Sizes → Remote → ℕ → Page → Option (Lender × Lease) → Type 0
MayGoTo s r lenders page None = Unit {0}
MayGoTo s r lenders page (Some at) = MayGo s r page at.0 × (at.0.0 < lenders)

-- what is said without a page
abbrev pub said_parcel : Option Msg → Option Parcel
said_parcel word = option_map (λ m. parcel_of m []) word

-- what a message makes of the device, with what follows
abbrev pub heard_with : Device → Answer → Heard
heard_with now answer = record { device = now; word = said_parcel answer.word; choice = answer.choice }

-- what a message does: it is heard, or nothing changes
abbrev pub IsHeard : Option Heard → Device → Device → Option Answer → Type 0
IsHeard heard before now answer = (heard ≡ option_map (heard_with now) answer) × (answer ≡ None → now ≡ before)

-- a word carries no page, and what is borrowed can be
abbrev pub IsPlain : Option Msg → Type 0
IsPlain None = Unit {0}
IsPlain (Some m) = carries_page m ≡ false

abbrev pub MayFollow : Sizes → Option Answer → Type 0
MayFollow s None = Unit {0}
MayFollow s (Some answer) = IsPlain answer.word × MayBorrow s answer.choice

-- a read was started
abbrev pub Waits : InStep → Type 0
Waits (ins.Done entry) = ⊥
Waits (ins.Wait via) = Unit {0}

-- a request that is answered: a slab is borrowed from this lender, a write or a read is under way, and a caller waits
abbrev pub IsServed : Device → Lender → Option Request → Type 0
IsServed d lender None = Unit {0}
IsServed d lender (Some (request.Query slab)) =
    (slab.0 < d.sizes.slabs) × (slabs.asks lender (slabs.state_of d.remote.slabs slab) ≡ true)
IsServed d lender (Some (request.Borrow slab)) =
    (slab.0 < d.sizes.slabs) × (slabs.state_of d.remote.slabs slab ≡ Borrowing lender)
IsServed d lender (Some (request.Write page entry)) =
    (page.0 < pages_of d.sizes) × (0 < flying_of (state_for d.sizes d.remote.slabs page))
IsServed d lender (Some (request.Read caller page)) =
    (caller.0 < d.sizes.callers) × (page.0 < pages_of d.sizes) × (0 < flying_of (state_for d.sizes d.remote.slabs page))
    × (is_waiting (state_of d.calls caller) ≡ true)

-- what is heard of a message whose page stands in a buffer
abbrev pub answered_of : Device → Lender → Msg → List ℕ → Option Request → Option Heard
answered_of d lender m bytes None = None
answered_of d lender m bytes (Some (request.Query slab)) = query_answered d lender slab (query_reply m)
answered_of d lender m bytes (Some (request.Borrow slab)) = borrow_answered d lender slab (borrow_reply m)
answered_of d lender m bytes (Some (request.Write page entry)) = write_answered d lender page entry (write_reply m)
answered_of d lender m bytes (Some (request.Read caller page)) = read_answered d lender caller page bytes (read_reply m)

abbrev pub heard_by_of : Device → Lender → Msg → List ℕ → Option Request → Option Lease → Option Lease → Option Heard
heard_by_of d lender m bytes oldest (Some lease) back = rate_told d lease (mapped_by d.remote.slabs lender lease)
heard_by_of d lender m bytes oldest None (Some lease) = heard_evict d (mapped_by d.remote.slabs lender lease)
heard_by_of d lender m bytes oldest None None = answered_of d lender m bytes oldest

abbrev pub heard_of : Device → Lender → Msg → List ℕ → Option Request → Option Heard
heard_of d lender m bytes oldest = heard_by_of d lender m bytes oldest (rate_asked m) (taken_back m)
