-- The device table: what each call makes of the device, what it asks of disk and fabric, and what it answers.
use Rattle.std.specs.Prelude.{ℕ, zero, suc, ◌+◌, Bool, true, false, ◌&&◌, ◌==◌, nat_lt, if◌then◌else◌, List, [], ◌∷◌, length, is_none, Option, None, Some}
use Rattle.swap_base.specs.declared.Page.{Page}
use Rattle.swap_base.specs.declared.Caller.{Caller}
use Rattle.swap_base.specs.declared.EntryNo.{EntryNo}
use Rattle.swap_base.specs.declared.Slab.{Slab}
use Rattle.swap_base.specs.declared.Lender.{Lender}
use Rattle.swap_base.specs.declared.Link.{Link}
use Rattle.swap_base.specs.declared.Lease.{Lease}
use Rattle.swap_base.specs.declared.Origin.{Origin}
use Rattle.swap_base.specs.declared.Origin.TheVariants as origin
use Rattle.swap_base.specs.declared.Via.{Via}
use Rattle.swap_base.specs.declared.Via.TheVariants as via
use Rattle.swap_base.specs.declared.CallKind.{CallKind}
use Rattle.swap_base.specs.declared.CallKind.TheVariants as kind
use Rattle.swap_base.specs.declared.DiskWhich.{DiskWhich}
use Rattle.swap_base.specs.declared.DiskWhich.TheVariants as which
use Rattle.swap_base.specs.Sizes.{Sizes, pages_of, place_of, zeros}
use Rattle.swap_record.specs.declared.Op.TheVariants as op
use Rattle.swap_record.specs.History.{History, next_name, last, with_row}
use Rattle.swap_queue.specs.Queue as queue
use Rattle.swap_queue.specs.Queue.{Queue, Copy}
use Rattle.swap_disk.specs.Disk.{Taken}
use Rattle.swap_disk.specs.Port.{StartWrite, StartRead, TakeDone, LetFinish}
use Rattle.swap_wire.specs.declared.Msg.{Msg}
use Rattle.swap_wire.specs.declared.Msg.TheVariants as msg
use Rattle.swap_wire.specs.declared.fabric.Sent.{Sent}
use Rattle.swap_wire.specs.declared.fabric.Sent.TheVariants as sent
use Rattle.swap_wire.specs.declared.fabric.Gave.{Gave}
use Rattle.swap_wire.specs.declared.fabric.Hosted.{Hosted}
use Rattle.swap_wire.specs.Fabric.{Parcel, parcel_of, Handed, Brought, NothingCame, LinkLost, Connect, Send, Take, End, Give, Cut, Crash, Host, FabricOf}
use Rattle.swap_slabs.specs.Slabs as slabs
use Rattle.swap_slabs.specs.declared.Reply.TheVariants as reply
use Rattle.swap_slabs.specs.declared.Chosen.{Chosen}
use Rattle.swap_slabs.specs.declared.Chosen.TheVariants as chosen
use Rattle.swap_base.specs.declared.TheConstants.{MOST_LENDERS}
use Rattle.swap_activity.specs.Rates.{Activity}
use Rattle.swap_rates.specs.Table as rates
use Rattle.swap_choice.specs.declared.lenders.Asked.{Asked}
use Rattle.swap_choice.specs.declared.lenders.Asked.TheVariants as picked
use Rattle.swap_choice.specs.Asked as choice
use Rattle.swap_rings.specs.Rings as rings
use Rattle.swap_rings.specs.declared.Request.{Request}
use Rattle.swap_rings.specs.declared.Request.TheVariants as request
use Rattle.swap_remote.specs.Remote as remote
use Rattle.swap_remote.specs.Remote.{Remote}
use Rattle.swap_calls.specs.Calls as calls
use Rattle.swap_calls.specs.Calls.{Calls}
use Rattle.swap_calls.specs.declared.Arrived.TheVariants as arrived
use Rattle.swap_calls.specs.declared.CallState.{CallState}
use Rattle.swap_calls.specs.declared.CallState.TheVariants.{Idle, Room, Reading}
use Rattle.swap_table.specs.declared.OutStep.{OutStep}
use Rattle.swap_table.specs.declared.OutStep.TheVariants as outs
use Rattle.swap_table.specs.declared.InStep.{InStep}
use Rattle.swap_table.specs.declared.InStep.TheVariants as ins
use Rattle.swap_table.specs.declared.Step.{Step}
use Rattle.swap_table.specs.declared.Step.TheVariants as steps
use Rattle.swap_table.specs.declared.DiskStep.{DiskStep}
use Rattle.swap_table.specs.declared.DiskStep.TheVariants as disk
use Rattle.swap_table.specs.declared.Placed.{Placed}
use Rattle.swap_table.specs.declared.LinkStep.{LinkStep}
use Rattle.swap_table.specs.declared.LinkStep.TheVariants as link
use Rattle.swap_table.specs.declared.TheConstants.{MOST_LINKS}
use Rattle.swap_table.specs.Ports.{Prog, Ret, AskDisk, AskFabric, answering, and_then}
use Rattle.swap_wire.specs.declared.TheConstants.{WIRE_VERSION}

-- The newest entry of a page is the history's last page-out of it, and isn't kept beside the history.
pub record Device : Type 0 where
  pub sizes : Sizes
  pub lenders : ℕ
  pub history : History
  pub queue : Queue
  pub calls : Calls
  pub failed_writes : ℕ
  pub failed_reads : ℕ
  pub remote : Remote
  pub rates : List Activity
  pub links_made : ℕ

-- a device beside its disk and its fabric, and the entries that its history has room for
pub record Core (D F : Type 0) : Type 0 where
  pub device : Device
  pub disk : D
  pub fabric : F
  pub spare : ℕ

-- what the device's disk and fabric have to be of
abbrev pub of_device : Device → FabricOf
of_device d = record { sizes = d.sizes; lenders = d.lenders }

abbrev pub device_at_start : Sizes → ℕ → Device
device_at_start s lenders =
    record {
      sizes = s;
      lenders = lenders;
      history = [];
      queue = queue.empty (pages_of s) s.queue;
      calls = calls.all_idle s.callers;
      failed_writes = 0;
      failed_reads = 0;
      remote = remote.remote_at_start s;
      rates = rates.all_still s.slabs;
      links_made = 0;
    }

-- an accepted page-out: its entry, its copy in the queue, the page's readers marked, the page's bit cleared, and the
-- caller idle
abbrev pub enter_entry : Device → Caller → Page → List ℕ → Device
enter_entry d c p bytes =
    record d {
      history = with_row d.history c p op.PageOut bytes;
      queue = queue.put_after d.queue p (record { entry = next_name d.history; bytes = bytes });
      calls = calls.end_after (calls.paged_out d.calls p) c;
      remote = remote.changed_after d.remote p;
    }

-- an answered page-in
abbrev pub give : Device → Caller → Page → Option EntryNo → Origin → List ℕ → Device
give d c p named from bytes =
    record d { history = with_row d.history c p (op.PageIn named from) bytes; calls = calls.end_after d.calls c }

-- a call that a failure of the disk ends
abbrev pub fault : Device → Caller → Page → CallKind → ℕ → ℕ → List ℕ → Device
fault d c p kind since at bytes =
    record d { history = with_row d.history c p (op.Failed kind since at) bytes; calls = calls.end_after d.calls c }

-- a page-out that is kept until the queue has room
abbrev pub wait_for_room : Device → Caller → Page → List ℕ → Device
wait_for_room d c p bytes = record d { calls = calls.waits_for_room d.calls c p d.failed_writes bytes }

-- a page-in that waits for the disk
abbrev pub wait_for_disk : Device → Caller → Page → EntryNo → Device
wait_for_disk d c p newest = record d { calls = calls.reads d.calls c p newest via.Disk d.failed_reads }

-- a page's slab is hit, and each slab's period ends
abbrev pub hit : Device → Page → Device
hit d p = record d { rates = rates.hit d.rates (remote.slab_for d.sizes p) }

abbrev pub periods_ended : Device → Device
periods_ended d = record d { rates = rates.periods_ended d.rates }

-- a link that is lost, but for the slabs that asked its lender: those at its lender are local, and the calls that wait
-- through it are lost
abbrev pub lost_after : Device → Lender → Device
lost_after d l = record d { remote = remote.lost_after d.sizes d.remote l; calls = calls.lost_after d.calls l }

-- a write, or a read, that was sent to the lender of the page's slab
abbrev pub write_sent : Device → Lender → Page → EntryNo → Device
write_sent d l p e = record d { remote = remote.sent_for d.sizes d.remote l p (request.Write p e) }

abbrev pub read_sent : Device → Lender → Caller → Page → EntryNo → Device
read_sent d l c p newest =
    record d {
      remote = remote.sent_for d.sizes d.remote l p (request.Read c p);
      calls = calls.reads d.calls c p newest (via.Lender l) d.failed_reads;
    }

-- a local slab is borrowed from a lender whose link takes a request; `down` is what happens where the link is down
abbrev pub may_map : Device → Slab → Lender → Bool
may_map d slab l =
    slabs.is_local (slabs.state_of d.remote.slabs slab)
    && rings.may_send d.sizes.window (rings.link_of d.remote.links l)

abbrev pub after_borrow : (Device → Lender → Prog Device) → Device → Slab → Lender → Sent → Prog Device
after_borrow down d slab l sent.Sent = Ret (record d { remote = remote.borrow_sent d.remote slab l })
after_borrow down d slab l sent.Down = down d l

abbrev pub borrow_from : (Device → Lender → Prog Device) → Device → Slab → Lender → Prog Device
borrow_from down d slab l =
    if may_map d slab l then AskFabric (Send l (parcel_of (msg.Borrow slab) [])) (after_borrow down d slab l) else Ret d

-- the slab and the lender of a choice that is due
abbrev pub chosen_for : Slab → Option Chosen → Option (Slab × Lender)
chosen_for slab None = None
chosen_for slab (Some chosen.Nobody) = None
chosen_for slab (Some (chosen.Lender l)) = Some (slab, l)

-- a slab whose lenders have all replied is borrowed from the one that was chosen, and stays local where that can't be
abbrev pub choose : (Device → Lender → Prog Device) → Device → Option (Slab × Lender) → Prog Device
choose down d None = Ret d
choose down d (Some at) = borrow_from down d at.0 at.1

-- a slab that asked a lender which is gone waits no more for its reply
abbrev pub give_up_one : (Device → Lender → Prog Device) → Device → Lender → Slab → Prog Device
give_up_one down d l slab =
    choose down (record d { remote = remote.gone_after d.remote l slab })
    (chosen_for slab (slabs.answer_choice (slabs.state_of d.remote.slabs slab) l reply.Gone))

-- so each such slab of these many from the n-th on, in order
abbrev pub give_up : (Device → Lender → Prog Device) → ℕ → ℕ → Device → Lender → Prog Device
give_up down zero n d l = Ret d
give_up down (suc left) n d l =
    and_then
    (if slabs.asks l (slabs.state_of d.remote.slabs (record { 0 = n })) then give_up_one down d l (record { 0 = n })
    else Ret d)
    (λ e. give_up down left (n + 1) e l)

-- A link is lost: the slabs at its lender are local, the calls that wait through it are lost, and each slab that asked
-- its lender waits no more. A choice that is due then may find the next link down. Each loss takes one link, so that no
-- more follow than there are links.
abbrev pub lose_with : ℕ → Device → Lender → Prog Device
lose_with zero d l = give_up (λ e m. Ret (lost_after e m)) (length d.remote.slabs) 0 (lost_after d l) l
lose_with (suc more) d l = give_up (lose_with more) (length d.remote.slabs) 0 (lost_after d l) l

abbrev pub lose : Device → Lender → Prog Device
lose d l = lose_with MOST_LENDERS d l

-- a page goes to the lender of its slab, where the slab is mapped and the link takes a request
abbrev pub sent_nowhere : Device → Device × Option Lender
sent_nowhere d = (d, None)

abbrev pub after_write : Device → Lender → Page → EntryNo → Sent → Prog (Device × Option Lender)
after_write d l p e sent.Sent = Ret (write_sent d l p e, Some l)
after_write d l p e sent.Down = answering sent_nowhere (lose d l)

abbrev pub write_to : Device → Page → EntryNo → List ℕ → Option (Lender × Lease) → Prog (Device × Option Lender)
write_to d p e bytes None = Ret (d, None)
write_to d p e bytes (Some at) =
    AskFabric (Send at.0 (parcel_of (msg.Write at.1 (place_of d.sizes p.0)) bytes)) (after_write d at.0 p e)

abbrev pub accept_program : Device → Caller → Page → List ℕ → Prog (Device × Option Lender)
accept_program d c p bytes =
    write_to (enter_entry d c p bytes) p (next_name d.history) bytes (remote.target d.sizes d.remote p)

-- a read of the disk
abbrev pub read_disk : Device → Caller → Page → EntryNo → Prog (Device × InStep)
read_disk d c p newest = AskDisk (StartRead c p) (λ _. Ret (wait_for_disk d c p newest, ins.Wait via.Disk))

-- a read of the lender, and of the disk where the link is down
abbrev pub after_read : Device → Lender → Caller → Page → EntryNo → Sent → Prog (Device × InStep)
after_read d l c p newest sent.Sent = Ret (read_sent d l c p newest, ins.Wait (via.Lender l))
after_read d l c p newest sent.Down = and_then (lose d l) (λ e. read_disk e c p newest)

abbrev pub read_at : Device → Caller → Page → EntryNo → Option (Lender × Lease) → Prog (Device × InStep)
read_at d c p newest None = read_disk d c p newest
read_at d c p newest (Some at) =
    AskFabric (Send at.0 (parcel_of (msg.Read at.1 (place_of d.sizes p.0)) [])) (after_read d at.0 c p newest)

-- where remote memory can be read for a page now
abbrev pub source : Device → Page → Option (Lender × Lease)
source d p = if remote.has_page d.remote p then remote.target d.sizes d.remote p else None

-- where a page is read: nowhere without a newest entry, then the queue, then remote memory, then the disk
abbrev pub route_by : Device → Caller → Page → Option EntryNo → Option Copy → Prog (Device × InStep)
route_by d c p None copy = Ret (give d c p None origin.Zero (zeros d.sizes), ins.Done (next_name d.history))
route_by d c p (Some newest) (Some copy) =
    Ret (give d c p (Some newest) origin.Queue copy.bytes, ins.Done (next_name d.history))
route_by d c p (Some newest) None = read_at d c p newest (source d p)

abbrev pub route : Device → Caller → Page → Prog (Device × InStep)
route d c p = route_by d c p (last d.history p) (queue.newest d.queue p)

-- a page-out's first step
abbrev pub accept_after : EntryNo → Device × Option Lender → Device × OutStep
accept_after entry r = (r.0, outs.Done entry r.1)

abbrev pub put_program : Device → Caller → Page → List ℕ → Prog (Device × OutStep)
put_program d c p bytes =
    if queue.has_room d.queue p then answering (accept_after (next_name d.history)) (accept_program d c p bytes)
    else Ret (wait_for_room d c p bytes, outs.Room)

abbrev pub out : Device → Caller → Page → List ℕ → Prog (Device × OutStep)
out d c p bytes = put_program (hit d p) c p bytes

-- a page-in's first step
abbrev pub read : Device → Caller → Page → Prog (Device × InStep)
read d c p = route (hit d p) c p

-- a page-in that was routed again
abbrev pub routed_again : Device × InStep → Device × Step
routed_again (d, ins.Done entry) = (d, steps.Done entry None)
routed_again (d, ins.Wait via) = (d, steps.Again via)

abbrev pub origin_of : Via → Origin
origin_of via.Disk = origin.Disk
origin_of (via.Lender l) = origin.Lender l

-- a page-out that waits: it is accepted where there is room, and fails where a disk write failed since its first step
abbrev pub accepted_late : EntryNo → Device × Option Lender → Device × Step
accepted_late entry r = (r.0, steps.Done entry r.1)

abbrev pub finish_out : Device → Caller → Page → ℕ → List ℕ → Prog (Device × Step)
finish_out d c p since bytes =
    if queue.has_room d.queue p then answering (accepted_late (next_name d.history)) (accept_program d c p bytes)
    else
    (if nat_lt since d.failed_writes
    then Ret
    (fault d c p kind.PageOut since d.failed_writes bytes, steps.Fault (next_name d.history) since d.failed_writes)
    else Ret (d, steps.Room))

-- a later step of a call that isn't idle, by its state
abbrev pub finish_by : Device → Caller → List ℕ → CallState → Prog (Device × Step)
finish_by d c bytes Idle = Ret (d, steps.Room)
finish_by d c bytes (Room p since) = finish_out d c p since bytes
finish_by d c bytes (Reading p newest via arrived.Waiting newer since) = Ret (d, steps.Wait via)
finish_by d c bytes (Reading p newest via arrived.Came false since) =
    Ret (give d c p (Some newest) (origin_of via) bytes, steps.Done (next_name d.history) None)
finish_by d c bytes (Reading p newest via arrived.Failed false since) =
    Ret (
      fault d c p kind.PageIn since d.failed_reads (zeros d.sizes),
      steps.Fault (next_name d.history) since d.failed_reads,
    )
finish_by d c bytes (Reading p newest via _ newer since) = answering routed_again (route d c p)

abbrev pub finish : Device → Caller → Prog (Device × Step)
finish d c = finish_by d c (calls.call_of d.calls c).bytes (calls.state_of d.calls c)

-- the copy at the front of the line goes to the disk
abbrev pub start_copy : Device → Page → Option Copy → Prog (Device × Option (Page × EntryNo))
start_copy d p None = Ret (d, None)
start_copy d p (Some copy) =
    AskDisk (StartWrite p copy.bytes) (λ _. Ret (record d { queue = queue.start d.queue }, Some (p, copy.entry)))

abbrev pub start_front : Device → List Page → Prog (Device × Option (Page × EntryNo))
start_front d [] = Ret (d, None)
start_front d (p ∷ line) = start_copy d p (queue.next_copy d.queue p)

abbrev pub disk_start : Device → Prog (Device × Option (Page × EntryNo))
disk_start d = start_front d d.queue.line

-- a write that came back, by the copy that was flying
abbrev pub wrote_after : Device → Page → Option Copy → Bool → Device × DiskStep
wrote_after d p None ok = (d, disk.Nothing)
wrote_after d p (Some copy) true = (record d { queue = queue.done_after d.queue p }, disk.Written p copy.entry)
wrote_after d p (Some copy) false = (
  record d { queue = queue.failed_after d.queue p; failed_writes = d.failed_writes + 1 },
  if is_none (queue.next_copy d.queue p) then disk.Kept p copy.entry else disk.Dropped p copy.entry,
)

-- an operation that the disk gave back
abbrev pub took_after : Device → DiskWhich → Page → Bool → List ℕ → Device × DiskStep
took_after d (which.Write q) p ok bytes = wrote_after d p (queue.flying d.queue p) ok
took_after d (which.Read c) p true bytes = (record d { calls = calls.came_after d.calls c bytes }, disk.Came c p)
took_after d (which.Read c) p false bytes =
    (record d { calls = calls.failed_after d.calls c; failed_reads = d.failed_reads + 1 }, disk.Failed c p)

abbrev pub took_back : Device → Option Taken → Device × DiskStep
took_back d None = (d, disk.Nothing)
took_back d (Some t) = took_after d t.done.which t.done.page t.done.ok t.bytes

abbrev pub disk_take : Device → Prog (Device × DiskStep)
disk_take d = AskDisk TakeDone (λ taken. Ret (took_back d taken))

-- an operation of a disk in memory is let finish
abbrev pub disk_finish : Device → DiskWhich → Bool → Prog (Device × Bool)
disk_finish d which ok = AskDisk (LetFinish which ok) (λ done. Ret (d, done))

-- which requests a message answers: a slab that was asked for, lent or refused, a page that was written or read
abbrev pub query_reply : Msg → Option (Slab × ℕ)
query_reply (msg.Room slab free) = Some (slab, free)
query_reply _ = None

abbrev pub borrow_reply : Msg → Option (Slab × Option Lease)
borrow_reply (msg.Lent slab lease) = Some (slab, Some lease)
borrow_reply (msg.Refused slab) = Some (slab, None)
borrow_reply _ = None

abbrev pub write_reply : Msg → Option (Lease × ℕ)
write_reply (msg.Wrote lease place) = Some (lease, place)
write_reply _ = None

abbrev pub read_reply : Msg → Option (Lease × ℕ)
read_reply (msg.PageIs lease place) = Some (lease, place)
read_reply _ = None

-- the lease whose rate a message asks for, and the one that it takes back; neither answers a request
abbrev pub rate_asked : Msg → Option Lease
rate_asked (msg.AskRates lease) = Some lease
rate_asked _ = None

abbrev pub taken_back : Msg → Option Lease
taken_back (msg.Evict lease) = Some lease
taken_back _ = None

-- what a message makes of the device, what the device says at once in answer, and the slab that is borrowed then
pub record Heard : Type 0 where
  pub device : Device
  pub word : Option Parcel
  pub choice : Option (Slab × Lender)

abbrev pub heard_only : Device → Heard
heard_only d = record { device = d; word = None; choice = None }

-- a lease is given back, where there is one to give
abbrev pub done_word : Option Lease → Option Parcel
done_word None = None
done_word (Some lease) = Some (parcel_of (msg.Done lease) [])

-- a lender that was asked has told how many slots are free
abbrev pub query_answered : Device → Lender → Slab → Option (Slab × ℕ) → Option Heard
query_answered d l slab None = None
query_answered d l slab (Some told) =
    if told.0.0 == slab.0
    then Some
    (record {
      device = record d { remote = remote.told_after d.remote l slab told.1 };
      word = None;
      choice = chosen_for slab (slabs.answer_choice (slabs.state_of d.remote.slabs slab) l (reply.Free told.1));
    })
    else None

-- a slab that was lent is mapped, where no slab at the lender has this lease; one that was refused is local
abbrev pub lent_or_refused : Device → Lender → Slab → Option Lease → Option Heard
lent_or_refused d l slab None = Some (heard_only (record d { remote = remote.refused_after d.remote l slab }))
lent_or_refused d l slab (Some lease) =
    if is_none (slabs.by_lease d.remote.slabs l lease)
    then Some (heard_only (record d { remote = remote.lent_after d.remote l slab lease })) else None

abbrev pub borrow_answered : Device → Lender → Slab → Option (Slab × Option Lease) → Option Heard
borrow_answered d l slab None = None
borrow_answered d l slab (Some reply) = if reply.0.0 == slab.0 then lent_or_refused d l slab reply.1 else None

-- a write that came back: remote memory can be read where it was of the page's newest entry
abbrev pub is_newest : Option EntryNo → EntryNo → Bool
is_newest None e = false
is_newest (Some newest) e = newest.0 == e.0

-- the lease of a page's slab, where it is given back with the answer to this request
abbrev pub settled_word : Device → Page → Option Parcel
settled_word d p = done_word (slabs.settled_lease (remote.state_for d.sizes d.remote.slabs p))

abbrev pub write_answered : Device → Lender → Page → EntryNo → Option (Lease × ℕ) → Option Heard
write_answered d l p e None = None
write_answered d l p e (Some at) =
    if remote.names_page d.sizes d.remote l p at.0 at.1
    then Some
    (record {
      device = record d { remote = remote.written_after d.sizes d.remote l p (is_newest (last d.history p) e) };
      word = settled_word d p;
      choice = None;
    })
    else None

-- a read that came back
abbrev pub read_answered : Device → Lender → Caller → Page → List ℕ → Option (Lease × ℕ) → Option Heard
read_answered d l c p bytes None = None
read_answered d l c p bytes (Some at) =
    if remote.names_page d.sizes d.remote l p at.0 at.1
    then Some
    (record {
      device = record d { remote = remote.settled_for d.sizes d.remote l p; calls = calls.came_after d.calls c bytes };
      word = settled_word d p;
      choice = None;
    })
    else None

-- what a message does that answers the oldest request of its link
abbrev pub heard_answer : Device → Lender → Parcel → Option Request → Option Heard
heard_answer d l parcel None = None
heard_answer d l parcel (Some (request.Query slab)) = query_answered d l slab (query_reply parcel.msg)
heard_answer d l parcel (Some (request.Borrow slab)) = borrow_answered d l slab (borrow_reply parcel.msg)
heard_answer d l parcel (Some (request.Write p e)) = write_answered d l p e (write_reply parcel.msg)
heard_answer d l parcel (Some (request.Read c p)) = read_answered d l c p parcel.page (read_reply parcel.msg)

-- a lender asks for the rate of the slab that is mapped there with this lease
abbrev pub rate_told : Device → Lease → Option Slab → Option Heard
rate_told d lease None = None
rate_told d lease (Some slab) =
    Some
    (record { device = d; word = Some (parcel_of (msg.Rates lease (rates.value_of d.rates slab)) []); choice = None })

-- a lender takes it back: no page of it can be read, and it drains
abbrev pub heard_evict : Device → Option Slab → Option Heard
heard_evict d None = None
heard_evict d (Some slab) =
    Some
    (record {
      device = record d { remote = remote.evicted_after d.sizes d.remote slab };
      word = done_word (slabs.evicted_lease (slabs.state_of d.remote.slabs slab));
      choice = None;
    })

-- what a message does; no other is allowed
abbrev pub heard_by : Device → Lender → Parcel → Option Request → Option Lease → Option Lease → Option Heard
heard_by d l parcel oldest (Some lease) back = rate_told d lease (remote.mapped_by d.remote.slabs l lease)
heard_by d l parcel oldest None (Some lease) = heard_evict d (remote.mapped_by d.remote.slabs l lease)
heard_by d l parcel oldest None None = heard_answer d l parcel oldest

abbrev pub heard_parcel : Device → Lender → Parcel → Option Request → Option Heard
heard_parcel d l parcel oldest = heard_by d l parcel oldest (rate_asked parcel.msg) (taken_back parcel.msg)

-- something is said on a link that isn't a request
abbrev pub after_word : Device → Lender → Sent → Prog Device
after_word d l sent.Sent = Ret d
after_word d l sent.Down = lose d l

abbrev pub say_after : Device → Lender → Option Parcel → Prog Device
say_after d l None = Ret d
say_after d l (Some parcel) = AskFabric (Send l parcel) (after_word d l)

-- what follows on a message in the same step
abbrev pub follow : Heard → Lender → Prog Device
follow h l = and_then (say_after h.device l h.word) (λ e. choose lose e h.choice)

abbrev pub with_step : LinkStep → Device → Device × LinkStep
with_step step d = (d, step)

-- a link that brought a message which isn't allowed is ended, and lost
abbrev pub understand : Device → Lender → Msg → Option Heard → Prog (Device × LinkStep)
understand d l m (Some heard) = answering (with_step (link.Got m)) (follow heard l)
understand d l m None = AskFabric (End l) (λ _. answering (with_step link.Lied) (lose d l))

abbrev pub took_from : Device → Lender → Handed → Prog (Device × LinkStep)
took_from d l (Brought parcel) =
    understand d l parcel.msg (heard_parcel d l parcel (rings.oldest (rings.ring_of d.remote.links l)))
took_from d l NothingCame = Ret (d, link.Nothing)
took_from d l LinkLost = answering (with_step link.Lost) (lose d l)

-- a message is taken from a link that is up
abbrev pub link_take : Device → Lender → Prog (Device × LinkStep)
link_take d l = if rings.is_up d.remote.links l then AskFabric (Take l) (took_from d l) else Ret (d, link.Nothing)

-- a slab is borrowed from a lender that a caller names, where it may be
abbrev pub with_answer : Bool → Device → Device × Bool
with_answer may d = (d, may)

abbrev pub map : Device → Slab → Lender → Prog (Device × Bool)
map d slab l = answering (with_answer (may_map d slab l)) (borrow_from lose d slab l)

-- A slab is asked for: of one lender while it's local, or of a second beside the first. Whether the query was sent.
abbrev pub may_ask : Device → Slab → Option Lender → Lender → Bool
may_ask d slab None l = may_map d slab l
may_ask d slab (Some first) l = rings.may_send d.sizes.window (rings.link_of d.remote.links l)

abbrev pub not_asked : Device → Device × Bool
not_asked d = (d, false)

abbrev pub after_query : Device → Slab → Option Lender → Lender → Sent → Prog (Device × Bool)
after_query d slab first l sent.Sent = Ret (record d { remote = remote.query_sent d.remote slab first l }, true)
after_query d slab first l sent.Down = answering not_asked (lose d l)

abbrev pub query : Device → Slab → Option Lender → Lender → Prog (Device × Bool)
query d slab first l =
    if may_ask d slab first l then AskFabric (Send l (parcel_of (msg.Query slab) [])) (after_query d slab first l)
    else Ret (d, false)

-- those that were asked, of a first and a second
abbrev pub placed_at : Slab → Lender → Bool → Option Placed
placed_at slab first true = Some (record { slab = slab; first = first; second = None })
placed_at slab first false = None

abbrev pub placed_beside : Slab → Lender → Lender → Bool → Option Placed
placed_beside slab first second true = Some (record { slab = slab; first = first; second = Some second })
placed_beside slab first second false = placed_at slab first true

abbrev pub ask_one : Device → Slab → Lender → Prog (Device × Option Placed)
ask_one d slab l = answering (λ r. (r.0, placed_at slab l r.1)) (query d slab None l)

abbrev pub ask_second : Slab → Lender → Lender → Device × Bool → Prog (Device × Option Placed)
ask_second slab first second (d, true) =
    answering (λ r. (r.0, placed_beside slab first second r.1)) (query d slab (Some first) second)
ask_second slab first second (d, false) = ask_one d slab second

abbrev pub ask : Device → Slab → Asked → Prog (Device × Option Placed)
ask d slab picked.Nobody = Ret (d, None)
ask d slab (picked.One n) = ask_one d slab (record { 0 = n })
ask d slab (picked.Two n m) =
    and_then (query d slab None (record { 0 = n })) (ask_second slab (record { 0 = n }) (record { 0 = m }))

-- the hottest local slab is asked for, of two lenders
abbrev pub place_at : Device → ℕ → Option Slab → Prog (Device × Option Placed)
place_at d word None = Ret (d, None)
place_at d word (Some slab) =
    ask d slab (choice.two_asked word (remote.fresh_lenders d.remote) (remote.other_lenders d.remote))

abbrev pub place : Device → ℕ → Prog (Device × Option Placed)
place d word = place_at d word (rates.hottest d.sizes.hot d.remote.slabs d.rates)

-- each slab's period ends, and the hottest local slab is placed
abbrev pub tick : Device → ℕ → Prog (Device × Option Placed)
tick d word = place (periods_ended d) word

-- a link is made, with the next number, in place of the one that is up, and greeted
abbrev pub raised_after : Device → Lender → Device
raised_after d l = record d { remote = remote.raised_after d.remote l; links_made = d.links_made + 1 }

abbrev pub next_link : Device → Link
next_link d = record { 0 = d.links_made }

abbrev pub hello : Sizes → Parcel
hello s = parcel_of (msg.Hello WIRE_VERSION s.page_bytes s.pages_per_slab) []

abbrev pub with_link : Link → Device → Device × Option Link
with_link n d = (d, Some n)

abbrev pub connect_on : Device → Lender → Prog (Device × Option Link)
connect_on d l =
    AskFabric (Connect l (next_link d))
    (λ _. answering (with_link (next_link d)) (say_after (raised_after d l) l (Some (hello d.sizes))))

abbrev pub without_link : Device → Lender → Prog Device
without_link d l = if rings.is_up d.remote.links l then lose d l else Ret d

abbrev pub connect : Device → Lender → Prog (Device × Option Link)
connect d l =
    if nat_lt d.links_made MOST_LINKS then and_then (without_link d l) (λ e. connect_on e l) else Ret (d, None)

-- the far side of the links moves, where the fabric holds it
abbrev pub give_to : Device → Lender → Prog (Device × Gave)
give_to d l = AskFabric (Give l) (λ r. Ret (d, r))

abbrev pub cut : Device → Lender → ℕ → ℕ → Prog (Device × Bool)
cut d l to_lender to_device = AskFabric (Cut l to_lender to_device) (λ r. Ret (d, r))

abbrev pub crash : Device → Lender → Prog (Device × Bool)
crash d l = AskFabric (Crash l) (λ r. Ret (d, r))

abbrev pub host : Device → Lender → ℕ → ℕ → Prog (Device × Option Hosted)
host d l used word = AskFabric (Host l used word) (λ r. Ret (d, r))
