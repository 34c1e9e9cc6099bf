-- Each move of the device keeps the history ordered, and each reading call the newest entry of its page.
use Rattle.std.proofs.Common.{◌≡◌, ℕ, ◌+◌, ◌<◌, Bool, true, false, cond, ◌==◌, List, [], refl, ap, ◌∙◌, arith, is_none, Option, None, Some}
use Rattle.swap_base.specs.declared.Page.{Page}
use Rattle.swap_base.specs.declared.Caller.{Caller}
use Rattle.swap_base.specs.declared.EntryNo.{EntryNo}
use Rattle.swap_base.specs.declared.Origin.{Origin}
use Rattle.swap_base.specs.declared.Via.{Via}
use Rattle.swap_base.specs.declared.Via.TheVariants as via
use Rattle.swap_base.specs.declared.CallKind.{CallKind}
use Rattle.swap_base.specs.declared.DiskWhich.{DiskWhich}
use Rattle.swap_base.specs.declared.DiskWhich.TheVariants as which
use Rattle.swap_base.specs.Sizes.{Sizes}
use Rattle.swap_record.specs.History.{History, last, is_zero, next_name, with_row}
use Rattle.swap_record.specs.declared.Op.TheVariants as op
use Rattle.swap_queue.specs.Queue.{Copy}
use Rattle.swap_disk.specs.Disk.{Taken}
use Rattle.swap_calls.specs.Calls as calls
use Rattle.swap_calls.specs.Calls.{Call, idle_call}
use Rattle.swap_calls.specs.declared.Arrived.{Arrived}
use Rattle.swap_calls.specs.declared.Arrived.TheVariants as arrived
use Rattle.swap_calls.specs.declared.CallState.{CallState}
use Rattle.swap_calls.specs.declared.CallState.TheVariants.{Idle, Room, Reading}
use Rattle.swap_table.specs.Device as Device
use Rattle.swap_table.specs.Device.{enter_entry, give, fault, wait_for_room, wait_for_disk, wrote_after, took_after, took_back, origin_of, device_at_start}
use Rattle.swap_table.specs.Fits.{SawFailure, KeepsNewest, IsInOrder}
use Rattle.swap_base.proofs.Lists.{All-set, All-get_or, All-map, All-implies, All-replicate}
use Rattle.swap_base.proofs.Bools.{or_parts}

abbrev Keeping : History → ℕ → Call → Type 0
Keeping H reads call = KeepsNewest H reads call.state

-- a page-out of a page leaves each other page's last, and marks the page's readers
kept_out :
    (H : History) (reads : ℕ) (c : Caller) (p : Page) (bytes : List ℕ) (state : CallState) → KeepsNewest H reads state
    → KeepsNewest (with_row H c p op.PageOut bytes) reads (calls.newer_if_reads p state)
kept_out H reads c p bytes Idle kept = tt
kept_out H reads c p bytes (Room q since) kept = tt
kept_out H reads c p bytes (Reading q newest v how newer since) kept =
    ((λ e. let parts = or_parts newer (p.0 == q.0) e in ap (λ b. cond b (Some (next_name H)) (last H q)) parts.1 ∙ kept.0 parts.0), kept.1, kept.2)

pub enter_keeps : (d : Device.Device) (c : Caller) (p : Page) (bytes : List ℕ) → IsInOrder d → IsInOrder (enter_entry d c p bytes)
enter_keeps d c p bytes k =
    record {
      ordered = (tt, refl, k.ordered);
      calls =
          All-set (Keeping (with_row d.history c p op.PageOut bytes) d.failed_reads) (calls.paged_out d.calls p) c.0 idle_call
          (All-map (Keeping d.history d.failed_reads) (Keeping (with_row d.history c p op.PageOut bytes) d.failed_reads) _ d.calls
          (λ call kept. kept_out d.history d.failed_reads c p bytes call.state kept) k.calls)
          tt;
    }

-- an entry that is no page-out leaves each page's last
kept_in :
    (H : History) (reads : ℕ) (c : Caller) (p : Page) (named : Option EntryNo) (from : Origin) (bytes : List ℕ) (state : CallState) → KeepsNewest H reads state
    → KeepsNewest (with_row H c p (op.PageIn named from) bytes) reads state
kept_in H reads c p named from bytes Idle kept = tt
kept_in H reads c p named from bytes (Room q since) kept = tt
kept_in H reads c p named from bytes (Reading q newest v how newer since) kept = kept

kept_fault :
    (H : History) (reads : ℕ) (c : Caller) (p : Page) (kind : CallKind) (since at : ℕ) (bytes : List ℕ) (state : CallState) → KeepsNewest H reads state
    → KeepsNewest (with_row H c p (op.Failed kind since at) bytes) reads state
kept_fault H reads c p kind since at bytes Idle kept = tt
kept_fault H reads c p kind since at bytes (Room q s) kept = tt
kept_fault H reads c p kind since at bytes (Reading q newest v how newer s) kept = kept

pub give_keeps :
    (d : Device.Device) (c : Caller) (p : Page) (named : Option EntryNo) (from : Origin) (bytes : List ℕ) → IsInOrder d → named ≡ last d.history p
    → is_zero from ≡ is_none named → IsInOrder (give d c p named from bytes)
give_keeps d c p named from bytes k is_last is_from =
    record {
      ordered = ((is_last, is_from), refl, k.ordered);
      calls =
          All-set (Keeping (with_row d.history c p (op.PageIn named from) bytes) d.failed_reads) d.calls c.0 idle_call
          (All-implies (Keeping d.history d.failed_reads) _ d.calls
          (λ call kept. kept_in d.history d.failed_reads c p named from bytes call.state kept) k.calls)
          tt;
    }

pub fault_keeps :
    (d : Device.Device) (c : Caller) (p : Page) (kind : CallKind) (since at : ℕ) (bytes : List ℕ) → IsInOrder d → since < at
    → IsInOrder (fault d c p kind since at bytes)
fault_keeps d c p kind since at bytes k later =
    record {
      ordered = (later, refl, k.ordered);
      calls =
          All-set (Keeping (with_row d.history c p (op.Failed kind since at) bytes) d.failed_reads) d.calls c.0 idle_call
          (All-implies (Keeping d.history d.failed_reads) _ d.calls
          (λ call kept. kept_fault d.history d.failed_reads c p kind since at bytes call.state kept) k.calls)
          tt;
    }

pub disk_wait_keeps :
    (d : Device.Device) (c : Caller) (p : Page) (newest : EntryNo) → IsInOrder d → last d.history p ≡ Some newest → IsInOrder (wait_for_disk d c p newest)
disk_wait_keeps d c p newest k is_last =
    record { ordered = k.ordered; calls = All-set (Keeping d.history d.failed_reads) d.calls c.0 _ k.calls ((λ e. is_last), omega arith, tt) }

pub room_wait_keeps : (d : Device.Device) (c : Caller) (p : Page) (bytes : List ℕ) → IsInOrder d → IsInOrder (wait_for_room d c p bytes)
room_wait_keeps d c p bytes k = record { ordered = k.ordered; calls = All-set (Keeping d.history d.failed_reads) d.calls c.0 _ k.calls tt }

-- what a caller's call keeps
pub call_keeps : (d : Device.Device) (c : Caller) → IsInOrder d → KeepsNewest d.history d.failed_reads (calls.state_of d.calls c)
call_keeps d c k = All-get_or (Keeping d.history d.failed_reads) d.calls c.0 idle_call k.calls tt

pub from_via : (v : Via) → is_zero (origin_of v) ≡ false
from_via via.Disk = refl
from_via (via.Lender l) = refl

wrote_keeps : (d : Device.Device) (p : Page) (copy : Option Copy) (ok : Bool) → IsInOrder d → IsInOrder (wrote_after d p copy ok).0
wrote_keeps d p None ok k = k
wrote_keeps d p (Some copy) true k = record { ordered = k.ordered; calls = k.calls }
wrote_keeps d p (Some copy) false k = record { ordered = k.ordered; calls = k.calls }

came_keeps :
    (H : History) (reads : ℕ) (call : Call) (state : CallState) (bytes : List ℕ) → KeepsNewest H reads state → Keeping H reads call
    → Keeping H reads (calls.arrives arrived.Came bytes call state)
came_keeps H reads call Idle bytes kept same = same
came_keeps H reads call (Room q since) bytes kept same = same
came_keeps H reads call (Reading q newest v arrived.Waiting newer since) bytes kept same = (kept.0, kept.1, tt)
came_keeps H reads call (Reading q newest v arrived.Came newer since) bytes kept same = same
came_keeps H reads call (Reading q newest v arrived.Failed newer since) bytes kept same = same
came_keeps H reads call (Reading q newest v arrived.Lost newer since) bytes kept same = same

saw_more : (how : Arrived) (since reads : ℕ) → SawFailure how since reads → SawFailure how since (reads + 1)
saw_more arrived.Waiting since reads h = tt
saw_more arrived.Came since reads h = tt
saw_more arrived.Failed since reads h = omega arith
saw_more arrived.Lost since reads h = tt

more_reads : (H : History) (reads : ℕ) (state : CallState) → KeepsNewest H reads state → KeepsNewest H (reads + 1) state
more_reads H reads Idle kept = tt
more_reads H reads (Room q since) kept = tt
more_reads H reads (Reading q newest v how newer since) kept = (kept.0, omega (arith, kept.1), saw_more how since reads kept.2)

failed_keeps :
    (H : History) (reads : ℕ) (call : Call) (state : CallState) → KeepsNewest H reads state → Keeping H (reads + 1) call
    → Keeping H (reads + 1) (calls.arrives arrived.Failed [] call state)
failed_keeps H reads call Idle kept same = same
failed_keeps H reads call (Room q since) kept same = same
failed_keeps H reads call (Reading q newest v arrived.Waiting newer since) kept same = (kept.0, omega (arith, kept.1), omega (arith, kept.1))
failed_keeps H reads call (Reading q newest v arrived.Came newer since) kept same = same
failed_keeps H reads call (Reading q newest v arrived.Failed newer since) kept same = same
failed_keeps H reads call (Reading q newest v arrived.Lost newer since) kept same = same

took_keeps : (d : Device.Device) (w : DiskWhich) (p : Page) (ok : Bool) (bytes : List ℕ) → IsInOrder d → IsInOrder (took_after d w p ok bytes).0
took_keeps d (which.Write q) p ok bytes k = wrote_keeps d p _ ok k
took_keeps d (which.Read c) p true bytes k =
    let here : KeepsNewest d.history d.failed_reads (calls.state_of d.calls c) =
    All-get_or (Keeping d.history d.failed_reads) d.calls c.0 idle_call k.calls tt in
    record {
      ordered = k.ordered;
      calls = All-set (Keeping d.history d.failed_reads) d.calls c.0 _ k.calls (came_keeps d.history d.failed_reads _ _ bytes here here);
    }
took_keeps d (which.Read c) p false bytes k =
    let here : KeepsNewest d.history d.failed_reads (calls.state_of d.calls c) =
    All-get_or (Keeping d.history d.failed_reads) d.calls c.0 idle_call k.calls tt in
    record {
      ordered = k.ordered;
      calls =
          All-set (Keeping d.history (d.failed_reads + 1)) d.calls c.0 _
          (All-implies (Keeping d.history d.failed_reads) _ d.calls (λ call kept. more_reads d.history d.failed_reads call.state kept) k.calls)
          (failed_keeps d.history d.failed_reads _ _ here (more_reads d.history d.failed_reads _ here));
    }

pub took_back_keeps : (d : Device.Device) (taken : Option Taken) → IsInOrder d → IsInOrder (took_back d taken).0
took_back_keeps d None k = k
took_back_keeps d (Some t) k = took_keeps d t.done.which t.done.page t.done.ok t.bytes k

pub new_in_order : (s : Sizes) (n : ℕ) → IsInOrder (device_at_start s n)
new_in_order s n = record { ordered = tt; calls = All-replicate (λ (call : Call). KeepsNewest [] 0 call.state) s.callers idle_call tt }
