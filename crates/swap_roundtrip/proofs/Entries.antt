-- An event that tells of an entry adds that entry to the history: it is its caller's, of its page, and of the kind that is
-- seen; and an event that tells of none adds none.
use Rattle.std.proofs.Common.{◌≡◌, ◌⊎◌, inl, inr, ℕ, ◌<◌, Bool, true, false, cond, is_none, List, replicate, Option, None, Some, refl, subst}
use Rattle.std.specs.List.{AllByRecursion}
use Rattle.std.proofs.lemmas.Bool.{eq-eqb}
use Rattle.swap_base.specs.declared.Page.{Page}
use Rattle.swap_base.specs.declared.Caller.{Caller}
use Rattle.swap_base.specs.declared.Lender.{Lender}
use Rattle.swap_base.specs.declared.CallKind.TheVariants as kind
use Rattle.swap_base.specs.Sizes.{Sizes, pages_of}
use Rattle.swap_wire.specs.Input.{IsInRange}
use Rattle.swap_wire.specs.declared.Event.{Event}
use Rattle.swap_wire.specs.declared.Seen.{Seen}
use Rattle.swap_record.specs.declared.Op.{Op}
use Rattle.swap_record.specs.declared.Op.TheVariants as op
use Rattle.swap_record.specs.History.{History, next_name, with_row}
use Rattle.swap_queue.specs.Queue.{Copy}
use Rattle.swap_queue.specs.Queue as queue
use Rattle.swap_disk.specs.Disk.{Taken}
use Rattle.swap_base.specs.declared.DiskWhich.{DiskWhich}
use Rattle.swap_base.specs.declared.DiskWhich.TheVariants as which
use Rattle.swap_calls.specs.Calls.{Call, state_of, call_of, idle_call}
use Rattle.swap_calls.specs.declared.Arrived.TheVariants as arrived
use Rattle.swap_calls.specs.declared.CallState.{CallState}
use Rattle.swap_calls.specs.declared.CallState.TheVariants.{Room, Reading}
use Rattle.swap_table.specs.Device.{Device, wrote_after, took_after, took_back}
use Rattle.swap_table.specs.declared.DiskStep.TheVariants as ends
use Rattle.swap_table.specs.Fits.{IsFair}
use Rattle.swap_table.specs.Happens.{see_disk}
use Rattle.swap_table.specs.Moves.{full, unread}
use Rattle.swap_table.specs.Comes.{Comes, begins_out, goes_on_out, begins_in, goes_on_in, refuses, rests, accepts, gives_page, fails, keeps_page, reads, starts_write, takes_back, links, brings}
use Rattle.swap_base.proofs.Lists.{All-get_or}
use Rattle.swap_world.specs.Runs.{entry_seen, Adds, nothing, one}
use Rattle.swap_world.proofs.CountsStayTrue.{linked_same, rest_says, link_says, wait_says}
use Rattle.swap_transcript.specs.Told.{Shown}
use Rattle.swap_transcript.specs.Results.{agrees}
use Rattle.swap_transcript.specs.Transcripts.{caller_or_first}
use Rattle.swap_transcript.specs.Laws.{seen_by}

-- a page-out alone may have been sent
abbrev pub OnlyOut : Op → Option Lender → Type 0
OnlyOut op.PageOut sent = Unit {0}
OnlyOut _ sent = sent ≡ None

-- a failed page-in keeps zeros
abbrev pub KeepsZeros : ℕ → List ℕ → Op → Type 0
KeepsZeros size bytes (op.Failed kind.PageIn since at) = bytes ≡ replicate size 0
KeepsZeros size bytes _ = Unit {0}

abbrev pub shown_of : History → Page → Op → List ℕ → Option Lender → Shown
shown_of H page o bytes sent = record { no = next_name H; page = page; op = o; bytes = bytes; sent = sent }

pub record Enters (s : Sizes) (e : Event) (x : Seen) (before now : History) : Type 0 where
  pub caller : Caller
  pub page : Page
  pub op : Op
  pub bytes : List ℕ
  pub sent : Option Lender
  pub is : now ≡ with_row before caller page op bytes
  pub seen : x ≡ seen_by op (next_name before) sent
  pub of : caller_or_first e ≡ caller
  pub agree : agrees e (shown_of before page op bytes sent) ≡ true
  pub within : page.0 < pages_of s
  pub only_out : OnlyOut op sent
  pub zeros : KeepsZeros s.page_bytes bytes op

abbrev pub Tells : Sizes → Event → Seen → History → History → Type 0
Tells s e x before now = ((entry_seen x ≡ None) × (now ≡ before)) ⊎ Enters s e x before now

abbrev pub CallsWithin : Device → Type 0
CallsWithin d =
    (c : Caller) → (p : Page) → ((since : ℕ) → state_of d.calls c ≡ Room p since → p.0 < pages_of d.sizes) ×
    ((n : _) (v : _) (how : _) (newer : Bool) (since : ℕ) → state_of d.calls c ≡ Reading p n v how newer since → p.0 < pages_of d.sizes)

pub calls_within : (T : Bool) (A : List ℕ → List ℕ → Type 0) (zeros : List ℕ) (d : Device)
    → AllByRecursion (λ (call : Call). IsFair T A (pages_of d.sizes) zeros d.history d.queue call.bytes call.state) d.calls → CallsWithin d
calls_within T A zeros d all c p =
    let call = call_of d.calls c in
    let fair : IsFair T A (pages_of d.sizes) zeros d.history d.queue call.bytes call.state =
    All-get_or (λ (call : Call). IsFair T A (pages_of d.sizes) zeros d.history d.queue call.bytes call.state) d.calls c.0 idle_call all tt in
    let P : CallState → Type 0 = λ x. IsFair T A (pages_of d.sizes) zeros d.history d.queue call.bytes x in
    (λ since at. subst P at fair, λ n v how newer since at. (subst P at fair).0)

pub adds_none : (s : Sizes) (d : Device) (i : _) (x : Seen) (H : History) → entry_seen x ≡ None → Adds d i x H → Tells s i.event x d.history H
adds_none s d i x H none (nothing seen same) = inl (seen, same)
adds_none s d i x H none (one row seen same answers) = cc

took_none : (d : Device) (taken : Option Taken) → let a = took_back d taken in (entry_seen (see_disk a.1) ≡ None) × (a.0.history ≡ d.history)
took_none d None = (refl, refl)
took_none d (Some t) = go t.done.which t.done.page t.done.ok t.bytes
  where
    by_next : (p : Page) (copy : Copy) (o : Option Copy)
        → entry_seen (see_disk (cond (is_none o) (ends.Kept p copy.entry) (ends.Dropped p copy.entry))) ≡ None
    by_next p copy None = refl
    by_next p copy (Some x) = refl

    back : (p : Page) (copy : Option Copy) (ok : Bool) → let a = wrote_after d p copy ok in (entry_seen (see_disk a.1) ≡ None) × (a.0.history ≡ d.history)
    back p None ok = (refl, refl)
    back p (Some copy) true = (refl, refl)
    back p (Some copy) false = (by_next p copy (queue.next_copy d.queue p), refl)

    go : (w : DiskWhich) (p : Page) (ok : Bool) (bytes : List ℕ)
        → let a = took_after d w p ok bytes in (entry_seen (see_disk a.1) ≡ None) × (a.0.history ≡ d.history)
    go (which.Write q) p ok bytes = back p (queue.flying d.queue p) ok
    go (which.Read c) p true bytes = (refl, refl)
    go (which.Read c) p false bytes = (refl, refl)

pub comes_tells : (d : Device) (page : List ℕ) (e : Event) (d' : Device) (x : Seen) (n : ℕ) → IsInRange d.sizes n e → CallsWithin d → Comes d page e d' x
    → Tells d.sizes e x d.history d'.history
comes_tells d page e d' x n range within (accepts {c = c} {p = p} {bytes = bytes} {to = to} (begins_out is_idle) linked) =
    inr (record {
      caller = c;
      page = p;
      op = op.PageOut;
      bytes = bytes;
      sent = to;
      is = (linked_same _ d' linked).history;
      seen = refl;
      of = refl;
      agree = eq-eqb p.0 p.0 refl;
      within = range.1;
      only_out = tt;
      zeros = tt;
    })
comes_tells d page e d' x n range within (accepts {c = c} {p = p} {bytes = bytes} {to = to} (goes_on_out {since = since} at) linked) =
    inr (record {
      caller = c;
      page = p;
      op = op.PageOut;
      bytes = bytes;
      sent = to;
      is = (linked_same _ d' linked).history;
      seen = refl;
      of = refl;
      agree = refl;
      within = (within c p).0 since at;
      only_out = tt;
      zeros = tt;
    })
comes_tells d page e d' x n range within (gives_page {c = c} {p = p} {named = named} {from = from} {bytes = bytes} (begins_in is_idle)) =
    inr (record {
      caller = c;
      page = p;
      op = op.PageIn named from;
      bytes = bytes;
      sent = None;
      is = refl;
      seen = refl;
      of = refl;
      agree = eq-eqb p.0 p.0 refl;
      within = range.1;
      only_out = refl;
      zeros = tt;
    })
comes_tells d page e d' x n range within (gives_page {c =
    c} {p = p} {named = named} {from = from} {bytes = bytes} (goes_on_in {n = m} {v = v} {how = how} {newer = newer} {since = since} at)) =
    inr (record {
      caller = c;
      page = p;
      op = op.PageIn named from;
      bytes = bytes;
      sent = None;
      is = refl;
      seen = refl;
      of = refl;
      agree = refl;
      within = (within c p).1 m v how newer since at;
      only_out = refl;
      zeros = tt;
    })
comes_tells d page e d' x n range within (fails {c = c} {p = p} (full {since = since} at less)) =
    inr (record {
      caller = c;
      page = p;
      op = op.Failed kind.PageOut since d.failed_writes;
      bytes = (call_of d.calls c).bytes;
      sent = None;
      is = refl;
      seen = refl;
      of = refl;
      agree = refl;
      within = (within c p).0 since at;
      only_out = refl;
      zeros = tt;
    })
comes_tells d page e d' x n range within (fails {c = c} {p = p} (unread {n = m} {v = v} {since = since} at)) =
    inr (record {
      caller = c;
      page = p;
      op = op.Failed kind.PageIn since d.failed_reads;
      bytes = _;
      sent = None;
      is = refl;
      seen = refl;
      of = refl;
      agree = refl;
      within = (within c p).1 m v arrived.Failed false since at;
      only_out = refl;
      zeros = refl;
    })
comes_tells d page e d' x n range within (refuses new) = inl (refl, refl)
comes_tells d page e d' x n range within (rests new rest) = inl ((rest_says x rest).entry, refl)
comes_tells d page e d' x n range within (keeps_page is_idle) = inl (refl, refl)
comes_tells d page e d' x n range within (reads {c =
    c} {p = p} {d' = y} v step is linked) = inl ((wait_says d e c p v step).entry, (linked_same d y linked).history)
comes_tells d page e d' x n range within starts_write = inl (refl, refl)
comes_tells d page e d' x n range within (takes_back taken) = inl (took_none d taken)
comes_tells d page e d' x n range within (links new of_link linked) = inl ((link_says x of_link).entry, (linked_same d d' linked).history)
comes_tells d page e d' x n range within (brings c bytes r linked) = inl (refl, (linked_same _ d' linked).history)
