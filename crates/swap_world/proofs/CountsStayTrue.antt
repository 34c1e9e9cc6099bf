-- The device's two counts are the numbers of failed writes and reads that were seen; an event adds nothing to the history,
-- or the entry that is seen.
use Rattle.std.proofs.Common.{◌≡◌, ℕ, ◌+◌, Bool, true, false, cond, List, [], ◌∷◌, length, refl, sym, ap, ◌∙◌, subst, add-zero, arith, is_none, Option, None, Some, ◌≤◌}
use Rattle.std.proofs.lemmas.List.Sums.{count_by-le-length}
use Rattle.swap_base.specs.declared.Page.{Page}
use Rattle.swap_base.specs.declared.DiskWhich.{DiskWhich}
use Rattle.swap_wire.specs.declared.Event.{Event}
use Rattle.swap_wire.specs.declared.Seen.{Seen}
use Rattle.swap_record.specs.History.{row_of, History}
use Rattle.swap_queue.specs.Queue.{Copy}
use Rattle.swap_disk.specs.Disk.{Taken}
use Rattle.swap_table.specs.declared.DiskStep.{DiskStep}
use Rattle.swap_table.specs.Device.{Device, wrote_after, took_after, took_back}
use Rattle.swap_base.proofs.Lists.{one_if, count_by-cons}
use Rattle.swap_table.specs.Happens.{see_disk}
use Rattle.swap_world.specs.Failures.{is_write_failed, is_read_failed, failed_writes_in, failed_reads_in}
use Rattle.swap_world.specs.Runs.{entry_seen, with_polled, GoesOn, AnswersState, AnswersEvent, Adds, nothing, one}
use Rattle.swap_table.specs.Comes.{Linked, is_rest, is_of_link, StepIn, begins_in, goes_on_in, wait_seen, Comes, ComesTo, refuses, rests, accepts, gives_page, fails, keeps_page, reads, starts_write, takes_back, links, brings, begins_out, goes_on_out, StepOut}
use Rattle.swap_table.proofs.EventsComeToTheirEnds.{linked_keep}
use Rattle.swap_base.specs.declared.Caller.{Caller}
use Rattle.swap_base.specs.declared.Via.{Via}
use Rattle.swap_base.specs.Sizes.{zeros}
use Rattle.swap_wire.specs.Input.{Input}
use Rattle.swap_calls.specs.Calls.{call_of}
use Rattle.swap_calls.specs.declared.CallState.{CallState}
use Rattle.swap_table.specs.Moves.{full, unread, Faults}
use Rattle.swap_record.specs.declared.Op.{Op}
use Rattle.swap_world.specs.Answered.{IsInOrFault}
use Rattle.swap_base.specs.declared.CallKind.{CallKind}
use Rattle.swap_base.specs.declared.DiskWhich.TheVariants as which
use Rattle.swap_wire.specs.declared.Seen.TheVariants as seen
use Rattle.swap_record.specs.declared.Op.TheVariants as op
use Rattle.swap_queue.specs.Queue as queue
use Rattle.swap_wire.specs.declared.Event.TheVariants as event
use Rattle.swap_base.specs.declared.CallKind.TheVariants as kind
use Rattle.swap_base.specs.declared.CallKind.TheVariants as kind

-- history and counts are the same
pub record Same (d d' : Device) : Type 0 where
  pub history : d'.history ≡ d.history
  pub writes : d'.failed_writes ≡ d.failed_writes
  pub reads : d'.failed_reads ≡ d.failed_reads

-- the counts rise by the failure that is seen
pub record Counts (d : Device) (a : Device × Seen) : Type 0 where
  pub writes : a.0.failed_writes ≡ d.failed_writes + one_if (is_write_failed a.1)
  pub reads : a.0.failed_reads ≡ d.failed_reads + one_if (is_read_failed a.1)

-- links, and what is heard, leave history and counts
pub linked_same : (d d' : Device) → Linked d d' → Same d d'
linked_same d d' linked =
    linked_keep (Same d) (λ e r made h. record { history = h.history; writes = h.writes; reads = h.reads })
    (λ e l h. record { history = h.history; writes = h.writes; reads = h.reads }) d d' linked (record { history = refl; writes = refl; reads = refl })

-- what is seen of most events
pub record SaysLittle (s : Seen) : Type 0 where
  pub write : is_write_failed s ≡ false
  pub read : is_read_failed s ≡ false
  pub entry : entry_seen s ≡ None

pub rest_says : (s : Seen) → is_rest s ≡ true → SaysLittle s
rest_says (seen.Done e to) h = cc
rest_says (seen.Fault e) h = cc
rest_says (seen.WriteKept e) h = cc
rest_says (seen.WriteDropped e) h = cc
rest_says (seen.ReadFailed p) h = cc
rest_says s h = record { write = refl; read = refl; entry = refl }

pub link_says : (s : Seen) → is_of_link s ≡ true → SaysLittle s
link_says (seen.Done e to) h = cc
link_says (seen.Fault e) h = cc
link_says (seen.WriteKept e) h = cc
link_says (seen.WriteDropped e) h = cc
link_says (seen.ReadFailed p) h = cc
link_says s h = record { write = refl; read = refl; entry = refl }

pub wait_says : (d : Device) (e : Event) (c : Caller) (p : Page) (v : Via) (step : StepIn d e c p) → SaysLittle (wait_seen step v)
wait_says d e c p v (begins_in idle) = record { write = refl; read = refl; entry = refl }
wait_says d e c p v (goes_on_in is) = record { write = refl; read = refl; entry = refl }

-- the counts
same : (d d' : Device) (s : Seen) → Same d d' → is_write_failed s ≡ false → is_read_failed s ≡ false → Counts d (d', s)
same d d' s k nw nr =
    record {
      writes = k.writes ∙ sym (ap (λ b. d.failed_writes + one_if b) nw ∙ add-zero _);
      reads = k.reads ∙ sym (ap (λ b. d.failed_reads + one_if b) nr ∙ add-zero _);
    }

itself : (d : Device) → Same d d
itself d = record { history = refl; writes = refl; reads = refl }

by_history :
    (d d' : Device) (s : Seen) → d'.failed_writes ≡ d.failed_writes → d'.failed_reads ≡ d.failed_reads → is_write_failed s ≡ false → is_read_failed s ≡ false
    → Counts d (d', s)
by_history d d' s w r nw nr =
    record { writes = w ∙ sym (ap (λ b. d.failed_writes + one_if b) nw ∙ add-zero _); reads = r ∙ sym (ap (λ b. d.failed_reads + one_if b) nr ∙ add-zero _) }

wrote_counts : (d : Device) (p : Page) (copy : Option Copy) (ok : Bool) → let a : Device × DiskStep = wrote_after d p copy ok in Counts d (a.0, see_disk a.1)
wrote_counts d p None ok = same d d seen.Nothing (itself d) refl refl
wrote_counts d p (Some copy) true = by_history d _ (seen.Written copy.entry) refl refl refl refl
wrote_counts d p (Some copy) false = by_next (queue.next_copy d.queue p)
  where
    by_next :
        (o : Option Copy)
        → Counts d (
          record d { queue = queue.failed_after d.queue p; failed_writes = d.failed_writes + 1 },
          see_disk (cond (is_none o) (DiskStep.Kept p copy.entry) (DiskStep.Dropped p copy.entry)),
        )
    by_next None = record { writes = refl; reads = sym (add-zero _) }
    by_next (Some x) = record { writes = refl; reads = sym (add-zero _) }

pub took_counts : (d : Device) (taken : Option Taken) → let a : Device × DiskStep = took_back d taken in Counts d (a.0, see_disk a.1)
took_counts d None = same d d seen.Nothing (itself d) refl refl
took_counts d (Some t) = go t.done.which t.done.page t.done.ok t.bytes
  where
    go : (w : DiskWhich) (p : Page) (ok : Bool) (bytes : List ℕ) → let a : Device × DiskStep = took_after d w p ok bytes in Counts d (a.0, see_disk a.1)
    go (which.Write q) p ok bytes = wrote_counts d p (queue.flying d.queue p) ok
    go (which.Read c) p true bytes = by_history d _ (seen.ReadCame p) refl refl refl refl
    go (which.Read c) p false bytes = record { writes = sym (add-zero _); reads = refl }

pub comes_counts : (d d' : Device) (page : List ℕ) (e : Event) (s : Seen) → Comes d page e d' s → Counts d (d', s)
comes_counts d d' page e s (refuses new) = same d d seen.Busy (itself d) refl refl
comes_counts d d' page e s (rests new rest) = let says = rest_says s rest in same d d s (itself d) says.write says.read
comes_counts d d' page e s (accepts {to = to} step linked) = let k = linked_same _ d' linked in by_history d d' s k.writes k.reads refl refl
comes_counts d d' page e s (gives_page step) = by_history d _ s refl refl refl refl
comes_counts d d' page e s (fails why) = by_history d _ s refl refl refl refl
comes_counts d d' page e s (keeps_page idle) = by_history d _ s refl refl refl refl
comes_counts d d' page e s (reads {c = c} {p = p} {d' = x} v step is linked) =
    let k = linked_same d x linked in let says = wait_says d e c p v step in by_history d _ s k.writes k.reads says.write says.read
comes_counts d d' page e s starts_write = by_history d _ s refl refl refl refl
comes_counts d d' page e s (takes_back taken) = took_counts d taken
comes_counts d d' page e s (links new of_link linked) = let says = link_says s of_link in same d d' s (linked_same d d' linked) says.write says.read
comes_counts d d' page e s (brings c bytes r linked) = let k = linked_same _ d' linked in by_history d d' s k.writes k.reads refl refl

-- the history
seen_nothing : (d : Device) (taken : Option Taken) → let a : Device × DiskStep = took_back d taken in
    (entry_seen (see_disk a.1) ≡ None) × (a.0.history ≡ d.history)
seen_nothing d None = (refl, refl)
seen_nothing d (Some t) = go t.done.which t.done.page t.done.ok t.bytes
  where
    back : (p : Page) (copy : Option Copy) (ok : Bool) → let a : Device × DiskStep = wrote_after d p copy ok in
        (entry_seen (see_disk a.1) ≡ None) × (a.0.history ≡ d.history)
    back p None ok = (refl, refl)
    back p (Some copy) true = (refl, refl)
    back p (Some copy) false = by_next (queue.next_copy d.queue p)
      where
        by_next :
            (o : Option Copy)
            → (entry_seen (see_disk (cond (is_none o) (DiskStep.Kept p copy.entry) (DiskStep.Dropped p copy.entry))) ≡ None) × (d.history ≡ d.history)
        by_next None = (refl, refl)
        by_next (Some x) = (refl, refl)

    go : (w : DiskWhich) (p : Page) (ok : Bool) (bytes : List ℕ) → let a : Device × DiskStep = took_after d w p ok bytes in
        (entry_seen (see_disk a.1) ≡ None) × (a.0.history ≡ d.history)
    go (which.Write q) p ok bytes = back p (queue.flying d.queue p) ok
    go (which.Read c) p true bytes = (refl, refl)
    go (which.Read c) p false bytes = (refl, refl)

-- an entry answers the call that an event makes or goes on with
out_answers :
    (d : Device) (page : List ℕ) (e : Event) (c : Caller) (p : Page) (bytes : List ℕ) → StepOut d page e c p bytes
    → AnswersEvent d page e (row_of d.history c p op.PageOut bytes)
out_answers d page e c p bytes (begins_out idle) = (refl, (refl, tt, refl))
out_answers d page e c p bytes (goes_on_out {since = since} state) =
    let P : CallState → Type 0 = λ x. AnswersState x (call_of d.calls c).bytes (row_of d.history c p op.PageOut (call_of d.calls c).bytes) in
    (refl, subst P (sym state) (refl, tt, refl))

in_answers :
    (d : Device) (page : List ℕ) (e : Event) (c : Caller) (p : Page) (o : Op) (bytes : List ℕ) → IsInOrFault o → StepIn d e c p
    → AnswersEvent d page e (row_of d.history c p o bytes)
in_answers d page e c p o bytes is (begins_in idle) = (refl, (refl, is))
in_answers d page e c p o bytes is (goes_on_in {n = n} {v = v} {how = how} {newer = newer} {since = since} state) =
    let P : CallState → Type 0 = λ x. AnswersState x (call_of d.calls c).bytes (row_of d.history c p o bytes) in (refl, subst P (sym state) (refl, is))

fault_answers :
    (d : Device) (page : List ℕ) (c : Caller) (p : Page) (k : CallKind) (since at : ℕ) (bytes : List ℕ) → Faults d c p k since at bytes
    → AnswersEvent d page (event.Finish c) (row_of d.history c p (op.Failed k since at) bytes)
fault_answers d page c p k since at bytes (full state less) =
    let P : CallState → Type 0 =
    λ x. AnswersState x (call_of d.calls c).bytes (row_of d.history c p (op.Failed kind.PageOut since d.failed_writes) (call_of d.calls c).bytes) in
    (refl, subst P (sym state) (refl, tt, refl))
fault_answers d page c p k since at bytes (unread {n = n} {v = v} state) =
    let P : CallState → Type 0 =
    λ x. AnswersState x (call_of d.calls c).bytes (row_of d.history c p (op.Failed kind.PageIn since d.failed_reads) (zeros d.sizes)) in
    (refl, subst P (sym state) (refl, tt))

pub comes_adds : (d d' : Device) (page : List ℕ) (e : Event) (s : Seen) → Comes d page e d' s → Adds d (record { event = e; page = page }) s d'.history
comes_adds d d' page e s (refuses new) = nothing refl refl
comes_adds d d' page e s (rests new rest) = nothing (rest_says s rest).entry refl
comes_adds d d' page e s (accepts {c = c} {p = p} {bytes = bytes} step linked) =
    one (row_of d.history c p op.PageOut bytes) refl (linked_same _ d' linked).history (out_answers d page e c p bytes step)
comes_adds d d' page e s (gives_page {c = c} {p = p} {named = named} {from = from} {bytes = bytes} step) =
    one (row_of d.history c p (op.PageIn named from) bytes) refl refl (in_answers d page e c p (op.PageIn named from) bytes tt step)
comes_adds d d' page e s (fails {c = c} {p = p} {k = k} {since = since} {at = at} {bytes = bytes} why) =
    one (row_of d.history c p (op.Failed k since at) bytes) refl refl (fault_answers d page c p k since at bytes why)
comes_adds d d' page e s (keeps_page idle) = nothing refl refl
comes_adds d d' page e s (reads {c = c} {p = p} {d' = x} v step is linked) = nothing (wait_says d e c p v step).entry (linked_same d x linked).history
comes_adds d d' page e s starts_write = nothing refl refl
comes_adds d d' page e s (takes_back taken) = nothing (seen_nothing d taken).0 (seen_nothing d taken).1
comes_adds d d' page e s (links new of_link linked) = nothing (link_says s of_link).entry (linked_same d d' linked).history
comes_adds d d' page e s (brings c bytes r linked) = nothing refl (linked_same _ d' linked).history

-- and so where rates changed before
pub comes_to_counts : (d d' : Device) (page : List ℕ) (e : Event) (s : Seen) → ComesTo d page e d' s → Counts d (d', s)
comes_to_counts d d' page e s (rates, why, c) = let k = comes_counts (record d { rates = rates }) d' page e s c in record { writes = k.writes; reads = k.reads }

pub comes_to_adds : (d d' : Device) (page : List ℕ) (e : Event) (s : Seen) → ComesTo d page e d' s → Adds d (record { event = e; page = page }) s d'.history
comes_to_adds d d' page e s (rates, why, c) = go (comes_adds (record d { rates = rates }) d' page e s c)
  where
    go : Adds (record d { rates = rates }) (record { event = e; page = page }) s d'.history → Adds d (record { event = e; page = page }) s d'.history
    go (nothing seen_none same) = nothing seen_none same
    go (one row seen_one same answers) = one row seen_one same (answers_as e answers)
      where
        answers_as : (e : Event) → AnswersEvent (record d { rates = rates }) page e row → AnswersEvent d page e row
        answers_as (event.PageOut c p) a = a
        answers_as (event.PageIn c p) a = a
        answers_as (event.Finish c) a = a
        answers_as _ a = absurd a

-- so the history goes on
pub adds_go_on : (d : Device) (i : Input) (s : Seen) (H : History) → Adds d i s H → GoesOn d.history H
adds_go_on d i s H (nothing seen_none same) = ([], same)
adds_go_on d i s H (one row seen_one same answers) = (row ∷ [], same)

-- so the counts are those of the failures that were seen
pub record AreCounted (made : List (Input × Seen)) (d : Device) : Type 0 where
  pub writes : d.failed_writes ≡ failed_writes_in made
  pub reads : d.failed_reads ≡ failed_reads_in made

pub counted_after : (made : List (Input × Seen)) (d d' : Device) (i : Input) (s : Seen) → AreCounted made d → Counts d (d', s) → AreCounted ((i, s) ∷ made) d'
counted_after made d d' i s was now = record {
  writes = let a = count_by-cons (λ (m : Input × Seen). is_write_failed m.1) (i, s) made in omega (arith, was.writes, now.writes, a);
  reads = let a = count_by-cons (λ (m : Input × Seen). is_read_failed m.1) (i, s) made in omega (arith, was.reads, now.reads, a);
}

-- a poll
pub polled_counts :
    (made : List (Input × Seen)) (d d' : Device) (step : DiskStep) → AreCounted made d → Counts d (d', see_disk step) → AreCounted (with_polled step made) d'
polled_counts made d d' DiskStep.Nothing was now = record { writes = omega (arith, was.writes, now.writes); reads = omega (arith, was.reads, now.reads) }
polled_counts made d d' (DiskStep.Written p e) was now = counted_after made d d' _ (seen.Written e) was now
polled_counts made d d' (DiskStep.Kept p e) was now = counted_after made d d' _ (seen.WriteKept e) was now
polled_counts made d d' (DiskStep.Dropped p e) was now = counted_after made d d' _ (seen.WriteDropped e) was now
polled_counts made d d' (DiskStep.Came c p) was now = counted_after made d d' _ (seen.ReadCame p) was now
polled_counts made d d' (DiskStep.Failed c p) was now = counted_after made d d' _ (seen.ReadFailed p) was now
