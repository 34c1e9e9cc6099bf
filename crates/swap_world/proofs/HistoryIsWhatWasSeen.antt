-- The history holds exactly the entries that were seen, and each failure has its cause; each caller's calls are answered
-- once. It holds of all that was made, event after event.
use Rattle.std.proofs.Common.{◌≡◌, ℕ, ◌+◌, ◌++◌, ◌&&◌, if◌then◌else◌, ◌∙◌, ap, arith, count_by, not, is_some, Bool, true, false, cond, List, ◌∷◌, refl, subst, drop, inl, inr, is_none, Option, None, Some, ◌<◌, [], length, sym, ◌⊎◌}
use Rattle.std.proofs.lemmas.Bool.{ltb-true}
use Rattle.swap_base.specs.declared.Page.{Page}
use Rattle.swap_base.specs.declared.EntryNo.{EntryNo}
use Rattle.swap_base.specs.declared.DiskWhich.{DiskWhich}
use Rattle.swap_wire.specs.Input.{Input, IsInRange}
use Rattle.swap_wire.specs.declared.Event.{Event}
use Rattle.swap_wire.specs.declared.Seen.{Seen}
use Rattle.swap_record.specs.History.{Row, row_of, next_name}
use Rattle.swap_queue.specs.Queue.{Copy}
use Rattle.swap_disk.specs.Port.{TakeDone}
use Rattle.swap_disk.specs.Disk.{Taken}
use Rattle.swap_wire.specs.Fabric.{FabricOf}
use Rattle.swap_calls.specs.declared.CallState.{CallState}
use Rattle.swap_calls.specs.declared.CallState.TheVariants.{Reading}
use Rattle.swap_table.specs.declared.DiskStep.{DiskStep}
use Rattle.swap_table.specs.Device.{Device, wrote_after, took_after, took_back, device_at_start}
use Rattle.swap_table.specs.Fits.{KeepsNewest}
use Rattle.swap_table.specs.Happens.{see_disk}
use Rattle.swap_world.specs.Failures.{is_write_failed, is_read_failed, is_of, is_start, is_start_of, is_read_end, before_start, since_start, read_ends, entries_in, HasItsCause, HoldsEntry, HoldsEntriesSeen}
use Rattle.swap_world.specs.Runs.{entry_seen, with_polled}
use Rattle.swap_world.proofs.ReadsKeepTheirStart.{Reads, none_since, ReadsIn, AddsOne, reads_next, polled_reads, reads_new, step_reads}
use Rattle.swap_table.specs.Moves.{full, unread}
use Rattle.swap_activity.specs.Rates.{Activity}
use Rattle.swap_table.specs.Comes.{Comes, ComesTo, refuses, rests, accepts, gives_page, fails, keeps_page, reads, starts_write, takes_back, links, brings}
use Rattle.swap_world.proofs.CountsStayTrue.{SaysLittle, linked_same, rest_says, link_says, wait_says, AreCounted, counted_after, polled_counts, comes_to_counts, took_counts}
use Rattle.swap_base.specs.declared.Caller.{Caller}
use Rattle.swap_base.specs.Sizes.{Sizes}
use Rattle.swap_calls.specs.Calls.{Call, state_of, idle_call}
use Rattle.swap_base.proofs.Lists.{All-get_or}
use Rattle.swap_world.specs.World.{IsStep}
use Rattle.swap_world.proofs.AnsweredOnce.{OpenAt, starts_once, comes_once, took_back_open}
use Rattle.swap_world.specs.Answered.{calls_of, is_call_of, is_busy}
use Rattle.swap_world.specs.Rounds.{is_part}
use Rattle.swap_world.proofs.RoundsKeepPlans.{part_no_call}
use Rattle.std.specs.List.{AllByRecursion}
use Rattle.swap_base.proofs.Lists.{one_if, count_by-cons}
use Rattle.swap_wire.specs.declared.Event.TheVariants as event
use Rattle.swap_disk.specs.declared.port.DiskPort.{Ghosts as DiskMeaning}
use Rattle.swap_wire.specs.declared.fabric.Fabric.{Ghosts as FabricMeaning}
use Rattle.swap_table.specs.Promises.{FollowsItsMoves, Promises}
use Rattle.swap_world.proofs.EventsKeepWhatHolds.{step_comes, Known, known_caller, EachEventKeeps}
use Rattle.swap_world.proofs.CallsStayKnown.{Since, SinceIn, comes_since, took_back_since, since_new}
use Rattle.swap_base.specs.declared.DiskWhich.TheVariants as which
use Rattle.swap_wire.specs.declared.Seen.TheVariants as seen
use Rattle.swap_record.specs.declared.Op.TheVariants as op
use Rattle.swap_queue.specs.Queue as queue
use Rattle.swap_calls.specs.declared.Arrived.TheVariants as arrived

-- the entry that is seen is added, with its cause
pub record AddsSeen (made : List (Input × Seen)) (d : Device) (a : Device × Seen) : Type 0 where
  pub adds : ((entry_seen a.1 ≡ None) × (a.0.history ≡ d.history))
      ⊎ ((entry_seen a.1 ≡ Some (next_name d.history)) × (row : Row) × (a.0.history ≡ row ∷ d.history)
      × HasItsCause row.entry.caller row.entry.page made d.history row.entry.op)

-- what each call under way keeps
abbrev pub AllKeep : List (Input × Seen) → Device → Type 0
AllKeep made d =
    (c : Caller) → c.0 < d.sizes.callers
    → SinceIn c (before_start c made) d.calls × KeepsNewest d.history d.failed_reads (state_of d.calls c) × ReadsIn c made d

none_seen : (made : List (Input × Seen)) (d d' : Device) (s : Seen) → d'.history ≡ d.history → entry_seen s ≡ None → AddsSeen made d (d', s)
none_seen made d d' s e n = record { adds = inl (n, e) }

one_seen :
    (made : List (Input × Seen)) (d d' : Device) (row : Row) (s : Seen) → d'.history ≡ row ∷ d.history → entry_seen s ≡ Some (next_name d.history)
    → HasItsCause row.entry.caller row.entry.page made d.history row.entry.op → AddsSeen made d (d', s)
one_seen made d d' row s e n own = record { adds = inr (n, row, e, own) }

-- and so where only rates changed before
rated_adds :
    (made : List (Input × Seen)) (d : Device) (rates : List Activity) (d' : Device) (s : Seen) → AddsSeen made (record d { rates = rates }) (d', s)
    → AddsSeen made d (d', s)
rated_adds made d rates d' s a = record { adds = a.adds }

wrote_seen : (made : List (Input × Seen)) (d : Device) (p : Page) (copy : Option Copy) (ok : Bool) → let a : Device × DiskStep = wrote_after d p copy ok in
    AddsSeen made d (a.0, see_disk a.1)
wrote_seen made d p None ok = none_seen made d d seen.Nothing refl refl
wrote_seen made d p (Some copy) true = none_seen made d _ (seen.Written copy.entry) refl refl
wrote_seen made d p (Some copy) false = by_next (queue.next_copy d.queue p)
  where
    by_next :
        (o : Option Copy)
        → AddsSeen made d (
          record d { queue = queue.failed_after d.queue p; failed_writes = d.failed_writes + 1 },
          see_disk (cond (is_none o) (DiskStep.Kept p copy.entry) (DiskStep.Dropped p copy.entry)),
        )
    by_next None = none_seen made d _ (seen.WriteKept copy.entry) refl refl
    by_next (Some x) = none_seen made d _ (seen.WriteDropped copy.entry) refl refl

took_seen : (made : List (Input × Seen)) (d : Device) (w : DiskWhich) (p : Page) (ok : Bool) (bytes : List ℕ)
    → let a : Device × DiskStep = took_after d w p ok bytes in
    AddsSeen made d (a.0, see_disk a.1)
took_seen made d (which.Write q) p ok bytes = wrote_seen made d p (queue.flying d.queue p) ok
took_seen made d (which.Read c) p true bytes = none_seen made d _ (seen.ReadCame p) refl refl
took_seen made d (which.Read c) p false bytes = none_seen made d _ (seen.ReadFailed p) refl refl

took_back_seen : (made : List (Input × Seen)) (d : Device) (taken : Option Taken) → let a : Device × DiskStep = took_back d taken in
    AddsSeen made d (a.0, see_disk a.1)
took_back_seen made d None = none_seen made d d seen.Nothing refl refl
took_back_seen made d (Some t) = took_seen made d t.done.which t.done.page t.done.ok t.bytes

module _ (made : List (Input × Seen)) (n : ℕ) (d : Device) (counted : AreCounted made d) (keep : AllKeep made d) where
  pub comes_seen : (page : List ℕ) (e : Event) (d' : Device) (s : Seen) → IsInRange d.sizes n e → Comes d page e d' s → AddsSeen made d (d', s)
  comes_seen page e d' s range (refuses device_at_start) = none_seen made d d s refl refl
  comes_seen page e d' s range (rests device_at_start rest) = none_seen made d d s refl (rest_says s rest).entry
  comes_seen page e d' s range (accepts {c = c} {p = p} {bytes = bytes} step linked) =
      one_seen made d d' (row_of d.history c p op.PageOut bytes) s (linked_same _ d' linked).history refl tt
  comes_seen page e d' s range (gives_page step) = one_seen made d _ _ s refl refl tt
  comes_seen page e d' s range (fails {c = c} {p = p} {since = since} (full at less)) =
      let since_ = let P : CallState → Type 0 = λ x. Since (before_start c made) x in subst P at (keep c range).0 in
      one_seen made d _ _ s refl refl (since_, counted.writes, ltb-true since d.failed_writes less)
  comes_seen page e d' s range (fails {c = c} {p = p} {since = since} (unread {n = m} {v = v} at)) =
      let state : CallState = Reading p m v arrived.Failed false since in
      let since_ = let P : CallState → Type 0 = λ x. Since (before_start c made) x in subst P at (keep c range).0 in
      let newest = let P : CallState → Type 0 = λ x. KeepsNewest d.history d.failed_reads x in subst P at (keep c range).1 in
      let reads_ = let P : CallState → Type 0 = λ x. Reads c (read_ends c (since_start c made)) (drop (entries_in (since_start c made)) d.history) x in
      subst P at (keep c range).2 in
      one_seen made d _ _ s refl refl (
        (since_, counted.reads, newest.2),
        record { own = reads_.0; newest = none_since p m (entries_in (since_start c made)) d.history (newest.0 refl) reads_.1 },
      )
  comes_seen page e d' s range (keeps_page idle_call) = none_seen made d _ s refl refl
  comes_seen page e d' s range (reads {c = c} {p = p} {d' = x} v step is linked) =
      none_seen made d _ s (linked_same d x linked).history (wait_says d e c p v step).entry
  comes_seen page e d' s range starts_write = none_seen made d _ s refl refl
  comes_seen page e d' s range (takes_back taken) = took_back_seen made d taken
  comes_seen page e d' s range (links device_at_start of_link linked) = none_seen made d d' s (linked_same d d' linked).history (link_says s of_link).entry
  comes_seen page e d' s range (brings c bytes r linked) = none_seen made d d' s (linked_same _ d' linked).history refl

-- a step's entry stands in front of those before it
holds_entry :
    (made : List (Input × Seen)) (d d' : Device) (s : Seen) → AddsSeen made d (d', s) → HoldsEntriesSeen made d.history
    → HoldsEntry (HoldsEntriesSeen made) made d'.history (entry_seen s)
holds_entry made d d' s k h = go k.adds
  where
    P : Option EntryNo → Type 0
    P o = HoldsEntry (HoldsEntriesSeen made) made d'.history o

    go :
        ((entry_seen s ≡ None) × (d'.history ≡ d.history))
        ⊎ ((entry_seen s ≡ Some (next_name d.history)) × (row : Row) × (d'.history ≡ row ∷ d.history)
        × HasItsCause row.entry.caller row.entry.page made d.history row.entry.op)
        → P (entry_seen s)
    go (inl (n, e)) = subst P (sym n) (let Q : List Row → Type 0 = λ H. HoldsEntriesSeen made H in subst Q (sym e) h)
    go (inr (n, row, e, own)) =
        subst P (sym n)
        (let Q : List Row → Type 0 = λ H. HoldsEntry (HoldsEntriesSeen made) made H (Some (next_name d.history)) in subst Q (sym e) (refl, own, h))

adds_one : (made : List (Input × Seen)) (d d' : Device) (s : Seen) → AddsSeen made d (d', s) → AddsOne s d.history d'.history
adds_one made d d' s k = go k.adds
  where
    go :
        ((entry_seen s ≡ None) × (d'.history ≡ d.history))
        ⊎ ((entry_seen s ≡ Some (next_name d.history)) × (row : Row) × (d'.history ≡ row ∷ d.history)
        × HasItsCause row.entry.caller row.entry.page made d.history row.entry.op)
        → AddsOne s d.history d'.history
    go (inl (n, e)) = inl (n, e)
    go (inr (n, row, e, own)) = inr (n, row, e)

-- the end of an operation starts nothing, and adds no entry
start_polled : (c : Caller) (made : List (Input × Seen)) (step : DiskStep) → before_start c (with_polled step made) ≡ before_start c made
start_polled c made DiskStep.Nothing = refl
start_polled c made (DiskStep.Written p e) = refl
start_polled c made (DiskStep.Kept p e) = refl
start_polled c made (DiskStep.Dropped p e) = refl
start_polled c made (DiskStep.Came e p) = refl
start_polled c made (DiskStep.Failed e p) = refl

polled_holds :
    (made : List (Input × Seen)) (H : List Row) (step : DiskStep) → HoldsEntry (HoldsEntriesSeen made) made H (entry_seen (see_disk step))
    → HoldsEntriesSeen (with_polled step made) H
polled_holds made H DiskStep.Nothing h = h
polled_holds made H (DiskStep.Written p e) h = h
polled_holds made H (DiskStep.Kept p e) h = h
polled_holds made H (DiskStep.Dropped p e) h = h
polled_holds made H (DiskStep.Came c p) h = h
polled_holds made H (DiskStep.Failed c p) h = h

-- the end of an operation is no call
calls_polled : (c : Caller) (made : List (Input × Seen)) (step : DiskStep) → calls_of c (with_polled step made) ≡ calls_of c made
calls_polled c made DiskStep.Nothing = refl
calls_polled c made (DiskStep.Written p e) = refl
calls_polled c made (DiskStep.Kept p e) = refl
calls_polled c made (DiskStep.Dropped p e) = refl
calls_polled c made (DiskStep.Came e p) = refl
calls_polled c made (DiskStep.Failed e p) = refl

-- what was made so far tells of a device of these sizes: its counts, each caller's answered calls and its call under way,
-- and the entries of its history
pub record IsTold (s : Sizes) (made : List (Input × Seen)) (d : Device) : Type 0 where
  pub counted : AreCounted made d
  pub once : (c : Caller) → c.0 < s.callers → OpenAt c d (calls_of c made)
  pub since : (c : Caller) → c.0 < s.callers → SinceIn c (before_start c made) d.calls
  pub reads : (c : Caller) → c.0 < s.callers → ReadsIn c made d
  pub entries : HoldsEntriesSeen made d.history

pub new_told : (s : Sizes) (n : ℕ) → IsTold s [] (device_at_start s n)
new_told s n =
    record {
      counted = record { writes = refl; reads = refl };
      once = λ c within. starts_once s n c;
      since = λ c within. since_new s n c;
      reads = λ c within. reads_new s n c;
      entries = refl;
    }

module _ {D F : Type 0} (disk : DiskMeaning D) (follows : FollowsItsMoves disk) (fabric : FabricMeaning F) (laws : Promises fabric) (T : Bool)
    (o : FabricOf) where
  abbrev IsKnown : Device → D → F → Type 0
  IsKnown d k f = Known disk follows fabric laws T o d k f

  within_calls : (d : Device) (k : D) (f : F) (c : Caller) → IsKnown d k f → c.0 < o.sizes.callers → c.0 < length d.calls
  within_calls d k f c h within = known_caller disk follows fabric laws T o d k f c h within

  keeps_each : (made : List (Input × Seen)) (d : Device) (k : D) (f : F) → IsKnown d k f → IsTold o.sizes made d → AllKeep made d
  keeps_each made d k f h told c within =
      let here : c.0 < o.sizes.callers = subst (λ (x : FabricOf). c.0 < x.sizes.callers) h.is within in (
        told.since c here,
        All-get_or (λ (call : Call). KeepsNewest d.history d.failed_reads call.state) d.calls c.0 idle_call h.agree.0.disk.in_order.calls tt,
        told.reads c here,
      )

  event_adds :
      (made : List (Input × Seen)) (d d' : Device) (k k' : D) (f f' : F) (i : Input) (s : Seen) → IsKnown d k f → IsInRange o.sizes o.lenders i.event
      → IsStep disk.moves fabric.moves d k f i s d' k' f' → IsTold o.sizes made d → AddsSeen made d (d', s)
  event_adds made d d' k k' f f' i s h range step told =
      let comes : ComesTo d i.page i.event d' s = step_comes disk.moves fabric.moves d d' k k' f f' i s step in
      rated_adds made d comes.0 d' s
      (comes_seen made o.lenders (record d { rates = comes.0 }) (record { writes = told.counted.writes; reads = told.counted.reads })
      (keeps_each made d k f h told) i.page i.event d' s (subst (λ (x : FabricOf). IsInRange x.sizes o.lenders i.event) (sym h.is) range) comes.2)

  event_told :
      (made : List (Input × Seen)) (d d' : Device) (k k' : D) (f f' : F) (i : Input) (s : Seen) → IsKnown d k f → IsInRange o.sizes o.lenders i.event
      → IsStep disk.moves fabric.moves d k f i s d' k' f' → IsTold o.sizes made d → IsTold o.sizes ((i, s) ∷ made) d'
  event_told made d d' k k' f f' i s h range step told =
      let comes : ComesTo d i.page i.event d' s = step_comes disk.moves fabric.moves d d' k k' f f' i s step in
      let adds : AddsSeen made d (d', s) = event_adds made d d' k k' f f' i s h range step told in
      record {
        counted = counted_after made d d' i s told.counted (comes_to_counts d d' i.page i.event s comes);
        once =
            λ c within.
            comes_once c (record d { rates = comes.0 }) (calls_of c made) (within_calls d k f c h within) (told.once c within) i.page i.event d' s comes.2;
        since =
            λ c within.
            comes_since c made (record d { rates = comes.0 }) d' i s told.counted.writes told.counted.reads (within_calls d k f c h within)
            (told.since c within) comes.2;
        reads = λ c within.
            reads_next c i s made d d' (adds_one made d d' s adds)
            (step_reads disk follows fabric.moves T fabric.answers c d d' k k' f f' s (read_ends c (since_start c made))
            (drop (entries_in (since_start c made)) d.history) h.agree.0.disk (within_calls d k f c h within) (told.reads c within) i.page i.event step);
        entries = holds_entry made d d' s adds told.entries;
      }

  poll_told :
      (made : List (Input × Seen)) (d : Device) (k k' : D) (f : F) (taken : Option Taken) → IsKnown d k f → disk.moves k TakeDone taken k'
      → IsTold o.sizes made d
      → IsTold o.sizes (with_polled (took_back d taken).1 made) (took_back d taken).0
  poll_told made d k k' f taken h moved told =
      let d' : Device = (took_back d taken).0 in
      let step : DiskStep = (took_back d taken).1 in
      record {
        counted = polled_counts made d d' step told.counted (took_counts d taken);
        once =
            λ c within.
            subst (λ is. OpenAt c d' is) (sym (calls_polled c made step))
            (took_back_open c d taken (calls_of c made) (within_calls d k f c h within) (told.once c within));
        since =
            λ c within.
            subst (λ b. SinceIn c b d'.calls) (sym (start_polled c made step))
            (took_back_since c (before_start c made) d taken (within_calls d k f c h within) (told.since c within));
        reads =
            λ c within.
            polled_reads disk follows fabric.moves T fabric.answers c made d k f h.agree.0.disk (within_calls d k f c h within)
            (told.reads c within) taken k' moved;
        entries = polled_holds made d'.history step (holds_entry made d d' (see_disk step) (took_back_seen made d taken) told.entries);
      }

  pub each_told : EachEventKeeps disk follows fabric laws T o (IsTold o.sizes)
  each_told = record { event = event_told; poll = poll_told }

-- What is made of no call, start or end of a read, and tells no failure and no entry, tells nothing.
pub record TellsNothing (m : Input × Seen) : Type 0 where
  pub says : SaysLittle m.1
  pub call : (c : Caller) → is_call_of c m.0.event ≡ false
  pub of : (c : Caller) → is_of c m.0.event ≡ false
  pub ends : (c : Caller) → is_read_end c m.0.event m.1 ≡ false

none_counted : {X : Type 0} (p : X → Bool) (x : X) (xs : List X) → p x ≡ false → count_by p (x ∷ xs) ≡ count_by p xs
none_counted p x xs none = let a = count_by-cons p x xs in let b : one_if (p x) ≡ 0 = ap one_if none in omega (arith, a, b)

module _ (i : Input) (s : Seen) (made : List (Input × Seen)) (h : TellsNothing (i, s)) where
  same_calls : (c : Caller) → calls_of c ((i, s) ∷ made) ≡ calls_of c made
  same_calls c = ap (λ b. if b && not (is_busy s) then i ∷ calls_of c made else calls_of c made) (h.call c)

  not_start : (c : Caller) → is_start_of c i.event s ≡ false
  not_start c = ap (λ b. b && is_start i.event s) (h.of c)

  same_before : (c : Caller) → before_start c ((i, s) ∷ made) ≡ before_start c made
  same_before c = ap (λ b. if b then made else before_start c made) (not_start c)

  same_since : (c : Caller) → since_start c ((i, s) ∷ made) ≡ (i, s) ∷ since_start c made
  same_since c = ap (λ b. if b then [] else (i, s) ∷ since_start c made) (not_start c)

  same_ends : (c : Caller) → read_ends c (since_start c ((i, s) ∷ made)) ≡ read_ends c (since_start c made)
  same_ends c =
      ap (λ ms. read_ends c ms) (same_since c)
      ∙ ap (λ b. if b then (i.event, s) ∷ read_ends c (since_start c made) else read_ends c (since_start c made)) (h.ends c)

  same_entries : (c : Caller) → entries_in (since_start c ((i, s) ∷ made)) ≡ entries_in (since_start c made)
  same_entries c =
      ap (λ ms. entries_in ms) (same_since c)
      ∙ none_counted (λ (m : Input × Seen). is_some (entry_seen m.1)) (i, s) (since_start c made) (ap is_some h.says.entry)

  holds_less : (H : List Row) → HoldsEntriesSeen ((i, s) ∷ made) H → HoldsEntriesSeen made H
  holds_less H k = let P : Option EntryNo → Type 0 = λ o. HoldsEntry (HoldsEntriesSeen made) made H o in subst P h.says.entry k

  holds_more : (H : List Row) → HoldsEntriesSeen made H → HoldsEntriesSeen ((i, s) ∷ made) H
  holds_more H k = let P : Option EntryNo → Type 0 = λ o. HoldsEntry (HoldsEntriesSeen made) made H o in subst P (sym h.says.entry) k

  -- so it may be left out, and put in
  pub told_less : (z : Sizes) (d : Device) → IsTold z ((i, s) ∷ made) d → IsTold z made d
  told_less z d told = record {
    counted = record {
      writes = told.counted.writes ∙ none_counted (λ (m : Input × Seen). is_write_failed m.1) (i, s) made h.says.write;
      reads = told.counted.reads ∙ none_counted (λ (m : Input × Seen). is_read_failed m.1) (i, s) made h.says.read;
    };
    once = λ c within. subst (λ is. OpenAt c d is) (same_calls c) (told.once c within);
    since = λ c within. subst (λ b. SinceIn c b d.calls) (same_before c) (told.since c within);
    reads =
        λ c within. let P : List (Event × Seen) → ℕ → Type 0 = λ ends n. Reads c ends (drop n d.history) (state_of d.calls c) in
        subst (λ n. P (read_ends c (since_start c made)) n) (same_entries c)
        (subst (λ ends. P ends (entries_in (since_start c ((i, s) ∷ made)))) (same_ends c) (told.reads c within));
    entries = holds_less d.history told.entries;
  }

  pub told_more : (z : Sizes) (d : Device) → IsTold z made d → IsTold z ((i, s) ∷ made) d
  told_more z d told = record {
    counted = record {
      writes = told.counted.writes ∙ sym (none_counted (λ (m : Input × Seen). is_write_failed m.1) (i, s) made h.says.write);
      reads = told.counted.reads ∙ sym (none_counted (λ (m : Input × Seen). is_read_failed m.1) (i, s) made h.says.read);
    };
    once = λ c within. subst (λ is. OpenAt c d is) (sym (same_calls c)) (told.once c within);
    since = λ c within. subst (λ b. SinceIn c b d.calls) (sym (same_before c)) (told.since c within);
    reads =
        λ c within. let P : List (Event × Seen) → ℕ → Type 0 = λ ends n. Reads c ends (drop n d.history) (state_of d.calls c) in
        subst (λ n. P (read_ends c (since_start c ((i, s) ∷ made))) n) (sym (same_entries c))
        (subst (λ ends. P ends (entries_in (since_start c made))) (sym (same_ends c)) (told.reads c within));
    entries = holds_more d.history told.entries;
  }

-- a part tells nothing, and neither does a Round
part_not_of : (c : Caller) (e : Event) → is_part e ≡ true → is_of c e ≡ false
part_not_of c (event.Tick word) part = refl
part_not_of c (event.Give l) part = refl
part_not_of c (event.Take l) part = refl
part_not_of c e part = cc

part_ends_none : (c : Caller) (e : Event) (s : Seen) → is_part e ≡ true → is_read_end c e s ≡ false
part_ends_none c (event.Tick word) s part = refl
part_ends_none c (event.Give l) s part = refl
part_ends_none c (event.Take l) s part = refl
part_ends_none c e s part = cc

pub part_tells : (i : Input) (s : Seen) → is_part i.event ≡ true → SaysLittle s → TellsNothing (i, s)
part_tells i s part says =
    record { says = says; call = λ c. part_no_call c i.event part; of = λ c. part_not_of c i.event part; ends = λ c. part_ends_none c i.event s part }

round_tells : (page : List ℕ) (word effects mapped : ℕ) → TellsNothing (record { event = event.Round word; page = page }, seen.Rounded effects mapped)
round_tells page word effects mapped = record { says = record { write = refl; read = refl; entry = refl }; call = λ c. refl; of = λ c. refl; ends = λ c. refl }

abbrev pub AllTellNothing : List (Input × Seen) → Type 0
AllTellNothing ms = AllByRecursion TellsNothing ms

-- a Round stands in the place of its parts
pub record Gathers (P : List (Input × Seen) → Device → Type 0) : Type 0 where
  pub round :
      (inner made : List (Input × Seen)) (d : Device) (page : List ℕ) (word effects mapped : ℕ) → AllTellNothing inner → P (inner ++ made) d
      → P ((record { event = event.Round word; page = page }, seen.Rounded effects mapped) ∷ made) d

told_without : (z : Sizes) (inner made : List (Input × Seen)) (d : Device) → AllTellNothing inner → IsTold z (inner ++ made) d → IsTold z made d
told_without z [] made d all told = told
told_without z (m ∷ inner) made d all told = told_without z inner made d all.1 (told_less m.0 m.1 (inner ++ made) all.0 z d told)

pub told_gathers : (z : Sizes) → Gathers (IsTold z)
told_gathers z =
    record {
      round =
          λ inner made d page word effects mapped all told.
          told_more (record { event = event.Round word; page = page }) (seen.Rounded effects mapped) made (round_tells page word effects mapped) z d
          (told_without z inner made d all told);
    }
