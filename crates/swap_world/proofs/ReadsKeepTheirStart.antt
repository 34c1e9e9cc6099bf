-- Each call that reads: what came back since its last start, and its page's newest entry then.
use Rattle.std.proofs.Common.{◌≡◌, ◌⊎◌, inl, inr, ℕ, ◌+◌, ◌<◌, Bool, true, false, cond, ◌&&◌, ◌==◌, List, [], ◌∷◌, set, length, take, drop, find, zero, suc, refl, sym, ap, ◌∙◌, subst, arith, is_some, is_none, length-drop, Option, None, Some}
use Rattle.std.proofs.lemmas.Bool.{eq-eqb, eqb-true}
use Rattle.std.specs.List.{AllByRecursion}
use Rattle.swap_base.specs.declared.Page.{Page}
use Rattle.swap_base.specs.declared.Caller.{Caller}
use Rattle.swap_base.specs.declared.EntryNo.{EntryNo}
use Rattle.swap_base.specs.declared.Lender.{Lender}
use Rattle.swap_base.specs.declared.DiskWhich.{DiskWhich}
use Rattle.swap_base.specs.Sizes.{Sizes, pages_of}
use Rattle.swap_wire.specs.Input.{Input}
use Rattle.swap_wire.specs.Fabric.{FabricCall, FabricAnswer}
use Rattle.swap_wire.specs.declared.Event.{Event}
use Rattle.swap_wire.specs.declared.Seen.{Seen}
use Rattle.swap_record.specs.History.{Row, last, next_name, is_out_of}
use Rattle.swap_queue.specs.Queue.{Copy}
use Rattle.swap_disk.specs.declared.DiskDone.{DiskDone}
use Rattle.swap_disk.specs.Disk.{Taken, Finished, Flight, Write, Read, which_of, page_of, is_flight_of}
use Rattle.swap_disk.specs.Port.{Port, TakeDone, LetFinish, Takes, TakesTold, LetsFinish}
use Rattle.swap_calls.specs.Calls.{Call, state_of, call_of}
use Rattle.swap_calls.specs.declared.Arrived.{Arrived}
use Rattle.swap_calls.specs.declared.CallState.{CallState}
use Rattle.swap_calls.specs.declared.CallState.TheVariants.{Idle, Room, Reading}
use Rattle.swap_table.specs.Ports.{Leads, Along}
use Rattle.swap_table.specs.Fits.{FitsDisk, IsExpected, WaitsFor}
use Rattle.swap_table.specs.Device.{Device, device_at_start, disk_take, took_after, took_back, wrote_after}
use Rattle.swap_table.specs.declared.DiskStep.{DiskStep}
use Rattle.swap_base.proofs.Lists.{chosen, by_caller, not_eqb, count_by-cons, one_if}
use Rattle.swap_table.proofs.HistoryAgreement.{found}
use Rattle.swap_table.proofs.CallsKeepDiskAgreement.{lets_finish_fits}
use Rattle.swap_table.proofs.Programs.{Leads-Along}
use Rattle.swap_world.specs.Failures.{is_of, is_start, is_start_of, since_start, is_read_end, with_read_end, read_ends, entries_in}
use Rattle.swap_world.specs.Runs.{entry_seen, with_polled}
use Rattle.swap_table.specs.Happens.{happens, taken_if, see_disk}
use Rattle.swap_world.proofs.AnsweredOnce.{idle_at}
use Rattle.swap_table.specs.Comes.{ComesTo}
use Rattle.swap_table.proofs.EventsComeToTheirEnds.{happens_comes}
use Rattle.swap_world.proofs.CallsStayKnown.{comes_carries, Carries, set_own, set_other}
use Rattle.swap_disk.specs.declared.port.DiskPort.{Ghosts as DiskMeaning}
use Rattle.swap_table.specs.Promises.{FollowsItsMoves}
use Rattle.swap_base.specs.declared.Via.TheVariants as via
use Rattle.swap_base.specs.declared.DiskWhich.TheVariants as which
use Rattle.swap_wire.specs.declared.Event.TheVariants as event
use Rattle.swap_wire.specs.declared.Seen.TheVariants as seen
use Rattle.swap_queue.specs.Queue as queue
use Rattle.swap_calls.specs.Calls as calls
use Rattle.swap_calls.specs.declared.Arrived.TheVariants as arrived
use Rattle.swap_disk.specs.lemmas.Follows.{found_is}

-- what came back since a read's start: nothing while it is waited for; one that failed, that read alone
abbrev pub CameBack : Caller → Page → List (Event × Seen) → Arrived → Type 0
CameBack c p ends arrived.Waiting = ends ≡ []
CameBack c p ends arrived.Came = Unit {0}
CameBack c p ends arrived.Failed = ends ≡ (event.Disk (which.Read c) false, seen.ReadFailed p) ∷ []
CameBack c p ends arrived.Lost = Unit {0}

-- and the newest entry of its page is the last page-out of it in the history before that start
abbrev pub Reads : Caller → List (Event × Seen) → List Row → CallState → Type 0
Reads c ends H Idle = Unit {0}
Reads c ends H (Room p since) = Unit {0}
Reads c ends H (Reading p n v how newer since) = CameBack c p ends how × (last H p ≡ Some n)

abbrev pub ReadsIn : Caller → List (Input × Seen) → Device → Type 0
ReadsIn c made d = Reads c (read_ends c (since_start c made)) (drop (entries_in (since_start c made)) d.history) (state_of d.calls c)

-- where the last page-out of a page stands before some entries, none of them is a page-out of it
last_below : (p : Page) (n : EntryNo) (H : List Row) → last H p ≡ Some n → n.0 < length H
last_below p n [] e = cc
last_below p n (row ∷ H) e = go (is_out_of p row) e (last_below p n H)
  where
    go : (b : Bool) → cond b (Some (next_name H)) (last H p) ≡ Some n → (last H p ≡ Some n → n.0 < length H) → n.0 < length (row ∷ H)
    go true e rest = let is : next_name H ≡ n = cc in let at : length H ≡ n.0 = ap (λ (x : EntryNo). x.0) is in omega (arith, at)
    go false e rest = let less : n.0 < length H = rest e in omega (arith, less)

pub none_since :
    (p : Page) (n : EntryNo) (k : ℕ) (H : List Row) → last H p ≡ Some n → last (drop k H) p ≡ Some n
    → AllByRecursion (λ (row : Row). is_out_of p row ≡ false) (take k H)
none_since p n zero H now then = tt
none_since p n (suc k) [] now then = tt
none_since p n (suc k) (row ∷ H) now then = go (is_out_of p row) refl now (λ e. none_since p n k H e then)
  where
    go :
        (b : Bool) → is_out_of p row ≡ b → cond b (Some (next_name H)) (last H p) ≡ Some n
        → (last H p ≡ Some n → AllByRecursion (λ (row : Row). is_out_of p row ≡ false) (take k H))
        → (is_out_of p row ≡ false) × AllByRecursion (λ (row : Row). is_out_of p row ≡ false) (take k H)
    go true is e rest =
        let named : next_name H ≡ n = cc in
        let at : length H ≡ n.0 = ap (λ (x : EntryNo). x.0) named in
        let below : n.0 < length (drop k H) = last_below p n (drop k H) then in
        absurd (omega (arith, at, below, length-drop k H))
    go false is e rest = (is, rest e)

-- what a step adds to the history
abbrev pub AddsOne : Seen → List Row → List Row → Type 0
AddsOne s H H' = ((entry_seen s ≡ None) × (H' ≡ H)) ⊎ ((entry_seen s ≡ Some (next_name H)) × (row : Row) × (H' ≡ row ∷ H))

-- the history before a start stays
before_stays :
    (i : Input) (s : Seen) (made : List (Input × Seen)) (H H' : List Row) → AddsOne s H H' → drop (entries_in ((i, s) ∷ made)) H' ≡ drop (entries_in made) H
before_stays i s made H H' (inl (n, e)) =
    let more = count_by-cons (λ (m : Input × Seen). is_some (entry_seen m.1)) (i, s) made in
    let none : one_if (is_some (entry_seen s)) ≡ 0 = ap (λ (o : Option EntryNo). one_if (is_some o)) n in
    let same : entries_in ((i, s) ∷ made) ≡ entries_in made = omega (arith, more, none) in
    ap (λ k. drop k H') same ∙ ap (λ h. drop (entries_in made) h) e
before_stays i s made H H' (inr (n, row, e)) =
    let more = count_by-cons (λ (m : Input × Seen). is_some (entry_seen m.1)) (i, s) made in
    let one : one_if (is_some (entry_seen s)) ≡ 1 = ap (λ (o : Option EntryNo). one_if (is_some o)) n in
    let next : entries_in ((i, s) ∷ made) ≡ suc (entries_in made) = omega (arith, more, one) in
    ap (λ k. drop k H') next ∙ ap (λ h. drop (suc (entries_in made)) h) e

-- a start adds no entry
no_entry_at_start : (e : Event) (s : Seen) → is_start e s ≡ true → entry_seen s ≡ None
no_entry_at_start e (seen.Done entry sent) h = go e h
  where
    go : (e : Event) → is_start e (seen.Done entry sent) ≡ true → Some entry ≡ None
    go (event.PageOut c p) h = cc
    go (event.PageIn c p) h = cc
    go (event.Finish c) h = cc
    go e h = cc
no_entry_at_start e (seen.Fault entry) h = go e h
  where
    go : (e : Event) → is_start e (seen.Fault entry) ≡ true → Some entry ≡ None
    go (event.PageOut c p) h = cc
    go (event.PageIn c p) h = cc
    go (event.Finish c) h = cc
    go e h = cc
no_entry_at_start e s h = refl

start_is_of : (c : Caller) (e : Event) (s : Seen) → is_start_of c e s ≡ true → is_start e s ≡ true
start_is_of c e s h = go (is_of c e) h
  where
    go : (b : Bool) → (b && is_start e s) ≡ true → is_start e s ≡ true
    go true h = h
    go false h = cc

-- what is known of a caller's call after an event: after a start of its own, and after any other event
abbrev pub ReadsAfter : Caller → List (Event × Seen) → List Row → List Row → Event → Seen → CallState → Type 0
ReadsAfter c ends before H e s state = Reads c (cond (is_start_of c e s) [] (with_read_end c e s ends)) (cond (is_start_of c e s) H before) state

pub reads_next : (c : Caller) (i : Input) (s : Seen) (made : List (Input × Seen)) (d d' : Device) → AddsOne s d.history d'.history
    → ReadsAfter c (read_ends c (since_start c made)) (drop (entries_in (since_start c made)) d.history) d.history i.event s (state_of d'.calls c)
    → ReadsIn c ((i, s) ∷ made) d'
reads_next c i s made d d' adds h = go (is_start_of c i.event s) refl h
  where
    since : List (Input × Seen)
    since = since_start c made

    state : CallState
    state = state_of d'.calls c

    kept : AddsOne s d.history d'.history → entry_seen s ≡ None → d'.history ≡ d.history
    kept (inl (n, e)) none = e
    kept (inr (n, row, e)) none = absurd (let both : Some (next_name d.history) ≡ None = sym n ∙ none in cc)

    go :
        (b : Bool) → is_start_of c i.event s ≡ b
        → Reads c (cond b [] (with_read_end c i.event s (read_ends c since))) (cond b d.history (drop (entries_in since) d.history)) state
        → Reads c (read_ends c (cond b [] ((i, s) ∷ since))) (drop (entries_in (cond b [] ((i, s) ∷ since))) d'.history) state
    go true is h = let P : List Row → Type 0 = λ H. Reads c [] H state in subst P (sym (kept adds (no_entry_at_start i.event s (start_is_of c i.event s is)))) h
    go false is h =
        let P : List Row → Type 0 = λ H. Reads c (with_read_end c i.event s (read_ends c since)) H state in
        subst P (sym (before_stays i s since d.history d'.history adds)) h

-- a read that comes back
came_back :
    (c : Caller) (page : Page) (ends : List (Event × Seen)) (H : List Row) (bytes : List ℕ) (call : Call) (state : CallState) → WaitsFor page state
    → Reads c ends H state
    → Reads c ((event.Disk (which.Read c) true, seen.ReadCame page) ∷ ends) H (calls.arrives arrived.Came bytes call state).state
came_back c page ends H bytes call (Reading q n via.Disk arrived.Waiting newer since) waits h = (tt, h.1)
came_back c page ends H bytes call _ waits h = absurd waits

failed_back :
    (c : Caller) (page : Page) (ends : List (Event × Seen)) (H : List Row) (call : Call) (state : CallState) → WaitsFor page state → Reads c ends H state
    → Reads c ((event.Disk (which.Read c) false, seen.ReadFailed page) ∷ ends) H (calls.arrives arrived.Failed [] call state).state
failed_back c page ends H call (Reading q n via.Disk arrived.Waiting newer since) waits h =
    let is : page ≡ q = ap (λ n. record { 0 = n }) (sym waits) in
    (ap (λ es. (event.Disk (which.Read c) false, seen.ReadFailed page) ∷ es) h.0 ∙ ap (λ p. (event.Disk (which.Read c) false, seen.ReadFailed p) ∷ []) is, h.1)
failed_back c page ends H call _ waits h = absurd waits

-- the ends of reads, after one of this caller's and after another's
own_end :
    (c : Caller) (ok : Bool) (s : Seen) (ends : List (Event × Seen)) (H : List Row) (state : CallState) → is_read_end c (event.Disk (which.Read c) ok) s ≡ true
    → Reads c ((event.Disk (which.Read c) ok, s) ∷ ends) H state → Reads c (with_read_end c (event.Disk (which.Read c) ok) s ends) H state
own_end c ok s ends H state is h = let P : Bool → Type 0 = λ b. Reads c (cond b ((event.Disk (which.Read c) ok, s) ∷ ends) ends) H state in subst P (sym is) h

other_end :
    (c e : Caller) (ok : Bool) (s : Seen) (ends : List (Event × Seen)) (H : List Row) (state : CallState)
    → is_read_end c (event.Disk (which.Read e) ok) s ≡ false
    → Reads c ends H state → Reads c (with_read_end c (event.Disk (which.Read e) ok) s ends) H state
other_end c e ok s ends H state is h =
    let P : Bool → Type 0 = λ b. Reads c (cond b ((event.Disk (which.Read e) ok, s) ∷ ends) ends) H state in subst P (sym is) h

wrote_reads :
    (c : Caller) (d : Device) (p : Page) (copy : Option Copy) (ok : Bool) (ends : List (Event × Seen)) (H : List Row) → Reads c ends H (state_of d.calls c)
    → Reads c ends H (state_of (wrote_after d p copy ok).0.calls c)
wrote_reads c d p None ok ends H h = h
wrote_reads c d p (Some copy) true ends H h = h
wrote_reads c d p (Some copy) false ends H h = h

-- an operation that ended
flight_reads :
    (T : Bool) (c : Caller) (d : Device) (f : Flight) (ok : Bool) (bytes : List ℕ) (ends : List (Event × Seen)) (H : List Row)
    → IsExpected T (pages_of d.sizes) d.sizes.callers d.queue d.calls f → c.0 < length d.calls
    → Reads c ends H (state_of d.calls c)
    → let a : Device × DiskStep = took_after d (which_of f) (page_of f) ok bytes in
    Reads c (with_read_end c (event.Disk (which_of f) ok) (see_disk a.1) ends) H (state_of a.0.calls c)
flight_reads T c d (Write p kept) ok bytes ends H is within h = wrote_reads c d p (queue.flying d.queue p) ok ends H h
flight_reads T c d (Read e p) true bytes ends H is within h =
    by_caller
    (λ e.
    WaitsFor p (state_of d.calls e)
    → Reads c (with_read_end c (event.Disk (which.Read e) true) (seen.ReadCame p) ends) H
    (state_of (set d.calls e.0 (calls.arrives arrived.Came bytes (call_of d.calls e) (state_of d.calls e))) c))
    c e
    (λ waits.
    own_end c true (seen.ReadCame p) ends H _ (eq-eqb c.0 c.0 refl)
    (set_own (Reads c ((event.Disk (which.Read c) true, seen.ReadCame p) ∷ ends) H) d.calls c _ within
    (came_back c p ends H bytes (call_of d.calls c) (state_of d.calls c) waits h)))
    (λ ne waits. other_end c e true (seen.ReadCame p) ends H _ (not_eqb e.0 c.0 ne) (set_other (Reads c ends H) d.calls c e _ (λ same. ne (sym same)) h))
    is.2
flight_reads T c d (Read e p) false bytes ends H is within h =
    by_caller
    (λ e.
    WaitsFor p (state_of d.calls e)
    → Reads c (with_read_end c (event.Disk (which.Read e) false) (seen.ReadFailed p) ends) H
    (state_of (set d.calls e.0 (calls.arrives arrived.Failed [] (call_of d.calls e) (state_of d.calls e))) c))
    c e
    (λ waits.
    own_end c false (seen.ReadFailed p) ends H _ (eq-eqb c.0 c.0 refl)
    (set_own (Reads c ((event.Disk (which.Read c) false, seen.ReadFailed p) ∷ ends) H) d.calls c _ within
    (failed_back c p ends H (call_of d.calls c) (state_of d.calls c) waits h)))
    (λ ne waits. other_end c e false (seen.ReadFailed p) ends H _ (not_eqb e.0 c.0 ne) (set_other (Reads c ends H) d.calls c e _ (λ same. ne (sym same)) h))
    is.2

-- what the disk gave back
taken_reads :
    (T : Bool) (A : List ℕ → List ℕ → Type 0) (c : Caller) (d : Device) (p now : Port) (t : Taken) (ends : List (Event × Seen)) (H : List Row)
    → FitsDisk T A d p
    → Takes p (Some t) now → c.0 < length d.calls → Reads c ends H (state_of d.calls c)
    → let a : Device × DiskStep = took_back d (Some t) in
    Reads c (with_read_end c (event.Disk t.done.which t.done.ok) (see_disk a.1) ends) H (state_of a.0.calls c)
taken_reads T A c d p now t ends H k takes within h =
    let f : Flight = takes.flight in
    let is_which : t.done.which ≡ which_of f = ap (λ (x : DiskDone). x.which) takes.is in
    let is_page : t.done.page ≡ page_of f = ap (λ (x : DiskDone). x.page) takes.is in
    let there : IsExpected T (pages_of d.sizes) d.sizes.callers d.queue d.calls f =
    found (IsExpected T (pages_of d.sizes) d.sizes.callers d.queue d.calls) t.done.which p.flights f takes.was k.agrees.expected in
    let P : DiskWhich → Page → Type 0 =
    λ w r.
    Reads c (with_read_end c (event.Disk w t.done.ok) (see_disk (took_after d w r t.done.ok t.bytes).1) ends) H
    (state_of (took_after d w r t.done.ok t.bytes).0.calls c) in
    let here : P (which_of f) (page_of f) = flight_reads T c d f t.done.ok t.bytes ends H there within h in
    let paged : P (which_of f) t.done.page = subst (λ r. P (which_of f) r) (sym is_page) here in
    subst (λ w. P w t.done.page) (sym is_which) paged

-- a poll takes it, and its event is that of its end
wrote_polled :
    (c : Caller) (made : List (Input × Seen)) (d : Device) (p : Page) (copy : Option Copy) (ok : Bool) → ReadsIn c made d
    → ReadsIn c (with_polled (wrote_after d p copy ok).1 made) (wrote_after d p copy ok).0
wrote_polled c made d p None ok h = h
wrote_polled c made d p (Some copy) true h =
    reads_next c (record { event = event.Disk (which.Write p) true; page = [] }) (seen.Written copy.entry) made d
    (record d { queue = queue.done_after d.queue p })
    (inl (refl, refl)) h
wrote_polled c made d p (Some copy) false h = by_next (queue.next_copy d.queue p)
  where
    d' : Device
    d' = record d { queue = queue.failed_after d.queue p; failed_writes = d.failed_writes + 1 }

    by_next : (o : Option Copy) → ReadsIn c (with_polled (cond (is_none o) (DiskStep.Kept p copy.entry) (DiskStep.Dropped p copy.entry)) made) d'
    by_next None = reads_next c (record { event = event.Disk (which.Write p) false; page = [] }) (seen.WriteKept copy.entry) made d d' (inl (refl, refl)) h
    by_next (Some x) =
        reads_next c (record { event = event.Disk (which.Write p) false; page = [] }) (seen.WriteDropped copy.entry) made d d' (inl (refl, refl)) h

took_polled : (c : Caller) (made : List (Input × Seen)) (d : Device) (w : DiskWhich) (p : Page) (ok : Bool) (bytes : List ℕ) → ReadsIn c made d
    → let a : Device × DiskStep = took_after d w p ok bytes in
    Reads c (with_read_end c (event.Disk w ok) (see_disk a.1) (read_ends c (since_start c made))) (drop (entries_in (since_start c made)) d.history)
    (state_of a.0.calls c)
    → ReadsIn c (with_polled a.1 made) a.0
took_polled c made d (which.Write q) p ok bytes was h = wrote_polled c made d p (queue.flying d.queue p) ok was
took_polled c made d (which.Read e) p true bytes was h =
    reads_next c (record { event = event.Disk (which.Read e) true; page = [] }) (seen.ReadCame p) made d (took_after d (which.Read e) p true bytes).0
    (inl (refl, refl)) h
took_polled c made d (which.Read e) p false bytes was h =
    reads_next c (record { event = event.Disk (which.Read e) false; page = [] }) (seen.ReadFailed p) made d (took_after d (which.Read e) p false bytes).0
    (inl (refl, refl)) h

told_flight :
    (blocks : Option (List (List ℕ))) (finished : Option Finished) (f : Flight) (ok : Bool) (bytes : List ℕ) (bs : List (List ℕ)) (g : Finished)
    → blocks ≡ Some bs → finished ≡ Some g → TakesTold blocks finished f ok bytes
    → g ≡ record { flight = f; ok = ok }
told_flight None finished f ok bytes bs g eb ef told = cc
told_flight (Some blocks) finished f ok bytes bs g eb ef told = let both : Some g ≡ Some (record { flight = f; ok = ok }) = sym ef ∙ told.0 in cc

is_let_finish :
    (p mid now : Port) (w : DiskWhich) (ok : Bool) (t : Taken) (blocks : Option (List (List ℕ))) (finished : Option Finished) (flight : Option Flight)
    → find (is_flight_of w) p.flights ≡ flight
    → LetsFinish p blocks finished flight ok true mid → Takes mid (Some t) now → event.Disk w ok ≡ event.Disk t.done.which t.done.ok
is_let_finish p mid now w ok t None finished flight there lets takes = absurd (let no : true ≡ false = lets.0 in cc)
is_let_finish p mid now w ok t (Some blocks) (Some f) flight there lets takes = absurd (let no : true ≡ false = lets.0 in cc)
is_let_finish p mid now w ok t (Some blocks) None None there lets takes = absurd (let no : true ≡ false = lets.0 in cc)
is_let_finish p mid now w ok t (Some blocks) None (Some f) there lets takes =
    let same : record { flight = f; ok = ok } ≡ record { flight = takes.flight; ok = t.done.ok } =
    told_flight mid.blocks mid.finished takes.flight t.done.ok t.bytes _ _ (ap (λ (x : Port). x.blocks) lets.1.is)
    (ap (λ (x : Port). x.finished) lets.1.is) takes.told in
    let is_which : w ≡ t.done.which =
    found_is w p.flights f there ∙ ap (λ (x : Finished). which_of x.flight) same ∙ sym (ap (λ (x : DiskDone). x.which) takes.is) in
    let is_ok : ok ≡ t.done.ok = ap (λ (x : Finished). x.ok) same in ap (λ v. event.Disk v ok) is_which ∙ ap (λ b. event.Disk t.done.which b) is_ok

carries : (c : Caller) (d : Device) (ends : List (Event × Seen)) (H : List Row) → Carries d (λ b state. Reads c (cond b [] ends) (cond b d.history H) state)
carries c d ends H = record {
  idle = λ b. tt;
  newer = marks;
  room = λ p. tt;
  reading = λ p n v e. (refl, e);
  lost = loses;
  came = arrives;
}
  where
    marks :
        (b : Bool) (p : Page) (state : CallState) → Reads c (cond b [] ends) (cond b d.history H) state
        → Reads c (cond b [] ends) (cond b d.history H) (calls.newer_if_reads p state)
    marks b p Idle h = h
    marks b p (Room q since) h = h
    marks b p (Reading q n v how newer since) h = h

    loses :
        (b : Bool) (l : Lender) (state : CallState) → Reads c (cond b [] ends) (cond b d.history H) state
        → Reads c (cond b [] ends) (cond b d.history H) (calls.lost_if_through l state)
    loses b l Idle h = h
    loses b l (Room q since) h = h
    loses b l (Reading q n via.Disk how newer since) h = h
    loses b l (Reading q n (via.Lender m) arrived.Waiting newer since) h =
        chosen (λ (how : Arrived). CameBack c q (cond b [] ends) how × (last (cond b d.history H) q ≡ Some n)) (m.0 == l.0) _ _ (λ _. (tt, h.1)) (λ _. h)
    loses b l (Reading q n (via.Lender m) arrived.Came newer since) h = h
    loses b l (Reading q n (via.Lender m) arrived.Failed newer since) h = h
    loses b l (Reading q n (via.Lender m) arrived.Lost newer since) h = h

    arrives :
        (b : Bool) (bytes : List ℕ) (call : Call) (state : CallState) → Reads c (cond b [] ends) (cond b d.history H) call.state
        → Reads c (cond b [] ends) (cond b d.history H) state
        → Reads c (cond b [] ends) (cond b d.history H) (calls.arrives arrived.Came bytes call state).state
    arrives b bytes call Idle same h = same
    arrives b bytes call (Room q since) same h = same
    arrives b bytes call (Reading q n v arrived.Waiting newer since) same h = (tt, h.1)
    arrives b bytes call (Reading q n v arrived.Came newer since) same h = same
    arrives b bytes call (Reading q n v arrived.Failed newer since) same h = same
    arrives b bytes call (Reading q n v arrived.Lost newer since) same h = same

-- over any disk and any fabric
module _ {D F : Type 0} (disk : DiskMeaning D) (follows : FollowsItsMoves disk) (moves : F → (c : FabricCall) → FabricAnswer c → F → Type 0) where
  disk_reads :
      (T : Bool) (A : List ℕ → List ℕ → Type 0) (c : Caller) (d : Device) (k mid : D) (f : F) (w : DiskWhich) (ok done : Bool) (ends : List (Event × Seen))
      (H : List Row)
      → FitsDisk T A d (disk.means k) → c.0 < length d.calls → Reads c ends H (state_of d.calls c)
      → LetsFinish (disk.means k) (disk.means k).blocks (disk.means k).finished (find (is_flight_of w) (disk.means k).flights) ok done (disk.means mid)
      → Leads disk.moves moves (taken_if d done) mid f (λ a _ _. Reads c (with_read_end c (event.Disk w ok) a.1 ends) H (state_of a.0.calls c))
  disk_reads T A c d k mid f w ok true ends H fits within h lets = λ taken now moved. by_taken taken now (follows mid TakeDone taken now moved).1
    where
      by_taken : (taken : Option Taken) (now : D) → Takes (disk.means mid) taken (disk.means now) → let a : Device × DiskStep = took_back d taken in
          Reads c (with_read_end c (event.Disk w ok) (see_disk a.1) ends) H (state_of a.0.calls c)
      by_taken None now takes = no_end w
        where
          no_end : (w : DiskWhich) → Reads c (with_read_end c (event.Disk w ok) seen.Nothing ends) H (state_of d.calls c)
          no_end (which.Write p) = h
          no_end (which.Read e) = h
      by_taken (Some t) now takes =
          let a : Device × DiskStep = took_back d (Some t) in
          let mid_fits : FitsDisk T A d (disk.means mid) = lets_finish_fits T A d (disk.means k) (disk.means mid) w ok true fits lets in
          let is : event.Disk w ok ≡ event.Disk t.done.which t.done.ok =
          is_let_finish (disk.means k) (disk.means mid) (disk.means now) w ok t (disk.means k).blocks (disk.means k).finished
          (find (is_flight_of w) (disk.means k).flights) refl lets takes in
          let P : Event → Type 0 = λ e. Reads c (with_read_end c e (see_disk a.1) ends) H (state_of a.0.calls c) in
          subst P (sym is) (taken_reads T A c d (disk.means mid) (disk.means now) t ends H mid_fits takes within h)
  disk_reads T A c d k mid f w ok false ends H fits within h lets = no_end w
    where
      no_end : (w : DiskWhich) → Reads c (with_read_end c (event.Disk w ok) seen.Nothing ends) H (state_of d.calls c)
      no_end (which.Write p) = h
      no_end (which.Read e) = h

  pub polled_reads :
      (T : Bool) (A : List ℕ → List ℕ → Type 0) (c : Caller) (made : List (Input × Seen)) (d : Device) (k : D) (f : F) → FitsDisk T A d (disk.means k)
      → c.0 < length d.calls → ReadsIn c made d → Leads disk.moves moves (disk_take d) k f (λ a _ _. ReadsIn c (with_polled a.1 made) a.0)
  polled_reads T A c made d k f fits within h = λ taken now moved. by_taken taken now (follows k TakeDone taken now moved).1
    where
      by_taken : (taken : Option Taken) (now : D) → Takes (disk.means k) taken (disk.means now) → let a : Device × DiskStep = took_back d taken in
          ReadsIn c (with_polled a.1 made) a.0
      by_taken None now takes = h
      by_taken (Some t) now takes =
          took_polled c made d t.done.which t.done.page t.done.ok t.bytes h
          (taken_reads T A c d (disk.means k) (disk.means now) t (read_ends c (since_start c made))
          (drop (entries_in (since_start c made)) d.history) fits takes within h)

  -- any event
  module _ (T : Bool) (A : List ℕ → List ℕ → Type 0) (c : Caller) (d d' : Device) (k k' : D) (f f' : F) (s : Seen) (ends : List (Event × Seen)) (H : List Row)
      (fits : FitsDisk T A d (disk.means k)) (within : c.0 < length d.calls) (was : Reads c ends H (state_of d.calls c)) where
    comes_reads :
        (page : List ℕ) (e : Event) → ((w : DiskWhich) (ok : Bool) → e ≡ event.Disk w ok → ⊥) → Along disk.moves moves (happens d page e) k f k' f' (d', s)
        → Reads c (cond (is_start_of c e s) [] ends) (cond (is_start_of c e s) d.history H) (state_of d'.calls c)
    comes_reads page e other along =
        let comes : ComesTo d page e d' s =
        Leads-Along disk.moves moves (happens d page e) k f k' f' (d', s) _ (happens_comes disk.moves moves d k f page e) along in
        comes_carries (λ b state. Reads c (cond b [] ends) (cond b d.history H) state) (record d { rates = comes.0 }) c
        (carries c (record d { rates = comes.0 }) ends H) within was page e d' s (λ w ok taken is. absurd (other w ok is)) comes.2

    pub step_reads :
        (page : List ℕ) (e : Event) → Along disk.moves moves (happens d page e) k f k' f' (d', s) → ReadsAfter c ends H d.history e s (state_of d'.calls c)
    step_reads page (event.Disk w ok) along =
        Leads-Along disk.moves moves (taken_if d along.0) along.1 f k' f' (d', s)
        (λ a _ _. Reads c (with_read_end c (event.Disk w ok) a.1 ends) H (state_of a.0.calls c))
        (disk_reads T A c d k along.1 f w ok along.0 ends H fits within was (follows k (LetFinish w ok) along.0 along.1 along.2)) along.3
    step_reads page e along = comes_reads page e (λ w ok is. cc) along

pub reads_new : (s : Sizes) (n : ℕ) (c : Caller) → ReadsIn c [] (device_at_start s n)
reads_new s n c = let P : CallState → Type 0 = λ x. Reads c [] [] x in subst P (sym (ap (λ (x : Call). x.state) (idle_at s.callers c.0))) tt
