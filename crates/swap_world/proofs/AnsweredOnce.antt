-- Each caller's calls are answered once, in order, whatever disk and fabric do.
use Rattle.std.proofs.Common.{◌≡◌, ℕ, ◌<◌, Bool, true, false, cond, ◌&&◌, not, ◌==◌, List, [], ◌∷◌, set, length, refl, sym, ap, ◌∙◌, subst, get_or-set_same, get_or-set_other, Option, None, Some, get_or, replicate, zero, suc}
use Rattle.std.proofs.lemmas.Bool.{eq-eqb}
use Rattle.std.proofs.lemmas.List.{length-map}
use Rattle.swap_base.specs.declared.Page.{Page}
use Rattle.swap_base.specs.declared.Caller.{Caller}
use Rattle.swap_base.specs.declared.EntryNo.{EntryNo}
use Rattle.swap_base.specs.declared.Lender.{Lender}
use Rattle.swap_base.specs.declared.Via.{Via}
use Rattle.swap_base.specs.declared.DiskWhich.{DiskWhich}
use Rattle.swap_wire.specs.Input.{Input}
use Rattle.swap_wire.specs.declared.Event.{Event}
use Rattle.swap_wire.specs.declared.Seen.{Seen}
use Rattle.swap_record.specs.declared.Op.{Op}
use Rattle.swap_record.specs.History.{History, Row, with_row, row_of, entries_of}
use Rattle.swap_queue.specs.Queue.{Copy}
use Rattle.swap_disk.specs.Disk.{Taken}
use Rattle.swap_calls.specs.Calls.{Call, Calls, state_of, call_of, idle_call, is_idle}
use Rattle.swap_calls.specs.declared.Arrived.{Arrived}
use Rattle.swap_calls.specs.declared.CallState.{CallState}
use Rattle.swap_calls.specs.declared.CallState.TheVariants.{Idle, Room, Reading}
use Rattle.swap_table.specs.Device.{Device, device_at_start, enter_entry, give, fault, wait_for_room, lost_after, took_after, took_back, wrote_after}
use Rattle.swap_base.proofs.Lists.{by_caller, not_eqb}
use Rattle.swap_table.proofs.HistoryAgreement.{get_or-map_idle}
use Rattle.swap_world.specs.Answered.{is_call_of, is_busy, with_call, Answers, AnswersEach, IsInOrFault, IsOutOrFault, calls_of, AnswersAll, AreAnsweredOnce}
use Rattle.swap_table.specs.Moves.{full, unread}
use Rattle.swap_table.specs.Comes.{Linked, is_new, begins_out, goes_on_out, begins_in, goes_on_in, Comes, refuses, rests, accepts, gives_page, fails, keeps_page, reads, starts_write, takes_back, links, brings}
use Rattle.swap_table.proofs.EventsComeToTheirEnds.{linked_keep}
use Rattle.swap_base.specs.Sizes.{Sizes}
use Rattle.swap_base.specs.declared.Via.TheVariants as via
use Rattle.swap_base.specs.declared.DiskWhich.TheVariants as which
use Rattle.swap_wire.specs.declared.Event.TheVariants as event
use Rattle.swap_wire.specs.declared.Seen.TheVariants as seen
use Rattle.swap_record.specs.declared.Op.TheVariants as op
use Rattle.swap_queue.specs.Queue as queue
use Rattle.swap_calls.specs.Calls as calls
use Rattle.swap_calls.specs.declared.Arrived.TheVariants as arrived
use Rattle.swap_base.specs.declared.CallKind.TheVariants as kind

-- the event that a call answers, while the call is under way
abbrev pub OpensOut : Page → List ℕ → List ℕ → Event → Type 0
OpensOut p own page (event.PageOut c q) = (p ≡ q) × (own ≡ page)
OpensOut p own page _ = ⊥

abbrev pub OpensIn : Page → Event → Type 0
OpensIn p (event.PageIn c q) = p ≡ q
OpensIn p _ = ⊥

abbrev pub Open : CallState → List ℕ → List Input → List Row → Type 0
Open Idle own is rows = AnswersEach is rows
Open (Room p since) own [] rows = ⊥
Open (Room p since) own (i ∷ is) rows = OpensOut p own i.page i.event × AnswersEach is rows
Open (Reading p n v how newer since) own [] rows = ⊥
Open (Reading p n v how newer since) own (i ∷ is) rows = OpensIn p i.event × AnswersEach is rows

abbrev pub OpenCall : Call → List Input → List Row → Type 0
OpenCall call is rows = Open call.state call.bytes is rows

abbrev pub OpenAt : Caller → Device → List Input → Type 0
OpenAt c d is = OpenCall (call_of d.calls c) is (entries_of c d.history)

pub set-idle : (cs : Calls) (i : ℕ) → get_or (set cs i idle_call) i idle_call ≡ idle_call
set-idle [] i = refl
set-idle (x ∷ cs) zero = refl
set-idle (x ∷ cs) (suc i) = set-idle cs i

-- what a caller has, where its call and its entries are these
open_as : (call call' : Call) (is : List Input) (rows rows' : List Row) → call' ≡ call → rows' ≡ rows → OpenCall call is rows → OpenCall call' is rows'
open_as call call' is rows rows' ec er h =
    let P : Call → Type 0 = λ x. OpenCall x is rows in
    let Q : List Row → Type 0 = λ x. OpenCall call' is x in subst Q (sym er) (subst P (sym ec) h)

newer_open :
    (p : Page) (state : CallState) (own : List ℕ) (is : List Input) (rows : List Row) → Open state own is rows → Open (calls.newer_if_reads p state) own is rows
newer_open p Idle own is rows h = h
newer_open p (Room q since) own is rows h = h
newer_open p (Reading q n v how newer since) own [] rows h = h
newer_open p (Reading q n v how newer since) own (i ∷ is) rows h = h

entries-other : (c e : Caller) (H : History) (p : Page) (o : Op) (bytes : List ℕ) → (c.0 ≡ e.0 → ⊥) → entries_of c (with_row H e p o bytes) ≡ entries_of c H
entries-other c e H p o bytes ne = ap (λ b. cond b (row_of H e p o bytes ∷ entries_of c H) (entries_of c H)) (not_eqb e.0 c.0 (λ same. ne (sym same)))

entries-own : (c : Caller) (H : History) (p : Page) (o : Op) (bytes : List ℕ) → entries_of c (with_row H c p o bytes) ≡ row_of H c p o bytes ∷ entries_of c H
entries-own c H p o bytes = ap (λ b. cond b (row_of H c p o bytes ∷ entries_of c H) (entries_of c H)) (eq-eqb c.0 c.0 refl)

-- another caller's entry and call change nothing for this one
push_other :
    (c e : Caller) (H : History) (cs : Calls) (p : Page) (o : Op) (bytes : List ℕ) (is : List Input) → (c.0 ≡ e.0 → ⊥)
    → OpenCall (call_of cs c) is (entries_of c H) → OpenCall (call_of (calls.end_after cs e) c) is (entries_of c (with_row H e p o bytes))
push_other c e H cs p o bytes is ne h =
    open_as (call_of cs c) _ is (entries_of c H) _ (get_or-set_other cs e.0 c.0 idle_call idle_call ne) (entries-other c e H p o bytes ne) h

marked :
    (c : Caller) (H : History) (cs : Calls) (p : Page) (is : List Input) → OpenCall (call_of cs c) is (entries_of c H)
    → OpenCall (call_of (calls.paged_out cs p) c) is (entries_of c H)
marked c H cs p is h =
    open_as (record { state = calls.newer_if_reads p (call_of cs c).state; bytes = (call_of cs c).bytes }) _ is (entries_of c H) _
    (get_or-map_idle _ cs c.0 refl) refl (newer_open p (call_of cs c).state (call_of cs c).bytes is (entries_of c H) h)

-- the entry of one's own
push_own :
    (c : Caller) (H : History) (cs : Calls) (p : Page) (o : Op) (bytes : List ℕ) (i : Input) (is : List Input) → Answers i.page i.event (row_of H c p o bytes)
    → AnswersEach is (entries_of c H) → OpenCall (call_of (calls.end_after cs c) c) (i ∷ is) (entries_of c (with_row H c p o bytes))
push_own c H cs p o bytes i is answers rest =
    open_as idle_call _ (i ∷ is) (row_of H c p o bytes ∷ entries_of c H) _ (set-idle cs c.0) (entries-own c H p o bytes) (answers, rest)

call_other :
    (c e : Caller) (H : History) (cs : Calls) (call : Call) (is : List Input) → (c.0 ≡ e.0 → ⊥) → OpenCall (call_of cs c) is (entries_of c H)
    → OpenCall (call_of (set cs e.0 call) c) is (entries_of c H)
call_other c e H cs call is ne h = open_as (call_of cs c) _ is (entries_of c H) _ (get_or-set_other cs e.0 c.0 call idle_call ne) refl h

call_own :
    (c : Caller) (H : History) (cs : Calls) (call : Call) (is : List Input) → c.0 < length cs → OpenCall call is (entries_of c H)
    → OpenCall (call_of (set cs c.0 call) c) is (entries_of c H)
call_own c H cs call is within h = open_as call _ is (entries_of c H) _ (get_or-set_same cs c.0 call idle_call within) refl h

-- an answer to the call that was opened
opens_in : (p : Page) (i : Input) (row : Row) → OpensIn p i.event → row.entry.page ≡ p → IsInOrFault row.entry.op → Answers i.page i.event row
opens_in p i row h e o = go i.event h
  where
    go : (ev : Event) → OpensIn p ev → Answers i.page ev row
    go (event.PageIn c q) h = (e ∙ h, o)
    go _ h = absurd h

opens_out :
    (p : Page) (own : List ℕ) (i : Input) (row : Row) → OpensOut p own i.page i.event → row.entry.page ≡ p → IsOutOrFault row.entry.op → row.bytes ≡ own
    → Answers i.page i.event row
opens_out p own i row h e o b = go i.event h
  where
    go : (ev : Event) → OpensOut p own i.page ev → Answers i.page ev row
    go (event.PageOut c q) h = (e ∙ h.0, o, b ∙ h.1)
    go _ h = absurd h

arrives_open :
    (how : Arrived) (bytes : List ℕ) (call : Call) (state : CallState) (own : List ℕ) (is : List Input) (rows : List Row) → Open state own is rows
    → OpenCall call is rows → OpenCall (calls.arrives how bytes call state) is rows
arrives_open how bytes call Idle own is rows h same = same
arrives_open how bytes call (Room p since) own is rows h same = same
arrives_open how bytes call (Reading p n v arrived.Waiting newer since) own [] rows h same = absurd h
arrives_open how bytes call (Reading p n v arrived.Waiting newer since) own (i ∷ is) rows h same = h
arrives_open how bytes call (Reading p n v arrived.Came newer since) own is rows h same = same
arrives_open how bytes call (Reading p n v arrived.Failed newer since) own is rows h same = same
arrives_open how bytes call (Reading p n v arrived.Lost newer since) own is rows h same = same

-- a call that arrives, in range or not
arrived_open :
    (c e : Caller) (H : History) (cs : Calls) (how : Arrived) (bytes : List ℕ) (is : List Input) → c.0 < length cs → OpenCall (call_of cs c) is (entries_of c H)
    → OpenCall (call_of (set cs e.0 (calls.arrives how bytes (call_of cs e) (state_of cs e))) c) is (entries_of c H)
arrived_open c e H cs how bytes is within h =
    by_caller (λ e. OpenCall (call_of (set cs e.0 (calls.arrives how bytes (call_of cs e) (state_of cs e))) c) is (entries_of c H)) c e
    (call_own c H cs _ is within (arrives_open how bytes (call_of cs c) (state_of cs c) (call_of cs c).bytes is (entries_of c H) h h))
    (λ ne. call_other c e H cs _ is (λ same. ne (sym same)) h)

-- an event, and the caller's calls after it
idle_open : (state : CallState) (own : List ℕ) (is : List Input) (rows : List Row) → is_idle state ≡ true → Open state own is rows → AnswersEach is rows
idle_open Idle own is rows e h = h
idle_open (Room p since) own is rows e h = cc
idle_open (Reading p n v how newer since) own is rows e h = cc

enter_other : (c e : Caller) (d : Device) (p : Page) (bytes : List ℕ) (is : List Input) → (c.0 ≡ e.0 → ⊥) → OpenAt c d is
    → OpenAt c (enter_entry d e p bytes) is
enter_other c e d p bytes is ne h = push_other c e d.history (calls.paged_out d.calls p) p op.PageOut bytes is ne (marked c d.history d.calls p is h)

enter_own :
    (c : Caller) (d : Device) (p : Page) (bytes : List ℕ) (i : Input) (is : List Input) → OpensOut p bytes i.page i.event
    → AnswersEach is (entries_of c d.history) → OpenAt c (enter_entry d c p bytes) (i ∷ is)
enter_own c d p bytes i is o rest = push_own c d.history (calls.paged_out d.calls p) p op.PageOut bytes i is (opens_out p bytes i _ o refl tt refl) rest

-- a link is lost, and what a caller has stays open
lost_state :
    (l : Lender) (state : CallState) (own : List ℕ) (is : List Input) (rows : List Row) → Open state own is rows
    → Open (calls.lost_if_through l state) own is rows
lost_state l Idle own is rows h = h
lost_state l (Room p since) own is rows h = h
lost_state l (Reading p n via.Disk how newer since) own is rows h = h
lost_state l (Reading p n (via.Lender m) arrived.Waiting newer since) own [] rows h = h
lost_state l (Reading p n (via.Lender m) arrived.Waiting newer since) own (i ∷ is) rows h = h
lost_state l (Reading p n (via.Lender m) arrived.Came newer since) own is rows h = h
lost_state l (Reading p n (via.Lender m) arrived.Failed newer since) own is rows h = h
lost_state l (Reading p n (via.Lender m) arrived.Lost newer since) own is rows h = h

lost_open : (c : Caller) (d : Device) (l : Lender) (is : List Input) → OpenAt c d is → OpenAt c (lost_after d l) is
lost_open c d l is h =
    open_as (calls.with_state (calls.lost_if_through l) (call_of d.calls c)) _ is (entries_of c d.history) _
    (get_or-map_idle (calls.with_state (calls.lost_if_through l)) d.calls c.0 refl) refl
    (lost_state l (state_of d.calls c) (call_of d.calls c).bytes is (entries_of c d.history) h)

wrote_open : (c : Caller) (d : Device) (p : Page) (copy : Option Copy) (ok : Bool) (is : List Input) → OpenAt c d is → OpenAt c (wrote_after d p copy ok).0 is
wrote_open c d p None ok is h = h
wrote_open c d p (Some copy) true is h = h
wrote_open c d p (Some copy) false is h = h

took_open :
    (c : Caller) (d : Device) (w : DiskWhich) (p : Page) (ok : Bool) (bytes : List ℕ) (is : List Input) → c.0 < length d.calls → OpenAt c d is
    → OpenAt c (took_after d w p ok bytes).0 is
took_open c d (which.Write q) p ok bytes is within h = wrote_open c d p (queue.flying d.queue p) ok is h
took_open c d (which.Read e) p true bytes is within h = arrived_open c e d.history d.calls arrived.Came bytes is within h
took_open c d (which.Read e) p false bytes is within h = arrived_open c e d.history d.calls arrived.Failed [] is within h

pub took_back_open :
    (c : Caller) (d : Device) (taken : Option Taken) (is : List Input) → c.0 < length d.calls → OpenAt c d is → OpenAt c (took_back d taken).0 is
took_back_open c d None is within h = h
took_back_open c d (Some t) is within h = took_open c d t.done.which t.done.page t.done.ok t.bytes is within h

-- the calls after an event of this caller, and after one of another
listed_own :
    (c : Caller) (d : Device) (i : Input) (s : Seen) (is : List Input) → is_call_of c i.event ≡ true → is_busy s ≡ false → OpenAt c d (i ∷ is)
    → OpenAt c d (with_call c i s is)
listed_own c d i s is a b h =
    let e : (is_call_of c i.event && not (is_busy s)) ≡ true = ap (λ x. x && not (is_busy s)) a ∙ ap not b in
    let P : Bool → Type 0 = λ x. OpenAt c d (cond x (i ∷ is) is) in subst P (sym e) h

listed_other :
    (c : Caller) (d : Device) (i : Input) (s : Seen) (is : List Input) → is_call_of c i.event ≡ false → OpenAt c d is → OpenAt c d (with_call c i s is)
listed_other c d i s is a h =
    let e : (is_call_of c i.event && not (is_busy s)) ≡ false = ap (λ x. x && not (is_busy s)) a in
    let P : Bool → Type 0 = λ x. OpenAt c d (cond x (i ∷ is) is) in subst P (sym e) h

busy_same : (c : Caller) (d : Device) (i : Input) (is : List Input) → OpenAt c d is → OpenAt c d (with_call c i seen.Busy is)
busy_same c d i is h = go (is_call_of c i.event)
  where
    go : (b : Bool) → OpenAt c d (cond (b && false) (i ∷ is) is)
    go true = h
    go false = h

-- of the call that an event is a step of: it is open once the event is listed, where it wasn't answered before
module _ (c : Caller) (d : Device) (is : List Input) (within : c.0 < length d.calls) (h : OpenAt c d is) where
  used : (x y : Device) (js : List Input) → Linked x y → OpenAt c x js → OpenAt c y js
  used x y js linked k = linked_keep (λ z. OpenAt c z js) (λ z r made k. k) (λ z l k. lost_open c z l js k) x y linked k

  used_within : (x : Device) → Linked d x → c.0 < length x.calls
  used_within x linked =
      linked_keep (λ z. c.0 < length z.calls) (λ z r made k. k)
      (λ z l k. subst (λ n. c.0 < n) (sym (length-map z.calls (calls.with_state (calls.lost_if_through l)))) k) d x linked within

  used_entries : (x : Device) → Linked d x → entries_of c x.history ≡ entries_of c d.history
  used_entries x linked = linked_keep (λ z. entries_of c z.history ≡ entries_of c d.history) (λ z r made k. k) (λ z l k. k) d x linked refl

  rest_lists : (e : Event) (page : List ℕ) (s : Seen) → is_new e ≡ false → OpenAt c d (with_call c (record { event = e; page = page }) s is)
  rest_lists (event.PageOut a p) page s device_at_start = cc
  rest_lists (event.PageIn a p) page s device_at_start = cc
  rest_lists e page s device_at_start = h

  link_lists :
      (e : Event) (page : List ℕ) (s : Seen) (d' : Device) → is_new e ≡ false → OpenAt c d' is
      → OpenAt c d' (with_call c (record { event = e; page = page }) s is)
  link_lists (event.PageOut a p) page s d' device_at_start k = cc
  link_lists (event.PageIn a p) page s d' device_at_start k = cc
  link_lists e page s d' device_at_start k = k

  -- a call that begins, its caller's or another's
  begins_by :
      (a : Caller) (i : Input) (s : Seen) (d' : Caller → Device) → ((x : Caller) → is_call_of x i.event ≡ (a.0 == x.0)) → is_busy s ≡ false
      → (c.0 ≡ a.0 → OpenAt c (d' c) (i ∷ is)) → ((c.0 ≡ a.0 → ⊥) → OpenAt c (d' a) is) → OpenAt c (d' a) (with_call c i s is)
  begins_by a i s d' of busy_ own other =
      by_caller_of
      (λ same.
      subst (λ n. OpenAt c (d' (record { 0 = n })) (with_call c i s is)) same
      (listed_own c (d' c) i s is (of c ∙ eq-eqb a.0 c.0 (sym same)) busy_ (own same)))
      (λ ne. listed_other c (d' a) i s is (of c ∙ not_eqb a.0 c.0 (λ e. ne (sym e))) (other ne))
    where
      by_caller_of : {T : Type 0} → (c.0 ≡ a.0 → T) → ((c.0 ≡ a.0 → ⊥) → T) → T
      by_caller_of {T} same other = by_caller (λ x. (c.0 ≡ x.0 → T) → ((c.0 ≡ x.0 → ⊥) → T) → T) c a (λ f g. f refl) (λ ne f g. g (λ e. ne (sym e))) same other

  -- a call that goes on: what it opened with
  room_opens :
      (a : Caller) (p : Page) (since : ℕ) → c.0 ≡ a.0 → state_of d.calls a ≡ Room p since
      → Open (Room p since) (call_of d.calls a).bytes is (entries_of c d.history)
  room_opens a p since same at =
      let P : CallState → Type 0 = λ x. Open x (call_of d.calls a).bytes is (entries_of c d.history) in
      subst P at (subst (λ n. OpenCall (call_of d.calls (record { 0 = n })) is (entries_of c d.history)) same h)

  read_opens :
      (a : Caller) (p : Page) (n : EntryNo) (v : Via) (how : Arrived) (newer : Bool) (since : ℕ) → c.0 ≡ a.0
      → state_of d.calls a ≡ Reading p n v how newer since
      → Open (Reading p n v how newer since) (call_of d.calls a).bytes is (entries_of c d.history)
  read_opens a p n v how newer since same at =
      let P : CallState → Type 0 = λ x. Open x (call_of d.calls a).bytes is (entries_of c d.history) in
      subst P at (subst (λ m. OpenCall (call_of d.calls (record { 0 = m })) is (entries_of c d.history)) same h)

  idle_answers : (a : Caller) → c.0 ≡ a.0 → is_idle (state_of d.calls a) ≡ true → AnswersEach is (entries_of c d.history)
  idle_answers a same at = idle_open (state_of d.calls c) _ is _ (subst (λ n. is_idle (state_of d.calls (record { 0 = n })) ≡ true) (sym same) at) h

  goes_by : (a : Caller) (d' : Caller → Device) → (c.0 ≡ a.0 → OpenAt c (d' c) is) → ((c.0 ≡ a.0 → ⊥) → OpenAt c (d' a) is) → OpenAt c (d' a) is
  goes_by a d' own other =
      by_caller (λ x. (c.0 ≡ x.0 → OpenAt c (d' c) is) → ((c.0 ≡ x.0 → ⊥) → OpenAt c (d' x) is) → OpenAt c (d' x) is) c a (λ f g. f refl)
      (λ ne f g. g (λ e. ne (sym e))) own other

  gave_other :
      (a : Caller) (p : Page) (o : Op) (bytes : List ℕ) → (c.0 ≡ a.0 → ⊥)
      → OpenCall (call_of (calls.end_after d.calls a) c) is (entries_of c (with_row d.history a p o bytes))
  gave_other a p o bytes ne = push_other c a d.history d.calls p o bytes is ne h

-- an entry, or a wait, of a call that goes on
enter_room :
    (c : Caller) (d : Device) (p : Page) (since : ℕ) (own : List ℕ) (is : List Input) → Open (Room p since) own is (entries_of c d.history)
    → OpenAt c (enter_entry d c p own) is
enter_room c d p since own [] k = absurd k
enter_room c d p since own (i ∷ is) k = enter_own c d p own i is k.0 k.1

push_room :
    (c : Caller) (d : Device) (p : Page) (since at : ℕ) (own : List ℕ) (is : List Input) → Open (Room p since) own is (entries_of c d.history)
    → OpenAt c (fault d c p kind.PageOut since at own) is
push_room c d p since at own [] k = absurd k
push_room c d p since at own (i ∷ is) k = push_own c d.history d.calls p _ own i is (opens_out p own i _ k.0 refl tt refl) k.1

push_read :
    (c : Caller) (d : Device) (p : Page) (n : EntryNo) (v : Via) (how : Arrived) (newer : Bool) (since : ℕ) (own bytes : List ℕ) (o : Op) (is : List Input)
    → IsInOrFault o → Open (Reading p n v how newer since) own is (entries_of c d.history)
    → OpenCall (call_of (calls.end_after d.calls c) c) is (entries_of c (with_row d.history c p o bytes))
push_read c d p n v how newer since own bytes o [] is_in k = absurd k
push_read c d p n v how newer since own bytes o (i ∷ is) is_in k = push_own c d.history d.calls p o bytes i is (opens_in p i _ k.0 refl is_in) k.1

read_read :
    (c : Caller) (H : History) (cs : Calls) (p : Page) (n m : EntryNo) (v w : Via) (how : Arrived) (newer : Bool) (since at : ℕ) (own : List ℕ)
    (is : List Input)
    → c.0 < length cs → Open (Reading p n v how newer since) own is (entries_of c H) → OpenCall (call_of (calls.reads cs c p m w at) c) is (entries_of c H)
read_read c H cs p n m v w how newer since at own [] within k = absurd k
read_read c H cs p n m v w how newer since at own (i ∷ is) within k = call_own c H cs _ (i ∷ is) within k

module _ (c : Caller) (d : Device) (is : List Input) (within : c.0 < length d.calls) (h : OpenAt c d is) where
  -- an event, and the caller's calls after it
  pub comes_once :
      (page : List ℕ) (e : Event) (d' : Device) (s : Seen) → Comes d page e d' s → OpenAt c d' (with_call c (record { event = e; page = page }) s is)
  comes_once page e d' s (refuses device_at_start) = busy_same c d (record { event = e; page = page }) is h
  comes_once page e d' s (rests device_at_start rest) = rest_lists c d is within h e page s device_at_start
  comes_once page e d' s (accepts {c = a} {p = p} (begins_out at) linked) =
      let i : Input = record { event = event.PageOut a p; page = page } in
      used c d is within h (enter_entry d a p page) d' (with_call c i s is) linked
      (begins_by c d is within h a i s (λ x. enter_entry d x p page) (λ x. refl) refl
      (λ same. enter_own c d p page i is (refl, refl) (idle_answers c d is within h a same at)) (λ ne. enter_other c a d p page is ne h))
  comes_once page e d' s (accepts {c = a} {p = p} (goes_on_out {since = since} at) linked) =
      used c d is within h (enter_entry d a p (call_of d.calls a).bytes) d' is linked
      (goes_by c d is within h a (λ x. enter_entry d x p (call_of d.calls a).bytes)
      (λ same. enter_room c d p since _ is (room_opens c d is within h a p since same at)) (λ ne. enter_other c a d p _ is ne h))
  comes_once page e d' s (gives_page {c = a} {p = p} {named = named} {from = from} {bytes = bytes} (begins_in at)) =
      let i : Input = record { event = event.PageIn a p; page = page } in
      begins_by c d is within h a i s (λ x. give d x p named from bytes) (λ x. refl) refl
      (λ same.
      push_own c d.history d.calls p (op.PageIn named from) bytes i is (opens_in p i (row_of d.history c p (op.PageIn named from) bytes) refl refl tt)
      (idle_answers c d is within h a same at))
      (λ ne. gave_other c d is within h a p _ bytes ne)
  comes_once page e d' s
      (gives_page {c = a} {p = p} {named = named} {from = from} {bytes = bytes} (goes_on_in {n = n} {v = v} {how = how} {newer = newer} {since = since} at)) =
      goes_by c d is within h a (λ x. give d x p named from bytes)
      (λ same.
      push_read c d p n v how newer since (call_of d.calls a).bytes bytes (op.PageIn named from) is tt
      (read_opens c d is within h a p n v how newer since same at))
      (λ ne. gave_other c d is within h a p _ bytes ne)
  comes_once page e d' s (fails {c = a} {p = p} {k = k} {since = since} {at = now} {bytes = bytes} (full at less)) =
      goes_by c d is within h a (λ x. fault d x p kind.PageOut since d.failed_writes (call_of d.calls a).bytes)
      (λ same. push_room c d p since d.failed_writes _ is (room_opens c d is within h a p since same at)) (λ ne. gave_other c d is within h a p _ _ ne)
  comes_once page e d' s (fails {c = a} {p = p} {since = since} {bytes = bytes} (unread {n = n} {v = v} at)) =
      goes_by c d is within h a (λ x. fault d x p kind.PageIn since d.failed_reads bytes)
      (λ same.
      push_read c d p n v arrived.Failed false since (call_of d.calls a).bytes bytes (op.Failed kind.PageIn since d.failed_reads) is tt
      (read_opens c d is within h a p n v arrived.Failed false since same at))
      (λ ne. gave_other c d is within h a p _ _ ne)
  comes_once page e d' s (keeps_page {c = a} {p = p} at) =
      let i : Input = record { event = event.PageOut a p; page = page } in
      begins_by c d is within h a i s (λ x. wait_for_room d x p page) (λ x. refl) refl
      (λ same. call_own c d.history d.calls _ (i ∷ is) within ((refl, refl), idle_answers c d is within h a same at))
      (λ ne. call_other c a d.history d.calls _ is ne h)
  comes_once page e d' s (reads {c = a} {p = p} {n = n} {d' = x} v (begins_in at) newest linked) =
      let i : Input = record { event = event.PageIn a p; page = page } in
      begins_by c d is within h a i s (λ y. record x { calls = calls.reads x.calls y p n v x.failed_reads }) (λ y. refl) refl
      (λ same.
      call_own c x.history x.calls _ (i ∷ is) (used_within c d is within h x linked)
      (refl, subst (λ rows. AnswersEach is rows) (sym (used_entries c d is within h x linked)) (idle_answers c d is within h a same at)))
      (λ ne. call_other c a x.history x.calls _ is ne (used c d is within h d x is linked h))
  comes_once page e d' s (reads {c = a} {p = p} {n = n} {d' = x} v (goes_on_in {n = m} {v = w} {how = how} {newer = newer} {since = since} at) newest linked) =
      goes_by c d is within h a (λ y. record x { calls = calls.reads x.calls y p n v x.failed_reads })
      (λ same.
      read_read c x.history x.calls p m n w v how newer since x.failed_reads (call_of d.calls a).bytes is (used_within c d is within h x linked)
      (subst (λ rows. Open (Reading p m w how newer since) (call_of d.calls a).bytes is rows) (sym (used_entries c d is within h x linked))
      (read_opens c d is within h a p m w how newer since same at)))
      (λ ne. call_other c a x.history x.calls _ is ne (used c d is within h d x is linked h))
  comes_once page e d' s starts_write = h
  comes_once page e d' s (takes_back taken) = took_back_open c d taken is within h
  comes_once page e d' s (links device_at_start of_link linked) = link_lists c d is within h e page s d' device_at_start (used c d is within h d d' is linked h)
  comes_once page e d' s (brings a bytes r linked) =
      used c d is within h (record d { remote = r; calls = calls.came_after d.calls a bytes }) d' is linked
      (arrived_open c a d.history d.calls arrived.Came bytes is within h)

pub answers_all : (state : CallState) (own : List ℕ) (is : List Input) (rows : List Row) → Open state own is rows → AnswersAll (is_idle state) is rows
answers_all Idle own is rows h = h
answers_all (Room p since) own [] rows h = h
answers_all (Room p since) own (i ∷ is) rows h = h.1
answers_all (Reading p n v how newer since) own [] rows h = h
answers_all (Reading p n v how newer since) own (i ∷ is) rows h = h.1

pub idle_at : (n i : ℕ) → get_or (replicate n idle_call) i idle_call ≡ idle_call
idle_at zero i = refl
idle_at (suc n) zero = refl
idle_at (suc n) (suc i) = idle_at n i

pub starts_once : (s : Sizes) (n : ℕ) (c : Caller) → OpenAt c (device_at_start s n) []
starts_once s n c = open_as idle_call _ [] [] _ (idle_at s.callers c.0) refl tt

-- what is open says that each call was answered once
pub answered_once : (c : Caller) (d : Device) (made : List (Input × Seen)) → OpenAt c d (calls_of c made) → AreAnsweredOnce c made d
answered_once c d made h = answers_all (state_of d.calls c) (call_of d.calls c).bytes (calls_of c made) (entries_of c d.history) h
