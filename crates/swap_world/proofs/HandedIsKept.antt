-- What take handed over for a caller's last started read is what its call keeps once it came.
use Rattle.std.proofs.Common.{zero, suc, ◌+◌, length, ◌≡◌, ℕ, ◌⊎◌, Bool, true, false, cond, ◌&&◌, ◌==◌, nat_lt, List, [], ◌∷◌, refl, sym, ap, ◌∙◌, subst, inl, inr, Option, None, Some}
use Rattle.std.proofs.lemmas.Bool.{eq-eqb, and_from, eqb-true}
use Rattle.swap_base.specs.declared.Page.{Page}
use Rattle.swap_base.specs.declared.Slab.{Slab}
use Rattle.swap_base.specs.declared.Caller.{Caller}
use Rattle.swap_base.specs.declared.Lender.{Lender}
use Rattle.swap_base.specs.declared.Lease.{Lease}
use Rattle.swap_base.specs.declared.EntryNo.{EntryNo}
use Rattle.swap_base.specs.declared.DiskWhich.{DiskWhich}
use Rattle.swap_base.specs.declared.DiskWhich.TheVariants as which
use Rattle.swap_base.specs.declared.Via.{Via}
use Rattle.swap_base.specs.declared.Via.TheVariants as via
use Rattle.swap_record.specs.History.{last, next_name}
use Rattle.swap_queue.specs.Queue.{Copy, first_of}
use Rattle.swap_queue.specs.Queue as queue
use Rattle.swap_disk.specs.Disk.{Taken}
use Rattle.swap_disk.specs.Port.{DiskCall, DiskAnswer, StartWrite, StartRead, TakeDone, LetFinish}
use Rattle.swap_wire.specs.declared.Event.{Event}
use Rattle.swap_wire.specs.declared.Event.TheVariants as event
use Rattle.swap_wire.specs.declared.Seen.{Seen}
use Rattle.swap_wire.specs.declared.fabric.Sent.TheVariants as sent
use Rattle.swap_wire.specs.declared.Msg.TheVariants as msg
use Rattle.swap_wire.specs.Fabric.{Parcel, Handed, Brought, NothingCame, LinkLost, FabricCall, FabricAnswer, Connect, Send, Take, End, Give, Cut, Crash, Host, is_page}
use Rattle.swap_calls.specs.Calls as calls
use Rattle.swap_calls.specs.Calls.{Call, Calls, state_of, call_of, is_waiting, is_idle, idle_call}
use Rattle.swap_calls.specs.declared.Arrived.TheVariants as arrived
use Rattle.swap_calls.specs.declared.CallState.{CallState}
use Rattle.swap_calls.specs.declared.CallState.TheVariants.{Idle, Room, Reading}
use Rattle.swap_rings.specs.Rings.{is_up, ring_of, oldest}
use Rattle.swap_rings.specs.declared.Request.{Request}
use Rattle.swap_rings.specs.declared.Request.TheVariants as request
use Rattle.swap_remote.specs.Remote as remote
use Rattle.swap_table.specs.Goes.{OfDisk}
use Rattle.swap_base.specs.declared.Link.{Link}
use Rattle.swap_table.specs.declared.OutStep.{OutStep}
use Rattle.swap_table.specs.declared.Step.{Step}
use Rattle.swap_table.specs.declared.DiskStep.{DiskStep}
use Rattle.swap_table.specs.declared.TheConstants.{MOST_LINKS}
use Rattle.swap_table.specs.declared.LinkStep.TheVariants as link
use Rattle.swap_table.specs.Ports.{Prog, Ret, AskDisk, AskFabric, answering, and_then, Along}
use Rattle.std.proofs.Math.Bool.{and-false}
use Rattle.swap_slabs.specs.Slabs as slabs
use Rattle.swap_slabs.specs.declared.Reply.TheVariants as reply
use Rattle.swap_base.specs.declared.TheConstants.{MOST_LENDERS}
use Rattle.swap_choice.specs.declared.lenders.Asked.{Asked as Picked}
use Rattle.swap_choice.specs.declared.lenders.Asked.TheVariants as picked
use Rattle.swap_table.specs.Device as device
use Rattle.swap_table.specs.Device.{Device, Heard, enter_entry, lost_after, wrote_after, took_after, took_back, heard_parcel, understand, took_from, chosen_for, choose, give_up, lose_with, lose, say_after, follow, query}
use Rattle.swap_table.specs.Moves.{within_any, Move, Hears, roomy, lent, refused, written, brought, asked_rate, told_to_go}
use Rattle.swap_table.specs.Happens.{happens, seen_by, taken_if, see_take}
use Rattle.swap_table.specs.Comes.{Linked, Comes, ComesTo, refuses, rests, accepts, gives_page, fails, keeps_page, reads, starts_write, takes_back, links, brings, begins_in, goes_on_in}
use Rattle.swap_table.proofs.EventsComeToTheirEnds.{linked_keep, happens_comes}
use Rattle.swap_table.proofs.Programs.{Leads-Along, Leads-answering, Leads-implies}
use Rattle.swap_table.proofs.MovesKeepInvariants.{Goes-leads}
use Rattle.swap_table.proofs.LossesGoByMoves.{lose_passes, follow_passes}
use Rattle.swap_table.proofs.EventsGoByMoves.{heard_is, heard_word, heard_choice}
use Rattle.swap_table.proofs.PromisesKept.{room_is, lent_is, refused_is, wrote_is, page_is, rate_is, back_is}
use Rattle.swap_table.proofs.LinkTables.{first_of-none}
use Rattle.swap_base.proofs.Lists.{by_caller, not_eqb, chosen}
use Rattle.swap_table.proofs.HistoryAgreement.{get_or-map_idle}
use Rattle.swap_table.proofs.RowsStay.{set_either}
use Rattle.swap_world.specs.Failures.{is_start_of, is_of}
use Rattle.swap_world.specs.Since.{is_read_back, from_disk, is_of_caller, from_link, by_disk_call, by_fabric_call, handed_in, asked_along, last_handed}
use Rattle.swap_world.specs.Runs.{IsRun, begin, effect, without, polled}
use Rattle.swap_wire.specs.Input.{Input}
use Rattle.swap_world.proofs.FinishesAddTheirEntry.{IsCame}
use Rattle.swap_world.proofs.CallsStayKnown.{busy_starts, done_starts, rest_starts, link_starts}

-- a call that keeps what came keeps these bytes
abbrev pub Holds : Option (List ℕ) → Call → Type 0
Holds h call = IsCame call.state → h ≡ Some call.bytes

abbrev pub HoldsOf : Option (List ℕ) → Caller → Calls → Type 0
HoldsOf h c cs = Holds h (call_of cs c)

came_newer : (p : Page) (state : CallState) → IsCame (calls.newer_if_reads p state) → IsCame state
came_newer p Idle is = is
came_newer p (Room q since) is = is
came_newer p (Reading q n v arrived.Came newer since) is = tt
came_newer p (Reading q n v arrived.Waiting newer since) is = absurd is
came_newer p (Reading q n v arrived.Failed newer since) is = absurd is
came_newer p (Reading q n v arrived.Lost newer since) is = absurd is

came_lost : (l : Lender) (state : CallState) → IsCame (calls.lost_if_through l state) → IsCame state
came_lost l Idle is = is
came_lost l (Room q since) is = is
came_lost l (Reading q n via.Disk arrived.Came newer since) is = tt
came_lost l (Reading q n via.Disk arrived.Waiting newer since) is = absurd is
came_lost l (Reading q n via.Disk arrived.Failed newer since) is = absurd is
came_lost l (Reading q n via.Disk arrived.Lost newer since) is = absurd is
came_lost l (Reading q n (via.Lender m) arrived.Came newer since) is = tt
came_lost l (Reading q n (via.Lender m) arrived.Failed newer since) is = absurd is
came_lost l (Reading q n (via.Lender m) arrived.Lost newer since) is = absurd is
came_lost l (Reading q n (via.Lender m) arrived.Waiting newer since) is = go (m.0 == l.0) is
  where
    go : (b : Bool) → IsCame (Reading q n (via.Lender m) (cond b arrived.Lost arrived.Waiting) newer since) → ⊥
    go true is = is
    go false is = is

module _ (h : Option (List ℕ)) (c : Caller) where
  -- what changes calls without handing over
  one_call : (cs : Calls) (a : Caller) (call : Call) → (IsCame call.state → ⊥) → HoldsOf h c cs → HoldsOf h c (calls.with_call cs a call)
  one_call cs a call none was = set_either (Holds h) cs a.0 c.0 call idle_call (λ is. absurd is) (λ other. was) (λ same is. absurd (none is))

  entered : (d : Device) (a : Caller) (p : Page) (bytes : List ℕ) → HoldsOf h c d.calls → HoldsOf h c (enter_entry d a p bytes).calls
  entered d a p bytes was =
      one_call (calls.paged_out d.calls p) a idle_call (λ is. is)
      (subst (Holds h) (sym (get_or-map_idle (λ (x : Call). record { state = calls.newer_if_reads p x.state; bytes = x.bytes }) d.calls c.0 refl))
      (λ is. was (came_newer p (state_of d.calls c) is)))

  let_go : (cs : Calls) (l : Lender) → HoldsOf h c cs → HoldsOf h c (calls.lost_after cs l)
  let_go cs l was =
      subst (Holds h) (sym (get_or-map_idle (calls.with_state (calls.lost_if_through l)) cs c.0 refl)) (λ is. was (came_lost l (state_of cs c) is))

  linked : (x y : Device) → Linked x y → HoldsOf h c x.calls → HoldsOf h c y.calls
  linked x y used was = linked_keep (λ z. HoldsOf h c z.calls) (λ z r made k. k) (λ z l k. let_go z.calls l k) x y used was

  -- an event that takes nothing
  pub event_holds :
      (d d' : Device) (page : List ℕ) (e : Event) (s : Seen) → ((w : DiskWhich) (ok : Bool) → e ≡ event.Disk w ok → ⊥) → ((l : Lender) → e ≡ event.Take l → ⊥)
      → HoldsOf h c d.calls → Comes d page e d' s → HoldsOf h c d'.calls
  event_holds d d' page e s disk_not take_not was (refuses new) = was
  event_holds d d' page e s disk_not take_not was (rests new rest) = was
  event_holds d d' page e s disk_not take_not was (accepts {c = a} {p = p} {bytes = bytes} step used) =
      linked (enter_entry d a p bytes) d' used (entered d a p bytes was)
  event_holds d d' page e s disk_not take_not was (gives_page {c = a} step) = one_call d.calls a idle_call (λ is. is) was
  event_holds d d' page e s disk_not take_not was (fails {c = a} why) = one_call d.calls a idle_call (λ is. is) was
  event_holds d d' page e s disk_not take_not was (keeps_page {c = a} is) = one_call d.calls a _ (λ is. is) was
  event_holds d d' page e s disk_not take_not was (reads {c = a} {d' = x} v step newest used) = one_call x.calls a _ (λ is. is) (linked d x used was)
  event_holds d d' page e s disk_not take_not was starts_write = was
  event_holds d d' page e s disk_not take_not was (takes_back {w = w} {ok = ok} taken) = absurd (disk_not w ok refl)
  event_holds d d' page e s disk_not take_not was (links new of_link used) = linked d d' used was
  event_holds d d' page e s disk_not take_not was (brings {l = l} a bytes r used) = absurd (take_not l refl)

-- a call that was just started waits, and is not newer
starts_here : (a c : Caller) (b : Bool) → ((a.0 == c.0) && b) ≡ true → a.0 ≡ c.0
starts_here a c b is = eqb-true a.0 c.0 (first (a.0 == c.0) b is)
  where
    first : (x y : Bool) → (x && y) ≡ true → x ≡ true
    first true y is = refl
    first false y is = cc

not_by : (x y : Bool) → y ≡ false → (x && y) ≡ true → ⊥
not_by true false e is = cc
not_by false false e is = cc
not_by true true e is = cc
not_by false true e is = cc

module _ (N : CallState → Type 0) (idle_not : N Idle → ⊥) (room_not : (p : Page) (since : ℕ) → N (Room p since) → ⊥)
    (waits_not : (p : Page) (n : EntryNo) (v : Via) (since : ℕ) → N (Reading p n v arrived.Waiting false since) → ⊥) where
  set_fresh : (cs : Calls) (a c : Caller) (call : Call) → a.0 ≡ c.0 → (N call.state → ⊥) → N (state_of (calls.with_call cs a call) c) → ⊥
  set_fresh cs a c call same none = set_either (λ (x : Call). N x.state → ⊥) cs a.0 c.0 call idle_call idle_not (λ other. absurd (other (sym same))) (λ _. none)

  pub start_is_fresh :
      (d d' : Device) (page : List ℕ) (e : Event) (s : Seen) (c : Caller) → Comes d page e d' s → is_start_of c e s ≡ true → N (state_of d'.calls c) → ⊥
  start_is_fresh d d' page e s c (refuses new) starts = absurd (not_by (is_of c e) _ (busy_starts e) starts)
  start_is_fresh d d' page e s c (rests new rest) starts = absurd (not_by (is_of c e) _ (rest_starts e s new rest) starts)
  start_is_fresh d d' page e s c (accepts {to = to} step used) starts = absurd (not_by (is_of c e) _ (done_starts e _ to) starts)
  start_is_fresh d d' page e s c (gives_page step) starts = absurd (not_by (is_of c e) _ (done_starts e _ None) starts)
  start_is_fresh d d' page e s c (fails {c = a} why) starts = absurd (not_by (a.0 == c.0) false refl starts)
  start_is_fresh d d' page e s c (keeps_page {c = a} {p = p} is) starts = set_fresh d.calls a c _ (starts_here a c true starts) (room_not p d.failed_writes)
  start_is_fresh d d' page e s c (reads {c = a} {p = p} {n = n} {d' = x} v (begins_in is) newest used) starts =
      set_fresh x.calls a c _ (starts_here a c true starts) (waits_not p n v x.failed_reads)
  start_is_fresh d d' page e s c (reads {c = a} {p = p} {n = n} {d' = x} v (goes_on_in is) newest used) starts =
      set_fresh x.calls a c _ (starts_here a c true starts) (waits_not p n v x.failed_reads)
  start_is_fresh d d' page e s c starts_write starts = absurd (let no : false ≡ true = starts in cc)
  start_is_fresh d d' page e s c (takes_back taken) starts = absurd (let no : false ≡ true = starts in cc)
  start_is_fresh d d' page e s c (links new of_link used) starts = absurd (not_by (is_of c e) _ (link_starts e s new of_link) starts)
  start_is_fresh d d' page e s c (brings a bytes r used) starts = absurd (let no : false ≡ true = starts in cc)

-- what is handed over, or what was
abbrev pub over : Bool → Option (List ℕ) → Option (List ℕ) → Option (List ℕ)
over waits o h = first_of (cond waits o None) h

over_none : (waits : Bool) (h : Option (List ℕ)) → over waits None h ≡ h
over_none true h = refl
over_none false h = refl

nothing_over : (waits : Bool) (h : Option (List ℕ)) (call : Call) → Holds h call → Holds (over waits None h) call
nothing_over waits h call was is = over_none waits h ∙ was is

-- a read that comes back to a caller
arrived_here : (h : Option (List ℕ)) (bytes : List ℕ) (call : Call) (state : CallState) → (IsCame call.state → h ≡ Some call.bytes)
    → (is_waiting state ≡ false → state ≡ call.state) → let after : Call = calls.arrives arrived.Came bytes call state in
    Holds (over (is_waiting state) (Some bytes) h) after
arrived_here h bytes call Idle was same is = was is
arrived_here h bytes call (Room p since) was same is = was is
arrived_here h bytes call (Reading p n v arrived.Waiting newer since) was same is = refl
arrived_here h bytes call (Reading p n v arrived.Came newer since) was same is = was is
arrived_here h bytes call (Reading p n v arrived.Failed newer since) was same is = was is
arrived_here h bytes call (Reading p n v arrived.Lost newer since) was same is = was is

failed_here : (h : Option (List ℕ)) (call : Call) (state : CallState) → Holds h call → let after : Call = calls.arrives arrived.Failed [] call state in
    Holds h after
failed_here h call Idle was = was
failed_here h call (Room p since) was = was
failed_here h call (Reading p n v arrived.Waiting newer since) was = λ is. absurd is
failed_here h call (Reading p n v arrived.Came newer since) was = was
failed_here h call (Reading p n v arrived.Failed newer since) was = was
failed_here h call (Reading p n v arrived.Lost newer since) was = was

came_to :
    (h : Option (List ℕ)) (cs : Calls) (c a : Caller) (bytes : List ℕ) (o : Option (List ℕ)) → ((a.0 ≡ c.0) → o ≡ Some bytes) → ((a.0 ≡ c.0 → ⊥) → o ≡ None)
    → HoldsOf h c cs → HoldsOf (over (is_waiting (state_of cs c)) o h) c (calls.came_after cs a bytes)
came_to h cs c a bytes o own other was =
    by_caller
    (λ a. ((a.0 ≡ c.0) → o ≡ Some bytes) → ((a.0 ≡ c.0 → ⊥) → o ≡ None) → HoldsOf (over (is_waiting (state_of cs c)) o h) c (calls.came_after cs a bytes)) c a
    (λ own other.
    let P : Option (List ℕ) → Type 0 = λ x. HoldsOf (over (is_waiting (state_of cs c)) x h) c (calls.came_after cs c bytes) in
    subst P (sym (own refl))
    (set_either (Holds (over (is_waiting (state_of cs c)) (Some bytes) h)) cs c.0 c.0 _ idle_call (λ is. absurd is) (λ ne. absurd (ne refl))
    (λ _. arrived_here h bytes (call_of cs c) (state_of cs c) was (λ _. refl))))
    (λ ne own other.
    let P : Option (List ℕ) → Type 0 = λ x. HoldsOf (over (is_waiting (state_of cs c)) x h) c (calls.came_after cs a bytes) in
    subst P (sym (other ne))
    (set_either (Holds (over (is_waiting (state_of cs c)) None h)) cs a.0 c.0 _ idle_call (λ is. absurd is)
    (λ _. nothing_over (is_waiting (state_of cs c)) h (call_of cs c) was) (λ same. absurd (ne (sym same)))))
    own other

-- what the disk gave back
took_holds :
    (h : Option (List ℕ)) (c : Caller) (d : Device) (taken : Option Taken) → HoldsOf h c d.calls
    → HoldsOf (over (is_waiting (state_of d.calls c)) (from_disk c taken) h) c (took_back d taken).0.calls
took_holds h c d None was = nothing_over (is_waiting (state_of d.calls c)) h (call_of d.calls c) was
took_holds h c d (Some t) was = by t.done.which t.done.ok
  where
    wrote_one : (p : Page) (copy : Option Copy) (ok : Bool) → HoldsOf (over (is_waiting (state_of d.calls c)) None h) c (wrote_after d p copy ok).0.calls
    wrote_one p None ok = nothing_over (is_waiting (state_of d.calls c)) h (call_of d.calls c) was
    wrote_one p (Some copy) true = nothing_over (is_waiting (state_of d.calls c)) h (call_of d.calls c) was
    wrote_one p (Some copy) false = nothing_over (is_waiting (state_of d.calls c)) h (call_of d.calls c) was

    by :
        (w : DiskWhich) (ok : Bool)
        → HoldsOf (over (is_waiting (state_of d.calls c)) (cond (is_read_back c w ok) (Some t.bytes) None) h) c (took_after d w t.done.page ok t.bytes).0.calls
    by (which.Write p) ok = wrote_one t.done.page (queue.flying d.queue t.done.page) ok
    by (which.Read a) true =
        came_to h d.calls c a t.bytes _ (λ same. ap (λ b. cond (b && true) (Some t.bytes) None) (eq-eqb a.0 c.0 same))
        (λ ne. ap (λ b. cond (b && true) (Some t.bytes) None) (not_eqb a.0 c.0 ne)) was
    by (which.Read a) false =
        let none : cond ((a.0 == c.0) && false) (Some t.bytes) None ≡ None = gone (a.0 == c.0) in
        let P : Option (List ℕ) → Type 0 = λ x. HoldsOf (over (is_waiting (state_of d.calls c)) x h) c (calls.failed_after d.calls a) in
        subst P (sym none)
        (set_either (Holds (over (is_waiting (state_of d.calls c)) None h)) d.calls a.0 c.0 _ idle_call (λ is. absurd is)
        (λ _. nothing_over (is_waiting (state_of d.calls c)) h (call_of d.calls c) was)
        (λ same.
        subst (λ n.
        Holds (over (is_waiting (state_of d.calls c)) None h)
        (calls.arrives arrived.Failed [] (call_of d.calls (record { 0 = n })) (state_of d.calls (record { 0 = n }))))
        same
        (failed_here (over (is_waiting (state_of d.calls c)) None h) (call_of d.calls c) (state_of d.calls c)
        (nothing_over (is_waiting (state_of d.calls c)) h (call_of d.calls c) was))))
      where
        gone : (b : Bool) → cond (b && false) (Some t.bytes) None ≡ None
        gone true = refl
        gone false = refl

-- what a message makes of the calls: nothing, or the page of the oldest request's caller came
abbrev pub HeardIs : Device → Parcel → Option Request → Device → Type 0
HeardIs d q o e =
    ((e.calls ≡ d.calls) × ((c : Caller) → (is_of_caller c o && is_page q.msg) ≡ false))
    ⊎ ((a : Caller) × (p : Page) × (o ≡ Some (request.Read a p)) × (e.calls ≡ calls.came_after d.calls a q.page) × (is_page q.msg ≡ true))

-- a message that brings no page hands nothing over
no_page : (d e : Device) (q : Parcel) (o : Option Request) → e.calls ≡ d.calls → is_page q.msg ≡ false → HeardIs d q o e
no_page d e q o same none = inl (same, λ c. ap (λ b. is_of_caller c o && b) none ∙ and-false (is_of_caller c o))

heard_calls : (d : Device) (x : Heard) (l : Lender) (q : Parcel) → Hears d l q x → HeardIs d q (oldest (ring_of d.remote.links l)) x.device
heard_calls d x l q (roomy {u = u} {free = free} ring says same) = no_page d x.device q _ refl (room_is q.msg (u, free) says).1
heard_calls d x l q (lent {u = u} {k = k} ring says same none) = no_page d x.device q _ refl (lent_is q.msg u k says).1
heard_calls d x l q (refused {u = u} ring says same) = no_page d x.device q _ refl (refused_is q.msg u says).1
heard_calls d x l q (written {at = at} ring says named) = no_page d x.device q _ refl (wrote_is q.msg at says).1
heard_calls d x l q (brought {c = a} {p = p} {at = at} ring says named) = inr (a, p, ap oldest ring, refl, (page_is q.msg at says).1)
heard_calls d x l q (asked_rate {k = k} says at) = no_page d x.device q _ refl (rate_is q.msg k says).1
heard_calls d x l q (told_to_go {k = k} says at) = no_page d x.device q _ refl (back_is q.msg k says).1

-- a message that was taken
brought_holds :
    (h : Option (List ℕ)) (c : Caller) (d e : Device) (l : Lender) (q : Parcel) (o : Option Request) → HeardIs d q o e → HoldsOf h c d.calls
    → HoldsOf (over (is_waiting (state_of d.calls c)) (cond (is_of_caller c o && is_page q.msg) (Some q.page) None) h) c e.calls
brought_holds h c d e l q o (inl r) was =
    let W : Bool = is_waiting (state_of d.calls c) in
    let P : Bool → Type 0 = λ b. HoldsOf (over W (cond b (Some q.page) None) h) c d.calls in
    subst (λ cs. HoldsOf (over W (cond (is_of_caller c o && is_page q.msg) (Some q.page) None) h) c cs) (sym r.0)
    (subst P (sym (r.1 c)) (nothing_over W h (call_of d.calls c) was))
brought_holds h c d e l q o (inr r) was =
    let W : Bool = is_waiting (state_of d.calls c) in
    let P : Option Request → Type 0 = λ x. HoldsOf (over W (cond (is_of_caller c x && is_page q.msg) (Some q.page) None) h) c e.calls in
    let given : Option (List ℕ) = cond ((r.0.0 == c.0) && is_page q.msg) (Some q.page) None in
    subst P (sym r.2)
    (subst (λ cs. HoldsOf (over W given h) c cs) (sym r.3)
    (came_to h d.calls c r.0 q.page given (λ same. ap (λ b. cond b (Some q.page) None) (and_from (r.0.0 == c.0) (is_page q.msg) (eq-eqb r.0.0 c.0 same) r.4))
    (λ ne. ap (λ b. cond (b && is_page q.msg) (Some q.page) None) (not_eqb r.0.0 c.0 ne)) was))

-- a message that isn't allowed hands nothing over to a call that keeps what came
lied_holds :
    (h : Option (List ℕ)) (c : Caller) (d : Device) (l : Lender) (o : Option (List ℕ)) → HoldsOf h c d.calls
    → HoldsOf (over (is_waiting (state_of d.calls c)) o h) c (lost_after d l).calls
lied_holds h c d l o was =
    subst (Holds (over (is_waiting (state_of d.calls c)) o h)) (sym (get_or-map_idle (calls.with_state (calls.lost_if_through l)) d.calls c.0 refl))
    (by (state_of d.calls c) was)
  where
    by :
        (state : CallState) → (IsCame state → h ≡ Some (call_of d.calls c).bytes) → IsCame (calls.lost_if_through l state)
        → over (is_waiting state) o h ≡ Some (call_of d.calls c).bytes
    by Idle k is = absurd is
    by (Room p since) k is = absurd is
    by (Reading p n v arrived.Came newer since) k is = k tt
    by (Reading p n v arrived.Waiting newer since) k is = absurd (came_lost l (Reading p n v arrived.Waiting newer since) is)
    by (Reading p n v arrived.Failed newer since) k is = absurd (came_lost l (Reading p n v arrived.Failed newer since) is)
    by (Reading p n v arrived.Lost newer since) k is = absurd (came_lost l (Reading p n v arrived.Lost newer since) is)

-- a program that takes nothing
abbrev pub IsNoTake : DiskCall → Type 0
IsNoTake TakeDone = ⊥
IsNoTake _ = Unit {0}

abbrev pub IsNoTakeOf : FabricCall → Type 0
IsNoTakeOf (Take l) = ⊥
IsNoTakeOf _ = Unit {0}

abbrev pub TakesNone : {A : Type 0} → Prog A → Type 0
TakesNone (Ret a) = Unit {0}
TakesNone (AskDisk call next) = IsNoTake call × ((r : DiskAnswer call) → TakesNone (next r))
TakesNone (AskFabric call next) = IsNoTakeOf call × ((r : FabricAnswer call) → TakesNone (next r))

none-answering : {A B : Type 0} (f : A → B) (p : Prog A) → TakesNone p → TakesNone (answering f p)
none-answering f (Ret a) h = tt
none-answering f (AskDisk call next) h = (h.0, λ r. none-answering f (next r) (h.1 r))
none-answering f (AskFabric call next) h = (h.0, λ r. none-answering f (next r) (h.1 r))

none-then : {A B : Type 0} (p : Prog A) (next : A → Prog B) → TakesNone p → ((a : A) → TakesNone (next a)) → TakesNone (and_then p next)
none-then (Ret a) next h each = each a
none-then (AskDisk call more) next h each = (h.0, λ r. none-then (more r) next (h.1 r) each)
none-then (AskFabric call more) next h each = (h.0, λ r. none-then (more r) next (h.1 r) each)

-- losses, choices and words
choose_none :
    (loses : Device → Lender → Prog Device) → ((d : Device) (l : Lender) → TakesNone (loses d l)) → (d : Device) (at : Option (Slab × Lender))
    → TakesNone (choose loses d at)
choose_none loses none d None = tt
choose_none loses none d (Some at) =
    chosen (λ (x : Prog Device). TakesNone x) (device.may_map d at.0 at.1) _ _ (λ _. (tt, elim [ sent.Sent ↦ tt | sent.Down ↦ none d at.1 ])) (λ _. tt)

give_up_none :
    (loses : Device → Lender → Prog Device) → ((d : Device) (l : Lender) → TakesNone (loses d l)) → (left n : ℕ) (d : Device) (l : Lender)
    → TakesNone (give_up loses left n d l)
give_up_none loses none zero n d l = tt
give_up_none loses none (suc left) n d l =
    let t : Slab = record { 0 = n } in
    none-then _ (λ e. give_up loses left (n + 1) e l)
    (chosen (λ (x : Prog Device). TakesNone x) (slabs.asks l (slabs.state_of d.remote.slabs t)) _ _
    (λ _. choose_none loses none _ (chosen_for t (slabs.answer_choice (slabs.state_of d.remote.slabs t) l reply.Gone))) (λ _. tt))
    (λ e. give_up_none loses none left (n + 1) e l)

lose_with_none : (m : ℕ) (d : Device) (l : Lender) → TakesNone (lose_with m d l)
lose_with_none zero d l = give_up_none (λ e m. Ret (lost_after e m)) (λ e m. tt) (length d.remote.slabs) 0 (lost_after d l) l
lose_with_none (suc m) d l = give_up_none (lose_with m) (lose_with_none m) (length d.remote.slabs) 0 (lost_after d l) l

lose_none : (d : Device) (l : Lender) → TakesNone (lose d l)
lose_none d l = lose_with_none MOST_LENDERS d l

say_none : (d : Device) (l : Lender) (word : Option Parcel) → TakesNone (say_after d l word)
say_none d l None = tt
say_none d l (Some q) = (tt, elim [ sent.Sent ↦ tt | sent.Down ↦ lose_none d l ])

follow_none : (h : Heard) (l : Lender) → TakesNone (follow h l)
follow_none h l =
    none-then (say_after h.device l h.word) (λ e. choose lose e h.choice) (say_none h.device l h.word) (λ e. choose_none lose lose_none e h.choice)

query_none : (d : Device) (t : Slab) (first : Option Lender) (l : Lender) → TakesNone (query d t first l)
query_none d t first l =
    chosen (λ (x : Prog (Device × Bool)). TakesNone x) (device.may_ask d t first l) _ _
    (λ _. (tt, elim [ sent.Sent ↦ tt | sent.Down ↦ none-answering device.not_asked (lose d l) (lose_none d l) ])) (λ _. tt)

second_none : (t : Slab) (m l : Lender) (a : Device × Bool) → TakesNone (device.ask_second t m l a)
second_none t m l (d, true) = none-answering _ (query d t (Some m) l) (query_none d t (Some m) l)
second_none t m l (d, false) = none-answering _ (query d t None l) (query_none d t None l)

ask_none : (d : Device) (t : Slab) (asked : Picked) → TakesNone (device.ask d t asked)
ask_none d t picked.Nobody = tt
ask_none d t (picked.One n) = none-answering _ (query d t None (record { 0 = n })) (query_none d t None (record { 0 = n }))
ask_none d t (picked.Two n m) =
    none-then (query d t None (record { 0 = n })) (device.ask_second t (record { 0 = n }) (record { 0 = m })) (query_none d t None (record { 0 = n }))
    (λ a. second_none t (record { 0 = n }) (record { 0 = m }) a)

place_none : (d : Device) (word : ℕ) (slab : Option Slab) → TakesNone (device.place_at d word slab)
place_none d word None = tt
place_none d word (Some t) = ask_none d t _

write_none : (d : Device) (p : Page) (n : EntryNo) (bytes : List ℕ) (at : Option (Lender × Lease)) → TakesNone (device.write_to d p n bytes at)
write_none d p n bytes None = tt
write_none d p n bytes (Some at) = (tt, elim [ sent.Sent ↦ tt | sent.Down ↦ none-answering device.sent_nowhere (lose d at.0) (lose_none d at.0) ])

out_none : (d : Device) (c : Caller) (p : Page) (bytes : List ℕ) → TakesNone (device.put_program d c p bytes)
out_none d c p bytes =
    chosen (λ (x : Prog (Device × OutStep)). TakesNone x) (queue.has_room d.queue p) _ _
    (λ _.
    none-answering (device.accept_after (next_name d.history)) (device.accept_program d c p bytes)
    (write_none (enter_entry d c p bytes) p (next_name d.history) bytes (remote.target d.sizes d.remote p)))
    (λ _. tt)

read_none : (d : Device) (c : Caller) (p : Page) (n : EntryNo) (at : Option (Lender × Lease)) → TakesNone (device.read_at d c p n at)
read_none d c p n None = (tt, λ r. tt)
read_none d c p n (Some at) =
    (tt, elim [ sent.Sent ↦ tt | sent.Down ↦ none-then (lose d at.0) (λ x. device.read_disk x c p n) (lose_none d at.0) (λ x. (tt, λ r. tt)) ])

route_none : (d : Device) (c : Caller) (p : Page) → TakesNone (device.route d c p)
route_none d c p = by (last d.history p) (queue.newest d.queue p)
  where
    by : (o : Option EntryNo) (copy : Option Copy) → TakesNone (device.route_by d c p o copy)
    by None copy = tt
    by (Some n) (Some copy) = tt
    by (Some n) None = read_none d c p n (device.source d p)

room_none : (d : Device) (c : Caller) (p : Page) (since : ℕ) (bytes : List ℕ) → TakesNone (device.finish_out d c p since bytes)
room_none d c p since bytes =
    chosen (λ (x : Prog (Device × Step)). TakesNone x) (queue.has_room d.queue p) _ _
    (λ _.
    none-answering (device.accepted_late (next_name d.history)) (device.accept_program d c p bytes)
    (write_none (enter_entry d c p bytes) p (next_name d.history) bytes (remote.target d.sizes d.remote p)))
    (λ _. chosen (λ (x : Prog (Device × Step)). TakesNone x) (nat_lt since d.failed_writes) _ _ (λ _. tt) (λ _. tt))

late_none : (d : Device) (c : Caller) (bytes : List ℕ) (state : CallState) → TakesNone (device.finish_by d c bytes state)
late_none d c bytes Idle = tt
late_none d c bytes (Room p since) = room_none d c p since bytes
late_none d c bytes (Reading p n v arrived.Waiting newer since) = tt
late_none d c bytes (Reading p n v arrived.Came true since) = none-answering device.routed_again (device.route d c p) (route_none d c p)
late_none d c bytes (Reading p n v arrived.Came false since) = tt
late_none d c bytes (Reading p n v arrived.Failed true since) = none-answering device.routed_again (device.route d c p) (route_none d c p)
late_none d c bytes (Reading p n v arrived.Failed false since) = tt
late_none d c bytes (Reading p n v arrived.Lost newer since) = none-answering device.routed_again (device.route d c p) (route_none d c p)

start_none : (d : Device) (line : List Page) → TakesNone (device.start_front d line)
start_none d [] = tt
start_none d (p ∷ line) = by (queue.next_copy d.queue p)
  where
    by : (copy : Option Copy) → TakesNone (device.start_copy d p copy)
    by None = tt
    by (Some copy) = (tt, λ r. tt)

event_none :
    (d : Device) (page : List ℕ) (e : Event) → ((w : DiskWhich) (ok : Bool) → e ≡ event.Disk w ok → ⊥) → ((l : Lender) → e ≡ event.Take l → ⊥)
    → TakesNone (happens d page e)
event_none d page (event.PageOut c p) no_disk no_take =
    chosen (λ (x : Prog (Device × Seen)). TakesNone x) (is_idle (state_of d.calls c)) _ _
    (λ _. none-answering _ (device.out d c p page) (out_none (device.hit d p) c p page)) (λ _. tt)
event_none d page (event.PageIn c p) no_disk no_take =
    chosen (λ (x : Prog (Device × Seen)). TakesNone x) (is_idle (state_of d.calls c)) _ _
    (λ _. none-answering _ (device.read d c p) (route_none (device.hit d p) c p)) (λ _. tt)
event_none d page (event.Finish c) no_disk no_take =
    chosen (λ (x : Prog (Device × Seen)). TakesNone x) (is_idle (state_of d.calls c)) _ _ (λ _. tt)
    (λ _. none-answering _ (device.finish d c) (late_none d c (call_of d.calls c).bytes (state_of d.calls c)))
event_none d page event.Start no_disk no_take = none-answering _ (device.disk_start d) (start_none d d.queue.line)
event_none d page (event.Disk w ok) no_disk no_take = absurd (no_disk w ok refl)
event_none d page (event.Tick word) no_disk no_take = none-answering _ (device.tick d word) (place_none (device.periods_ended d) word _)
event_none d page (event.Map t l) no_disk no_take =
    none-answering _ (device.map d t l) (none-answering _ (device.borrow_from lose d t l) (choose_none lose lose_none d (Some (t, l))))
event_none d page (event.Connect l) no_disk no_take =
    none-answering _ (device.connect d l)
    (chosen (λ (x : Prog (Device × Option Link)). TakesNone x) (nat_lt d.links_made MOST_LINKS) _ _
    (λ _.
    none-then (device.without_link d l) (λ x. device.connect_on x l)
    (chosen (λ (x : Prog Device). TakesNone x) (is_up d.remote.links l) _ _ (λ _. lose_none d l) (λ _. tt))
    (λ x. (
      tt,
      λ r. none-answering _ (say_after (device.raised_after x l) l (Some (device.hello x.sizes)))
          (say_none (device.raised_after x l) l (Some (device.hello x.sizes))),
    )))
    (λ _. tt))
event_none d page (event.Give l) no_disk no_take = (tt, λ r. tt)
event_none d page (event.Cut l a b) no_disk no_take = (tt, λ r. tt)
event_none d page (event.Crash l) no_disk no_take = (tt, λ r. tt)
event_none d page (event.Host l used word) no_disk no_take = (tt, λ r. tt)
event_none d page (event.Take l) no_disk no_take = absurd (no_take l refl)
event_none d page e no_disk no_take = tt

no_disk_call : (c : Caller) (call : DiskCall) (r : DiskAnswer call) → IsNoTake call → by_disk_call c call r ≡ None
no_disk_call c TakeDone r h = absurd h
no_disk_call c (StartWrite p bytes) r h = refl
no_disk_call c (StartRead a p) r h = refl
no_disk_call c (LetFinish w ok) r h = refl

no_fabric_call : (c : Caller) (d : Device) (call : FabricCall) (r : FabricAnswer call) → IsNoTakeOf call → by_fabric_call c d call r ≡ None
no_fabric_call c d (Take l) r h = absurd h
no_fabric_call c d (Connect l n) r h = refl
no_fabric_call c d (Send l q) r h = refl
no_fabric_call c d (End l) r h = refl
no_fabric_call c d (Give l) r h = refl
no_fabric_call c d (Cut l a b) r h = refl
no_fabric_call c d (Crash l) r h = refl
no_fabric_call c d (Host l used word) r h = refl

module _ {D F : Type 0} (disk_moves : D → (call : DiskCall) → DiskAnswer call → D → Type 0)
    (moves : F → (call : FabricCall) → FabricAnswer call → F → Type 0) where
  none_handed :
      {A : Type 0} (c : Caller) (d : Device) (p : Prog A) (k : D) (f : F) (k' : D) (f' : F) (a : A) (along : Along disk_moves moves p k f k' f' a) → TakesNone p
      → handed_in c d (asked_along disk_moves moves p k f k' f' a along) ≡ None
  none_handed c d (Ret b) k f k' f' a along h = refl
  none_handed c d (AskDisk call next) k f k' f' a along h =
      ap (λ o. first_of o (by_disk_call c call along.0)) (none_handed c d (next along.0) along.1 f k' f' a along.3 (h.1 along.0))
      ∙ no_disk_call c call along.0 h.0
  none_handed c d (AskFabric call next) k f k' f' a along h =
      ap (λ o. first_of o (by_fabric_call c d call along.0)) (none_handed c d (next along.0) k along.1 k' f' a along.3 (h.1 along.0))
      ∙ no_fabric_call c d call along.0 h.0

  module _ (h : Option (List ℕ)) (c : Caller) (d d' : Device) (k' : D) (f' : F) (s : Seen) (was : HoldsOf h c d.calls) where
    to :
        (e : Device) → d' ≡ e → (o : Option (List ℕ)) → HoldsOf (over (is_waiting (state_of d.calls c)) o h) c e.calls
        → HoldsOf (over (is_waiting (state_of d.calls c)) o h) c d'.calls
    to e is o now = subst (λ (x : Device). HoldsOf (over (is_waiting (state_of d.calls c)) o h) c x.calls) (sym is) now

    disk_step : (w : DiskWhich) (ok done : Bool) (mid : D) (f : F) (rest : Along disk_moves moves (taken_if d done) mid f k' f' (d', s))
        → HoldsOf
        (over (is_waiting (state_of d.calls c))
        (handed_in c d (OfDisk (LetFinish w ok) done ∷ asked_along disk_moves moves (taken_if d done) mid f k' f' (d', s) rest)) h)
        c d'.calls
    disk_step w ok false mid f rest =
        to d (ap (λ (x : Device × Seen). x.0) rest.2) None (nothing_over (is_waiting (state_of d.calls c)) h (call_of d.calls c) was)
    disk_step w ok true mid f rest =
        let o : Option (List ℕ) = from_disk c rest.0 in
        let now = to (took_back d rest.0).0 (ap (λ (x : Device × Seen). x.0) rest.3.2) o (took_holds h c d rest.0 was) in
        subst (λ x. HoldsOf (over (is_waiting (state_of d.calls c)) x h) c d'.calls) (sym (first_of-none o)) now

    -- what follows on a message, and a loss, hand nothing over
    loss_step :
        {R : Type 0} (l : Lender) (step : R) (see : R → Seen) (x : Device) (o : Option (List ℕ)) (k : D) (f : F)
        → HoldsOf (over (is_waiting (state_of d.calls c)) o h) c (lost_after x l).calls
        → Along disk_moves moves (seen_by see (answering (λ (y : Device). (y, step)) (lose x l))) k f k' f' (d', s)
        → HoldsOf (over (is_waiting (state_of d.calls c)) o h) c d'.calls
    loss_step l step see x o k f held along =
        Leads-Along disk_moves moves (seen_by see (answering (λ (y : Device). (y, step)) (lose x l))) k f k' f' (d', s)
        (λ (a : Device × Seen) _ _. HoldsOf (over (is_waiting (state_of d.calls c)) o h) c a.0.calls)
        (Leads-answering disk_moves moves _ (answering (λ (y : Device). (y, step)) (lose x l)) k f _
        (Leads-answering disk_moves moves _ (lose x l) k f _
        (Leads-implies disk_moves moves (lose x l) k f _ _ (λ y _ _ r. linked (over (is_waiting (state_of d.calls c)) o h) c (lost_after x l) y r.1.1.linked
        held)
        (Goes-leads (Move within_any) disk_moves moves (λ _ _ _. Unit {0}) (λ s asked t k k' f f' m went h. tt) _ k f (lose_passes within_any x l) tt)))) along

    follow_step :
        (l : Lender) (q : Parcel) (x : Heard) (o : Option (List ℕ)) (k : D) (f : F) → Hears d l q x
        → HoldsOf (over (is_waiting (state_of d.calls c)) o h) c x.device.calls
        → Along disk_moves moves (seen_by see_take (understand d l q.msg (Some x))) k f k' f' (d', s)
        → HoldsOf (over (is_waiting (state_of d.calls c)) o h) c d'.calls
    follow_step l q x o k f hears_x held along =
        Leads-Along disk_moves moves (seen_by see_take (understand d l q.msg (Some x))) k f k' f' (d', s)
        (λ (a : Device × Seen) _ _. HoldsOf (over (is_waiting (state_of d.calls c)) o h) c a.0.calls)
        (Leads-answering disk_moves moves _ (understand d l q.msg (Some x)) k f _
        (Leads-answering disk_moves moves _ (follow x l) k f _
        (Leads-implies disk_moves moves (follow x l) k f _ _ (λ y _ _ r. linked (over (is_waiting (state_of d.calls c)) o h) c x.device y r.1.1.linked held)
        (Goes-leads (Move within_any) disk_moves moves (λ _ _ _. Unit {0}) (λ s asked t k k' f f' m went h. tt) _ k f
        (follow_passes within_any x l (λ w says. heard_word d x l q w hears_x says) (λ t m at. heard_choice d x l q t m hears_x at)) tt)))) along

    take_step : (l : Lender) (b : Bool) (k : D) (f : F)
        (along : Along disk_moves moves (seen_by see_take (cond b (AskFabric (Take l) (took_from d l)) (Ret (d, link.Nothing)))) k f k' f' (d', s))
        → HoldsOf
        (over (is_waiting (state_of d.calls c))
        (handed_in c d
        (asked_along disk_moves moves (seen_by see_take (cond b (AskFabric (Take l) (took_from d l)) (Ret (d, link.Nothing)))) k f k' f' (d', s) along))
        h)
        c d'.calls
    take_step l false k f along = to d (ap (λ (x : Device × Seen). x.0) along.2) None (nothing_over (is_waiting (state_of d.calls c)) h (call_of d.calls c) was)
    take_step l true k f along = by_handed along.0 along.1 along.3
      where
        -- nothing that follows takes
        only_first :
            (r : Handed) (mid : F) (rest : Along disk_moves moves (seen_by see_take (took_from d l r)) k mid k' f' (d', s))
            → TakesNone (seen_by see_take (took_from d l r)) → HoldsOf (over (is_waiting (state_of d.calls c)) (from_link c d l r) h) c d'.calls
            → HoldsOf
            (over (is_waiting (state_of d.calls c))
            (first_of (handed_in c d (asked_along disk_moves moves (seen_by see_take (took_from d l r)) k mid k' f' (d', s) rest)) (from_link c d l r)) h)
            c d'.calls
        only_first r mid rest none held =
            let same : first_of (handed_in c d (asked_along disk_moves moves (seen_by see_take (took_from d l r)) k mid k' f' (d', s) rest)) (from_link c d l r)
            ≡ from_link c d l r =
            ap (λ o. first_of o (from_link c d l r)) (none_handed c d (seen_by see_take (took_from d l r)) k mid k' f' (d', s) rest none) in
            subst (λ o. HoldsOf (over (is_waiting (state_of d.calls c)) o h) c d'.calls) (sym same) held

        by_heard :
            (q : Parcel) (x : Option Heard) → heard_parcel d l q (oldest (ring_of d.remote.links l)) ≡ x → (mid : F)
            → Along disk_moves moves (seen_by see_take (understand d l q.msg x)) k mid k' f' (d', s)
            → TakesNone (seen_by see_take (understand d l q.msg x))
            × HoldsOf (over (is_waiting (state_of d.calls c)) (from_link c d l (Brought q)) h) c d'.calls
        by_heard q None is mid rest = (
          none-answering _ (understand d l q.msg None) (tt, λ r. none-answering _ (lose d l) (lose_none d l)),
          loss_step l link.Lied see_take d (from_link c d l (Brought q)) k rest.1 (lied_holds h c d l (from_link c d l (Brought q)) was) rest.3,
        )
        by_heard q (Some x) is mid rest =
            let hears_x : Hears d l q x = heard_is d x l q is in (
              none-answering _ (understand d l q.msg (Some x)) (none-answering _ (follow x l) (follow_none x l)),
              follow_step l q x (from_link c d l (Brought q)) k mid hears_x
                  (brought_holds h c d x.device l q (oldest (ring_of d.remote.links l)) (heard_calls d x l q hears_x) was) rest,
            )

        by_handed : (r : Handed) (mid : F) (rest : Along disk_moves moves (seen_by see_take (took_from d l r)) k mid k' f' (d', s))
            → HoldsOf
            (over (is_waiting (state_of d.calls c))
            (first_of (handed_in c d (asked_along disk_moves moves (seen_by see_take (took_from d l r)) k mid k' f' (d', s) rest)) (from_link c d l r)) h)
            c d'.calls
        by_handed (Brought q) mid rest =
            let r = by_heard q (heard_parcel d l q (oldest (ring_of d.remote.links l))) refl mid rest in only_first (Brought q) mid rest r.0 r.1
        by_handed NothingCame mid rest =
            to d (ap (λ (x : Device × Seen). x.0) rest.2) None (nothing_over (is_waiting (state_of d.calls c)) h (call_of d.calls c) was)
        by_handed LinkLost mid rest =
            only_first LinkLost mid rest (none-answering _ (answering (device.with_step link.Lost) (lose d l)) (none-answering _ (lose d l) (lose_none d l)))
            (loss_step l link.Lost see_take d None k mid (lied_holds h c d l None was) rest)

    other_step :
        (k : D) (f : F) (page : List ℕ) (e : Event) → ((w : DiskWhich) (ok : Bool) → e ≡ event.Disk w ok → ⊥) → ((l : Lender) → e ≡ event.Take l → ⊥)
        → (along : Along disk_moves moves (happens d page e) k f k' f' (d', s))
        → HoldsOf
        (cond (is_start_of c e s) None
        (over (is_waiting (state_of d.calls c)) (handed_in c d (asked_along disk_moves moves (happens d page e) k f k' f' (d', s) along)) h))
        c d'.calls
    other_step k f page e no_disk no_take along = by (is_start_of c e s) refl
      where
        comes : ComesTo d page e d' s
        comes = Leads-Along disk_moves moves (happens d page e) k f k' f' (d', s) _ (happens_comes disk_moves moves d k f page e) along

        by :
            (b : Bool) → is_start_of c e s ≡ b
            → HoldsOf
            (cond b None (over (is_waiting (state_of d.calls c)) (handed_in c d (asked_along disk_moves moves (happens d page e) k f k' f' (d', s) along)) h)) c
            d'.calls
        by true starts =
            λ is. absurd (start_is_fresh IsCame (λ x. x) (λ p since x. x) (λ p n v since x. x) (record d { rates = comes.0 }) d' page e s c comes.2 starts is)
        by false starts =
            let none = none_handed c d (happens d page e) k f k' f' (d', s) along (event_none d page e no_disk no_take) in
            let now : HoldsOf h c d'.calls = event_holds h c (record d { rates = comes.0 }) d' page e s no_disk no_take was comes.2 in
            subst (λ o. HoldsOf (over (is_waiting (state_of d.calls c)) o h) c d'.calls) (sym none)
            (nothing_over (is_waiting (state_of d.calls c)) h (call_of d'.calls c) now)

  -- any event
  step_holds :
      (h : Option (List ℕ)) (c : Caller) (d d' : Device) (k k' : D) (f f' : F) (page : List ℕ) (e : Event) (s : Seen) → HoldsOf h c d.calls
      → (along : Along disk_moves moves (happens d page e) k f k' f' (d', s))
      → HoldsOf
      (cond (is_start_of c e s) None
      (over (is_waiting (state_of d.calls c)) (handed_in c d (asked_along disk_moves moves (happens d page e) k f k' f' (d', s) along)) h))
      c d'.calls
  step_holds h c d d' k k' f f' page (event.Disk w ok) s was along = disk_step h c d d' k' f' s was w ok along.0 along.1 f along.3
  step_holds h c d d' k k' f f' page (event.Take l) s was along = take_step h c d d' k' f' s was l (is_up d.remote.links l) k f along
  step_holds h c d d' k k' f f' page e s was along = other_step h c d d' k' f' s was k f page e (λ w ok is. cc) (λ l is. cc) along

  -- so after every run
  pub run_holds :
      {first : Device} {disk : D} {fabric : F} {made : List (Input × Seen)} {d : Device} {k : D} {f : F} (c : Caller)
      (run : IsRun disk_moves moves first disk fabric made d k f)
      → (IsCame (state_of first.calls c) → ⊥) → HoldsOf (last_handed disk_moves moves c run) c d.calls
  run_holds c begin none = λ is. absurd (none is)
  run_holds c (effect {d = d} {k = k} {f = f} i s d' k' f' run range step has) none =
      step_holds (last_handed disk_moves moves c run) c d d' k k' f f' i.page i.event s (run_holds c run none) step
  run_holds c (without i s k' f' run range step has) none = run_holds c run none
  run_holds c (polled {d = d} {k = k} {f = f} step d' k' f' run along) none =
      let h : Option (List ℕ) = last_handed disk_moves moves c run in
      subst (λ (x : Device × DiskStep). HoldsOf (over (is_waiting (state_of d.calls c)) (from_disk c along.0) h) c x.0.calls) (sym along.3.2)
      (took_holds h c d along.0 (run_holds c run none))
