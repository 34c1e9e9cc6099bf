-- What is known of a caller's call, after its start and else, holds after each event.
use Rattle.std.proofs.Common.{◌≡◌, ℕ, ◌<◌, Bool, true, false, cond, ◌&&◌, ◌==◌, List, ◌∷◌, length, set, refl, sym, ap, subst, get_or-set_same, get_or-set_other, Option, None, Some, [], ◌∙◌}
use Rattle.std.proofs.lemmas.Bool.{eq-eqb}
use Rattle.std.proofs.lemmas.List.{length-map}
use Rattle.std.proofs.Math.Bool.{and-false}
use Rattle.swap_base.specs.declared.Page.{Page}
use Rattle.swap_base.specs.declared.Caller.{Caller}
use Rattle.swap_base.specs.declared.EntryNo.{EntryNo}
use Rattle.swap_base.specs.declared.Lender.{Lender}
use Rattle.swap_base.specs.declared.DiskWhich.{DiskWhich}
use Rattle.swap_base.specs.declared.Via.{Via}
use Rattle.swap_wire.specs.Input.{Input}
use Rattle.swap_wire.specs.declared.Event.{Event}
use Rattle.swap_wire.specs.declared.Seen.{Seen}
use Rattle.swap_record.specs.History.{last}
use Rattle.swap_disk.specs.Disk.{Taken}
use Rattle.swap_calls.specs.Calls.{Call, Calls, state_of, call_of, idle_call, is_idle}
use Rattle.swap_calls.specs.declared.CallState.{CallState}
use Rattle.swap_calls.specs.declared.CallState.TheVariants.{Idle, Room, Reading}
use Rattle.swap_table.specs.Device.{Device, enter_entry, took_back, device_at_start, took_after, wrote_after}
use Rattle.swap_base.proofs.Lists.{by_caller, not_eqb}
use Rattle.swap_table.proofs.HistoryAgreement.{get_or-map_idle, state-paged_out}
use Rattle.swap_world.specs.Failures.{is_of, is_start, is_start_of, before_start, failed_writes_in, failed_reads_in}
use Rattle.swap_world.proofs.AnsweredOnce.{set-idle, idle_at}
use Rattle.swap_table.specs.Comes.{Linked, as_was, is_new, is_rest, is_of_link, begins_in, goes_on_in, Comes, refuses, rests, accepts, gives_page, fails, keeps_page, reads, starts_write, takes_back, links, brings}
use Rattle.swap_table.proofs.EventsComeToTheirEnds.{linked_keep}
use Rattle.swap_base.specs.Sizes.{Sizes}
use Rattle.swap_queue.specs.Queue.{Copy}
use Rattle.swap_calls.specs.declared.Arrived.{Arrived}
use Rattle.swap_world.specs.Answered.{is_call_of}
use Rattle.swap_world.proofs.BusyGrowsByCalls.{took_back_idle}
use Rattle.swap_base.specs.declared.Via.TheVariants as via
use Rattle.swap_wire.specs.declared.Event.TheVariants as event
use Rattle.swap_wire.specs.declared.Seen.TheVariants as seen
use Rattle.swap_calls.specs.Calls as calls
use Rattle.swap_calls.specs.declared.Arrived.TheVariants as arrived
use Rattle.swap_base.specs.declared.DiskWhich.TheVariants as which
use Rattle.swap_queue.specs.Queue as queue

-- what is known of a caller's call, after its start and else
pub record Carries (d : Device) (Q : Bool → CallState → Type 0) : Type 0 where
  pub idle : (b : Bool) → Q b Idle
  pub newer : (b : Bool) (p : Page) (state : CallState) → Q b state → Q b (calls.newer_if_reads p state)
  pub room : (p : Page) → Q true (Room p d.failed_writes)
  pub reading : (p : Page) (n : EntryNo) (v : Via) → last d.history p ≡ Some n → Q true (Reading p n v arrived.Waiting false d.failed_reads)
  pub lost : (b : Bool) (l : Lender) (state : CallState) → Q b state → Q b (calls.lost_if_through l state)
  pub came :
      (b : Bool) (bytes : List ℕ) (call : Call) (state : CallState) → Q b call.state → Q b state → Q b (calls.arrives arrived.Came bytes call state).state

-- of one caller's call
module _ (P : CallState → Type 0) (cs : Calls) (c : Caller) where
  pub set_own : (call : Call) → c.0 < length cs → P call.state → P (state_of (set cs c.0 call) c)
  set_own call within h = subst P (sym (ap (λ (x : Call). x.state) (get_or-set_same cs c.0 call idle_call within))) h

  pub set_other : (e : Caller) (call : Call) → (c.0 ≡ e.0 → ⊥) → P (state_of cs c) → P (state_of (set cs e.0 call) c)
  set_other e call ne h = subst P (sym (ap (λ (x : Call). x.state) (get_or-set_other cs e.0 c.0 call idle_call ne))) h

  ended_own : P Idle → P (state_of (calls.end_after cs c) c)
  ended_own h = subst P (sym (ap (λ (x : Call). x.state) (set-idle cs c.0))) h

  marked : (p : Page) → P (calls.newer_if_reads p (state_of cs c)) → P (state_of (calls.paged_out cs p) c)
  marked p h = subst P (sym (state-paged_out cs p c)) h

  let_go : (l : Lender) → P (calls.lost_if_through l (state_of cs c)) → P (state_of (calls.lost_after cs l) c)
  let_go l h = subst P (sym (ap (λ (x : Call). x.state) (get_or-map_idle (calls.with_state (calls.lost_if_through l)) cs c.0 refl))) h

-- what starts nothing
pub busy_starts : (e : Event) → is_start e seen.Busy ≡ false
busy_starts (event.PageOut c p) = refl
busy_starts (event.PageIn c p) = refl
busy_starts (event.Finish c) = refl
busy_starts e = refl

pub done_starts : (e : Event) (n : EntryNo) (to : Option Lender) → is_start e (seen.Done n to) ≡ false
done_starts (event.PageOut c p) n to = refl
done_starts (event.PageIn c p) n to = refl
done_starts (event.Finish c) n to = refl
done_starts e n to = refl

pub rest_starts : (e : Event) (s : Seen) → is_new e ≡ false → is_rest s ≡ true → is_start e s ≡ false
rest_starts (event.PageOut c p) s new rest = cc
rest_starts (event.PageIn c p) s new rest = cc
rest_starts (event.Finish c) (seen.Again v) new rest = cc
rest_starts (event.Finish c) s new rest = refl
rest_starts e s new rest = refl

pub link_starts : (e : Event) (s : Seen) → is_new e ≡ false → is_of_link s ≡ true → is_start e s ≡ false
link_starts (event.PageOut c p) s new of_link = cc
link_starts (event.PageIn c p) s new of_link = cc
link_starts (event.Finish c) (seen.Again v) new of_link = cc
link_starts (event.Finish c) s new of_link = refl
link_starts e s new of_link = refl

module _ (Q : Bool → CallState → Type 0) (d : Device) (c : Caller) (k : Carries d Q) (within : c.0 < length d.calls) (was : Q false (state_of d.calls c)) where
  quiet : (e : Event) (s : Seen) (cs : Calls) → is_start e s ≡ false → Q false (state_of cs c) → Q (is_start_of c e s) (state_of cs c)
  quiet e s cs none h = go (is_of c e)
    where
      go : (b : Bool) → Q (b && is_start e s) (state_of cs c)
      go true = let P : Bool → Type 0 = λ b. Q b (state_of cs c) in subst P (sym none) h
      go false = h

  linked : (b : Bool) (x y : Device) → Linked x y → Q b (state_of x.calls c) → Q b (state_of y.calls c)
  linked b x y used h =
      linked_keep (λ z. Q b (state_of z.calls c)) (λ z r made h. h) (λ z l h. let_go (Q b) z.calls c l (k.lost b l (state_of z.calls c) h)) x y used h

  linked_within : (x : Device) → Linked d x → c.0 < length x.calls
  linked_within x used =
      linked_keep (λ z. c.0 < length z.calls) (λ z r made h. h)
      (λ z l h. subst (λ n. c.0 < n) (sym (length-map z.calls (calls.with_state (calls.lost_if_through l)))) h) d x used within

  entered : (a : Caller) (p : Page) (bytes : List ℕ) → Q false (state_of (enter_entry d a p bytes).calls c)
  entered a p bytes =
      by_caller (λ a. Q false (state_of (enter_entry d a p bytes).calls c)) c a (ended_own (Q false) (calls.paged_out d.calls p) c (k.idle false))
      (λ ne.
      set_other (Q false) (calls.paged_out d.calls p) c a idle_call (λ same. ne (sym same))
      (marked (Q false) d.calls c p (k.newer false p (state_of d.calls c) was)))

  ended : (a : Caller) → Q false (state_of (calls.end_after d.calls a) c)
  ended a =
      by_caller (λ a. Q false (state_of (calls.end_after d.calls a) c)) c a (ended_own (Q false) d.calls c (k.idle false))
      (λ ne. set_other (Q false) d.calls c a idle_call (λ same. ne (sym same)) was)

  -- a call that starts, its caller's or another's
  started :
      (a : Caller) (cs : Calls) (call : Call) → c.0 < length cs → Q true call.state → Q false (state_of cs c)
      → Q ((a.0 == c.0) && true) (state_of (set cs a.0 call) c)
  started a cs call within_ own other =
      by_caller (λ a. Q ((a.0 == c.0) && true) (state_of (set cs a.0 call) c)) c a
      (let P : Bool → Type 0 = λ b. Q (b && true) (state_of (set cs c.0 call) c) in
      subst P (sym (eq-eqb c.0 c.0 refl)) (set_own (Q true) cs c call within_ own))
      (λ ne. let P : Bool → Type 0 = λ b. Q (b && true) (state_of (set cs a.0 call) c) in
      subst P (sym (not_eqb a.0 c.0 ne)) (set_other (Q false) cs c a call (λ same. ne (sym same)) other))

  reading :
      (x : Device) → Linked d x → (p : Page) (n : EntryNo) (v : Via) → last d.history p ≡ Some n → Q true (Reading p n v arrived.Waiting false x.failed_reads)
  reading x used p n v newest =
      linked_keep (λ z. Q true (Reading p n v arrived.Waiting false z.failed_reads)) (λ z r made h. h) (λ z l h. h) d x used (k.reading p n v newest)

  came_to : (x : Device) → Linked d x → (a : Caller) (bytes : List ℕ) → Q false (state_of (calls.came_after x.calls a bytes) c)
  came_to x used a bytes =
      let h : Q false (state_of x.calls c) = linked false d x used was in
      by_caller (λ a. Q false (state_of (calls.came_after x.calls a bytes) c)) c a
      (set_own (Q false) x.calls c _ (linked_within x used) (k.came false bytes (call_of x.calls c) (state_of x.calls c) h h))
      (λ ne. set_other (Q false) x.calls c a _ (λ same. ne (sym same)) h)

  pub comes_carries :
      (page : List ℕ) (e : Event) (d' : Device) (s : Seen)
      → ((w : DiskWhich) (ok : Bool) (taken : Option Taken) → e ≡ event.Disk w ok → Q false (state_of (took_back d taken).0.calls c)) → Comes d page e d' s
      → Q (is_start_of c e s) (state_of d'.calls c)
  comes_carries page e d' s back (refuses device_at_start) = quiet e s d.calls (busy_starts e) was
  comes_carries page e d' s back (rests device_at_start rest) = quiet e s d.calls (rest_starts e s device_at_start rest) was
  comes_carries page e d' s back (accepts {c = a} {p = p} {bytes = bytes} {to = to} step used) =
      quiet e s d'.calls (done_starts e _ to) (linked false (enter_entry d a p bytes) d' used (entered a p bytes))
  comes_carries page e d' s back (gives_page {c = a} step) = quiet e s (calls.end_after d.calls a) (done_starts e _ None) (ended a)
  comes_carries page e d' s back (fails {c = a} why) = quiet e s (calls.end_after d.calls a) refl (ended a)
  comes_carries page e d' s back (keeps_page {c = a} {p = p} is) = started a d.calls _ within (k.room p) was
  comes_carries page e d' s back (reads {c = a} {p = p} {n = n} {d' = x} v (begins_in is) newest used) =
      started a x.calls _ (linked_within x used) (reading x used p n v newest) (linked false d x used was)
  comes_carries page e d' s back (reads {c = a} {p = p} {n = n} {d' = x} v (goes_on_in is) newest used) =
      started a x.calls _ (linked_within x used) (reading x used p n v newest) (linked false d x used was)
  comes_carries page e d' s back starts_write = was
  comes_carries page e d' s back (takes_back {w = w} {ok = ok} taken) = back w ok taken refl
  comes_carries page e d' s back (links device_at_start of_link used) =
      quiet e s d'.calls (link_starts e s device_at_start of_link) (linked false d d' used was)
  comes_carries page e d' s back (brings a bytes r used) =
      linked false (record d { remote = r; calls = calls.came_after d.calls a bytes }) d' used (came_to d as_was a bytes)

-- a call's count is of what was made before its start
abbrev pub Since : List (Input × Seen) → CallState → Type 0
Since before Idle = Unit {0}
Since before (Room p since) = since ≡ failed_writes_in before
Since before (Reading p n v how newer since) = since ≡ failed_reads_in before

abbrev pub SinceIn : Caller → List (Input × Seen) → Calls → Type 0
SinceIn c before cs = Since before (state_of cs c)

since_as : (before : List (Input × Seen)) (state state' : CallState) → state' ≡ state → Since before state → Since before state'
since_as before state state' e h = let P : CallState → Type 0 = λ x. Since before x in subst P (sym e) h

since_own :
    (c : Caller) (before : List (Input × Seen)) (cs : Calls) (call : Call) → c.0 < length cs → Since before call.state → SinceIn c before (set cs c.0 call)
since_own c before cs call within h = since_as before call.state _ (ap (λ (x : Call). x.state) (get_or-set_same cs c.0 call idle_call within)) h

since_other :
    (c e : Caller) (before : List (Input × Seen)) (cs : Calls) (call : Call) → (c.0 ≡ e.0 → ⊥) → SinceIn c before cs → SinceIn c before (set cs e.0 call)
since_other c e before cs call ne h = since_as before (state_of cs c) _ (ap (λ (x : Call). x.state) (get_or-set_other cs e.0 c.0 call idle_call ne)) h

arrives_since :
    (before : List (Input × Seen)) (how : Arrived) (bytes : List ℕ) (call : Call) (state : CallState) → Since before state → Since before call.state
    → Since before (calls.arrives how bytes call state).state
arrives_since before how bytes call Idle h same = same
arrives_since before how bytes call (Room p since) h same = same
arrives_since before how bytes call (Reading p n v arrived.Waiting newer since) h same = h
arrives_since before how bytes call (Reading p n v arrived.Came newer since) h same = same
arrives_since before how bytes call (Reading p n v arrived.Failed newer since) h same = same
arrives_since before how bytes call (Reading p n v arrived.Lost newer since) h same = same

arrived_since :
    (c e : Caller) (before : List (Input × Seen)) (cs : Calls) (how : Arrived) (bytes : List ℕ) → c.0 < length cs → SinceIn c before cs
    → SinceIn c before (set cs e.0 (calls.arrives how bytes (call_of cs e) (state_of cs e)))
arrived_since c e before cs how bytes within h =
    by_caller (λ e. SinceIn c before (set cs e.0 (calls.arrives how bytes (call_of cs e) (state_of cs e)))) c e
    (since_own c before cs _ within (arrives_since before how bytes (call_of cs c) (state_of cs c) h h))
    (λ ne. since_other c e before cs _ (λ same. ne (sym same)) h)

wrote_since :
    (c : Caller) (before : List (Input × Seen)) (d : Device) (p : Page) (copy : Option Copy) (ok : Bool) → SinceIn c before d.calls
    → SinceIn c before (wrote_after d p copy ok).0.calls
wrote_since c before d p None ok h = h
wrote_since c before d p (Some copy) true h = h
wrote_since c before d p (Some copy) false h = h

took_since :
    (c : Caller) (before : List (Input × Seen)) (d : Device) (w : DiskWhich) (p : Page) (ok : Bool) (bytes : List ℕ) → c.0 < length d.calls
    → SinceIn c before d.calls → SinceIn c before (took_after d w p ok bytes).0.calls
took_since c before d (which.Write q) p ok bytes within h = wrote_since c before d p (queue.flying d.queue p) ok h
took_since c before d (which.Read e) p true bytes within h = arrived_since c e before d.calls arrived.Came bytes within h
took_since c before d (which.Read e) p false bytes within h = arrived_since c e before d.calls arrived.Failed [] within h

pub took_back_since :
    (c : Caller) (before : List (Input × Seen)) (d : Device) (taken : Option Taken) → c.0 < length d.calls → SinceIn c before d.calls
    → SinceIn c before (took_back d taken).0.calls
took_back_since c before d None within h = h
took_back_since c before d (Some t) within h = took_since c before d t.done.which t.done.page t.done.ok t.bytes within h

-- so each call under way keeps the count of failures from its last start
counts_since :
    (c : Caller) (made : List (Input × Seen)) (d : Device) → d.failed_writes ≡ failed_writes_in made → d.failed_reads ≡ failed_reads_in made
    → Carries d (λ b state. Since (cond b made (before_start c made)) state)
counts_since c made d writes reads_ = record {
  idle = λ b. tt;
  newer = λ b p state. newer b p state;
  room = λ p. writes;
  reading = λ p n v newest. reads_;
  lost = λ b l state. loses b l state;
  came = λ b bytes call state. arrives b bytes call state;
}
  where
    newer :
        (b : Bool) (p : Page) (state : CallState) → Since (cond b made (before_start c made)) state
        → Since (cond b made (before_start c made)) (calls.newer_if_reads p state)
    newer b p Idle h = h
    newer b p (Room q since) h = h
    newer b p (Reading q n v how device_at_start since) h = h

    loses :
        (b : Bool) (l : Lender) (state : CallState) → Since (cond b made (before_start c made)) state
        → Since (cond b made (before_start c made)) (calls.lost_if_through l state)
    loses b l Idle h = h
    loses b l (Room q since) h = h
    loses b l (Reading q n via.Disk how device_at_start since) h = h
    loses b l (Reading q n (via.Lender m) arrived.Waiting device_at_start since) h = h
    loses b l (Reading q n (via.Lender m) arrived.Came device_at_start since) h = h
    loses b l (Reading q n (via.Lender m) arrived.Failed device_at_start since) h = h
    loses b l (Reading q n (via.Lender m) arrived.Lost device_at_start since) h = h

    arrives :
        (b : Bool) (bytes : List ℕ) (call : Call) (state : CallState) → Since (cond b made (before_start c made)) call.state
        → Since (cond b made (before_start c made)) state → Since (cond b made (before_start c made)) (calls.arrives arrived.Came bytes call state).state
    arrives b bytes call Idle same h = same
    arrives b bytes call (Room q since) same h = same
    arrives b bytes call (Reading q n v arrived.Waiting device_at_start since) same h = h
    arrives b bytes call (Reading q n v arrived.Came device_at_start since) same h = same
    arrives b bytes call (Reading q n v arrived.Failed device_at_start since) same h = same
    arrives b bytes call (Reading q n v arrived.Lost device_at_start since) same h = same

pub comes_since :
    (c : Caller) (made : List (Input × Seen)) (d d' : Device) (i : Input) (s : Seen) → d.failed_writes ≡ failed_writes_in made
    → d.failed_reads ≡ failed_reads_in made → c.0 < length d.calls → SinceIn c (before_start c made) d.calls → Comes d i.page i.event d' s
    → SinceIn c (before_start c ((i, s) ∷ made)) d'.calls
comes_since c made d d' i s writes reads_ within was comes =
    comes_carries (λ b state. Since (cond b made (before_start c made)) state) d c (counts_since c made d writes reads_) within was i.page i.event d' s
    (λ w ok taken is. took_back_since c (before_start c made) d taken within was) comes

pub since_new : (s : Sizes) (n : ℕ) (c : Caller) → SinceIn c [] (device_at_start s n).calls
since_new s n c = since_as [] Idle _ (ap (λ (x : Call). x.state) (idle_at s.callers c.0)) tt

-- a caller that is idle stays so, but by a call of its own
not_started :
    (c : Caller) (d d' : Device) (page : List ℕ) (e : Event) (s : Seen) → is_idle (state_of d.calls c) ≡ true → is_call_of c e ≡ false → Comes d page e d' s
    → is_start_of c e s ≡ false
not_started c d d' page e s idle other (refuses new) = ap (λ b. is_of c e && b) (busy_starts e) ∙ and-false (is_of c e)
not_started c d d' page e s idle other (rests new rest) = ap (λ b. is_of c e && b) (rest_starts e s new rest) ∙ and-false (is_of c e)
not_started c d d' page e s idle other (accepts {to = to} step used) = ap (λ b. is_of c e && b) (done_starts e _ to) ∙ and-false (is_of c e)
not_started c d d' page e s idle other (gives_page step) = ap (λ b. is_of c e && b) (done_starts e _ None) ∙ and-false (is_of c e)
not_started c d d' page e s idle other (fails {c = a} why) = and-false (a.0 == c.0)
not_started c d d' page e s idle other (keeps_page is) = ap (λ b. b && true) other
not_started c d d' page e s idle other (reads v (begins_in is) newest used) = ap (λ b. b && true) other
not_started c d d' page e s idle other (reads v (goes_on_in {c = a} {p = p} {n = n} {v = w} {how = how} {newer = newer} {since = since} is) newest used) =
    by_caller (λ a. state_of d.calls a ≡ Reading p n w how newer since → ((a.0 == c.0) && true) ≡ false) c a
    (λ is. absurd (let both : false ≡ true = sym (ap is_idle is) ∙ idle in cc)) (λ ne is. ap (λ b. b && true) (not_eqb a.0 c.0 ne)) is
not_started c d d' page e s idle other starts_write = refl
not_started c d d' page e s idle other (takes_back taken) = refl
not_started c d d' page e s idle other (links new of_link used) = ap (λ b. is_of c e && b) (link_starts e s new of_link) ∙ and-false (is_of c e)
not_started c d d' page e s idle other (brings a bytes r used) = refl

idle_carries : (d : Device) → Carries d (λ b state. b ≡ false → is_idle state ≡ true)
idle_carries d = record {
  idle = λ b e. refl;
  newer = newer_idle;
  room = λ p e. cc;
  reading = λ p n v newest e. cc;
  lost = lost_idle;
  came = came_idle;
}
  where
    newer_idle : (b : Bool) (p : Page) (state : CallState) → (b ≡ false → is_idle state ≡ true) → b ≡ false → is_idle (calls.newer_if_reads p state) ≡ true
    newer_idle b p Idle h e = refl
    newer_idle b p (Room q since) h e = h e
    newer_idle b p (Reading q n v how newer since) h e = h e

    lost_idle : (b : Bool) (l : Lender) (state : CallState) → (b ≡ false → is_idle state ≡ true) → b ≡ false → is_idle (calls.lost_if_through l state) ≡ true
    lost_idle b l Idle h e = refl
    lost_idle b l (Room q since) h e = h e
    lost_idle b l (Reading q n v how newer since) h e = absurd (let both : false ≡ true = h e in cc)

    came_idle :
        (b : Bool) (bytes : List ℕ) (call : Call) (state : CallState) → (b ≡ false → is_idle call.state ≡ true) → (b ≡ false → is_idle state ≡ true) → b ≡ false
        → is_idle (calls.arrives arrived.Came bytes call state).state ≡ true
    came_idle b bytes call Idle same h e = same e
    came_idle b bytes call (Room q since) same h e = same e
    came_idle b bytes call (Reading q n v how newer since) same h e = absurd (let both : false ≡ true = h e in cc)

pub comes_idle :
    (d d' : Device) (page : List ℕ) (e : Event) (s : Seen) (c : Caller) → c.0 < length d.calls → is_idle (state_of d.calls c) ≡ true → is_call_of c e ≡ false
    → Comes d page e d' s → is_idle (state_of d'.calls c) ≡ true
comes_idle d d' page e s c within idle_call other comes =
    comes_carries (λ b state. b ≡ false → is_idle state ≡ true) d c (idle_carries d) within (λ same. idle_call) page e d' s
    (λ w ok taken is same. took_back_idle d taken c ∙ idle_call) comes (not_started c d d' page e s idle_call other comes)
