-- A call is newer where a page-out of its page was accepted since its last start, and lost where its link ended since.
use Rattle.std.proofs.Common.{◌≡◌, ℕ, nat_lt, ◌⊎◌, Bool, true, false, cond, ◌==◌, List, [], ◌∷◌, ◌++◌, map, refl, sym, ap, ◌∙◌, subst, inl, inr, Option, None, Some}
use Rattle.std.proofs.lemmas.Bool.{eq-eqb, eqb-true}
use Rattle.swap_base.specs.declared.Page.{Page}
use Rattle.swap_base.specs.declared.Caller.{Caller}
use Rattle.swap_base.specs.declared.Lender.{Lender}
use Rattle.swap_base.specs.declared.EntryNo.{EntryNo}
use Rattle.swap_base.specs.declared.DiskWhich.{DiskWhich}
use Rattle.swap_base.specs.declared.DiskWhich.TheVariants as which
use Rattle.swap_base.specs.declared.Via.{Via}
use Rattle.swap_base.specs.declared.Via.TheVariants as via
use Rattle.swap_record.specs.History.{last, next_name}
use Rattle.swap_queue.specs.Queue as queue
use Rattle.swap_queue.specs.Queue.{Copy}
use Rattle.swap_disk.specs.Disk.{Taken}
use Rattle.swap_disk.specs.Port.{DiskCall, DiskAnswer}
use Rattle.swap_wire.specs.Input.{Input}
use Rattle.swap_wire.specs.declared.Event.{Event}
use Rattle.swap_wire.specs.declared.Seen.{Seen}
use Rattle.swap_wire.specs.declared.fabric.Sent.TheVariants as sent
use Rattle.swap_wire.specs.Fabric.{Parcel, LinkLost, FabricCall, FabricAnswer, Send, Take, End}
use Rattle.swap_calls.specs.Calls as calls
use Rattle.swap_calls.specs.Calls.{Call, Calls, state_of, call_of, idle_call}
use Rattle.swap_calls.specs.declared.Arrived.{Arrived}
use Rattle.swap_calls.specs.declared.Arrived.TheVariants as arrived
use Rattle.swap_calls.specs.declared.CallState.{CallState}
use Rattle.swap_calls.specs.declared.CallState.TheVariants.{Idle, Room, Reading}
use Rattle.swap_table.specs.declared.DiskStep.{DiskStep}
use Rattle.swap_table.specs.Ports.{Prog, Ret, AskDisk, AskFabric, answering, and_then, Along}
use Rattle.swap_wire.specs.declared.Event.TheVariants as event
use Rattle.swap_table.specs.declared.TheConstants.{MOST_LINKS}
use Rattle.swap_table.specs.Device as device
use Rattle.swap_table.specs.Device.{Device, Heard, enter_entry, lost_after, wrote_after, took_after, took_back}
use Rattle.swap_table.specs.Happens.{happens, seen_by, see_link}
use Rattle.swap_table.specs.Goes.{Asked, Nothing, OfDisk, OfFabric, Goes, ends, first, asks_disk, asks_fabric, After, by}
use Rattle.swap_table.specs.Moves.{Within, within_any, Speaker, quiet_speaker, Sends, write, read, borrow, query, query_too, Hears, roomy, lent, refused, written, brought, asked_rate, told_to_go, Move, enters, gives, faults, waits_for_room, rates_change, lets_go, gives_up, starts, waits_for_disk, takes, lets_finish, sends, finds_down, raises, speaks, speaks_to_nobody, hears, hears_nothing, loses, misunderstands, breaks_off, far}
use Rattle.swap_table.specs.Comes.{Linked, Comes, ComesTo, refuses, rests, accepts, gives_page, fails, keeps_page, reads, starts_write, takes_back, links, brings}
use Rattle.swap_table.proofs.EventsComeToTheirEnds.{linked_keep, happens_comes}
use Rattle.swap_table.proofs.Programs.{Leads-Along}
use Rattle.swap_table.proofs.EventsGoByMoves.{Names, happens_fares}
use Rattle.swap_table.proofs.HistoryAgreement.{get_or-map_idle}
use Rattle.swap_table.proofs.RowsStay.{set_either}
use Rattle.swap_world.specs.World.{IsStep}
use Rattle.swap_world.specs.Failures.{is_start_of}
use Rattle.swap_world.specs.Runs.{IsRun, begin, effect, without, polled}
use Rattle.swap_world.specs.Since.{ends_by, ends_link, EndsIn, AcceptsOut, SinceStart, asked_along, AcceptedSince, EndedSince}
use Rattle.swap_world.proofs.HandedIsKept.{start_is_fresh}

-- a property of one call's state, before one call was set, and before each was mapped
module _ (N : CallState → Type 0) (idle_not : N Idle → ⊥) (c : Caller) where
  set_back :
      (cs : Calls) (a : Caller) (call : Call) → (a.0 ≡ c.0 → N call.state → N (state_of cs c)) → N (state_of (calls.with_call cs a call) c) → N (state_of cs c)
  set_back cs a call own =
      set_either (λ (x : Call). N x.state → N (state_of cs c)) cs a.0 c.0 call idle_call (λ n. absurd (idle_not n)) (λ other n. n) (λ same. own (sym same))

  map_back : (cs : Calls) (g : CallState → CallState) → g Idle ≡ Idle → N (state_of (map (calls.with_state g) cs) c) → N (g (state_of cs c))
  map_back cs g is n =
      let P : Call → Type 0 = λ x. N x.state in subst P (get_or-map_idle (calls.with_state g) cs c.0 (ap (λ s. record { state = s; bytes = [] }) is)) n

-- a call whose link was lost
abbrev pub IsLostBy : Lender → CallState → Type 0
IsLostBy l (Reading p n (via.Lender m) arrived.Lost newer since) = m.0 ≡ l.0
IsLostBy l _ = ⊥

lost_newer : (l : Lender) (p : Page) (state : CallState) → IsLostBy l (calls.newer_if_reads p state) → IsLostBy l state
lost_newer l p Idle is = is
lost_newer l p (Room q since) is = is
lost_newer l p (Reading q n via.Disk how newer since) is = absurd is
lost_newer l p (Reading q n (via.Lender m) arrived.Lost newer since) is = is
lost_newer l p (Reading q n (via.Lender m) arrived.Waiting newer since) is = absurd is
lost_newer l p (Reading q n (via.Lender m) arrived.Came newer since) is = absurd is
lost_newer l p (Reading q n (via.Lender m) arrived.Failed newer since) is = absurd is

lost_through : (l m : Lender) (state : CallState) → IsLostBy l (calls.lost_if_through m state) → IsLostBy l state ⊎ (m.0 ≡ l.0)
lost_through l m Idle is = absurd is
lost_through l m (Room q since) is = absurd is
lost_through l m (Reading q n via.Disk arrived.Waiting newer since) is = absurd is
lost_through l m (Reading q n via.Disk arrived.Came newer since) is = absurd is
lost_through l m (Reading q n via.Disk arrived.Failed newer since) is = absurd is
lost_through l m (Reading q n via.Disk arrived.Lost newer since) is = absurd is
lost_through l m (Reading q n (via.Lender o) arrived.Lost newer since) is = inl is
lost_through l m (Reading q n (via.Lender o) arrived.Came newer since) is = absurd is
lost_through l m (Reading q n (via.Lender o) arrived.Failed newer since) is = absurd is
lost_through l m (Reading q n (via.Lender o) arrived.Waiting newer since) is = go (o.0 == m.0) refl is
  where
    go :
        (b : Bool) → (o.0 == m.0) ≡ b → IsLostBy l (Reading q n (via.Lender o) (cond b arrived.Lost arrived.Waiting) newer since)
        → IsLostBy l (Reading q n (via.Lender o) arrived.Waiting newer since) ⊎ (m.0 ≡ l.0)
    go true e is = inr (sym (eqb-true o.0 m.0 e) ∙ is)
    go false e is = absurd is

lost_came : (l : Lender) (bytes : List ℕ) (call : Call) → IsLostBy l (calls.arrives arrived.Came bytes call call.state).state → IsLostBy l call.state
lost_came l bytes call = by call.state (λ is. is)
  where
    by : (state : CallState) → (IsLostBy l call.state → IsLostBy l state) → IsLostBy l (calls.arrives arrived.Came bytes call state).state → IsLostBy l state
    by Idle same is = same is
    by (Room p since) same is = same is
    by (Reading p n via.Disk arrived.Waiting newer since) same is = absurd is
    by (Reading p n (via.Lender m) arrived.Waiting newer since) same is = absurd is
    by (Reading p n v arrived.Came newer since) same is = same is
    by (Reading p n v arrived.Failed newer since) same is = same is
    by (Reading p n v arrived.Lost newer since) same is = same is

lost_failed : (l : Lender) (call : Call) → IsLostBy l (calls.arrives arrived.Failed [] call call.state).state → IsLostBy l call.state
lost_failed l call = by call.state (λ is. is)
  where
    by : (state : CallState) → (IsLostBy l call.state → IsLostBy l state) → IsLostBy l (calls.arrives arrived.Failed [] call state).state → IsLostBy l state
    by Idle same is = same is
    by (Room p since) same is = same is
    by (Reading p n via.Disk arrived.Waiting newer since) same is = absurd is
    by (Reading p n (via.Lender m) arrived.Waiting newer since) same is = absurd is
    by (Reading p n v arrived.Came newer since) same is = same is
    by (Reading p n v arrived.Failed newer since) same is = same is
    by (Reading p n v arrived.Lost newer since) same is = same is

-- lists of calls of the ports
nil_behind : (xs : List Asked) → xs ++ [] ≡ xs
nil_behind [] = refl
nil_behind (x ∷ xs) = ap (λ ys. x ∷ ys) (nil_behind xs)

one_before : (xs : List Asked) (x : Asked) (ys : List Asked) → (xs ++ x ∷ []) ++ ys ≡ xs ++ x ∷ ys
one_before [] x ys = refl
one_before (z ∷ xs) x ys = ap (λ zs. z ∷ zs) (one_before xs x ys)

ends_more : (l : Lender) (xs : List Asked) (x : Asked) → EndsIn l xs → EndsIn l (xs ++ x ∷ [])
ends_more l [] x none = absurd none
ends_more l (y ∷ xs) x (inl is) = inl is
ends_more l (y ∷ xs) x (inr more) = inr (ends_more l xs x more)

ends_last : (l : Lender) (xs : List Asked) (x : Asked) → ends_link l x ≡ true → EndsIn l (xs ++ x ∷ [])
ends_last l [] x is = inl is
ends_last l (y ∷ xs) x is = inr (ends_last l xs x is)

abbrev pub with_asked : List Asked → Asked → List Asked
with_asked before Nothing = before
with_asked before (OfDisk call r) = before ++ OfDisk call r ∷ []
with_asked before (OfFabric call r) = before ++ OfFabric call r ∷ []

-- the link that an event makes anew
abbrev pub made_anew : Event → ℕ → Type 0
made_anew (event.Connect m) n = m.0 ≡ n
made_anew _ n = ⊥

-- each way through a program ends a link
abbrev pub MustEnd : {A : Type 0} → Lender → Prog A → Type 0
MustEnd l (Ret a) = ⊥
MustEnd l (AskDisk call next) = (r : DiskAnswer call) → MustEnd l (next r)
MustEnd l (AskFabric call next) = ((r : FabricAnswer call) → ends_by l call r ≡ true) ⊎ ((r : FabricAnswer call) → MustEnd l (next r))

answering_ends : {A B : Type 0} (l : Lender) (g : A → B) (p : Prog A) → MustEnd l p → MustEnd l (answering g p)
answering_ends l g (Ret a) must = must
answering_ends l g (AskDisk call next) must = λ r. answering_ends l g (next r) (must r)
answering_ends l g (AskFabric call next) (inl ends_it) = inl ends_it
answering_ends l g (AskFabric call next) (inr must) = inr (λ r. answering_ends l g (next r) (must r))

then_ends : {A B : Type 0} (l : Lender) (p : Prog A) (next : A → Prog B) → ((a : A) → MustEnd l (next a)) → MustEnd l (and_then p next)
then_ends l (Ret a) next must = must a
then_ends l (AskDisk call more) next must = λ r. then_ends l (more r) next must
then_ends l (AskFabric call more) next must = inr (λ r. then_ends l (more r) next must)

-- what callers may name, where the links that may be made anew are these
abbrev pub making : (ℕ → Type 0) → Within
making made = record within_any { lender = λ l. made l.0 }

names_making : (d : Device) (page : List ℕ) (e : Event) → Names (making (made_anew e)) d page e
names_making d page (event.PageOut c p) = (tt, tt)
names_making d page (event.PageIn c p) = (tt, tt)
names_making d page (event.Finish c) = tt
names_making d page (event.Map t l) = tt
names_making d page (event.Connect l) = refl
names_making d page (event.Give l) = tt
names_making d page (event.Cut l a b) = tt
names_making d page (event.Crash l) = tt
names_making d page (event.Host l used word) = tt
names_making d page e = tt

module _ (made : ℕ → Type 0) (d0 : Device) (c : Caller) where
  -- where the call's link is lost, it was before, or is to be made anew, or a call of the fabric has ended it
  abbrev pub LossIsAsked : List Asked → Device → Type 0
  LossIsAsked before d = (l : Lender) → IsLostBy l (state_of d.calls c) → (IsLostBy l (state_of d0.calls c) ⊎ made l.0) ⊎ EndsIn l before

  abbrev pub Back : Calls → Calls → Type 0
  Back cs now = (l : Lender) → IsLostBy l (state_of now c) → IsLostBy l (state_of cs c)

  set_call_back : (cs : Calls) (a : Caller) (call : Call) → ((l : Lender) → IsLostBy l call.state → ⊥) → Back cs (calls.with_call cs a call)
  set_call_back cs a call none l = set_back (IsLostBy l) (λ x. x) c cs a call (λ same n. absurd (none l n))

  entered_back : (d : Device) (a : Caller) (p : Page) (bytes : List ℕ) → Back d.calls (enter_entry d a p bytes).calls
  entered_back d a p bytes l is =
      lost_newer l p (state_of d.calls c)
      (map_back (IsLostBy l) (λ x. x) c d.calls (calls.newer_if_reads p) refl (set_call_back (calls.paged_out d.calls p) a idle_call (λ m n. n) l is))

  came_back : (cs : Calls) (a : Caller) (bytes : List ℕ) → Back cs (calls.came_after cs a bytes)
  came_back cs a bytes l =
      set_back (IsLostBy l) (λ x. x) c cs a _ (λ same n. subst (λ i. IsLostBy l (state_of cs (record { 0 = i }))) same (lost_came l bytes (call_of cs a) n))

  failed_back : (cs : Calls) (a : Caller) → Back cs (calls.failed_after cs a)
  failed_back cs a l =
      set_back (IsLostBy l) (λ x. x) c cs a _ (λ same n. subst (λ i. IsLostBy l (state_of cs (record { 0 = i }))) same (lost_failed l (call_of cs a) n))

  took_back_back : (d : Device) (taken : Option Taken) → Back d.calls (took_back d taken).0.calls
  took_back_back d None l is = is
  took_back_back d (Some t) l is = by t.done.which t.done.ok l is
    where
      wrote_one : (p : Page) (copy : Option Copy) (ok : Bool) → Back d.calls (wrote_after d p copy ok).0.calls
      wrote_one p None ok l is = is
      wrote_one p (Some copy) true l is = is
      wrote_one p (Some copy) false l is = is

      by : (w : DiskWhich) (ok : Bool) → Back d.calls (took_after d w t.done.page ok t.bytes).0.calls
      by (which.Write p) ok = wrote_one t.done.page (queue.flying d.queue t.done.page) ok
      by (which.Read a) true = came_back d.calls a t.bytes
      by (which.Read a) false = failed_back d.calls a

  -- a move that leaves the call, and one that loses a link by what it asks
  stays : (before : List Asked) (asked : Asked) (d e : Device) → Back d.calls e.calls → LossIsAsked before d → LossIsAsked (with_asked before asked) e
  stays before Nothing d e back was l is = was l (back l is)
  stays before (OfDisk call r) d e back was l is = elim (was l (back l is)) [ inl x ↦ inl x | inr x ↦ inr (ends_more l before (OfDisk call r) x) ]
  stays before (OfFabric call r) d e back was l is = elim (was l (back l is)) [ inl x ↦ inl x | inr x ↦ inr (ends_more l before (OfFabric call r) x) ]

  loses_link :
      (before : List Asked) (call : FabricCall) (r : FabricAnswer call) (d : Device) (m : Lender) → ((l : Lender) → m.0 ≡ l.0 → ends_by l call r ≡ true)
      → LossIsAsked before d → LossIsAsked (before ++ OfFabric call r ∷ []) (lost_after d m)
  loses_link before call r d m ends_it was l is =
      elim (lost_through l m (state_of d.calls c) (map_back (IsLostBy l) (λ x. x) c d.calls (calls.lost_if_through m) refl is)) [
        | inl n ↦ elim (was l n) [ inl x ↦ inl x | inr x ↦ inr (ends_more l before (OfFabric call r) x) ]
        | inr same ↦ inr (ends_last l before (OfFabric call r) (ends_it l same))
      ]

  sent_back : (d : Device) (l : Lender) (q : Parcel) (e base : Device) → Sends (making made) d l q e base → Back d.calls e.calls × Back d.calls base.calls
  sent_back d l q e base (write {c = a} {p = p} {bytes = bytes} outs is) = (entered_back d a p bytes, entered_back d a p bytes)
  sent_back d l q e base (read {c = a} ins within is none at) = (set_call_back d.calls a _ (λ m n. n), λ m n. n)
  sent_back d l q e base (borrow within may) = ((λ m n. n), λ m n. n)
  sent_back d l q e base (query within may) = ((λ m n. n), λ m n. n)
  sent_back d l q e base (query_too within state other may) = ((λ m n. n), λ m n. n)

  heard_back : (d : Device) (l : Lender) (q : Parcel) (x : Heard) → Hears d l q x → Back d.calls x.device.calls
  heard_back d l q e (roomy ring says same) m n = n
  heard_back d l q e (asked_rate says at) m n = n
  heard_back d l q e (told_to_go says at) m n = n
  heard_back d l q e (lent ring says same none) m n = n
  heard_back d l q e (refused ring says same) m n = n
  heard_back d l q e (written ring says named) m n = n
  heard_back d l q e (brought {c = a} ring says named) m n = came_back d.calls a q.page m n

  each :
      (before : List Asked) (x : Speaker) (asked : Asked) (y : Speaker) → Move (making made) x asked y → LossIsAsked before x.device
      → LossIsAsked (with_asked before asked) y.device
  each before x asked y (enters {d = d} {c = a} {p = p} {bytes = bytes} outs) was =
      stays before asked d (enter_entry d a p bytes) (entered_back d a p bytes) was
  each before x asked y (gives {d = d} {c = a} given) was = stays before asked d y.device (set_call_back d.calls a idle_call (λ m n. n)) was
  each before x asked y (faults {d = d} {c = a} why) was = stays before asked d y.device (set_call_back d.calls a idle_call (λ m n. n)) was
  each before x asked y (waits_for_room {d = d} a p bytes e within hands) was = stays before asked d y.device (set_call_back d.calls a _ (λ m n. n)) was
  each before x asked y (rates_change {d = d} rates) was = stays before asked d y.device (λ m n. n) was
  each before x asked y (lets_go {d = d} m within up) was = λ l is.
      elim (lost_through l m (state_of d.calls c) (map_back (IsLostBy l) (λ x. x) c d.calls (calls.lost_if_through m) refl is))
      [ inl n ↦ was l n | inr same ↦ inl (inr (subst made same within)) ]
  each before x asked y (gives_up {d = d} l t off asks) was = stays before asked d y.device (λ m n. n) was
  each before x asked y (starts {d = d} el ec) was = stays before asked d y.device (λ m n. n) was
  each before x asked y (waits_for_disk {d = d} {c = a} ins within is none) was = stays before asked d y.device (set_call_back d.calls a _ (λ m n. n)) was
  each before x asked y (takes {d = d} {taken = taken}) was = stays before asked d y.device (took_back_back d taken) was
  each before x asked y (lets_finish {d = d}) was = stays before asked d y.device (λ m n. n) was
  each before x asked y (sends {d = d} {e = e} {base = base} {l = l} {q = q} one) was = stays before asked d e (sent_back d l q e base one).0 was
  each before x asked y (finds_down {d = d} {e = e} {base = base} {l = l} {q = q} one) was =
      loses_link before (Send l q) sent.Down base l (λ m same. eq-eqb l.0 m.0 same) (λ m n. was m ((sent_back d l q e base one).1 m n))
  each before x asked y (raises {d = d} within off) was = stays before asked d y.device (λ m n. n) was
  each before x asked y (speaks {d = d} word) was = stays before asked d d (λ m n. n) was
  each before x asked y (speaks_to_nobody {d = d} {l = l} {q = q} word) was = loses_link before (Send l q) sent.Down d l (λ m same. eq-eqb l.0 m.0 same) was
  each before x asked y (hears {d = d} {h = heard} {l = l} {q = q} up one) was = stays before asked d heard.device (heard_back d l q heard one) was
  each before x asked y (hears_nothing {d = d} up) was = stays before asked d d (λ m n. n) was
  each before x asked y (loses {d = d} {l = l} up) was = loses_link before (Take l) LinkLost d l (λ m same. eq-eqb l.0 m.0 same) was
  each before x asked y (misunderstands {d = d} up) was = stays before asked d d (λ m n. n) was
  each before x asked y (breaks_off {d = d} {l = l} {r = r}) was = loses_link before (End l) r d l (λ m same. eq-eqb l.0 m.0 same) was
  each before x asked y (far {d = d} one) was = stays before asked d d (λ m n. n) was

  -- along a program
  module _ {D F : Type 0} (disk_moves : D → (call : DiskCall) → DiskAnswer call → D → Type 0)
      (moves : F → (call : FabricCall) → FabricAnswer call → F → Type 0) where
    mutual
      along_asked :
          {A : Type 0} (Q : A → Speaker → Type 0) (before : List Asked) (k : D) (f : F) (k' : D) (f' : F) (a : A) (s : Speaker) (p : Prog A)
          → Goes (Move (making made)) Q s p → (along : Along disk_moves moves p k f k' f' a) → LossIsAsked before s.device
          → (t : Speaker) × Q a t × LossIsAsked (before ++ asked_along disk_moves moves p k f k' f' a along) t.device
      along_asked Q before k f k' f' a s (Ret b) (ends q) along was =
          (s, subst (λ x. Q x s) (sym along.2) q, subst (λ xs. LossIsAsked xs s.device) (sym (nil_behind before)) was)
      along_asked Q before k f k' f' a s p (first {t = t} m g) along was = along_asked Q before k f k' f' a t p g along (each before s Nothing t m was)
      along_asked Q before k f k' f' a s (AskDisk call next) (asks_disk g) along was =
          let r = after_asked Q before along.1 f k' f' a s (OfDisk call along.0) (next along.0) (g along.0) along.3 was in
          (r.0, r.1, subst (λ xs. LossIsAsked xs r.0.device) (one_before before (OfDisk call along.0) _) r.2)
      along_asked Q before k f k' f' a s (AskFabric call next) (asks_fabric g) along was =
          let r = after_asked Q before k along.1 k' f' a s (OfFabric call along.0) (next along.0) (g along.0) along.3 was in
          (r.0, r.1, subst (λ xs. LossIsAsked xs r.0.device) (one_before before (OfFabric call along.0) _) r.2)

      after_asked :
          {A : Type 0} (Q : A → Speaker → Type 0) (before : List Asked) (k : D) (f : F) (k' : D) (f' : F) (a : A) (s : Speaker) (asked : Asked) (p : Prog A)
          → After (Move (making made)) Q s asked p → (along : Along disk_moves moves p k f k' f' a) → LossIsAsked before s.device
          → (t : Speaker) × Q a t × LossIsAsked (with_asked before asked ++ asked_along disk_moves moves p k f k' f' a along) t.device
      after_asked Q before k f k' f' a s asked p (by {t = t} m g) along was =
          along_asked Q (with_asked before asked) k f k' f' a t p g along (each before s asked t m was)

-- a call whose page was paged out since it was started
abbrev pub IsNewerOf : Page → CallState → Type 0
IsNewerOf p (Reading q n v how newer since) = (q.0 ≡ p.0) × (newer ≡ true)
IsNewerOf p _ = ⊥

newer_through : (p : Page) (m : Lender) (state : CallState) → IsNewerOf p (calls.lost_if_through m state) → IsNewerOf p state
newer_through p m Idle is = is
newer_through p m (Room q since) is = is
newer_through p m (Reading q n via.Disk how newer since) is = is
newer_through p m (Reading q n (via.Lender o) arrived.Waiting newer since) is = is
newer_through p m (Reading q n (via.Lender o) arrived.Came newer since) is = is
newer_through p m (Reading q n (via.Lender o) arrived.Failed newer since) is = is
newer_through p m (Reading q n (via.Lender o) arrived.Lost newer since) is = is

newer_arrives : (p : Page) (how : Arrived) (bytes : List ℕ) (call : Call) → IsNewerOf p (calls.arrives how bytes call call.state).state → IsNewerOf p call.state
newer_arrives p how bytes call = by call.state (λ is. is)
  where
    by : (state : CallState) → (IsNewerOf p call.state → IsNewerOf p state) → IsNewerOf p (calls.arrives how bytes call state).state → IsNewerOf p state
    by Idle same is = same is
    by (Room q since) same is = same is
    by (Reading q n v arrived.Waiting newer since) same is = is
    by (Reading q n v arrived.Came newer since) same is = same is
    by (Reading q n v arrived.Failed newer since) same is = same is
    by (Reading q n v arrived.Lost newer since) same is = same is

newer_marked : (p q : Page) (state : CallState) → IsNewerOf p (calls.newer_if_reads q state) → IsNewerOf p state ⊎ (q.0 ≡ p.0)
newer_marked p q Idle is = absurd is
newer_marked p q (Room r since) is = absurd is
newer_marked p q (Reading r n v how true since) is = inl (is.0, refl)
newer_marked p q (Reading r n v how false since) is = inr (eqb-true q.0 r.0 is.1 ∙ is.0)

module _ (c : Caller) (p : Page) where
  abbrev pub NewerBack : Calls → Calls → Type 0
  NewerBack cs now = IsNewerOf p (state_of now c) → IsNewerOf p (state_of cs c)

  set_newer : (cs : Calls) (a : Caller) (call : Call) → (IsNewerOf p call.state → ⊥) → NewerBack cs (calls.with_call cs a call)
  set_newer cs a call none = set_back (IsNewerOf p) (λ x. x) c cs a call (λ same n. absurd (none n))

  arrived_newer :
      (cs : Calls) (a : Caller) (how : Arrived) (bytes : List ℕ) → NewerBack cs (calls.with_call cs a (calls.arrives how bytes (call_of cs a) (state_of cs a)))
  arrived_newer cs a how bytes =
      set_back (IsNewerOf p) (λ x. x) c cs a _
      (λ same n. subst (λ i. IsNewerOf p (state_of cs (record { 0 = i }))) same (newer_arrives p how bytes (call_of cs a) n))

  took_newer : (d : Device) (taken : Option Taken) → NewerBack d.calls (took_back d taken).0.calls
  took_newer d None is = is
  took_newer d (Some t) is = by t.done.which t.done.ok is
    where
      wrote_one : (q : Page) (copy : Option Copy) (ok : Bool) → NewerBack d.calls (wrote_after d q copy ok).0.calls
      wrote_one q None ok is = is
      wrote_one q (Some copy) true is = is
      wrote_one q (Some copy) false is = is

      by : (w : DiskWhich) (ok : Bool) → NewerBack d.calls (took_after d w t.done.page ok t.bytes).0.calls
      by (which.Write q) ok = wrote_one t.done.page (queue.flying d.queue t.done.page) ok
      by (which.Read a) true = arrived_newer d.calls a arrived.Came t.bytes
      by (which.Read a) false = arrived_newer d.calls a arrived.Failed []

  linked_newer : (x y : Device) → Linked x y → NewerBack x.calls y.calls
  linked_newer x y used =
      linked_keep (λ z. NewerBack x.calls z.calls) (λ z r made k. k)
      (λ z l k n. k (newer_through p l (state_of z.calls c) (map_back (IsNewerOf p) (λ x. x) c z.calls (calls.lost_if_through l) refl n))) x y used (λ n. n)

  -- after an event a call is newer where it was, or a page-out of its page was accepted
  newer_step :
      (d d' : Device) (page : List ℕ) (e : Event) (s : Seen) → Comes d page e d' s → IsNewerOf p (state_of d'.calls c)
      → IsNewerOf p (state_of d.calls c) ⊎ AcceptsOut p d d'
  newer_step d d' page e s (refuses new) n = inl n
  newer_step d d' page e s (rests new rest) n = inl n
  newer_step d d' page e s (accepts {c = a} {p = q} {bytes = bytes} step used) n =
      let x : Device = enter_entry d a q bytes in
      let history : d'.history ≡ x.history = linked_keep (λ z. z.history ≡ x.history) (λ z r made k. k) (λ z l k. k) x d' used refl in
      let marked =
      map_back (IsNewerOf p) (λ x. x) c d.calls (calls.newer_if_reads q) refl
      (set_newer (calls.paged_out d.calls q) a idle_call (λ x. x) (linked_newer x d' used n)) in
      elim (newer_marked p q (state_of d.calls c) marked) [
        | inl was ↦ inl was
        | inr same ↦ inr (ap (λ H. last H p) history ∙ ap (λ b. cond b (Some (next_name d.history)) (last d.history p)) (eq-eqb q.0 p.0 same))
      ]
  newer_step d d' page e s (gives_page {c = a} step) n = inl (set_newer d.calls a idle_call (λ x. x) n)
  newer_step d d' page e s (fails {c = a} why) n = inl (set_newer d.calls a idle_call (λ x. x) n)
  newer_step d d' page e s (keeps_page {c = a} is) n = inl (set_newer d.calls a _ (λ x. x) n)
  newer_step d d' page e s (reads {c = a} {d' = x} v step newest used) n = inl (linked_newer d x used (set_newer x.calls a _ (λ r. not r.1) n))
    where
      not : false ≡ true → ⊥
      not e = cc
  newer_step d d' page e s starts_write n = inl n
  newer_step d d' page e s (takes_back taken) n = inl (took_newer d taken n)
  newer_step d d' page e s (links new of_link used) n = inl (linked_newer d d' used n)
  newer_step d d' page e s (brings a bytes r used) n =
      inl (arrived_newer d.calls a arrived.Came bytes (linked_newer (record d { remote = r; calls = calls.came_after d.calls a bytes }) d' used n))

-- no call that waits for the disk loses a link
abbrev pub IsLostAtDisk : CallState → Type 0
IsLostAtDisk (Reading p n via.Disk arrived.Lost newer since) = Unit {0}
IsLostAtDisk _ = ⊥

disk_through : (m : Lender) (state : CallState) → IsLostAtDisk (calls.lost_if_through m state) → IsLostAtDisk state
disk_through m Idle is = is
disk_through m (Room q since) is = is
disk_through m (Reading q n via.Disk how newer since) is = is
disk_through m (Reading q n (via.Lender o) arrived.Waiting newer since) is = go (o.0 == m.0) is
  where
    go : (b : Bool) → IsLostAtDisk (Reading q n (via.Lender o) (cond b arrived.Lost arrived.Waiting) newer since) → ⊥
    go true is = is
    go false is = is
disk_through m (Reading q n (via.Lender o) arrived.Came newer since) is = is
disk_through m (Reading q n (via.Lender o) arrived.Failed newer since) is = is
disk_through m (Reading q n (via.Lender o) arrived.Lost newer since) is = is

disk_marked : (q : Page) (state : CallState) → IsLostAtDisk (calls.newer_if_reads q state) → IsLostAtDisk state
disk_marked q Idle is = is
disk_marked q (Room r since) is = is
disk_marked q (Reading r n via.Disk arrived.Lost newer since) is = is
disk_marked q (Reading r n via.Disk arrived.Waiting newer since) is = is
disk_marked q (Reading r n via.Disk arrived.Came newer since) is = is
disk_marked q (Reading r n via.Disk arrived.Failed newer since) is = is
disk_marked q (Reading r n (via.Lender m) how newer since) is = is

disk_came : (bytes : List ℕ) (call : Call) → IsLostAtDisk (calls.arrives arrived.Came bytes call call.state).state → IsLostAtDisk call.state
disk_came bytes call = by call.state (λ is. is)
  where
    by :
        (state : CallState) → (IsLostAtDisk call.state → IsLostAtDisk state) → IsLostAtDisk (calls.arrives arrived.Came bytes call state).state
        → IsLostAtDisk state
    by Idle same is = same is
    by (Room q since) same is = same is
    by (Reading q n via.Disk arrived.Waiting newer since) same is = absurd is
    by (Reading q n (via.Lender m) arrived.Waiting newer since) same is = absurd is
    by (Reading q n v arrived.Came newer since) same is = same is
    by (Reading q n v arrived.Failed newer since) same is = same is
    by (Reading q n v arrived.Lost newer since) same is = same is

disk_failed : (call : Call) → IsLostAtDisk (calls.arrives arrived.Failed [] call call.state).state → IsLostAtDisk call.state
disk_failed call = by call.state (λ is. is)
  where
    by :
        (state : CallState) → (IsLostAtDisk call.state → IsLostAtDisk state) → IsLostAtDisk (calls.arrives arrived.Failed [] call state).state
        → IsLostAtDisk state
    by Idle same is = same is
    by (Room q since) same is = same is
    by (Reading q n via.Disk arrived.Waiting newer since) same is = absurd is
    by (Reading q n (via.Lender m) arrived.Waiting newer since) same is = absurd is
    by (Reading q n v arrived.Came newer since) same is = same is
    by (Reading q n v arrived.Failed newer since) same is = same is
    by (Reading q n v arrived.Lost newer since) same is = same is

module _ (c : Caller) where
  abbrev pub DiskBack : Calls → Calls → Type 0
  DiskBack cs now = IsLostAtDisk (state_of now c) → IsLostAtDisk (state_of cs c)

  set_disk : (cs : Calls) (a : Caller) (call : Call) → (IsLostAtDisk call.state → ⊥) → DiskBack cs (calls.with_call cs a call)
  set_disk cs a call none = set_back IsLostAtDisk (λ x. x) c cs a call (λ same n. absurd (none n))

  came_disk : (cs : Calls) (a : Caller) (bytes : List ℕ) → DiskBack cs (calls.came_after cs a bytes)
  came_disk cs a bytes =
      set_back IsLostAtDisk (λ x. x) c cs a _ (λ same n. subst (λ i. IsLostAtDisk (state_of cs (record { 0 = i }))) same (disk_came bytes (call_of cs a) n))

  failed_disk : (cs : Calls) (a : Caller) → DiskBack cs (calls.failed_after cs a)
  failed_disk cs a =
      set_back IsLostAtDisk (λ x. x) c cs a _ (λ same n. subst (λ i. IsLostAtDisk (state_of cs (record { 0 = i }))) same (disk_failed (call_of cs a) n))

  took_disk : (d : Device) (taken : Option Taken) → DiskBack d.calls (took_back d taken).0.calls
  took_disk d None is = is
  took_disk d (Some t) is = by t.done.which t.done.ok is
    where
      wrote_one : (q : Page) (copy : Option Copy) (ok : Bool) → DiskBack d.calls (wrote_after d q copy ok).0.calls
      wrote_one q None ok is = is
      wrote_one q (Some copy) true is = is
      wrote_one q (Some copy) false is = is

      by : (w : DiskWhich) (ok : Bool) → DiskBack d.calls (took_after d w t.done.page ok t.bytes).0.calls
      by (which.Write q) ok = wrote_one t.done.page (queue.flying d.queue t.done.page) ok
      by (which.Read a) true = came_disk d.calls a t.bytes
      by (which.Read a) false = failed_disk d.calls a

  linked_disk : (x y : Device) → Linked x y → DiskBack x.calls y.calls
  linked_disk x y used =
      linked_keep (λ z. DiskBack x.calls z.calls) (λ z r made k. k)
      (λ z l k n. k (disk_through l (state_of z.calls c) (map_back IsLostAtDisk (λ x. x) c z.calls (calls.lost_if_through l) refl n))) x y used (λ n. n)

  disk_step : (d d' : Device) (page : List ℕ) (e : Event) (s : Seen) → Comes d page e d' s → DiskBack d.calls d'.calls
  disk_step d d' page e s (refuses new) n = n
  disk_step d d' page e s (rests new rest) n = n
  disk_step d d' page e s (accepts {c = a} {p = q} {bytes = bytes} step used) n =
      disk_marked q (state_of d.calls c)
      (map_back IsLostAtDisk (λ x. x) c d.calls (calls.newer_if_reads q) refl
      (set_disk (calls.paged_out d.calls q) a idle_call (λ x. x) (linked_disk (enter_entry d a q bytes) d' used n)))
  disk_step d d' page e s (gives_page {c = a} step) n = set_disk d.calls a idle_call (λ x. x) n
  disk_step d d' page e s (fails {c = a} why) n = set_disk d.calls a idle_call (λ x. x) n
  disk_step d d' page e s (keeps_page {c = a} is) n = set_disk d.calls a _ (λ x. x) n
  disk_step d d' page e s (reads {c = a} {d' = x} via.Disk step newest used) n = linked_disk d x used (set_disk x.calls a _ (λ x. x) n)
  disk_step d d' page e s (reads {c = a} {d' = x} (via.Lender m) step newest used) n = linked_disk d x used (set_disk x.calls a _ (λ x. x) n)
  disk_step d d' page e s starts_write n = n
  disk_step d d' page e s (takes_back taken) n = took_disk d taken n
  disk_step d d' page e s (links new of_link used) n = linked_disk d d' used n
  disk_step d d' page e s (brings a bytes r used) n =
      came_disk d.calls a bytes (linked_disk (record d { remote = r; calls = calls.came_after d.calls a bytes }) d' used n)

-- so after every run
module _ {D F : Type 0} (disk_moves : D → (call : DiskCall) → DiskAnswer call → D → Type 0)
    (moves : F → (call : FabricCall) → FabricAnswer call → F → Type 0) where
  step_comes : (d d' : Device) (k k' : D) (f f' : F) (i : Input) (s : Seen) → IsStep disk_moves moves d k f i s d' k' f' → ComesTo d i.page i.event d' s
  step_comes d d' k k' f f' i s step =
      Leads-Along disk_moves moves (happens d i.page i.event) k f k' f' (d', s) _ (happens_comes disk_moves moves d k f i.page i.event) step

  pub newer_since :
      {first_ : Device} {disk : D} {fabric : F} {made : List (Input × Seen)} {d : Device} {k : D} {f : F} (c : Caller) (p : Page)
      (run : IsRun disk_moves moves first_ disk fabric made d k f)
      → (IsNewerOf p (state_of first_.calls c) → ⊥) → IsNewerOf p (state_of d.calls c) → AcceptedSince disk_moves moves c p run
  newer_since c p begin none n = absurd (none n)
  newer_since c p (effect {d = d} {k = k} {f = f} i s d' k' f' run range step has) none n = go (is_start_of c i.event s) refl (newer_since c p run none)
    where
      comes : ComesTo d i.page i.event d' s
      comes = step_comes d d' k k' f f' i s step

      go :
          (b : Bool) → is_start_of c i.event s ≡ b → (IsNewerOf p (state_of d.calls c) → AcceptedSince disk_moves moves c p run)
          → SinceStart b (AcceptsOut p d d' ⊎ AcceptedSince disk_moves moves c p run)
      go true is before =
          absurd
          (start_is_fresh (IsNewerOf p) (λ x. x) (λ q since x. x) (λ q m v since r. not r.1) (record d { rates = comes.0 }) d' i.page i.event s c comes.2 is n)
        where
          not : false ≡ true → ⊥
          not e = cc
      go false is before = elim (newer_step c p (record d { rates = comes.0 }) d' i.page i.event s comes.2 n) [ inl was ↦ inr (before was) | inr out ↦ inl out ]
  newer_since c p (without i s k' f' run range step has) none n = newer_since c p run none n
  newer_since c p (polled {d = d} step d' k' f' run along) none n =
      newer_since c p run none (took_newer c p d along.0 (subst (λ (x : Device × DiskStep). IsNewerOf p (state_of x.0.calls c)) along.3.2 n))

  -- a program that always ends a link
  must_end :
      {A : Type 0} (l : Lender) (p : Prog A) (k : D) (f : F) (k' : D) (f' : F) (a : A) (along : Along disk_moves moves p k f k' f' a) → MustEnd l p
      → EndsIn l (asked_along disk_moves moves p k f k' f' a along)
  must_end l (Ret b) k f k' f' a along must = absurd must
  must_end l (AskDisk call next) k f k' f' a along must = inr (must_end l (next along.0) along.1 f k' f' a along.3 (must along.0))
  must_end l (AskFabric call next) k f k' f' a along (inl ends_it) = inl (ends_it along.0)
  must_end l (AskFabric call next) k f k' f' a along (inr must) = inr (must_end l (next along.0) k along.1 k' f' a along.3 (must along.0))

  -- a link that is made anew ends the one before, where any is made
  anew_ends :
      (l : Lender) (d d' : Device) (page : List ℕ) (e : Event) (s : Seen) (k k' : D) (f f' : F)
      (along : Along disk_moves moves (happens d page e) k f k' f' (d', s))
      → made_anew e l.0 → EndsIn l (asked_along disk_moves moves (happens d page e) k f k' f' (d', s) along) ⊎ (d' ≡ d)
  anew_ends l d d' page (event.Connect m) s k k' f f' along same = go (nat_lt d.links_made MOST_LINKS) along
    where
      go : (b : Bool)
          (along : Along disk_moves moves
          (seen_by see_link (cond b (and_then (device.without_link d m) (λ x. device.connect_on x m)) (Ret (d, None)))) k f k' f'
          (d', s))
          → EndsIn l
          (asked_along disk_moves moves
          (seen_by see_link (cond b (and_then (device.without_link d m) (λ x. device.connect_on x m)) (Ret (d, None)))) k f k' f' (d', s) along)
          ⊎ (d' ≡ d)
      go true along =
          inl
          (must_end l _ k f k' f' (d', s) along
          (answering_ends l _ _ (then_ends l (device.without_link d m) (λ x. device.connect_on x m) (λ x. inl (λ r. eq-eqb m.0 l.0 same)))))
      go false along = inr (ap (λ (x : Device × Seen). x.0) along.2)
  anew_ends l d d' page e s k k' f f' along same = absurd same

  pub ended_since :
      {first_ : Device} {disk : D} {fabric : F} {made : List (Input × Seen)} {d : Device} {k : D} {f : F} (c : Caller) (l : Lender)
      (run : IsRun disk_moves moves first_ disk fabric made d k f)
      → (IsLostBy l (state_of first_.calls c) → ⊥) → IsLostBy l (state_of d.calls c) → EndedSince disk_moves moves c l run
  ended_since c l begin none n = absurd (none n)
  ended_since c l (effect {d = d} {k = k} {f = f} i s d' k' f' run range step has) none n = go (is_start_of c i.event s) refl (ended_since c l run none)
    where
      comes : ComesTo d i.page i.event d' s
      comes = step_comes d d' k k' f f' i s step

      asked : IsLostBy l (state_of d.calls c) ⊎ EndsIn l (asked_along disk_moves moves (happens d i.page i.event) k f k' f' (d', s) step)
      asked =
          let r =
          along_asked (made_anew i.event) d c disk_moves moves _ [] k f k' f' (d', s) (quiet_speaker d) (happens d i.page i.event)
          (happens_fares (making (made_anew i.event)) d i.page i.event (names_making d i.page i.event)) step (λ m x. inl (inl x)) in
          elim (r.2 l (subst (λ (x : Speaker). IsLostBy l (state_of x.device.calls c)) (sym r.1.0) n)) [
            | inl (inl was) ↦ inl was
            | inl (inr again) ↦
                elim (anew_ends l d d' i.page i.event s k k' f f' step again)
                [ inl now ↦ inr now | inr same ↦ inl (subst (λ (x : Device). IsLostBy l (state_of x.calls c)) same n) ]
            | inr now ↦ inr now
          ]

      go :
          (b : Bool) → is_start_of c i.event s ≡ b → (IsLostBy l (state_of d.calls c) → EndedSince disk_moves moves c l run)
          → SinceStart b (EndsIn l (asked_along disk_moves moves (happens d i.page i.event) k f k' f' (d', s) step) ⊎ EndedSince disk_moves moves c l run)
      go true is before = absurd (start_is_fresh (IsLostBy l) (λ x. x) (λ q since x. x) fresh (record d { rates = comes.0 }) d' i.page i.event s c comes.2 is n)
        where
          fresh : (q : Page) (m : EntryNo) (v : Via) (since : ℕ) → IsLostBy l (Reading q m v arrived.Waiting false since) → ⊥
          fresh q m via.Disk since x = x
          fresh q m (via.Lender o) since x = x
      go false is before = elim asked [ inl was ↦ inr (before was) | inr now ↦ inl now ]
  ended_since c l (without i s k' f' run range step has) none n = ended_since c l run none n
  ended_since c l (polled {d = d} step d' k' f' run along) none n =
      ended_since c l run none (took_back_back (λ x. ⊥) d c d along.0 l (subst (λ (x : Device × DiskStep). IsLostBy l (state_of x.0.calls c)) along.3.2 n))

  pub never_at_disk :
      {first_ : Device} {disk : D} {fabric : F} {made : List (Input × Seen)} {d : Device} {k : D} {f : F} (c : Caller)
      (run : IsRun disk_moves moves first_ disk fabric made d k f)
      → (IsLostAtDisk (state_of first_.calls c) → ⊥) → IsLostAtDisk (state_of d.calls c) → ⊥
  never_at_disk c begin none n = none n
  never_at_disk c (effect {d = d} {k = k} {f = f} i s d' k' f' run range step has) none n =
      never_at_disk c run none
      (let comes : ComesTo d i.page i.event d' s = step_comes d d' k k' f f' i s step in
      disk_step c (record d { rates = comes.0 }) d' i.page i.event s comes.2 n)
  never_at_disk c (without i s k' f' run range step has) none n = never_at_disk c run none n
  never_at_disk c (polled {d = d} step d' k' f' run along) none n =
      never_at_disk c run none (took_disk c d along.0 (subst (λ (x : Device × DiskStep). IsLostAtDisk (state_of x.0.calls c)) along.3.2 n))
