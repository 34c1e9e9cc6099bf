-- What a link sees of each move of the device.
use Rattle.std.proofs.Common.{◌≡◌, ℕ, ◌≤◌, ◌-◌, inl, inr, Bool, true, false, cond, ◌==◌, ◌&&◌, List, [], ◌∷◌, length, get_or, set, zero, suc, refl, sym, ap, ◌∙◌, subst, length-set, get_or-set_same, get_or-set_other, Option, Some}
use Rattle.std.proofs.lemmas.Bool.{cases_lt, cases_eq, eqb-true, eq-eqb, both_ways}
use Rattle.std.proofs.lemmas.List.{get_or_past}
use Rattle.swap_base.specs.declared.Page.{Page}
use Rattle.swap_base.specs.declared.Slab.{Slab}
use Rattle.swap_base.specs.declared.Caller.{Caller}
use Rattle.swap_base.specs.declared.EntryNo.{EntryNo}
use Rattle.swap_base.specs.declared.Origin.{Origin}
use Rattle.swap_base.specs.declared.CallKind.{CallKind}
use Rattle.swap_base.specs.declared.Lender.{Lender}
use Rattle.swap_base.specs.declared.Lease.{Lease}
use Rattle.swap_base.specs.Sizes.{Sizes, slab_of, zeros}
use Rattle.swap_record.specs.declared.Op.TheVariants as op
use Rattle.swap_record.specs.History.{History, Row, row_of, with_row, array}
use Rattle.swap_bits.specs.Bits.{has, without_number}
use Rattle.std.specs.List.{AllByRecursion}
use Rattle.swap_base.specs.declared.Via.{Via}
use Rattle.swap_base.specs.declared.Via.TheVariants as via
use Rattle.swap_calls.specs.Calls as calls
use Rattle.swap_calls.specs.Calls.{Call, Calls}
use Rattle.swap_calls.specs.declared.Arrived.{Arrived}
use Rattle.swap_calls.specs.declared.Arrived.TheVariants as arrived
use Rattle.swap_calls.specs.declared.CallState.{CallState}
use Rattle.swap_calls.specs.declared.CallState.TheVariants.{Idle, Room, Reading}
use Rattle.swap_rings.specs.declared.Request.{Request}
use Rattle.swap_rings.specs.declared.Request.TheVariants as request
use Rattle.swap_table.specs.Serves.{is_for_slab, flying_for, IsLeasedFrom, WaitsFrom, IsAwaited}
use Rattle.swap_table.proofs.AnswersKeepServing.{none_for}
use Rattle.swap_table.proofs.HistoryAgreement.{get_or-map_idle, state-paged_out}
use Rattle.swap_joint.specs.Brought.{kept_entry}
use Rattle.swap_slabs.specs.Slabs as slabs
use Rattle.swap_slabs.specs.Slabs.{has_lease, state_of, with_state}
use Rattle.swap_slabs.specs.declared.Reply.{Reply}
use Rattle.swap_slabs.specs.declared.SlabState.{SlabState}
use Rattle.swap_slabs.specs.declared.SlabState.TheVariants.{Local, Asking, Borrowing, Mapped, Draining}
use Rattle.swap_rings.specs.Rings as rings
use Rattle.swap_rings.specs.Rings.{LinkState, link_of, ring_of}
use Rattle.swap_remote.specs.Remote as remote
use Rattle.swap_remote.specs.Remote.{Remote, slab_for, has_page}
use Rattle.swap_remote.specs.lemmas.Cleared.{get_or-left}
use Rattle.swap_table.specs.Device.{Device, enter_entry, give, fault, lost_after}
use Rattle.swap_base.proofs.Lists.{by_page, by_caller, not_eqb}
use Rattle.swap_table.proofs.LinkTables.{by_slab, link-other, state-same, state-other}
use Rattle.swap_table.proofs.EntriesStay.{out_on}
use Rattle.swap_table.proofs.DiskAgreementLeft.{cleared_here}
use Rattle.swap_joint.specs.Sight.{SameLeases, FewerLeases, StaysLeased, KeepsEntries, KeepsBits, StillReads, SeesSame}
use Rattle.swap_joint.proofs.Facts.{still_all, leased_all}

-- entries

pub entries_stay : (H : History) → KeepsEntries H H
entries_stay H p e out = (out, refl)

pub entries_on : (H : History) (row : Row) → KeepsEntries H (row ∷ H)
entries_on H row p e out = out_on H row p e out

-- bits

pub bits_stay : (l : Lender) (d d' : Device) → d'.remote.bits ≡ d.remote.bits → d'.history ≡ d.history → KeepsBits l d d'
bits_stay l d d' bits history p k at set = (sym (ap (λ b. has b p.0) bits) ∙ set, ap (λ H. array (zeros d.sizes) H p) history)

-- leases

pub leases_stay : (l : Lender) (states : List SlabState) → SameLeases l states states
leases_stay l states t k = refl

pub leases_set :
    (l : Lender) (states : List SlabState) (t : Slab) (x : SlabState) → ((k : Lease) → has_lease l k x ≡ has_lease l k (state_of states t))
    → SameLeases l states (with_state states t x)
leases_set l states t x each u k =
    by_slab (λ u. has_lease l k (state_of (with_state states t x) u) ≡ has_lease l k (state_of states u)) t u
    (elim (cases_lt t.0 (length states)) [
      | inl within ↦ ap (has_lease l k) (state-same states t x within) ∙ each k
      | inr past ↦
          ap (has_lease l k)
          (get_or_past (set states t.0 x) t.0 Local (subst (λ n. n ≤ t.0) (sym (length-set states t.0 x)) past) ∙ sym (get_or_past states t.0 Local past))
    ])
    (λ other. ap (has_lease l k) (get_or-set_other states t.0 u.0 x Local other))

begun_lease : (l : Lender) (k : Lease) (x : SlabState) → has_lease l k (slabs.after_begin x) ≡ has_lease l k x
begun_lease l k Local = refl
begun_lease l k (Asking pair) = refl
begun_lease l k (Borrowing m) = refl
begun_lease l k (Mapped m j f) = refl
begun_lease l k (Draining m j f) = refl

pub leases_begun : (l : Lender) (states : List SlabState) (t : Slab) → SameLeases l states (slabs.begun_after states t)
leases_begun l states t = leases_set l states t (slabs.after_begin (state_of states t)) (λ k. begun_lease l k (state_of states t))

pub leases_borrowed : (l m : Lender) (states : List SlabState) (t : Slab) → state_of states t ≡ Local → SameLeases l states (slabs.borrowed_after states t m)
leases_borrowed l m states t local = leases_set l states t (Borrowing m) (λ k. ap (has_lease l k) (sym local))

pub leases_refused : (l m : Lender) (states : List SlabState) (t : Slab) → state_of states t ≡ Borrowing m → SameLeases l states (slabs.refused_after states t)
leases_refused l m states t is = leases_set l states t Local (λ k. ap (has_lease l k) (sym is))

-- a slab that is asked for, and one of whose lenders has replied
pub leases_asked :
    (l m : Lender) (states : List SlabState) (t : Slab) (second : Option Lender) → ((k : Lease) → has_lease l k (state_of states t) ≡ false)
    → SameLeases l states (slabs.asked_after states t m second)
leases_asked l m states t second none = leases_set l states t (Asking (slabs.pair_of m second)) (λ k. sym (none k))

answered_lease : (l m : Lender) (k : Lease) (r : Reply) (x : SlabState) → has_lease l k (slabs.after_answer x m r) ≡ has_lease l k x
answered_lease l m k r Local = refl
answered_lease l m k r (Asking pair) = go (slabs.waits (slabs.with_reply pair m r))
  where
    go : (b : Bool) → has_lease l k (cond b (Asking (slabs.with_reply pair m r)) Local) ≡ false
    go true = refl
    go false = refl
answered_lease l m k r (Borrowing o) = refl
answered_lease l m k r (Mapped o j f) = refl
answered_lease l m k r (Draining o j f) = refl

pub leases_answered : (l m : Lender) (states : List SlabState) (t : Slab) (r : Reply) → SameLeases l states (slabs.answered_after states t m r)
leases_answered l m states t r = leases_set l states t (slabs.after_answer (state_of states t) m r) (λ k. answered_lease l m k r (state_of states t))

-- a slab that drains gives its lease up once nothing flies, and no other
pub fewer_set :
    (l : Lender) (states : List SlabState) (t : Slab) (x : SlabState) → ((k : Lease) → has_lease l k x ≡ true → has_lease l k (state_of states t) ≡ true)
    → FewerLeases l states (with_state states t x)
fewer_set l states t x each u k =
    by_slab (λ u. has_lease l k (state_of (with_state states t x) u) ≡ true → has_lease l k (state_of states u) ≡ true) t u
    (elim (cases_lt t.0 (length states)) [
      | inl within ↦ (λ at. each k (sym (ap (has_lease l k) (state-same states t x within)) ∙ at))
      | inr past ↦
          (λ at.
          ap (has_lease l k)
          (get_or_past states t.0 Local past ∙ sym (get_or_past (set states t.0 x) t.0 Local (subst (λ n. n ≤ t.0) (sym (length-set states t.0 x)) past)))
          ∙ at)
    ])
    (λ other at. sym (ap (has_lease l k) (get_or-set_other states t.0 u.0 x Local other)) ∙ at)

drained_fewer : (l m : Lender) (j k : Lease) (f : ℕ) → has_lease l k (slabs.drain_to m j f) ≡ true → has_lease l k (Mapped m j f) ≡ true
drained_fewer l m j k f = go (f == 0)
  where
    go : (b : Bool) → has_lease l k (cond b Local (Draining m j f)) ≡ true → has_lease l k (Mapped m j f) ≡ true
    go true at = cc
    go false at = at

settled_fewer : (l : Lender) (k : Lease) (x : SlabState) → has_lease l k (slabs.after_settled x) ≡ true → has_lease l k x ≡ true
settled_fewer l k Local at = at
settled_fewer l k (Asking pair) at = at
settled_fewer l k (Borrowing m) at = at
settled_fewer l k (Mapped m j f) at = at
settled_fewer l k (Draining m j f) at = drained_fewer l m j k (f - 1) at

evicted_fewer : (l : Lender) (k : Lease) (x : SlabState) → has_lease l k (slabs.after_evict x) ≡ true → has_lease l k x ≡ true
evicted_fewer l k Local at = at
evicted_fewer l k (Asking pair) at = at
evicted_fewer l k (Borrowing m) at = at
evicted_fewer l k (Mapped m j f) at = drained_fewer l m j k f at
evicted_fewer l k (Draining m j f) at = at

pub fewer_settled : (l : Lender) (states : List SlabState) (t : Slab) → FewerLeases l states (slabs.settled_after states t)
fewer_settled l states t = fewer_set l states t (slabs.after_settled (state_of states t)) (λ k. settled_fewer l k (state_of states t))

pub fewer_evicted : (l : Lender) (states : List SlabState) (t : Slab) → FewerLeases l states (slabs.evicted_after states t)
fewer_evicted l states t = fewer_set l states t (slabs.after_evict (state_of states t)) (λ k. evicted_fewer l k (state_of states t))

-- requests for pages of other slabs keep their leases, whatever becomes of this one
leased_apart :
    (s : Sizes) (l : Lender) (states : List SlabState) (t : Slab) (x : SlabState) (ring : List Request) → AllByRecursion (λ y. is_for_slab s t y ≡ false) ring
    → AllByRecursion (StaysLeased s l states (with_state states t x)) ring
leased_apart s l states t x [] off = tt
leased_apart s l states t x (request.Query u ∷ ring) off = (tt, leased_apart s l states t x ring off.1)
leased_apart s l states t x (request.Borrow u ∷ ring) off = (tt, leased_apart s l states t x ring off.1)
leased_apart s l states t x (request.Write p e ∷ ring) off = (
  (λ k at. ap (has_lease l k) (state-other states t (slab_for s p) x (λ same. both_ways (slab_of s p.0 == t.0) off.0 (eq-eqb (slab_of s p.0) t.0 same)))
      ∙ at),
  leased_apart s l states t x ring off.1,
)
leased_apart s l states t x (request.Read a p ∷ ring) off = (
  (λ k at. ap (has_lease l k) (state-other states t (slab_for s p) x (λ same. both_ways (slab_of s p.0 == t.0) off.0 (eq-eqb (slab_of s p.0) t.0 same)))
      ∙ at),
  leased_apart s l states t x ring off.1,
)

-- a slab drains: of the requests that fly none is for it, or it keeps its lease
pub leased_drained :
    (s : Sizes) (l m : Lender) (j : Lease) (f : ℕ) (states : List SlabState) (t : Slab) (ring : List Request)
    → ((k : Lease) → has_lease l k (state_of states t) ≡ has_lease l k (Mapped m j f)) → (l.0 ≡ m.0 → f ≡ flying_for s t ring)
    → AllByRecursion (StaysLeased s l states (with_state states t (slabs.drain_to m j f))) ring
leased_drained s l m j f states t ring is flies = elim (cases_eq l.0 m.0) [
  | inl same ↦ go (f == 0) refl same
  | inr other ↦ leased_all s l states (with_state states t (slabs.drain_to m j f)) ring
      (λ u k at. leases_set l states t (slabs.drain_to m j f) (λ k. off (f == 0) k other ∙ sym (is k ∙ away k other)) u k ∙ at)
]
  where
    away : (k : Lease) → (l.0 ≡ m.0 → ⊥) → has_lease l k (Mapped m j f) ≡ false
    away k other = ap (λ b. b && (j.0 == k.0)) (not_eqb m.0 l.0 (λ e. other (sym e)))

    off : (b : Bool) (k : Lease) → (l.0 ≡ m.0 → ⊥) → has_lease l k (cond b Local (Draining m j f)) ≡ false
    off true k other = refl
    off false k other = away k other

    go : (b : Bool) → (f == 0) ≡ b → l.0 ≡ m.0 → AllByRecursion (StaysLeased s l states (with_state states t (cond b Local (Draining m j f)))) ring
    go true none same = leased_apart s l states t Local ring (none_for s t ring (sym (flies same) ∙ eqb-true f 0 none))
    go false some same =
        leased_all s l states (with_state states t (Draining m j f)) ring (λ u k at. leases_set l states t (Draining m j f) (λ k. sym (is k)) u k ∙ at)

-- the oldest request's reply is taken
pub leased_settled :
    (s : Sizes) (l : Lender) (states : List SlabState) (t : Slab) (ring : List Request)
    → (IsLeasedFrom l (state_of states t) → slabs.flying_of (state_of states t) - 1 ≡ flying_for s t ring)
    → AllByRecursion (StaysLeased s l states (slabs.settled_after states t)) ring
leased_settled s l states t ring flies = go (state_of states t) refl
  where
    same :
        (x : SlabState) → state_of states t ≡ x → ((k : Lease) → has_lease l k (slabs.after_settled x) ≡ has_lease l k x)
        → AllByRecursion (StaysLeased s l states (slabs.settled_after states t)) ring
    same x is each =
        leased_all s l states (slabs.settled_after states t) ring
        (λ u k at.
        leases_set l states t (slabs.after_settled (state_of states t))
        (λ k. ap (λ y. has_lease l k (slabs.after_settled y)) is ∙ each k ∙ sym (ap (has_lease l k) is)) u k
        ∙ at)

    go : (x : SlabState) → state_of states t ≡ x → AllByRecursion (StaysLeased s l states (slabs.settled_after states t)) ring
    go Local is = same Local is (λ k. refl)
    go (Asking pair) is = same (Asking pair) is (λ k. refl)
    go (Borrowing m) is = same (Borrowing m) is (λ k. refl)
    go (Mapped m j f) is = same (Mapped m j f) is (λ k. refl)
    go (Draining m j f) is =
        let P : SlabState → Type 0 = λ y. AllByRecursion (StaysLeased s l states (with_state states t y)) ring in
        subst P (sym (ap slabs.after_settled is))
        (leased_drained s l m j (f - 1) states t ring (λ k. ap (has_lease l k) is)
        (λ e. ap (λ y. slabs.flying_of y - 1) (sym is) ∙ flies (let Q : SlabState → Type 0 = λ y. IsLeasedFrom l y in subst Q (sym is) (sym e))))

pub leased_evicted :
    (s : Sizes) (l m : Lender) (j : Lease) (f : ℕ) (states : List SlabState) (t : Slab) (ring : List Request) → state_of states t ≡ Mapped m j f
    → (l.0 ≡ m.0 → f ≡ flying_for s t ring) → AllByRecursion (StaysLeased s l states (slabs.evicted_after states t)) ring
leased_evicted s l m j f states t ring is flies =
    let P : SlabState → Type 0 = λ y. AllByRecursion (StaysLeased s l states (with_state states t y)) ring in
    subst P (sym (ap slabs.after_evict is)) (leased_drained s l m j f states t ring (λ k. ap (has_lease l k) is) flies)

-- a lender's slabs are lost: those of another have their leases
other_lease : (l m o : Lender) (j k : Lease) → (o.0 ≡ m.0 → ⊥) → l.0 ≡ m.0 → has_lease o k (Mapped l j 0) ≡ false
other_lease l m o j k other same = ap (λ b. b && (j.0 == k.0)) (not_eqb l.0 o.0 (λ e. other (sym e ∙ same)))

lost_lease : (l m : Lender) (k : Lease) (x : SlabState) → (l.0 ≡ m.0 → ⊥) → has_lease l k (slabs.after_lost m x) ≡ has_lease l k x
lost_lease l m k Local other = refl
lost_lease l m k (Asking pair) other = refl
lost_lease l m k (Borrowing o) other = go (o.0 == m.0)
  where
    go : (b : Bool) → has_lease l k (cond b Local (Borrowing o)) ≡ false
    go true = refl
    go false = refl
lost_lease l m k (Mapped o j f) other = go (o.0 == m.0) refl
  where
    go : (b : Bool) → (o.0 == m.0) ≡ b → has_lease l k (cond b Local (Mapped o j f)) ≡ has_lease l k (Mapped o j f)
    go true e = sym (other_lease o m l j k other (eqb-true o.0 m.0 e))
    go false e = refl
lost_lease l m k (Draining o j f) other = go (o.0 == m.0) refl
  where
    go : (b : Bool) → (o.0 == m.0) ≡ b → has_lease l k (cond b Local (Draining o j f)) ≡ has_lease l k (Draining o j f)
    go true e = sym (other_lease o m l j k other (eqb-true o.0 m.0 e))
    go false e = refl

pub state-lost : (states : List SlabState) (m : Lender) (i : ℕ) → get_or (slabs.lost_after states m) i Local ≡ slabs.after_lost m (get_or states i Local)
state-lost [] m i = refl
state-lost (x ∷ states) m zero = refl
state-lost (x ∷ states) m (suc i) = state-lost states m i

pub leases_lost : (l m : Lender) (states : List SlabState) → (l.0 ≡ m.0 → ⊥) → SameLeases l states (slabs.lost_after states m)
leases_lost l m states other t k = ap (has_lease l k) (state-lost states m t.0) ∙ lost_lease l m k (state_of states t) other

-- the entries of the calls that read

pub still_set :
    (cs : Calls) (c : Caller) (call : Call) → ((e : EntryNo) → kept_entry call.state ≡ Some e → kept_entry (calls.state_of cs c) ≡ Some e)
    → (a : Caller) (e : EntryNo) → kept_entry (calls.state_of (calls.with_call cs c call) a) ≡ Some e → kept_entry (calls.state_of cs a) ≡ Some e
still_set cs c call each a e is =
    by_caller (λ a. kept_entry (calls.state_of (calls.with_call cs c call) a) ≡ Some e → kept_entry (calls.state_of cs a) ≡ Some e) c a
    (λ is. elim (cases_lt c.0 (length cs)) [
      | inl within ↦ each e (sym (ap (λ (x : Call). kept_entry x.state) (get_or-set_same cs c.0 call calls.idle_call within)) ∙ is)
      | inr past ↦
          ap (λ (x : Call). kept_entry x.state)
          (get_or_past cs c.0 calls.idle_call past ∙ sym (get_or_past (set cs c.0 call) c.0 calls.idle_call
          (subst (λ n. n ≤ c.0) (sym (length-set cs c.0 call)) past)))
          ∙ is
    ])
    (λ other is. sym (ap (λ (x : Call). kept_entry x.state) (get_or-set_other cs c.0 a.0 call calls.idle_call other)) ∙ is) is

pub still_ended :
    (cs : Calls) (c : Caller) → (a : Caller) (e : EntryNo) → kept_entry (calls.state_of (calls.end_after cs c) a) ≡ Some e
    → kept_entry (calls.state_of cs a) ≡ Some e
still_ended cs c = still_set cs c calls.idle_call (λ e is. cc)

newer_entry : (p : Page) (x : CallState) → kept_entry (calls.newer_if_reads p x) ≡ kept_entry x
newer_entry p Idle = refl
newer_entry p (Room q since) = refl
newer_entry p (Reading q n v how newer since) = refl

lost_entry : (l : Lender) (x : CallState) → kept_entry (calls.lost_if_through l x) ≡ kept_entry x
lost_entry l Idle = refl
lost_entry l (Room q since) = refl
lost_entry l (Reading q n via.Disk how newer since) = refl
lost_entry l (Reading q n (via.Lender m) arrived.Waiting newer since) = refl
lost_entry l (Reading q n (via.Lender m) arrived.Came newer since) = refl
lost_entry l (Reading q n (via.Lender m) arrived.Failed newer since) = refl
lost_entry l (Reading q n (via.Lender m) arrived.Lost newer since) = refl

arrives_entry :
    (how : Arrived) (bytes : List ℕ) (call : Call) (x : CallState) → call.state ≡ x → kept_entry (calls.arrives how bytes call x).state ≡ kept_entry x
arrives_entry how bytes call Idle is = ap kept_entry is
arrives_entry how bytes call (Room q since) is = ap kept_entry is
arrives_entry how bytes call (Reading q n v arrived.Waiting newer since) is = refl
arrives_entry how bytes call (Reading q n v arrived.Came newer since) is = ap kept_entry is
arrives_entry how bytes call (Reading q n v arrived.Failed newer since) is = ap kept_entry is
arrives_entry how bytes call (Reading q n v arrived.Lost newer since) is = ap kept_entry is

pub still_arrives :
    (how : Arrived) (bytes : List ℕ) (cs : Calls) (c : Caller) → (a : Caller) (e : EntryNo)
    → kept_entry (calls.state_of (calls.with_call cs c (calls.arrives how bytes (calls.call_of cs c) (calls.state_of cs c))) a) ≡ Some e
    → kept_entry (calls.state_of cs a) ≡ Some e
still_arrives how bytes cs c =
    still_set cs c (calls.arrives how bytes (calls.call_of cs c) (calls.state_of cs c))
    (λ e is. sym (arrives_entry how bytes (calls.call_of cs c) (calls.state_of cs c) refl) ∙ is)

still_paged :
    (cs : Calls) (p : Page) (a : Caller) (e : EntryNo) → kept_entry (calls.state_of (calls.paged_out cs p) a) ≡ Some e
    → kept_entry (calls.state_of cs a) ≡ Some e
still_paged cs p a e is = sym (ap kept_entry (state-paged_out cs p a) ∙ newer_entry p (calls.state_of cs a)) ∙ is

still_lost :
    (cs : Calls) (m : Lender) (a : Caller) (e : EntryNo) → kept_entry (calls.state_of (calls.lost_after cs m) a) ≡ Some e
    → kept_entry (calls.state_of cs a) ≡ Some e
still_lost cs m a e is =
    sym (ap (λ (x : Call). kept_entry x.state) (get_or-map_idle (calls.with_state (calls.lost_if_through m)) cs a.0 refl) ∙ lost_entry m (calls.state_of cs a))
    ∙ is

-- a new read: its caller waited for no lender
pub still_reads :
    (s : Sizes) (H : History) (cs : Calls) (states : List SlabState) (l : Lender) (c : Caller) (p : Page) (n : EntryNo) (v : Via) (since : ℕ)
    (ring : List Request)
    → ((m : Lender) (q : Page) → WaitsFrom m q (calls.state_of cs c) → ⊥) → AllByRecursion (IsAwaited s H cs states l) ring
    → AllByRecursion (StillReads cs (calls.reads cs c p n v since)) ring
still_reads s H cs states l c p n v since [] idles all = tt
still_reads s H cs states l c p n v since (request.Query t ∷ ring) idles all = (tt, still_reads s H cs states l c p n v since ring idles all.1)
still_reads s H cs states l c p n v since (request.Borrow t ∷ ring) idles all = (tt, still_reads s H cs states l c p n v since ring idles all.1)
still_reads s H cs states l c p n v since (request.Write q e ∷ ring) idles all = (tt, still_reads s H cs states l c p n v since ring idles all.1)
still_reads s H cs states l c p n v since (request.Read a q ∷ ring) idles all = (
  λ e is.
      by_caller
      (λ a. WaitsFrom l q (calls.state_of cs a) → kept_entry (calls.state_of (calls.reads cs c p n v since) a) ≡ Some e
      → kept_entry (calls.state_of cs a) ≡ Some e)
      c a
      (λ waits is. absurd (idles l q waits))
      (λ other waits is. sym (ap (λ (x : Call). kept_entry x.state) (get_or-set_other cs c.0 a.0 _ calls.idle_call other)) ∙ is) all.0.3 is,
  still_reads s H cs states l c p n v since ring idles all.1,
)

-- a device as a link sees it, where each slab keeps its leases
pub sees_same :
    (l : Lender) (d d' : Device) → d'.sizes ≡ d.sizes → SameLeases l d.remote.slabs d'.remote.slabs → KeepsEntries d.history d'.history → KeepsBits l d d'
    → link_of d'.remote.links l ≡ link_of d.remote.links l → AllByRecursion (StillReads d.calls d'.calls) (ring_of d.remote.links l) → SeesSame l d d'
sees_same l d d' sizes leases entries bits link still = record {
  sizes = sizes;
  fewer = λ t k at. sym (leases t k) ∙ at;
  leased = leased_all d.sizes l d.remote.slabs d'.remote.slabs (ring_of d.remote.links l) (λ t k at. leases t k ∙ at);
  entries = entries;
  bits = bits;
  ring = ap (λ (k : LinkState). k.ring) link;
  up = ap (λ (k : LinkState). k.up) link;
  calls = still;
}

-- the moves of the device alone, and a loss of another link

pub sees_enter : (l : Lender) (d : Device) (c : Caller) (p : Page) (bytes : List ℕ) → SeesSame l d (enter_entry d c p bytes)
sees_enter l d c p bytes =
    sees_same l d (enter_entry d c p bytes) refl (leases_stay l d.remote.slabs) (entries_on d.history (row_of d.history c p op.PageOut bytes))
    (λ q k at set.
    by_page
    (λ q. has (without_number d.remote.bits p.0) q.0 ≡ true
    → (has d.remote.bits q.0 ≡ true) × (array (zeros d.sizes) (with_row d.history c p op.PageOut bytes) q ≡ array (zeros d.sizes) d.history q))
    p q
    (λ set. absurd (both_ways (has (without_number d.remote.bits p.0) p.0) (cleared_here d.remote.bits p.0) set))
    (λ other set. (
      sym (get_or-set_other d.remote.bits p.0 q.0 false false other) ∙ set,
      ap (λ b. cond b bytes (array (zeros d.sizes) d.history q)) (not_eqb p.0 q.0 (λ e. other (sym e))),
    ))
    set)
    refl
    (still_all d.calls (enter_entry d c p bytes).calls (ring_of d.remote.links l)
    (λ a e is. still_paged d.calls p a e (still_ended (calls.paged_out d.calls p) c a e is)))

pub sees_give :
    (l : Lender) (d : Device) (c : Caller) (p : Page) (named : Option EntryNo) (from : Origin) (bytes : List ℕ) → SeesSame l d (give d c p named from bytes)
sees_give l d c p named from bytes =
    sees_same l d (give d c p named from bytes) refl (leases_stay l d.remote.slabs) (entries_on d.history (row_of d.history c p (op.PageIn named from) bytes))
    (λ q k at set. (set, refl)) refl
    (still_all d.calls (calls.end_after d.calls c) (ring_of d.remote.links l) (still_ended d.calls c))

pub sees_fault :
    (l : Lender) (d : Device) (c : Caller) (p : Page) (kind : CallKind) (since at : ℕ) (bytes : List ℕ) → SeesSame l d (fault d c p kind since at bytes)
sees_fault l d c p kind since at bytes =
    sees_same l d (fault d c p kind since at bytes) refl (leases_stay l d.remote.slabs)
    (entries_on d.history (row_of d.history c p (op.Failed kind since at) bytes)) (λ q k at set. (set, refl)) refl
    (still_all d.calls (calls.end_after d.calls c) (ring_of d.remote.links l) (still_ended d.calls c))

-- what isn't the history, the remote memory or the sizes
pub sees_other :
    (l : Lender) (d d' : Device) → d'.sizes ≡ d.sizes → d'.history ≡ d.history → d'.remote ≡ d.remote
    → AllByRecursion (StillReads d.calls d'.calls) (ring_of d.remote.links l) → SeesSame l d d'
sees_other l d d' sizes history same still =
    sees_same l d d' sizes (λ t k. ap (λ (r : Remote). has_lease l k (state_of r.slabs t)) same)
    (subst (λ H. KeepsEntries d.history H) (sym history) (entries_stay d.history))
    (bits_stay l d d' (ap (λ (r : Remote). r.bits) same) history) (ap (λ (r : Remote). link_of r.links l) same) still

-- calls that stay
pub still_same : (l : Lender) (d : Device) → AllByRecursion (StillReads d.calls d.calls) (ring_of d.remote.links l)
still_same l d = still_all d.calls d.calls (ring_of d.remote.links l) (λ a e is. is)

pub sees_itself : (l : Lender) (d : Device) → SeesSame l d d
sees_itself l d = sees_other l d d refl refl refl (still_same l d)

pub sees_lost : (l m : Lender) (d : Device) → (l.0 ≡ m.0 → ⊥) → SeesSame l d (lost_after d m)
sees_lost l m d other =
    sees_same l d (lost_after d m) refl (leases_lost l m d.remote.slabs other) (entries_stay d.history)
    (λ p k at set. (and_first (has_page d.remote p) _ (sym (get_or-left d.sizes d.remote.slabs m d.remote.bits 0 p.0) ∙ set), refl))
    (link-other d.remote.links m l rings.down other) (still_all d.calls (calls.lost_after d.calls m) (ring_of d.remote.links l) (still_lost d.calls m))
  where
    and_first : (a b : Bool) → (a && b) ≡ true → a ≡ true
    and_first true b is = refl
    and_first false b is = cc

-- a device with other slabs, links and calls, as another link sees it
pub sees_parts :
    (l : Lender) (d : Device) (states : List SlabState) (links : List LinkState) (cs : Calls) (made : ℕ) → SameLeases l d.remote.slabs states
    → link_of links l ≡ link_of d.remote.links l → AllByRecursion (StillReads d.calls cs) (ring_of d.remote.links l)
    → SeesSame l d (record d { remote = record { bits = d.remote.bits; slabs = states; links = links }; calls = cs; links_made = made })
sees_parts l d states links cs made leases link still =
    sees_same l d (record d { remote = record { bits = d.remote.bits; slabs = states; links = links }; calls = cs; links_made = made }) refl leases
    (entries_stay d.history) (λ p k at set. (set, refl)) link still

-- a mapped slab is taken back
pub sees_evicted :
    (l : Lender) (d : Device) (t : Slab) (m : Lender) (j : Lease) (f : ℕ) → state_of d.remote.slabs t ≡ Mapped m j f
    → (l.0 ≡ m.0 → f ≡ flying_for d.sizes t (ring_of d.remote.links l))
    → ((p : Page) → has_page (remote.evicted_after d.sizes d.remote t) p ≡ true → has_page d.remote p ≡ true)
    → SeesSame l d (record d { remote = remote.evicted_after d.sizes d.remote t })
sees_evicted l d t m j f is flies bits = record {
  sizes = refl;
  fewer = fewer_evicted l d.remote.slabs t;
  leased = leased_evicted d.sizes l m j f d.remote.slabs t (ring_of d.remote.links l) is flies;
  entries = entries_stay d.history;
  bits = λ p k at set. (bits p set, refl);
  ring = refl;
  up = refl;
  calls = still_same l d;
}
