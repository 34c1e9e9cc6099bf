-- What may be sent stays so as the device's slabs change, as it says a message more, and as it takes what came.
use Rattle.std.proofs.Common.{◌≡◌, ℕ, ◌+◌, ◌-◌, ◌<◌, ◌≤◌, ◌⊎◌, inl, inr, Bool, true, false, ◌==◌, ◌||◌, ◌&&◌, List, [], ◌∷◌, ◌++◌, length, refl, sym, ap, ◌∙◌, subst, length-set, eq-eqb, Option, None, Some}
use Rattle.std.specs.List.{list_any}
use Rattle.std.proofs.lemmas.Bool.{cond_both, both_ways, false_from_ne_true, cases_lt, eqb-true, and_parts, and_from}
use Rattle.std.proofs.lemmas.List.{get_or_past}
use Rattle.std.proofs.lemmas.List.Sums.{passes_at_first}
use Rattle.swap_base.specs.declared.Slab.{Slab}
use Rattle.swap_base.specs.declared.Link.{Link}
use Rattle.swap_base.specs.declared.Lender.{Lender}
use Rattle.swap_base.specs.declared.Lease.{Lease}
use Rattle.swap_base.specs.Sizes.{Sizes}
use Rattle.swap_wire.specs.declared.Msg.TheVariants as msg
use Rattle.swap_wire.specs.Fabric.{Parcel}
use Rattle.swap_slabs.specs.Slabs as slabs
use Rattle.swap_slabs.specs.Slabs.{has_lease, state_of, with_state}
use Rattle.swap_slabs.specs.declared.Reply.{Reply}
use Rattle.swap_slabs.specs.declared.Pair.{Pair}
use Rattle.swap_slabs.specs.declared.SlabState.{SlabState}
use Rattle.swap_slabs.specs.declared.SlabState.TheVariants.{Local, Asking, Borrowing, Mapped, Draining}
use Rattle.swap_rings.specs.declared.Request.{Request}
use Rattle.swap_lender.specs.declared.SlotState.{SlotState}
use Rattle.swap_lender.specs.declared.SlotState.TheVariants.{Free, Held}
use Rattle.swap_lender.specs.Lender as lender
use Rattle.swap_lender.specs.Lender.{slot_in, slot_of, has_greeted}
use Rattle.swap_base.proofs.Lists.{All-append}
use Rattle.swap_table.proofs.LinkTables.{by_slab, state-same, state-other}
use Rattle.swap_joint.specs.Seats.{HasSeat, seat_in, is_done}
use Rattle.swap_joint.specs.Stored.{gives_back}
use Rattle.swap_joint.specs.Allowed.{is_evict, is_ask, is_rate, is_refusal, is_hello, is_borrow, evicts_in, asks_in, rates_in, borrows_in, HasSlot, Waits, Greets, IsToLender, Allows}
use Rattle.swap_joint.proofs.Sights.{state-lost, leases_lost}
use Rattle.swap_joint.proofs.Turns.{any_last, any-append}
use Rattle.swap_joint.proofs.Serves.{any-rest}
use Rattle.swap_joint.proofs.Allowed.{named_last, free_last}

-- a test that holds of a list holds of it with a message more
pub any-more : {X : Type 0} (test : X → Bool) (xs : List X) (x : X) → list_any test xs ≡ true → list_any test (xs ++ x ∷ []) ≡ true
any-more test [] x e = cc
any-more test (y ∷ xs) x e = go (test y) e (λ rest. any-more test xs x rest)
  where
    go :
        (b : Bool) → (b || list_any test xs) ≡ true → (list_any test xs ≡ true → list_any test (xs ++ x ∷ []) ≡ true)
        → (b || list_any test (xs ++ x ∷ [])) ≡ true
    go true e more = refl
    go false e more = more e

pub borrows-more : (t : Slab) (ring : List Request) (x : Request) → borrows_in t ring ≡ true → borrows_in t (ring ++ x ∷ []) ≡ true
borrows-more t ring x e = any-more (is_borrow t) ring x e

pub bare : (ps : List Parcel) → ps ++ [] ≡ ps
bare [] = refl
bare (p ∷ ps) = ap (λ qs. p ∷ qs) (bare ps)

-- the slabs and the ring change: a slab that drains has its slot told to go, which isn't under way, and each slot has its home
pub allows_states : (s : Sizes) (states states' : List SlabState) (ring ring' : List Request) (l : Lender) (table : lender.Lender) (n : Link)
    (come : List Parcel) (ended : Bool) (out : List Parcel)
    → ((t : Slab) (k : Lease) (f : ℕ) → state_of states' t ≡ Draining l k f → HasSlot table.slots k true × (evicts_in k come ≡ true → ⊥))
    → ((i : ℕ) (m : Link) (t : Slab) (k : Lease) (e : Bool) → slot_in table.slots i ≡ Held m t k e
    → (has_lease l k (state_of states t) ≡ true) ⊎ (borrows_in t ring ≡ true)
    → (has_lease l k (state_of states' t) ≡ true) ⊎ (borrows_in t ring' ≡ true) ⊎ (gives_back k out ≡ true) ⊎ (ended ≡ true))
    → Allows s states ring l table n come ended out → Allows s states' ring' l table n come ended out
allows_states s states states' ring ring' l table n come ended out drains home h = record {
  told = h.told;
  drains = λ t k f e. (drains t k f e).0;
  done = h.done;
  done_once = h.done_once;
  evict_once = h.evict_once;
  apart = h.apart;
  before = λ t k f come_now e. (drains t k f e).1 come_now;
  asks = h.asks;
  rates = h.rates;
  ask_once = h.ask_once;
  rate_once = h.rate_once;
  one = h.one;
  home = λ i m t k e held. elim (h.home i m t k e held) [
    | inl at ↦ home i m t k e held (inl at)
    | inr rest ↦ elim rest [ inl asked ↦ home i m t k e held (inr asked) | inr later ↦ inr (inr later) ]
  ];
  refused = h.refused;
  free = h.free;
  greets = h.greets;
  kinds = h.kinds;
}

-- no slab drains anew at a lender, and each lease stays a slab's
pub record Holds (l : Lender) (states states' : List SlabState) : Type 0 where
  pub drains : (t : Slab) (k : Lease) (f : ℕ) → state_of states' t ≡ Draining l k f → (g : ℕ) × (state_of states t ≡ Draining l k g)
  pub leased : (t : Slab) (k : Lease) → has_lease l k (state_of states t) ≡ true → has_lease l k (state_of states' t) ≡ true

pub allows_on :
    (s : Sizes) (states states' : List SlabState) (ring ring' : List Request) (l : Lender) (table : lender.Lender) (n : Link) (come : List Parcel)
    (ended : Bool)
    (out : List Parcel)
    → Holds l states states' → ((t : Slab) → borrows_in t ring ≡ true → borrows_in t ring' ≡ true)
    → Allows s states ring l table n come ended out → Allows s states' ring' l table n come ended out
allows_on s states states' ring ring' l table n come ended out holds rings h =
    allows_states s states states' ring ring' l table n come ended out
    (λ t k f e. let was = holds.drains t k f e in (h.drains t k was.0 was.1, λ come_now. h.before t k was.0 come_now was.1))
    (λ i m t k e held was. elim was [ inl at ↦ inl (holds.leased t k at) | inr asked ↦ inr (inl (rings t asked)) ]) h

-- the list to the lender ends
pub allows_ended :
    (s : Sizes) (states : List SlabState) (ring : List Request) (l : Lender) (table : lender.Lender) (n : Link) (come : List Parcel) (ended : Bool)
    (out : List Parcel)
    → Allows s states ring l table n come ended out → Allows s states ring l table n come true out
allows_ended s states ring l table n come ended out h = record {
  told = h.told;
  drains = h.drains;
  done = h.done;
  done_once = h.done_once;
  evict_once = h.evict_once;
  apart = h.apart;
  before = h.before;
  asks = h.asks;
  rates = h.rates;
  ask_once = h.ask_once;
  rate_once = h.rate_once;
  one = h.one;
  home = λ i m t k e held. inr (inr (inr refl));
  refused = h.refused;
  free = h.free;
  greets = over (has_greeted table n) out h.greets;
  kinds = h.kinds;
}
  where
    over : (g : Bool) (ps : List Parcel) → Greets s g ended ps → Greets s g true ps
    over true ps e = e
    over false [] e = refl
    over false (q ∷ qs) e = e

-- the first message to the device is gone
pub allows_taken :
    (s : Sizes) (states : List SlabState) (ring : List Request) (l : Lender) (table : lender.Lender) (n : Link) (q : Parcel) (qs : List Parcel) (ended : Bool)
    (out : List Parcel)
    → Allows s states ring l table n (q ∷ qs) ended out → Allows s states ring l table n qs ended out
allows_taken s states ring l table n q qs ended out h = record {
  told = λ k e. h.told k (any-rest (λ (p : Parcel). is_evict k p.msg) q qs e);
  drains = h.drains;
  done = h.done;
  done_once = h.done_once;
  evict_once = h.evict_once.1;
  apart = λ k e. h.apart k (any-rest (λ (p : Parcel). is_evict k p.msg) q qs e);
  before = λ t k f e. h.before t k f (any-rest (λ (p : Parcel). is_evict k p.msg) q qs e);
  asks = λ k e. h.asks k (any-rest (λ (p : Parcel). is_ask k p.msg) q qs e);
  rates = h.rates;
  ask_once = h.ask_once.1;
  rate_once = h.rate_once;
  one = λ k e. h.one k (any-rest (λ (p : Parcel). is_ask k p.msg) q qs e);
  home = h.home;
  refused = λ i m t k e come_now held. h.refused i m t k e (any-rest (λ (p : Parcel). is_refusal t p.msg) q qs come_now) held;
  free = h.free;
  greets = h.greets;
  kinds = h.kinds;
}

-- what is asked of a message more to the lender
pub record MayAdd (states : List SlabState) (ring : List Request) (l : Lender) (table : lender.Lender) (n : Link) (come : List Parcel) (ended : Bool)
    (out : List Parcel) (q : Parcel) : Type 0 where
  pub plain : is_hello q.msg ≡ false
  pub kind : IsToLender q.msg
  pub greeted : (has_greeted table n ≡ true) ⊎ (ended ≡ false)
  pub done : (k : Lease) → is_done k q.msg ≡ true → HasSlot table.slots k true × (gives_back k out ≡ false) × (evicts_in k come ≡ false)
  pub rate : (k : Lease) → is_rate k q.msg ≡ true → Waits table k × (rates_in k out ≡ false) × (asks_in k come ≡ false)
  pub free : (t : Slab) (i : ℕ) (m : Link) (k : Lease) (e : Bool) → q.msg ≡ msg.Borrow t → slot_in table.slots i ≡ Held m t k e → gives_back k out ≡ true

pub allows_more :
    (s : Sizes) (states : List SlabState) (ring : List Request) (l : Lender) (table : lender.Lender) (n : Link) (come : List Parcel) (ended : Bool)
    (out : List Parcel) (q : Parcel)
    → MayAdd states ring l table n come ended out q → Allows s states ring l table n come ended out → Allows s states ring l table n come ended (out ++ q ∷ [])
allows_more s states ring l table n come ended out q may h = record {
  told = h.told;
  drains = h.drains;
  done = λ k e. elim (any_last (λ (p : Parcel). is_done k p.msg) out q e) [ inl old ↦ h.done k old | inr new ↦ (may.done k new).0 ];
  done_once = named_last is_done out q h.done_once (λ k e. false_from_ne_true _ (λ new. both_ways (gives_back k out) (may.done k new).1 e));
  evict_once = h.evict_once;
  apart =
      λ k e. any-append (λ (p : Parcel). is_done k p.msg) out q (false_from_ne_true _ (λ new. both_ways (evicts_in k come) (may.done k new).2 e)) ∙ h.apart k e;
  before = h.before;
  asks = h.asks;
  rates = λ k e. elim (any_last (λ (p : Parcel). is_rate k p.msg) out q e) [ inl old ↦ h.rates k old | inr new ↦ (may.rate k new).0 ];
  ask_once = h.ask_once;
  rate_once = named_last is_rate out q h.rate_once (λ k e. false_from_ne_true _ (λ new. both_ways (rates_in k out) (may.rate k new).1 e));
  one = λ k e. any-append (λ (p : Parcel). is_rate k p.msg) out q (false_from_ne_true _ (λ new. both_ways (asks_in k come) (may.rate k new).2 e)) ∙ h.one k e;
  home = λ i m t k e held. elim (h.home i m t k e held) [
    | inl at ↦ inl at
    | inr rest ↦ elim rest [
      | inl asked ↦ inr (inl asked)
      | inr later ↦ elim later [ inl back ↦ inr (inr (inl (any-more (λ (p : Parcel). is_done k p.msg) out q back))) | inr over ↦ inr (inr (inr over)) ]
    ]
  ];
  refused = h.refused;
  free = free_last table.slots (λ k. ⊥) out q h.free (λ t i m k e is held. inr (may.free t i m k e is held));
  greets = greets_more (has_greeted table n) ended out may.greeted h.greets;
  kinds = All-append (λ (p : Parcel). IsToLender p.msg) out (q ∷ []) h.kinds (may.kind, tt);
}
  where
    greets_more : (g ended : Bool) (ps : List Parcel) → (g ≡ true) ⊎ (ended ≡ false) → Greets s g ended ps → Greets s g ended (ps ++ q ∷ [])
    greets_more true ended ps either e = any-append (λ (p : Parcel). is_hello p.msg) ps q may.plain ∙ e
    greets_more false ended [] either e = absurd (elim either [ inl g ↦ both_ways false refl g | inr off ↦ both_ways ended off e ])
    greets_more false ended (p ∷ ps) either e = (e.0, any-append (λ (p : Parcel). is_hello p.msg) ps q may.plain ∙ e.1)

-- slabs that change

pub local_draining : (l : Lender) (k : Lease) (f : ℕ) → Local ≡ Draining l k f → ⊥
local_draining l k f e = cc

pub drains_by :
    (Q : Slab → Lease → Type 0) (l : Lender) (states : List SlabState) (t : Slab) (x : SlabState) → ((k : Lease) (f : ℕ) → x ≡ Draining l k f → Q t k)
    → ((u : Slab) (k : Lease) (f : ℕ) → (u.0 ≡ t.0 → ⊥) → state_of states u ≡ Draining l k f → Q u k) → (u : Slab) (k : Lease) (f : ℕ)
    → state_of (with_state states t x) u ≡ Draining l k f → Q u k
drains_by Q l states t x here there u k f is =
    by_slab (λ u. state_of (with_state states t x) u ≡ Draining l k f → Q u k) t u
    (λ is. elim (cases_lt t.0 (length states)) [
      | inl within ↦ here k f (sym (state-same states t x within) ∙ is)
      | inr past ↦
          absurd (local_draining l k f (sym (get_or_past (with_state states t x) t.0 Local (subst (λ n. n ≤ t.0) (sym (length-set states t.0 x)) past)) ∙ is))
    ])
    (λ other is. there u k f other (sym (state-other states t u x other) ∙ is)) is

-- a lease stays a slab's where it stays one of the slab that changes
pub leased_set :
    (l : Lender) (states : List SlabState) (t : Slab) (x : SlabState) → ((k : Lease) → has_lease l k (state_of states t) ≡ true → has_lease l k x ≡ true)
    → (u : Slab) (k : Lease) → has_lease l k (state_of states u) ≡ true → has_lease l k (state_of (with_state states t x) u) ≡ true
leased_set l states t x each u k at =
    by_slab (λ u. has_lease l k (state_of states u) ≡ true → has_lease l k (state_of (with_state states t x) u) ≡ true) t u
    (λ at. elim (cases_lt t.0 (length states)) [
      | inl within ↦ ap (has_lease l k) (state-same states t x within) ∙ each k at
      | inr past ↦ absurd (both_ways (has_lease l k (state_of states t)) (ap (has_lease l k) (get_or_past states t.0 Local past)) at)
    ])
    (λ other at. ap (has_lease l k) (state-other states t u x other) ∙ at) at

abbrev SomeDrains : Lender → List SlabState → Slab → Lease → Type 0
SomeDrains l states u k = (g : ℕ) × (state_of states u ≡ Draining l k g)

pub holds_set :
    (l : Lender) (states : List SlabState) (t : Slab) (x : SlabState)
    → ((k : Lease) (f : ℕ) → x ≡ Draining l k f → (g : ℕ) × (state_of states t ≡ Draining l k g))
    → ((k : Lease) → has_lease l k (state_of states t) ≡ true → has_lease l k x ≡ true) → Holds l states (with_state states t x)
holds_set l states t x drains leased =
    record { drains = drains_by (λ u k. SomeDrains l states u k) l states t x drains (λ u k f other is. (f, is)); leased = leased_set l states t x leased }

pub holds_itself : (l : Lender) (states : List SlabState) → Holds l states states
holds_itself l states = record { drains = λ t k f is. (f, is); leased = λ t k at. at }

-- a slab that another lender has, or none
pub holds_apart :
    (l : Lender) (states : List SlabState) (t : Slab) (x : SlabState) → ((k : Lease) → has_lease l k (state_of states t) ≡ false)
    → ((k : Lease) → has_lease l k x ≡ false) → Holds l states (with_state states t x)
holds_apart l states t x was now =
    holds_set l states t x (λ k f is. absurd (both_ways (has_lease l k x) (now k) (ap (has_lease l k) is ∙ own l k)))
    (λ k at. absurd (both_ways (has_lease l k (state_of states t)) (was k) at))
  where
    own : (l : Lender) (k : Lease) → ((l.0 == l.0) && (k.0 == k.0)) ≡ true
    own l k = and_from (l.0 == l.0) (k.0 == k.0) (eq-eqb l.0 l.0 refl) (eq-eqb k.0 k.0 refl)

pub holds_begun : (l : Lender) (states : List SlabState) (t : Slab) → Holds l states (slabs.begun_after states t)
holds_begun l states t =
    holds_set l states t (slabs.after_begin (state_of states t)) (λ k f is. go (state_of states t) refl k f is) (λ k at. leased (state_of states t) k at)
  where
    go : (x : SlabState) → state_of states t ≡ x → (k : Lease) (f : ℕ) → slabs.after_begin x ≡ Draining l k f → (g : ℕ) × (state_of states t ≡ Draining l k g)
    go Local at k f is = cc
    go (Asking pair) at k f is = cc
    go (Borrowing m) at k f is = cc
    go (Mapped m j g) at k f is = absurd (mapped_draining m l j k (g + 1) f is)
      where
        mapped_draining : (a b : Lender) (j k : Lease) (f g : ℕ) → Mapped a j f ≡ Draining b k g → ⊥
        mapped_draining a b j k f g e = cc
    go (Draining m j g) at k f is = (f, at ∙ is)

    leased : (x : SlabState) (k : Lease) → has_lease l k x ≡ true → has_lease l k (slabs.after_begin x) ≡ true
    leased Local k at = at
    leased (Asking pair) k at = at
    leased (Borrowing m) k at = at
    leased (Mapped m j g) k at = at
    leased (Draining m j g) k at = at

pub holds_answered : (l m : Lender) (states : List SlabState) (t : Slab) (r : Reply) → Holds l states (slabs.answered_after states t m r)
holds_answered l m states t r =
    holds_set l states t (slabs.after_answer (state_of states t) m r) (λ k f is. go (state_of states t) refl k f is) (λ k at. leased (state_of states t) k at)
  where
    no_drain : (p : Pair) (k : Lease) (f : ℕ) → slabs.answered_state p ≡ Draining l k f → ⊥
    no_drain p k f = cond_both (slabs.waits p) _ _ (λ (x : SlabState). x ≡ Draining l k f → ⊥) (λ _ e. cc) (λ _ e. cc)

    go :
        (x : SlabState) → state_of states t ≡ x → (k : Lease) (f : ℕ) → slabs.after_answer x m r ≡ Draining l k f
        → (g : ℕ) × (state_of states t ≡ Draining l k g)
    go Local at k f is = cc
    go (Asking pair) at k f is = absurd (no_drain (slabs.with_reply pair m r) k f is)
    go (Borrowing o) at k f is = cc
    go (Mapped o j g) at k f is = cc
    go (Draining o j g) at k f is = (f, at ∙ is)

    leased : (x : SlabState) (k : Lease) → has_lease l k x ≡ true → has_lease l k (slabs.after_answer x m r) ≡ true
    leased Local k at = at
    leased (Asking pair) k at = cc
    leased (Borrowing o) k at = at
    leased (Mapped o j g) k at = at
    leased (Draining o j g) k at = at

pub holds_lost : (l m : Lender) (states : List SlabState) → (l.0 ≡ m.0 → ⊥) → Holds l states (slabs.lost_after states m)
holds_lost l m states other = record {
  drains = λ t k f is. (f, go (state_of states t) k f (sym (state-lost states m t.0) ∙ is));
  leased = λ t k at. leases_lost l m states other t k ∙ at;
}
  where
    go : (x : SlabState) (k : Lease) (f : ℕ) → slabs.after_lost m x ≡ Draining l k f → x ≡ Draining l k f
    go x k f = cond_both (slabs.is_at m x) Local x (λ y. y ≡ Draining l k f → x ≡ Draining l k f) (λ _ is. absurd (local_draining l k f is)) (λ _ is. is)

-- no other lender has a slab by a lease
pub elsewhere : (l m : Lender) (j k : Lease) (x : SlabState) → (m.0 ≡ l.0 → ⊥) → has_lease l j x ≡ true → has_lease m k x ≡ false
elsewhere l m j k x other at = go (slabs.leased_of x) at
  where
    go : (o : Option (Lender × Lease)) → slabs.is_lease l j o ≡ true → slabs.is_lease m k o ≡ false
    go None at = refl
    go (Some p) at =
        false_from_ne_true _
        (λ here.
        other (sym (eqb-true p.0.0 m.0 (and_parts (p.0.0 == m.0) (p.1.0 == k.0) here).0) ∙ eqb-true p.0.0 l.0 (and_parts (p.0.0 == l.0) (p.1.0 == j.0) at).0))

-- a slab that drains has no lease that it hadn't
drained_none : (l m : Lender) (j k : Lease) (f : ℕ) → has_lease l k (Draining m j f) ≡ false → has_lease l k (slabs.drain_to m j f) ≡ false
drained_none l m j k f none = cond_both (f == 0) Local (Draining m j f) (λ x. has_lease l k x ≡ false) (λ _. refl) (λ _. none)

pub settled_none : (l : Lender) (k : Lease) (x : SlabState) → has_lease l k x ≡ false → has_lease l k (slabs.after_settled x) ≡ false
settled_none l k Local none = none
settled_none l k (Asking pair) none = none
settled_none l k (Borrowing m) none = none
settled_none l k (Mapped m j f) none = none
settled_none l k (Draining m j f) none = drained_none l m j k (f - 1) none

pub evicted_none : (l : Lender) (k : Lease) (x : SlabState) → has_lease l k x ≡ false → has_lease l k (slabs.after_evict x) ≡ false
evicted_none l k Local none = none
evicted_none l k (Asking pair) none = none
evicted_none l k (Borrowing m) none = none
evicted_none l k (Mapped m j f) none = drained_none l m j k f none
evicted_none l k (Draining m j f) none = none

-- a lease that a link has is a slot's
pub seat_slot : (l : lender.Lender) (n : Link) (k : Lease) (t : Slab) → HasSeat l n k t → (i : ℕ) × (m : Link) × (e : Bool) × (slot_in l.slots i ≡ Held m t k e)
seat_slot l n k t h = go (slot_in l.slots (slot_of l n k)) refl h.1
  where
    go :
        (x : SlotState) → slot_in l.slots (slot_of l n k) ≡ x → seat_in x ≡ Some (t, h.0)
        → (i : ℕ) × (m : Link) × (e : Bool) × (slot_in l.slots i ≡ Held m t k e)
    go Free is at = cc
    go (Held m u j told) is at =
        let within : slot_of l n k < length l.slots =
        elim (cases_lt (slot_of l n k) (length l.slots))
        [ inl within ↦ within | inr past ↦ absurd (free_held (sym (get_or_past l.slots (slot_of l n k) Free past) ∙ is)) ] in
        let own : lender.has_lease n k (Held m u j told) ≡ true =
        sym (ap (lender.has_lease n k) is) ∙ passes_at_first (lender.has_lease n k) l.slots Free within in
        let slab : u ≡ t = slab_is at in
        let lease : j ≡ k = ap (λ (i : ℕ). record { 0 = i }) (eqb-true j.0 k.0 (and_parts (m.0 == n.0) (j.0 == k.0) own).1) in
        (slot_of l n k, m, told, is ∙ ap (λ (u : Slab). Held m u j told) slab ∙ ap (λ (j : Lease). Held m t j told) lease)
      where
        free_held : Free ≡ Held m u j told → ⊥
        free_held e = cc

        slab_is : seat_in (Held m u j told) ≡ Some (t, h.0) → u ≡ t
        slab_is e = let F : Option (Slab × Bool) → Slab = slab_or in ap F e
          where
            slab_or : Option (Slab × Bool) → Slab
            slab_or None = t
            slab_or (Some p) = p.0

-- a test that holds of the last message
pub any_end : {X : Type 0} (test : X → Bool) (xs : List X) (x : X) → test x ≡ true → list_any test (xs ++ x ∷ []) ≡ true
any_end test [] x e = ap (λ b. b || false) e
any_end test (y ∷ xs) x e = any-rest test y (xs ++ x ∷ []) (any_end test xs x e)
