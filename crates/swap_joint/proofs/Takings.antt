-- What may be sent stays so as the device does what a message says, and says what follows on it.
use Rattle.std.proofs.Common.{◌≡◌, ℕ, ◌-◌, ◌<◌, ◌⊎◌, inl, inr, Bool, true, false, cond, ◌==◌, ◌||◌, List, [], ◌∷◌, ◌++◌, length, refl, sym, ap, ◌∙◌, subst, eq-eqb, Option, None, Some}
use Rattle.std.proofs.lemmas.Bool.{both_ways, false_from_ne_true, eqb-true, and_parts, and_from}
use Rattle.swap_base.specs.declared.Slab.{Slab}
use Rattle.swap_base.specs.declared.Link.{Link}
use Rattle.swap_base.specs.declared.Lender.{Lender}
use Rattle.swap_base.specs.declared.Lease.{Lease}
use Rattle.swap_base.specs.Sizes.{Sizes}
use Rattle.swap_wire.specs.declared.Msg.TheVariants as msg
use Rattle.swap_wire.specs.Fabric.{Parcel, parcel_of}
use Rattle.swap_slabs.specs.Slabs as slabs
use Rattle.swap_slabs.specs.Slabs.{has_lease, state_of, with_state}
use Rattle.swap_slabs.specs.declared.SlabState.{SlabState}
use Rattle.swap_slabs.specs.declared.SlabState.TheVariants.{Local, Asking, Borrowing, Mapped, Draining}
use Rattle.swap_rings.specs.declared.Request.{Request}
use Rattle.swap_rings.specs.declared.Request.TheVariants as request
use Rattle.swap_lender.specs.declared.SlotState.TheVariants.{Held}
use Rattle.swap_lender.specs.Lender as lender
use Rattle.swap_lender.specs.Lender.{slot_in, has_greeted}
use Rattle.swap_table.specs.Device.{done_word}
use Rattle.swap_table.proofs.LinkTables.{by_slab, state-same, state-other}
use Rattle.swap_joint.specs.Seats.{is_done}
use Rattle.swap_joint.specs.Stored.{gives_back}
use Rattle.swap_joint.specs.Allowed.{evicts_in, asks_in, rates_in, borrows_in, HasSlot, Waits, Allows}
use Rattle.swap_joint.proofs.Allows.{bare, any_end, allows_states, Holds, allows_on, MayAdd, allows_more, drains_by, leased_set, local_draining, holds_set}

-- what is said, as a list
abbrev pub saying : Option Parcel → List Parcel
saying None = []
saying (Some q) = q ∷ []

abbrev pub done_parcel : Lease → Parcel
done_parcel k = parcel_of (msg.Done k) []

-- a lease may be given back, and a rate told
pub may_give_back :
    (states : List SlabState) (ring : List Request) (l : Lender) (table : lender.Lender) (n : Link) (come : List Parcel) (ended : Bool) (out : List Parcel)
    (k : Lease)
    → HasSlot table.slots k true → gives_back k out ≡ false → evicts_in k come ≡ false → has_greeted table n ≡ true
    → MayAdd states ring l table n come ended out (done_parcel k)
may_give_back states ring l table n come ended out k slot ungiven untold greeted = record {
  plain = refl;
  kind = tt;
  greeted = inl greeted;
  done = λ j e. let same : k ≡ j = ap (λ (i : ℕ). record { 0 = i }) (eqb-true k.0 j.0 e) in (
    subst (λ (j : Lease). HasSlot table.slots j true) same slot,
    subst (λ (j : Lease). gives_back j out ≡ false) same ungiven,
    subst (λ (j : Lease). evicts_in j come ≡ false) same untold,
  );
  rate = λ j e. absurd (no_truth e);
  free = λ t i m j e is held. absurd (no_borrow t is);
}
  where
    no_truth : false ≡ true → ⊥
    no_truth e = cc

    no_borrow : (t : Slab) → msg.Done k ≡ msg.Borrow t → ⊥
    no_borrow t e = cc

pub may_tell :
    (states : List SlabState) (ring : List Request) (l : Lender) (table : lender.Lender) (n : Link) (come : List Parcel) (ended : Bool) (out : List Parcel)
    (k : Lease) (value : ℕ)
    → Waits table k → rates_in k out ≡ false → asks_in k come ≡ false → has_greeted table n ≡ true
    → MayAdd states ring l table n come ended out (parcel_of (msg.Rates k value) [])
may_tell states ring l table n come ended out k value waits untold unasked greeted = record {
  plain = refl;
  kind = tt;
  greeted = inl greeted;
  done = λ j e. absurd (no_truth e);
  rate = λ j e. let same : k ≡ j = ap (λ (i : ℕ). record { 0 = i }) (eqb-true k.0 j.0 e) in (
    subst (λ (j : Lease). Waits table j) same waits,
    subst (λ (j : Lease). rates_in j out ≡ false) same untold,
    subst (λ (j : Lease). asks_in j come ≡ false) same unasked,
  );
  free = λ t i m j e is held. absurd (no_borrow t is);
}
  where
    no_truth : false ≡ true → ⊥
    no_truth e = cc

    no_borrow : (t : Slab) → msg.Rates k value ≡ msg.Borrow t → ⊥
    no_borrow t e = cc

-- a slab is local as its lease is given back
given_up :
    (s : Sizes) (states : List SlabState) (ring ring' : List Request) (l : Lender) (table : lender.Lender) (n : Link) (come : List Parcel) (ended : Bool)
    (out : List Parcel) (t : Slab) (k : Lease)
    → ((j : Lease) → has_lease l j (state_of states t) ≡ true → k.0 ≡ j.0) → ((u : Slab) → borrows_in u ring ≡ true → borrows_in u ring' ≡ true)
    → HasSlot table.slots k true → gives_back k out ≡ false → evicts_in k come ≡ false → has_greeted table n ≡ true
    → Allows s states ring l table n come ended out → Allows s (with_state states t Local) ring' l table n come ended (out ++ done_parcel k ∷ [])
given_up s states ring ring' l table n come ended out t k only rings slot ungiven untold greeted h =
    allows_states s states (with_state states t Local) ring ring' l table n come ended (out ++ done_parcel k ∷ [])
    (drains_by (λ u j. HasSlot table.slots j true × (evicts_in j come ≡ true → ⊥)) l states t Local (λ j f is. absurd (local_draining l j f is))
    (λ u j f other is. (h.drains u j f is, λ come_now. h.before u j f come_now is)))
    (λ i m u j e held was. elim was [
      | inl at ↦
          by_slab
          (λ u. has_lease l j (state_of states u) ≡ true
          → (has_lease l j (state_of (with_state states t Local) u) ≡ true) ⊎ (borrows_in u ring' ≡ true)
          ⊎ (gives_back j (out ++ done_parcel k ∷ []) ≡ true) ⊎ (ended ≡ true))
          t u
          (λ at. inr (inr (inl (any_end (λ (q : Parcel). is_done j q.msg) out (done_parcel k) (eq-eqb k.0 j.0 (only j at))))))
          (λ other at. inl (ap (has_lease l j) (state-other states t u Local other) ∙ at)) at
      | inr asked ↦ inr (inl (rings u asked))
    ])
    (allows_more s states ring l table n come ended out (done_parcel k) (may_give_back states ring l table n come ended out k slot ungiven untold greeted) h)

-- one request fewer flies: the slab stays leased, or it drained and its lease is given back
pub allows_settled :
    (s : Sizes) (states : List SlabState) (ring ring' : List Request) (l : Lender) (table : lender.Lender) (n : Link) (come : List Parcel) (ended : Bool)
    (out : List Parcel) (t : Slab) (j : Lease)
    → has_lease l j (state_of states t) ≡ true → ((k : Lease) → gives_back k out ≡ true → (u : Slab) → has_lease l k (state_of states u) ≡ false)
    → ((k : Lease) → HasSlot table.slots k true → has_greeted table n ≡ true) → ((u : Slab) → borrows_in u ring ≡ true → borrows_in u ring' ≡ true)
    → Allows s states ring l table n come ended out
    → Allows s (slabs.settled_after states t) ring' l table n come ended (out ++ saying (done_word (slabs.settled_lease (state_of states t))))
allows_settled s states ring ring' l table n come ended out t j at unleased greeted rings h = go (state_of states t) refl at
  where
    leaves : (x : SlabState) → Holds l states (with_state states t x) → Allows s (with_state states t x) ring' l table n come ended (out ++ [])
    leaves x holds =
        subst (λ ps. Allows s (with_state states t x) ring' l table n come ended ps) (sym (bare out))
        (allows_on s states (with_state states t x) ring ring' l table n come ended out holds rings h)

    mapped_drains : (a b : Lender) (i k : Lease) (f g : ℕ) → Mapped a i f ≡ Draining b k g → ⊥
    mapped_drains a b i k f g e = cc

    same_drain : (a b : Lender) (i k : Lease) (f g o : ℕ) → Draining a i f ≡ Draining b k g → Draining a i o ≡ Draining b k o
    same_drain a b i k f g o e = cc

    go :
        (x : SlabState) → state_of states t ≡ x → has_lease l j x ≡ true
        → Allows s (with_state states t (slabs.after_settled x)) ring' l table n come ended (out ++ saying (done_word (slabs.settled_lease x)))
    go Local is at = cc
    go (Asking pair) is at = cc
    go (Borrowing m) is at = cc
    go (Mapped m k f) is at =
        leaves (Mapped m k (f - 1))
        (holds_set l states t (Mapped m k (f - 1)) (λ i g e. absurd (mapped_drains m l k i (f - 1) g e)) (λ i own. sym (ap (has_lease l i) is) ∙ own))
    go (Draining m k f) is at = by ((f - 1) == 0)
      where
        same : m ≡ l
        same = ap (λ (i : ℕ). record { 0 = i }) (eqb-true m.0 l.0 (and_parts (m.0 == l.0) (k.0 == j.0) at).0)

        drains : state_of states t ≡ Draining l k f
        drains = is ∙ ap (λ (o : Lender). Draining o k f) same

        own : has_lease l k (state_of states t) ≡ true
        own = ap (has_lease l k) drains ∙ and_from (l.0 == l.0) (k.0 == k.0) (eq-eqb l.0 l.0 refl) (eq-eqb k.0 k.0 refl)

        slot : HasSlot table.slots k true
        slot = h.drains t k f drains

        by :
            (b : Bool)
            → Allows s (with_state states t (cond b Local (Draining m k (f - 1)))) ring' l table n come ended (out ++ saying (done_word (cond b (Some k) None)))
        by true =
            given_up s states ring ring' l table n come ended out t k
            (λ i has. eqb-true k.0 i.0 (and_parts (l.0 == l.0) (k.0 == i.0) (sym (ap (has_lease l i) drains) ∙ has)).1) rings slot
            (false_from_ne_true _ (λ e. both_ways (has_lease l k (state_of states t)) (unleased k e t) own))
            (false_from_ne_true _ (λ e. h.before t k f e drains)) (greeted k slot) h
        by false =
            leaves (Draining m k (f - 1))
            (holds_set l states t (Draining m k (f - 1)) (λ i g e. (f, is ∙ same_drain m l k i (f - 1) g f e)) (λ i has. sym (ap (has_lease l i) is) ∙ has))

-- a mapped slab is taken back: it drains, or its lease is given back at once
pub allows_evicted :
    (s : Sizes) (states : List SlabState) (ring : List Request) (l : Lender) (table : lender.Lender) (n : Link) (come : List Parcel) (ended : Bool)
    (out : List Parcel) (t : Slab) (k : Lease) (f : ℕ)
    → state_of states t ≡ Mapped l k f → HasSlot table.slots k true → gives_back k out ≡ false → evicts_in k come ≡ false → has_greeted table n ≡ true
    → Allows s states ring l table n come ended out
    → Allows s (slabs.evicted_after states t) ring l table n come ended (out ++ saying (done_word (slabs.evicted_lease (state_of states t))))
allows_evicted s states ring l table n come ended out t k f is slot ungiven untold greeted h =
    let P : SlabState → Type 0 =
    λ x. Allows s (with_state states t (slabs.after_evict x)) ring l table n come ended (out ++ saying (done_word (slabs.evicted_lease x))) in
    subst P (sym is) (by (f == 0))
  where
    drain_is : (i : Lease) (g : ℕ) → Draining l k f ≡ Draining l i g → k ≡ i
    drain_is i g e = cc

    by :
        (b : Bool) → Allows s (with_state states t (cond b Local (Draining l k f))) ring l table n come ended (out ++ saying (done_word (cond b (Some k) None)))
    by true =
        given_up s states ring ring l table n come ended out t k
        (λ i has. eqb-true k.0 i.0 (and_parts (l.0 == l.0) (k.0 == i.0) (sym (ap (has_lease l i) is) ∙ has)).1) (λ u e. e) slot ungiven untold greeted h
    by false =
        subst (λ ps. Allows s (with_state states t (Draining l k f)) ring l table n come ended ps) (sym (bare out))
        (allows_states s states (with_state states t (Draining l k f)) ring ring l table n come ended out
        (drains_by (λ u j. HasSlot table.slots j true × (evicts_in j come ≡ true → ⊥)) l states t (Draining l k f)
        (λ j g e. (
          subst (λ (j : Lease). HasSlot table.slots j true) (drain_is j g e) slot,
          λ come_now. both_ways (evicts_in k come) untold (subst (λ (j : Lease). evicts_in j come ≡ true) (sym (drain_is j g e)) come_now),
        ))
        (λ u j g other at. (h.drains u j g at, λ come_now. h.before u j g come_now at)))
        (λ i m u j e held was.
        elim was [ inl at ↦ inl (leased_set l states t (Draining l k f) (λ i own. sym (ap (has_lease l i) is) ∙ own) u j at) | inr asked ↦ inr (inl asked) ])
        h)

-- the first request is answered
or_cases : (a b : Bool) → (a || b) ≡ true → (a ≡ true) ⊎ (b ≡ true)
or_cases true b e = inl refl
or_cases false b e = inr e

-- a slab is lent: its slot has this lease
pub allows_lent :
    (s : Sizes) (states : List SlabState) (ring rest : List Request) (l : Lender) (table : lender.Lender) (n : Link) (come : List Parcel) (ended : Bool)
    (out : List Parcel) (t : Slab) (k : Lease)
    → t.0 < length states → state_of states t ≡ Borrowing l → ring ≡ request.Borrow t ∷ rest
    → ((i : ℕ) (m : Link) (j : Lease) (e : Bool) → slot_in table.slots i ≡ Held m t j e → k.0 ≡ j.0) → Allows s states ring l table n come ended out
    → Allows s (slabs.lent_after states t k) rest l table n come ended out
allows_lent s states ring rest l table n come ended out t k within borrows is only h =
    let P : SlabState → Type 0 = λ x. Allows s (with_state states t (slabs.after_lent x k)) rest l table n come ended out in
    subst P (sym borrows)
    (allows_states s states (with_state states t (Mapped l k 0)) ring rest l table n come ended out
    (drains_by (λ u j. HasSlot table.slots j true × (evicts_in j come ≡ true → ⊥)) l states t (Mapped l k 0) (λ j f e. absurd (mapped_drains j f e))
    (λ u j f other at. (h.drains u j f at, λ come_now. h.before u j f come_now at)))
    (λ i m u j e held was. elim was [
      | inl at ↦
          inl (leased_set l states t (Mapped l k 0) (λ i own. absurd (both_ways (has_lease l i (state_of states t)) (ap (has_lease l i) borrows) own)) u j at)
      | inr asked ↦ elim (or_cases (t.0 == u.0) (borrows_in u rest) (sym (ap (borrows_in u) is) ∙ asked)) [
        | inl same ↦ inl (here i m u j e held (ap (λ (o : ℕ). record { 0 = o }) (eqb-true t.0 u.0 same)))
        | inr later ↦ inr (inl later)
      ]
    ]) h)
  where
    mapped_drains : (j : Lease) (f : ℕ) → Mapped l k 0 ≡ Draining l j f → ⊥
    mapped_drains j f e = cc

    here :
        (i : ℕ) (m : Link) (u : Slab) (j : Lease) (e : Bool) → slot_in table.slots i ≡ Held m u j e → t ≡ u
        → has_lease l j (state_of (with_state states t (Mapped l k 0)) u) ≡ true
    here i m u j e held same =
        subst (λ (u : Slab). has_lease l j (state_of (with_state states t (Mapped l k 0)) u) ≡ true) same
        (ap (has_lease l j) (state-same states t (Mapped l k 0) within)
        ∙ and_from (l.0 == l.0) (k.0 == j.0) (eq-eqb l.0 l.0 refl) (eq-eqb k.0 j.0 (only i m j e (held ∙ ap (λ (u : Slab). Held m u j e) (sym same)))))

-- a slab is refused: no slot is held for it
pub allows_refused :
    (s : Sizes) (states : List SlabState) (ring rest : List Request) (l : Lender) (table : lender.Lender) (n : Link) (come : List Parcel) (ended : Bool)
    (out : List Parcel) (t : Slab)
    → state_of states t ≡ Borrowing l → ring ≡ request.Borrow t ∷ rest → ((i : ℕ) (m : Link) (j : Lease) (e : Bool) → slot_in table.slots i ≡ Held m t j e → ⊥)
    → Allows s states ring l table n come ended out → Allows s (slabs.refused_after states t) rest l table n come ended out
allows_refused s states ring rest l table n come ended out t borrows is none h =
    allows_states s states (with_state states t Local) ring rest l table n come ended out
    (drains_by (λ u j. HasSlot table.slots j true × (evicts_in j come ≡ true → ⊥)) l states t Local (λ j f e. absurd (local_draining l j f e))
    (λ u j f other at. (h.drains u j f at, λ come_now. h.before u j f come_now at)))
    (λ i m u j e held was. elim was [
      | inl at ↦ inl (leased_set l states t Local (λ i own. absurd (both_ways (has_lease l i (state_of states t)) (ap (has_lease l i) borrows) own)) u j at)
      | inr asked ↦ elim (or_cases (t.0 == u.0) (borrows_in u rest) (sym (ap (borrows_in u) is) ∙ asked)) [
        | inl same ↦
            (let at : t ≡ u = ap (λ (o : ℕ). record { 0 = o }) (eqb-true t.0 u.0 same) in
            absurd (none i m j e (held ∙ ap (λ (u : Slab). Held m u j e) (sym at))))
        | inr later ↦ inr (inl later)
      ]
    ]) h
