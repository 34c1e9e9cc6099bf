-- What may be sent stays so as a lease is given back, a rate is told, a slab is borrowed, and a host is measured.
use Rattle.std.proofs.Common.{◌≡◌, ℕ, ◌<◌, ◌⊎◌, ◌^◌, inl, inr, Bool, true, false, ◌||◌, ◌&&◌, zero, suc, List, [], ◌∷◌, set, take, refl, sym, ap, ◌∙◌, subst, arith, eqb, eq-eqb, Option, None, Some}
use Rattle.std.specs.Prelude.{option_map, not}
use Rattle.std.specs.List.{list_any}
use Rattle.std.proofs.lemmas.Nat.{or_lt, pow_below}
use Rattle.std.proofs.lemmas.Bool.{both_ways, false_from_ne_true, cases_lt, eqb-true}
use Rattle.std.proofs.lemmas.List.Sorted.{list_any-IsPermutation}
use Rattle.swap_base.specs.declared.Slab.{Slab}
use Rattle.swap_base.specs.declared.Link.{Link}
use Rattle.swap_base.specs.declared.Lender.{Lender as LenderNo}
use Rattle.swap_base.specs.declared.Lease.{Lease}
use Rattle.swap_base.specs.Sizes.{Sizes}
use Rattle.swap_wire.specs.declared.Msg.{Msg}
use Rattle.swap_wire.specs.declared.Msg.TheVariants as msg
use Rattle.swap_wire.specs.Fabric.{Parcel}
use Rattle.swap_choice.specs.Slots.{has, slots}
use Rattle.swap_choice.specs.Picks.{picks}
use Rattle.swap_choice.proofs.PicksLemmas.{IsPermutation-picks}
use Rattle.swap_choice.proofs.Ranks.{has-set_of, any-filter-out}
use Rattle.swap_choice.proofs.Chosen.{has-zero}
use Rattle.swap_evict.specs.Rounds.{Round, round_at_start, answer, waits_for}
use Rattle.swap_slabs.specs.Slabs.{has_lease, state_of}
use Rattle.swap_slabs.specs.declared.SlabState.{SlabState}
use Rattle.swap_slabs.specs.declared.SlabState.TheVariants.{Draining}
use Rattle.swap_rings.specs.declared.Request.{Request}
use Rattle.swap_lender.specs.declared.SlotState.{SlotState}
use Rattle.swap_lender.specs.declared.SlotState.TheVariants.{Free, Held}
use Rattle.swap_lender.specs.declared.Notice.TheVariants as notice
use Rattle.swap_lender.specs.Lender.{Lender, slot_in, has_greeted, is_staying, is_evicting}
use Rattle.swap_lender.specs.Table.{settle_with, slots_due, mark_slots, parcels_told, message_of, staying_slots, to_ask, asked_slots}
use Rattle.swap_link.specs.Fits.{IsSound}
use Rattle.swap_link.specs.Lane.{Lane}
use Rattle.swap_link.specs.Channel.{forward_after}
use Rattle.swap_joint.specs.Seats.{is_done}
use Rattle.swap_joint.specs.Stored.{gives_back}
use Rattle.swap_joint.specs.Turn.{AsksUntold}
use Rattle.swap_joint.specs.Allowed.{is_evict, is_ask, is_rate, is_refusal, is_hello, rates_in, refuses_in, borrows_in, HasSlot, Waits, Greets, Allows}
use Rattle.swap_joint.proofs.Serves.{any-rest}
use Rattle.swap_joint.proofs.Notices.{differ_of, due_asked}
use Rattle.swap_joint.specs.Left.{borrows}
use Rattle.swap_joint.proofs.Allowed.{free_map}
use Rattle.swap_joint.proofs.Serving.{same_slot, kept_marked, was_marked, marked_told, still_waits, not_ready}
use Rattle.swap_joint.proofs.Noticing.{IsNotified, told_named, told_once}
use Rattle.swap_base.proofs.Bools.{or_parts}

abbrev lease_in : SlotState → ℕ
lease_in Free = 0
lease_in (Held n t k e) = k.0

pub one_lease :
    (slots : List SlotState) (i j : ℕ) (m n : Link) (t u : Slab) (k o : Lease) (e f : Bool) → i ≡ j → slot_in slots i ≡ Held m t k e
    → slot_in slots j ≡ Held n u o f → k.0 ≡ o.0
one_lease xs i j m n t u k o e f same a b = ap lease_in (sym a ∙ ap (λ x. slot_in xs x) same ∙ b)

abbrev told_in : SlotState → Bool
told_in Free = false
told_in (Held n t k e) = e

one_told :
    (slots : List SlotState) (i j : ℕ) (m n : Link) (t u : Slab) (k o : Lease) (e f : Bool) → i ≡ j → slot_in slots i ≡ Held m t k e
    → slot_in slots j ≡ Held n u o f → e ≡ f
one_told xs i j m n t u k o e f same a b = ap told_in (sym a ∙ ap (λ x. slot_in xs x) same ∙ b)

-- a slot that is freed

-- what is held then was held, elsewhere
pub freed_was :
    (slots : List SlotState) (i j : ℕ) (m : Link) (t : Slab) (k : Lease) (e : Bool) → slot_in (set slots i Free) j ≡ Held m t k e
    → (j ≡ i → ⊥) × (slot_in slots j ≡ Held m t k e)
freed_was [] i j m t k e is = cc
freed_was (s ∷ ss) zero zero m t k e is = cc
freed_was (s ∷ ss) zero (suc j) m t k e is = ((λ same. absurd (omega (arith, same))), is)
freed_was (s ∷ ss) (suc i) zero m t k e is = ((λ same. absurd (omega (arith, same))), is)
freed_was (s ∷ ss) (suc i) (suc j) m t k e is = let rest = freed_was ss i j m t k e is in ((λ same. rest.0 (omega (arith, same))), rest.1)

-- another slot stays
pub freed_stays : (slots : List SlotState) (i j : ℕ) → (j ≡ i → ⊥) → slot_in (set slots i Free) j ≡ slot_in slots j
freed_stays [] i j other = refl
freed_stays (s ∷ ss) zero zero other = absurd (other refl)
freed_stays (s ∷ ss) zero (suc j) other = refl
freed_stays (s ∷ ss) (suc i) zero other = refl
freed_stays (s ∷ ss) (suc i) (suc j) other = freed_stays ss i j (λ same. other (ap suc same))

done_is : (k : Lease) (m : Msg) (j : Lease) → m ≡ msg.Done j → is_done k m ≡ true → j.0 ≡ k.0
done_is k m j is e = eqb-true j.0 k.0 (sym (ap (is_done k) is) ∙ e)

is_done_of : (k : Lease) (m : Msg) (j : Lease) → m ≡ msg.Done j → j.0 ≡ k.0 → is_done k m ≡ true
is_done_of k m j is same = ap (is_done k) is ∙ eq-eqb j.0 k.0 same

either_done :
    {P : Type 0} (k : Lease) (q : Parcel) (ps : List Parcel) → gives_back k (q ∷ ps) ≡ true → (is_done k q.msg ≡ true → P) → (gives_back k ps ≡ true → P) → P
either_done {P} k q ps e here there = go (is_done k q.msg) refl e
  where
    go : (b : Bool) → is_done k q.msg ≡ b → (b || gives_back k ps) ≡ true → P
    go true is e = here is
    go false is e = there e

module _ (s : Sizes) (states : List SlabState) (ring : List Request) (l : LenderNo) (table : Lender) (n : Link) (come : List Parcel) (ended : Bool)
    (sound : IsSound table) where
  -- a lease that no slab has is given back: its slot is free
  pub allows_done :
      (q : Parcel) (ps : List Parcel) (j : Lease) (i : ℕ) (m : Link) (t : Slab) → q.msg ≡ msg.Done j → slot_in table.slots i ≡ Held m t j true
      → ((u : Slab) → has_lease l j (state_of states u) ≡ false)
      → ((x : Slab) (f : ℕ) → state_of states x ≡ Draining l j f → has_lease l j (state_of states x) ≡ true)
      → Allows s states ring l table n come ended (q ∷ ps) → Allows s states ring l (record table { slots = set table.slots i Free }) n come ended ps
  allows_done q ps j i m t is at unleased drained h = record {
    told =
        λ k e. keeps k (h.told k e) (λ same. both_ways (gives_back k (q ∷ ps)) (h.apart k e) (ap (λ b. b || gives_back k ps) (is_done_of k q.msg j is same)));
    drains =
        λ u k f e.
        keeps k (h.drains u k f e)
        (λ same. let e' : state_of states u ≡ Draining l j f = e ∙ ap (λ x. Draining l (record { 0 = x }) f) (sym same) in
        both_ways (has_lease l j (state_of states u)) (unleased u) (drained u f e'));
    done =
        λ k e.
        keeps k (h.done k (any-rest (λ (p : Parcel). is_done k p.msg) q ps e))
        (λ same. both_ways (gives_back k ps) (h.done_once.0 k (is_done_of k q.msg j is same)) e);
    done_once = h.done_once.1;
    evict_once = h.evict_once;
    apart = λ k e. (or_parts (is_done k q.msg) (gives_back k ps) (h.apart k e)).1;
    before = h.before;
    asks = λ k e. waits k (h.asks k e);
    rates = λ k e. waits k (h.rates k (any-rest (λ (p : Parcel). is_rate k p.msg) q ps e));
    ask_once = h.ask_once;
    rate_once = h.rate_once.1;
    one = λ k e. (or_parts (is_rate k q.msg) (rates_in k ps) (h.one k e)).1;
    home = λ x y u k e held. (
        let was = freed_was table.slots i x y u k e held in
        elim (h.home x y u k e was.1) [
          | inl leased ↦ inl leased
          | inr rest ↦ elim rest [
            | inl asked_ ↦ inr (inl asked_)
            | inr later ↦ elim later [
              | inl back ↦
                  either_done k q ps back (λ here. absurd (was.0 (same_slot table sound x i y m u t k j e true was.1 at (sym (done_is k q.msg j is here)))))
                  (λ there. inr (inr (inl there)))
              | inr over ↦ inr (inr (inr over))
            ]
          ]
        ]);
    refused = λ x y u k e come_ held. h.refused x y u k e come_ (freed_was table.slots i x y u k e held).1;
    free = free_map table.slots (set table.slots i Free) (λ k. ⊥ ⊎ (is_done k q.msg ≡ true)) (λ k. ⊥) ps
        (λ u x y k e _ held. let was = freed_was table.slots i x y u k e held in (
          (e, was.1),
          λ given.
              elim given [ inl none ↦ none | inr here ↦ was.0 (same_slot table sound x i y m u t k j e true was.1 at (sym (done_is k q.msg j is here))) ],
        ))
        h.free.1;
    greets = greeted (has_greeted table n) h.greets;
    kinds = h.kinds.1;
  }
    where
      elsewhere : (k : Lease) (x : ℕ) (y : Link) (u : Slab) (e : Bool) → slot_in table.slots x ≡ Held y u k e → (j.0 ≡ k.0 → ⊥) → x ≡ i → ⊥
      elsewhere k x y u e held other same = other (sym (one_lease table.slots x i y m u t k j e true same held at))

      keeps : (k : Lease) → HasSlot table.slots k true → (j.0 ≡ k.0 → ⊥) → HasSlot (set table.slots i Free) k true
      keeps k (x, y, u, held) other = (x, y, u, freed_stays table.slots i x (elsewhere k x y u true held other) ∙ held)

      told_one : true ≡ false → ⊥
      told_one e = cc

      waits : (k : Lease) → Waits table k → Waits (record table { slots = set table.slots i Free }) k
      waits k w = record {
        round = w.round;
        open_ = w.open_;
        at = w.at;
        link = w.link;
        slab = w.slab;
        held = freed_stays table.slots i w.at (λ same. told_one (sym (one_told table.slots w.at i w.link m w.slab t k j false true same w.held at))) ∙ w.held;
        waits = w.waits;
        low = w.low;
        answered = w.answered;
        gone = w.gone;
      }

      greeted : (g : Bool) → Greets s g ended (q ∷ ps) → Greets s g ended ps
      greeted true e = (or_parts (is_hello q.msg) _ e).1
      greeted false e = absurd (both_ways (is_hello q.msg) (ap is_hello is) (ap (λ (p : Parcel). is_hello p.msg) e.0))

-- a rate is told, and a round closes

rate_is : (k : Lease) (m : Msg) (j : Lease) (v : ℕ) → m ≡ msg.Rates j v → is_rate k m ≡ true → j.0 ≡ k.0
rate_is k m j v is e = eqb-true j.0 k.0 (sym (ap (is_rate k) is) ∙ e)

rate_of : (k : Lease) (m : Msg) (j : Lease) (v : ℕ) → m ≡ msg.Rates j v → j.0 ≡ k.0 → is_rate k m ≡ true
rate_of k m j v is same = ap (is_rate k) is ∙ eq-eqb j.0 k.0 same

answered_round : (o : Option Round) (r : Round) (slot value : ℕ) → o ≡ Some r → option_map (answer slot value) o ≡ Some (answer slot value r)
answered_round o r slot value is = ap (option_map (answer slot value)) is

module _ (s : Sizes) (states : List SlabState) (ring : List Request) (l : LenderNo) (table : Lender) (n : Link) (come : List Parcel) (ended : Bool)
    (sound : IsSound table) where
  -- the value is noted
  pub allows_rate :
      (q : Parcel) (ps : List Parcel) (j : Lease) (v : ℕ) (w : Waits table j) → q.msg ≡ msg.Rates j v → Allows s states ring l table n come ended (q ∷ ps)
      → Allows s states ring l (record table { round = option_map (answer w.at v) table.round }) n come ended ps
  allows_rate q ps j v w is h = record {
    told = h.told;
    drains = h.drains;
    done = λ k e. h.done k (any-rest (λ (p : Parcel). is_done k p.msg) q ps e);
    done_once = h.done_once.1;
    evict_once = h.evict_once;
    apart = λ k e. (or_parts (is_done k q.msg) (gives_back k ps) (h.apart k e)).1;
    before = h.before;
    asks = λ k e. waits k (h.asks k e) (λ same. both_ways (rates_in k (q ∷ ps)) (h.one k e) (ap (λ b. b || rates_in k ps) (rate_of k q.msg j v is same)));
    rates =
        λ k e.
        waits k (h.rates k (any-rest (λ (p : Parcel). is_rate k p.msg) q ps e))
        (λ same. both_ways (rates_in k ps) (h.rate_once.0 k (rate_of k q.msg j v is same)) e);
    ask_once = h.ask_once;
    rate_once = h.rate_once.1;
    one = λ k e. (or_parts (is_rate k q.msg) (rates_in k ps) (h.one k e)).1;
    home = λ x y u k e held. elim (h.home x y u k e held) [
      | inl leased ↦ inl leased
      | inr rest ↦ elim rest [
        | inl asked_ ↦ inr (inl asked_)
        | inr later ↦ elim later [
          | inl back ↦ either_done k q ps back (λ here. absurd (both_ways (is_done k q.msg) (ap (is_done k) is) here)) (λ there. inr (inr (inl there)))
          | inr over ↦ inr (inr (inr over))
        ]
      ]
    ];
    refused = h.refused;
    free =
        free_map table.slots table.slots (λ k. ⊥ ⊎ (is_done k q.msg ≡ true)) (λ k. ⊥) ps
        (λ u x y k e _ held. ((e, held), λ given. elim given [ inl none ↦ none | inr here ↦ both_ways (is_done k q.msg) (ap (is_done k) is) here ])) h.free.1;
    greets = greeted (has_greeted table n) h.greets;
    kinds = h.kinds.1;
  }
    where
      waits : (k : Lease) → Waits table k → (j.0 ≡ k.0 → ⊥) → Waits (record table { round = option_map (answer w.at v) table.round }) k
      waits k x other =
          let apart : x.at ≡ w.at → ⊥ = λ same. other (sym (one_lease table.slots x.at w.at x.link w.link x.slab w.slab k j false false same x.held w.held)) in
          record {
            round = answer w.at v x.round;
            open_ = answered_round table.round x.round w.at v x.open_;
            at = x.at;
            link = x.link;
            slab = x.slab;
            held = x.held;
            waits = still_waits x.round w.at v x.at apart x.waits;
            low = x.low;
            answered = or_lt 64 x.round.answered (2 ^ w.at) x.answered (pow_below w.at 64 w.low);
            gone = x.gone;
          }

      greeted : (g : Bool) → Greets s g ended (q ∷ ps) → Greets s g ended ps
      greeted true e = (or_parts (is_hello q.msg) _ e).1
      greeted false e = absurd (both_ways (is_hello q.msg) (ap is_hello is) (ap (λ (p : Parcel). is_hello p.msg) e.0))

evict_of : (k j : Lease) → is_evict k (message_of notice.Evict j) ≡ true → j.0 ≡ k.0
evict_of k j e = eqb-true j.0 k.0 e

held_untold : (x : SlotState) (m : Link) (t : Slab) (k : Lease) (e : Bool) → x ≡ Held m t k e → is_evicting x ≡ false → e ≡ false
held_untold x m t k e is off = sym (ap is_evicting is) ∙ off

some_none : {X : Type 0} {x : X} {P : Type 0} → None ≡ Some x → P
some_none e = cc

module _ (s : Sizes) (states : List SlabState) (ring : List Request) (l : LenderNo) (table : Lender) (n : Link) (b : Lane) (ended : Bool) (out : List Parcel)
    (sound : IsSound table) where
  -- no lease of the set is under way to be told, and none is given back
  no_slot :
      (i : ℕ) (m : Link) (t : Slab) (j : Lease) (e : Bool) (k : Lease) → is_evicting (slot_in table.slots i) ≡ false → slot_in table.slots i ≡ Held m t j e
      → j.0 ≡ k.0 → HasSlot table.slots k true → ⊥
  no_slot i m t j e k off at same (x, y, u, held) =
      let one : i ≡ x = same_slot table sound i x m y t u j k e true at held same in
      told_off (sym (one_told table.slots i x m y t u j k e true one at held) ∙ held_untold (slot_in table.slots i) m t j e at off)
    where
      told_off : true ≡ false → ⊥
      told_off e = cc

  -- the round is closed: its slots are told to go
  closed :
      (set : ℕ) → ((i : ℕ) → has set i ≡ true → is_evicting (slot_in table.slots i) ≡ false) → ((k : Lease) → Waits table k → ⊥)
      → Allows s states ring l table n b.parcels ended out
      → Allows s states ring l (record table { slots = mark_slots set 0 table.slots; round = None }) n
      (forward_after n b (parcels_told notice.Evict set 0 table.slots)).parcels ended out
  closed set off waited h = record {
    told = λ k e. elim (told_named notice.Evict (is_evict k) n set 0 table.slots b e) [
      | inl was ↦ still k (h.told k was)
      | inr new ↦ now k new
    ];
    drains = λ u k f e. still k (h.drains u k f e);
    done = λ k e. still k (h.done k e);
    done_once = h.done_once;
    evict_once = told_once notice.Evict is_evict n set 0 table.slots b evict_of (differ_of table sound) h.evict_once
        (λ i m t j e k inside at same.
        false_from_ne_true _ (λ named. no_slot i m t j e k (off i (subst (λ x. has set x ≡ true) (omega arith) inside)) at same (h.told k named)));
    apart = λ k e. elim (told_named notice.Evict (is_evict k) n set 0 table.slots b e) [
      | inl was ↦ h.apart k was
      | inr new ↦
          false_from_ne_true _
          (λ given.
          no_slot new.at new.link new.slab new.lease new.told_before k (off new.at (subst (λ x. has set x ≡ true) (omega arith) new.inside)) new.held
          (evict_of k new.lease new.passes) (h.done k given))
    ];
    before = λ u k f e drains. elim (told_named notice.Evict (is_evict k) n set 0 table.slots b e) [
      | inl was ↦ h.before u k f was drains
      | inr new ↦
          no_slot new.at new.link new.slab new.lease new.told_before k (off new.at (subst (λ x. has set x ≡ true) (omega arith) new.inside)) new.held
          (evict_of k new.lease new.passes) (h.drains u k f drains)
    ];
    asks =
        λ k e.
        absurd
        (elim (told_named notice.Evict (is_ask k) n set 0 table.slots b e) [ inl was ↦ waited k (h.asks k was) | inr new ↦ both_ways false refl new.passes ]);
    rates = λ k e. absurd (waited k (h.rates k e));
    ask_once =
        told_once notice.Evict is_ask n set 0 table.slots b (λ k j e. absurd (both_ways false refl e)) (differ_of table sound) h.ask_once
        (λ i m t j e k inside at same. false_from_ne_true _ (λ named. waited k (h.asks k named)));
    rate_once = h.rate_once;
    one = λ k e. false_from_ne_true _ (λ rates. waited k (h.rates k rates));
    home = λ x y u k e held. let was = was_marked set 0 table.slots x y u k e held in h.home x y u k was.0 was.1;
    refused = λ x y u k e come held. elim (told_named notice.Evict (is_refusal u) n set 0 table.slots b come) [
      | inl was ↦ (let w = was_marked set 0 table.slots x y u k e held in h.refused x y u k w.0 was w.1)
      | inr new ↦ both_ways false refl new.passes
    ];
    free =
        free_map table.slots (mark_slots set 0 table.slots) (λ k. ⊥) (λ k. ⊥) out
        (λ u x y k e _ held. (was_marked set 0 table.slots x y u k e held, λ given. given)) h.free;
    greets = h.greets;
    kinds = h.kinds;
  }
    where
      still : (k : Lease) → HasSlot table.slots k true → HasSlot (mark_slots set 0 table.slots) k true
      still k (x, y, u, held) = (x, y, u, kept_marked set 0 table.slots x y u k held)

      now : (k : Lease) → IsNotified notice.Evict (is_evict k) set 0 table.slots → HasSlot (mark_slots set 0 table.slots) k true
      now k new = (
        new.at,
        new.link,
        new.slab,
        marked_told set 0 table.slots new.at new.link new.slab new.lease new.told_before new.inside new.held
            ∙ ap (λ i. Held new.link new.slab (record { 0 = i }) true) (evict_of k new.lease new.passes),
      )

  -- a round that is ready is closed
  pub allows_settled :
      (o : Option ℕ) → slots_due table.round ≡ o → AsksUntold table.round table.slots → Allows s states ring l table n b.parcels ended out
      → Allows s states ring l (settle_with table o).lender n (forward_after n b (settle_with table o).parcels).parcels ended out
  allows_settled None is untold h = h
  allows_settled (Some set) is untold h =
      closed set (λ i inside. due_asked table.round table.slots set i untold is inside)
      (λ k w. some_none (sym (ap slots_due w.open_ ∙ not_ready w.round w.at w.low w.answered w.gone w.waits) ∙ is)) h

-- a slot is lent

pub set_is : (xs : List SlotState) (i x : ℕ) (y : SlotState) → ((x ≡ i) × (slot_in (set xs i y) x ≡ y)) ⊎ (slot_in (set xs i y) x ≡ slot_in xs x)
set_is [] i x y = inr refl
set_is (s ∷ ss) zero zero y = inl (refl, refl)
set_is (s ∷ ss) zero (suc x) y = inr refl
set_is (s ∷ ss) (suc i) zero y = inr refl
set_is (s ∷ ss) (suc i) (suc x) y = elim (set_is ss i x y) [ inl here ↦ inl (ap suc here.0, here.1) | inr there ↦ inr there ]

pub set_stays :
    (xs : List SlotState) (i x : ℕ) (y : SlotState) (m : Link) (t : Slab) (k : Lease) (e : Bool) → slot_in xs i ≡ Free → slot_in xs x ≡ Held m t k e
    → slot_in (set xs i y) x ≡ Held m t k e
set_stays xs i x y m t k e is held = elim (set_is xs i x y) [
  | inl here ↦ absurd (free_held (sym is ∙ ap (λ z. slot_in xs z) (sym here.0) ∙ held))
  | inr there ↦ there ∙ held
]
  where
    free_held : Free ≡ Held m t k e → ⊥
    free_held e = cc

slab_in : Slab → SlotState → Slab
slab_in d Free = d
slab_in d (Held n t k e) = t

held_slab : (m n : Link) (t u : Slab) (j k : Lease) (e f : Bool) → Held m t j e ≡ Held n u k f → t ≡ u
held_slab m n t u j k e f is = cc

module _ (s : Sizes) (states : List SlabState) (ring : List Request) (l : LenderNo) (table : Lender) (n : Link) (come : List Parcel) (ended : Bool)
    (out : List Parcel) where
  pub allows_granted :
      (i : ℕ) (m : Link) (t : Slab) (j : Lease) (contents : List (List (List ℕ))) (next : ℕ) → slot_in table.slots i ≡ Free
      → (borrows_in t ring ≡ true) ⊎ (ended ≡ true) → refuses_in t come ≡ false → list_any (λ (p : Parcel). borrows t p.msg) out ≡ false
      → Allows s states ring l table n come ended out
      → Allows s states ring l (record table { slots = set table.slots i (Held m t j false); contents = contents; next_lease = next }) n come ended out
  allows_granted i m t j contents next is asked_ refused_not borrowed_not h = record {
    told = λ k e. still k (h.told k e);
    drains = λ u k f e. still k (h.drains u k f e);
    done = λ k e. still k (h.done k e);
    done_once = h.done_once;
    evict_once = h.evict_once;
    apart = h.apart;
    before = h.before;
    asks = λ k e. waits k (h.asks k e);
    rates = λ k e. waits k (h.rates k e);
    ask_once = h.ask_once;
    rate_once = h.rate_once;
    one = h.one;
    home = λ x y u k e held. elim (set_is table.slots i x (Held m t j false)) [
      | inl here ↦
          elim asked_ [
            | inl stands ↦ inr (inl (subst (λ z. borrows_in z ring ≡ true) (held_slab m y t u j k false e (sym here.1 ∙ held)) stands))
            | inr over ↦ inr (inr (inr over))
          ]
      | inr there ↦ h.home x y u k e (sym there ∙ held)
    ];
    refused = λ x y u k e come_ held. elim (set_is table.slots i x (Held m t j false)) [
      | inl here ↦
          both_ways (refuses_in t come) refused_not (subst (λ z. refuses_in z come ≡ true) (sym (held_slab m y t u j k false e (sym here.1 ∙ held))) come_)
      | inr there ↦ h.refused x y u k e come_ (sym there ∙ held)
    ];
    free = free_map table.slots (set table.slots i (Held m t j false)) (λ k. ⊥) (λ k. ⊥) out
        (λ u x y k e borrowed held. elim (set_is table.slots i x (Held m t j false)) [
          | inl here ↦
              absurd
              (both_ways (list_any (λ (p : Parcel). borrows t p.msg) out) borrowed_not
              (subst (λ z. list_any (λ (p : Parcel). borrows z p.msg) out ≡ true) (sym (held_slab m y t u j k false e (sym here.1 ∙ held))) borrowed))
          | inr there ↦ ((e, sym there ∙ held), λ given. given)
        ]) h.free;
    greets = h.greets;
    kinds = h.kinds;
  }
    where
      still : (k : Lease) → HasSlot table.slots k true → HasSlot (set table.slots i (Held m t j false)) k true
      still k (x, y, u, held) = (x, y, u, set_stays table.slots i x (Held m t j false) y u k true is held)

      waits : (k : Lease) → Waits table k → Waits (record table { slots = set table.slots i (Held m t j false); contents = contents; next_lease = next }) k
      waits k w = record {
        round = w.round;
        open_ = w.open_;
        at = w.at;
        link = w.link;
        slab = w.slab;
        held = set_stays table.slots i w.at (Held m t j false) w.link w.slab k false is w.held;
        waits = w.waits;
        low = w.low;
        answered = w.answered;
        gone = w.gone;
      }

-- a host is measured, and a round opens

or_step : (a b c : Bool) → (b ≡ true → c ≡ true) → (a || b) ≡ true → (a || c) ≡ true
or_step true b c each e = refl
or_step false b c each e = each e

pub asked_low : (table : Lender) (word i : ℕ) → has (asked_slots table word) i ≡ true → i < 64
unfolding slots
asked_low table word i e = elim (cases_lt i 64) [
  | inl within ↦ within
  | inr past ↦ absurd (both_ways (list_any (λ x. eqb i x) (slots (staying_slots table))) (any-filter-out (has (staying_slots table)) 0 64 i (inr past))
      (list_any-IsPermutation (λ x. eqb i x) (slots (staying_slots table)) (picks word (slots (staying_slots table)))
      (IsPermutation-picks word (slots (staying_slots table)))
      ∙ any_of_take (to_ask table) (picks word (slots (staying_slots table))) (has-set_of (take (to_ask table) (picks word (slots (staying_slots table)))) i
      ∙ e)))
]
  where
    any_of_take : (m : ℕ) (xs : List ℕ) → list_any (λ x. eqb i x) (take m xs) ≡ true → list_any (λ x. eqb i x) xs ≡ true
    any_of_take zero xs e = cc
    any_of_take (suc m) [] e = cc
    any_of_take (suc m) (x ∷ xs) e = or_step (eqb i x) _ _ (any_of_take m xs) e

ask_of : (k j : Lease) → is_ask k (message_of notice.AskRates j) ≡ true → j.0 ≡ k.0
ask_of k j e = eqb-true j.0 k.0 e

staying_untold : (x : SlotState) → is_staying x ≡ true → is_evicting x ≡ false
staying_untold Free e = cc
staying_untold (Held n t k true) e = cc
staying_untold (Held n t k false) e = refl

opened_waits : (set count i : ℕ) → has set i ≡ true → waits_for (round_at_start set count) i ≡ true
opened_waits set count i e = all_three (has set i) (has 0 i) (has 0 i) e (has-zero i) (has-zero i)
  where
    all_three : (a b c : Bool) → a ≡ true → b ≡ false → c ≡ false → (a && not b && not c) ≡ true
    all_three a b c e f g = cc

module _ (s : Sizes) (states : List SlabState) (ring : List Request) (l : LenderNo) (table : Lender) (n : Link) (b : Lane) (ended : Bool) (out : List Parcel)
    (sound : IsSound table) where
  pub allows_opened :
      (set count usage : ℕ) → table.round ≡ None → ((i : ℕ) → has set i ≡ true → (i < 64) × (is_staying (slot_in table.slots i) ≡ true))
      → Allows s states ring l table n b.parcels ended out
      → Allows s states ring l (record table { usage = usage; round = Some (round_at_start set count) }) n
      (forward_after n b (parcels_told notice.AskRates set 0 table.slots)).parcels ended out
  allows_opened set count usage none each h = record {
    told =
        λ k e.
        elim (told_named notice.AskRates (is_evict k) n set 0 table.slots b e) [ inl was ↦ h.told k was | inr new ↦ absurd (both_ways false refl new.passes) ];
    drains = h.drains;
    done = h.done;
    done_once = h.done_once;
    evict_once = told_once notice.AskRates is_evict n set 0 table.slots b (λ k j e. absurd (both_ways false refl e)) (differ_of table sound) h.evict_once
        (λ i m t j e k inside at same.
        false_from_ne_true _
        (λ named.
        no_slot s states ring l table n b ended out sound i m t j e k
        (staying_untold (slot_in table.slots i) (each i (subst (λ x. has set x ≡ true) (omega arith) inside)).1) at same (h.told k named)));
    apart =
        λ k e.
        elim (told_named notice.AskRates (is_evict k) n set 0 table.slots b e) [ inl was ↦ h.apart k was | inr new ↦ absurd (both_ways false refl new.passes) ];
    before =
        λ u k f e drains.
        elim (told_named notice.AskRates (is_evict k) n set 0 table.slots b e)
        [ inl was ↦ h.before u k f was drains | inr new ↦ both_ways false refl new.passes ];
    asks = λ k e. elim (told_named notice.AskRates (is_ask k) n set 0 table.slots b e) [ inl was ↦ absurd (waited k (h.asks k was)) | inr new ↦ waits k new ];
    rates = λ k e. absurd (waited k (h.rates k e));
    ask_once =
        told_once notice.AskRates is_ask n set 0 table.slots b ask_of (differ_of table sound) h.ask_once
        (λ i m t j e k inside at same. false_from_ne_true _ (λ named. waited k (h.asks k named)));
    rate_once = h.rate_once;
    one = λ k e. false_from_ne_true _ (λ rates. waited k (h.rates k rates));
    home = h.home;
    refused =
        λ x y u k e come held.
        elim (told_named notice.AskRates (is_refusal u) n set 0 table.slots b come)
        [ inl was ↦ h.refused x y u k e was held | inr new ↦ both_ways false refl new.passes ];
    free = h.free;
    greets = h.greets;
    kinds = h.kinds;
  }
    where
      waited : (k : Lease) → Waits table k → ⊥
      waited k w = some_none {P = ⊥} (sym none ∙ w.open_)

      waits : (k : Lease) → IsNotified notice.AskRates (is_ask k) set 0 table.slots
          → Waits (record table { usage = usage; round = Some (round_at_start set count) }) k
      waits k new =
          let inside : has set new.at ≡ true = subst (λ x. has set x ≡ true) (omega arith) new.inside in
          record {
            round = round_at_start set count;
            open_ = refl;
            at = new.at;
            link = new.link;
            slab = new.slab;
            held =
                new.held
                ∙ ap (λ e. Held new.link new.slab new.lease e)
                (held_untold (slot_in table.slots new.at) new.link new.slab new.lease new.told_before new.held
                (staying_untold (slot_in table.slots new.at) (each new.at inside).1))
                ∙ ap (λ i. Held new.link new.slab (record { 0 = i }) false) (ask_of k new.lease new.passes);
            waits = opened_waits set count new.at inside;
            low = (each new.at inside).0;
            answered = omega arith;
            gone = omega arith;
          }
