-- A message is heard: what is under way to each lender may still be sent, with what the device says on it.
use Rattle.std.proofs.Common.{◌≡◌, ℕ, ◌<◌, Bool, true, false, ◌==◌, ◌||◌, ◌&&◌, List, [], ◌∷◌, ◌++◌, length, refl, sym, ap, ◌∙◌, subst, eq-eqb, Option, None, Some}
use Rattle.std.proofs.lemmas.Bool.{eqb-true, and_parts}
use Rattle.std.specs.List.{AllByRecursion}
use Rattle.swap_base.specs.declared.Page.{Page}
use Rattle.swap_base.specs.declared.Slab.{Slab}
use Rattle.swap_base.specs.declared.Lender.{Lender}
use Rattle.swap_base.specs.declared.Link.{Link}
use Rattle.swap_base.specs.declared.Lease.{Lease}
use Rattle.swap_base.specs.Sizes.{Sizes}
use Rattle.swap_bits.specs.Bits.{with_number}
use Rattle.swap_record.specs.History.{last}
use Rattle.swap_calls.specs.Calls as calls
use Rattle.swap_calls.specs.Calls.{Calls}
use Rattle.swap_wire.specs.declared.Msg.{Msg}
use Rattle.swap_wire.specs.declared.Msg.TheVariants as msg
use Rattle.swap_wire.specs.Fabric.{Parcel, parcel_of, Handed, Brought, Take}
use Rattle.swap_slabs.specs.Slabs as slabs
use Rattle.swap_slabs.specs.Slabs.{has_lease, state_of}
use Rattle.swap_slabs.specs.declared.Reply.TheVariants as reply
use Rattle.swap_slabs.specs.declared.SlabState.{SlabState}
use Rattle.swap_slabs.specs.declared.SlabState.TheVariants.{Local, Mapped}
use Rattle.swap_rates.specs.Table as rates
use Rattle.swap_rings.specs.Rings as rings
use Rattle.swap_rings.specs.Rings.{is_up, ring_of}
use Rattle.swap_rings.specs.declared.Request.{Request}
use Rattle.swap_rings.specs.declared.Request.TheVariants as request
use Rattle.swap_remote.specs.Remote as remote
use Rattle.swap_remote.specs.Remote.{slab_for, state_for}
use Rattle.swap_table.specs.Device as device
use Rattle.swap_table.specs.Device.{Device, Heard, borrow_reply, rate_asked, taken_back, settled_word, done_word}
use Rattle.swap_table.specs.Serves.{IsAwaited}
use Rattle.swap_table.specs.Moves.{Hears, roomy, lent, refused, written, brought, asked_rate, told_to_go, words}
use Rattle.swap_table.proofs.RepliesKeepServing.{answered-other, answered-ring}
use Rattle.swap_table.proofs.EvictionKeepsSlabs.{MappedBy, mapped_by_is}
use Rattle.swap_lender.specs.declared.SlotState.TheVariants.{Held}
use Rattle.swap_lender.specs.Lender.{slot_in, has_greeted}
use Rattle.swap_lender.specs.Calls.{tenant}
use Rattle.swap_link.specs.Channel.{Channel}
use Rattle.swap_link.specs.Harbor as harbor
use Rattle.swap_link.specs.Harbor.{Harbor, channel_of}
use Rattle.swap_link.specs.Keeping.{Unless}
use Rattle.swap_link.specs.lemmas.KeepLaws.{unless-map}
use Rattle.swap_joint.specs.Order.{served_of}
use Rattle.swap_joint.specs.Seats.{HasSeat}
use Rattle.swap_joint.specs.Turn.{Lodges}
use Rattle.swap_joint.specs.Stored.{lends_slab, lends_to, Stored, Joined, AllJoined}
use Rattle.swap_joint.specs.Lenders.{IsReached}
use Rattle.swap_joint.specs.Allowed.{is_evict, is_ask, is_refusal, evicts_in, asks_in, refuses_in, borrows_in, HasSlot, Waits, Allows, Allowed, AllAllowed, AllowedOwing}
use Rattle.swap_joint.proofs.Lenders.{are_owned}
use Rattle.swap_joint.proofs.Greeted.{held_greeted}
use Rattle.swap_joint.proofs.Joins.{ServesAt, up_within}
use Rattle.swap_joint.proofs.Hears.{loan}
use Rattle.swap_joint.proofs.Takes.{FrontIs, taken_brings}
use Rattle.swap_joint.proofs.Allows.{bare, allows_on, allows_taken, allows_more, holds_apart, holds_answered, elsewhere, settled_none, evicted_none, seat_slot}
use Rattle.swap_joint.proofs.Takings.{saying, may_tell, allows_settled, allows_evicted, allows_lent, allows_refused}
use Rattle.swap_joint.proofs.AllowedLinks.{to_bare, Sees, sees_parts, but, others, at_called, owing, itself}
use Rattle.swap_base.proofs.Bools.{or_left}
use Rattle.swap_joint.proofs.Serves.{unless-both}

-- what a message says

abbrev lease_or : Option Lease → ℕ
lease_or None = 0
lease_or (Some k) = k.0

ask_is : (m : Msg) (k : Lease) → rate_asked m ≡ Some k → is_ask k m ≡ true
ask_is (msg.AskRates lease) k e = eq-eqb lease.0 k.0 (ap lease_or e)
ask_is _ k e = cc

evict_is : (m : Msg) (k : Lease) → taken_back m ≡ Some k → is_evict k m ≡ true
evict_is (msg.Evict lease) k e = eq-eqb lease.0 k.0 (ap lease_or e)
evict_is _ k e = cc

refusal_is : (m : Msg) (u t : Slab) → borrow_reply m ≡ Some (u, None) → u.0 ≡ t.0 → is_refusal t m ≡ true
refusal_is (msg.Refused slab) u t e same = eq-eqb slab.0 t.0 ((let F : Option (Slab × Option Lease) → ℕ = slab_in in ap F e) ∙ same)
  where
    slab_in : Option (Slab × Option Lease) → ℕ
    slab_in None = 0
    slab_in (Some reply) = reply.0.0
refusal_is (msg.Lent slab lease) u t e same = absurd (neither (let F : Option (Slab × Option Lease) → Bool = is_loan in ap F e))
  where
    is_some : Option Lease → Bool
    is_some None = false
    is_some (Some k) = true

    is_loan : Option (Slab × Option Lease) → Bool
    is_loan None = false
    is_loan (Some reply) = is_some reply.1

    neither : true ≡ false → ⊥
    neither e = cc
refusal_is _ u t e same = cc

-- the slot that a slab is lent by is the only one held for it
only_slot :
    (c : Channel) (k : Lease) (t : Slab) → IsReached c.lender → Lodges c → HasSeat c.lender c.number k t → (i : ℕ) (m : Link) (j : Lease) (e : Bool)
    → slot_in c.lender.slots i ≡ Held m t j e → k.0 ≡ j.0
only_slot c k t reached lodged seat i m j e held =
    let there = seat_slot c.lender c.number k t seat in
    let one : tenant (slot_in c.lender.slots i) ≡ Some (record { link = m; slab = t; lease = j }) = ap tenant held in
    let two : tenant (slot_in c.lender.slots there.0) ≡ Some (record { link = there.1; slab = t; lease = k }) = ap tenant there.3 in
    let links : m.0 ≡ there.1.0 =
    (lodged i (record { link = m; slab = t; lease = j }) one).1 ∙ sym (lodged there.0 (record { link = there.1; slab = t; lease = k }) two).1 in
    let same : i ≡ there.0 =
    (are_owned c.lender reached).slots.slabs i there.0 (record { link = m; slab = t; lease = j })
    (record { link = there.1; slab = t; lease = k }) one two links refl in
    lease_is there.1 there.2 (sym there.3 ∙ ap (λ (x : ℕ). slot_in c.lender.slots x) (sym same) ∙ held)
  where
    lease_is : (n : Link) (f : Bool) → Held n t k f ≡ Held m t j e → k.0 ≡ j.0
    lease_is n f e = cc

-- a message that is heard
module _ (n : ℕ) (d : Device) (h g : Harbor) (l : Lender) (q : Parcel) (all : AllAllowed n d h) (joins : AllJoined n d h) (serves : ServesAt n d h)
    (reached : IsReached (channel_of h l).lender) (lodged : Lodges (channel_of h l)) (up : is_up d.remote.links l ≡ true)
    (moved : harbor.Moves h (Take l) (Brought q) g) where
  within : l.0 < n
  within = (serves.link l).lender up

  here : Joined d l (channel_of h l)
  here = joins l within up

  front : FrontIs (channel_of h l) q
  front = taken_brings (channel_of h l) q here.present (ap (λ (x : Handed × Harbor). x.0) moved.1)

  -- the link as it was, and as it is
  abbrev Old : Type 0
  Old =
      Allows d.sizes d.remote.slabs (ring_of d.remote.links l) l (channel_of h l).lender (channel_of h l).number (q ∷ front.rest)
      (channel_of h l).to_lender.ended
      (channel_of h l).to_lender.parcels

  abbrev New : List SlabState → List Request → List Parcel → Type 0
  New states ring out = Allows d.sizes states ring l (channel_of h l).lender (channel_of h l).number front.rest (channel_of h l).to_lender.ended out

  old : Unless (channel_of h l).lender_gone Old
  old =
      subst (λ ps.
      Unless (channel_of h l).lender_gone
      (Allows d.sizes d.remote.slabs (ring_of d.remote.links l) l (channel_of h l).lender (channel_of h l).number ps (channel_of h l).to_lender.ended
      (channel_of h l).to_lender.parcels))
      front.is
      (to_bare d l (channel_of h l) (all l within up))

  rest_of : Old → New d.remote.slabs (ring_of d.remote.links l) (channel_of h l).to_lender.parcels
  rest_of a =
      allows_taken d.sizes d.remote.slabs (ring_of d.remote.links l) l (channel_of h l).lender (channel_of h l).number q front.rest
      (channel_of h l).to_lender.ended (channel_of h l).to_lender.parcels a

  silent :
      (states : List SlabState) (ring : List Request) → New states ring (channel_of h l).to_lender.parcels
      → New states ring ((channel_of h l).to_lender.parcels ++ [])
  silent states ring a = subst (λ ps. New states ring ps) (sym (bare (channel_of h l).to_lender.parcels)) a

  heard_via :
      (d' : Device) (word : Option Parcel) → d'.sizes ≡ d.sizes → ((m : Lender) → (m.0 ≡ l.0 → ⊥) → Sees m d d')
      → Unless (channel_of h l).lender_gone (New d'.remote.slabs (ring_of d'.remote.links l) ((channel_of h l).to_lender.parcels ++ saying word))
      → AllowedOwing n d' g (words l word)
  heard_via d' word sizes sees now =
      owing n d' g l word (others n d d' h g (Take l) (Brought q) moved sees (but l n d h all))
      (λ _ _. at_called (λ ch. Allowed d' l ch (saying word)) h g (Take l) (Brought q) moved
      (subst (λ ch. Allowed d' l ch (saying word)) (sym front.after)
      (let P : Sizes → Type 0 =
      λ z.
      Unless (channel_of h l).lender_gone
      (Allows z d'.remote.slabs (ring_of d'.remote.links l) l (channel_of h l).lender (channel_of h l).number front.rest
      (channel_of h l).to_lender.ended ((channel_of h l).to_lender.parcels ++ saying word)) in
      subst P (sym sizes) now)))

  ring_now : (x : Request) (rest : List Request) → ring_of d.remote.links l ≡ x ∷ rest → ring_of (rings.answered_after d.remote.links l) l ≡ rest
  ring_now x rest is = answered-ring d.remote.links l x rest (up_within d.remote.links l up) is

  awaited : (x : Request) (rest : List Request) → ring_of d.remote.links l ≡ x ∷ rest → IsAwaited d.sizes d.history d.calls d.remote.slabs l x
  awaited x rest is = (subst (λ ys. AllByRecursion (IsAwaited d.sizes d.history d.calls d.remote.slabs l) ys) is (serves.link l).awaited).0

  greeted :
      (k : Lease) (i : ℕ) (m : Link) (t : Slab) (e : Bool) → slot_in (channel_of h l).lender.slots i ≡ Held m t k e
      → has_greeted (channel_of h l).lender (channel_of h l).number ≡ true
  greeted k i m t e held =
      let same : m ≡ (channel_of h l).number = ap (λ (j : ℕ). record { 0 = j }) (lodged i (record { link = m; slab = t; lease = k }) (ap tenant held)).1 in
      subst (λ (x : Link). has_greeted (channel_of h l).lender x ≡ true) same (held_greeted (channel_of h l).lender reached i m t k e held)

  slot_greeted : (k : Lease) → HasSlot (channel_of h l).lender.slots k true → has_greeted (channel_of h l).lender (channel_of h l).number ≡ true
  slot_greeted k (i, m, t, held) = greeted k i m t true held

  -- a request for a page came back
  settled_heard :
      (bits : List Bool) (cs : Calls) (p : Page) (j : Lease) (x : Request) (rest : List Request) → ring_of d.remote.links l ≡ x ∷ rest
      → ((t : Slab) → borrows_in t (x ∷ rest) ≡ borrows_in t rest) → has_lease l j (state_for d.sizes d.remote.slabs p) ≡ true
      → AllowedOwing n
      (record d {
        remote = record { bits = bits; slabs = slabs.settled_after d.remote.slabs (slab_for d.sizes p); links = rings.answered_after d.remote.links l };
        calls =
            cs;
      })
      g
      (words l (settled_word d p))
  settled_heard bits cs p j x rest is plain at =
      heard_via
      (record d {
        remote = record { bits = bits; slabs = slabs.settled_after d.remote.slabs (slab_for d.sizes p); links = rings.answered_after d.remote.links l };
        calls =
            cs;
      })
      (settled_word d p) refl
      (λ m other. sees_parts m d (slabs.settled_after d.remote.slabs (slab_for d.sizes p)) bits (rings.answered_after d.remote.links l) cs
      (holds_apart m d.remote.slabs (slab_for d.sizes p) (slabs.after_settled (state_for d.sizes d.remote.slabs p))
      (λ k. elsewhere l m j k (state_for d.sizes d.remote.slabs p) other at)
      (λ k. settled_none m k (state_for d.sizes d.remote.slabs p) (elsewhere l m j k (state_for d.sizes d.remote.slabs p) other at)))
      (answered-other d.remote.links l m other))
      (unless-both (channel_of h l).lender_gone _ _ _
      (λ (st : Stored d.sizes d.history d.remote.slabs d.remote.bits l (channel_of h l) (served_of here.order)) (a : Old).
      allows_settled d.sizes d.remote.slabs (ring_of d.remote.links l) (ring_of (rings.answered_after d.remote.links l) l) l (channel_of h l).lender
      (channel_of h l).number front.rest (channel_of h l).to_lender.ended (channel_of h l).to_lender.parcels (slab_for d.sizes p) j at
      (λ k e. (st.given k e).unleased) slot_greeted
      (λ t e. ap (borrows_in t) (ring_now x rest is) ∙ (sym (plain t) ∙ (sym (ap (borrows_in t) is) ∙ e))) (rest_of a)) here.stored old)

  pub heard_allowed : (x : Heard) → Hears d l q x → AllowedOwing n x.device g (words l x.word)
  heard_allowed x (roomy {t = t} {u = u} {free = free} {rest = rest} is says same) =
      heard_via (record d { remote = remote.told_after d.remote l t free }) None refl
      (λ m other.
      sees_parts m d (slabs.answered_after d.remote.slabs t l (reply.Free free)) d.remote.bits (rings.answered_after d.remote.links l) d.calls
      (holds_answered m l d.remote.slabs t (reply.Free free)) (answered-other d.remote.links l m other))
      (unless-map (channel_of h l).lender_gone _ _
      (λ (a : Old). silent (slabs.answered_after d.remote.slabs t l (reply.Free free)) (ring_of (rings.answered_after d.remote.links l) l)
      (allows_on d.sizes d.remote.slabs (slabs.answered_after d.remote.slabs t l (reply.Free free)) (ring_of d.remote.links l)
      (ring_of (rings.answered_after d.remote.links l) l) l (channel_of h l).lender (channel_of h l).number front.rest (channel_of h l).to_lender.ended
      (channel_of h l).to_lender.parcels (holds_answered l l d.remote.slabs t (reply.Free free))
      (λ v e. ap (borrows_in v) (ring_now (request.Query t) rest is) ∙ (sym (ap (borrows_in v) is) ∙ e)) (rest_of a))) old)
  heard_allowed x (lent {t = t} {u = u} {k = k} {rest = rest} is says same none) =
      let was = awaited (request.Borrow t) rest is in
      let inside : t.0 < length d.remote.slabs = subst (λ m. t.0 < m) (sym serves.slabs_len) was.0 in
      heard_via (record d { remote = remote.lent_after d.remote l t k }) None refl
      (λ m other. sees_parts m d (slabs.lent_after d.remote.slabs t k) d.remote.bits (rings.answered_after d.remote.links l) d.calls
      (holds_apart m d.remote.slabs t (slabs.after_lent (state_of d.remote.slabs t) k) (λ j. ap (has_lease m j) was.1)
      (λ j. ap (λ y. has_lease m j (slabs.after_lent y k)) was.1 ∙ elsewhere l m k j (Mapped l k 0) other (own l k)))
      (answered-other d.remote.links l m other))
      (unless-both (channel_of h l).lender_gone _ _ _
      (λ (st : Stored d.sizes d.history d.remote.slabs d.remote.bits l (channel_of h l) (served_of here.order)) (a : Old).
      silent (slabs.lent_after d.remote.slabs t k) (ring_of (rings.answered_after d.remote.links l) l)
      (subst (λ r. New (slabs.lent_after d.remote.slabs t k) r (channel_of h l).to_lender.parcels) (sym (ring_now (request.Borrow t) rest is))
      (allows_lent d.sizes d.remote.slabs (ring_of d.remote.links l) rest l (channel_of h l).lender (channel_of h l).number front.rest
      (channel_of h l).to_lender.ended (channel_of h l).to_lender.parcels t k inside was.1 is
      (only_slot (channel_of h l) k t reached lodged
      (st.lent t k
      (ap (lends_to t k) front.is ∙ or_left (lends_slab t k q.msg) (lends_to t k front.rest) (loan q.msg u k t k says (eqb-true u.0 t.0 same) refl))))
      (rest_of a))))
      here.stored old)
    where
      own : (l : Lender) (k : Lease) → ((l.0 == l.0) && (k.0 == k.0)) ≡ true
      own l k = ap (λ b. b && (k.0 == k.0)) (eq-eqb l.0 l.0 refl) ∙ eq-eqb k.0 k.0 refl
  heard_allowed x (refused {t = t} {u = u} {rest = rest} is says same) =
      let was = awaited (request.Borrow t) rest is in
      heard_via (record d { remote = remote.refused_after d.remote l t }) None refl
      (λ m other.
      sees_parts m d (slabs.refused_after d.remote.slabs t) d.remote.bits (rings.answered_after d.remote.links l) d.calls
      (holds_apart m d.remote.slabs t Local (λ j. ap (has_lease m j) was.1) (λ j. refl)) (answered-other d.remote.links l m other))
      (unless-map (channel_of h l).lender_gone _ _
      (λ (a : Old).
      silent (slabs.refused_after d.remote.slabs t) (ring_of (rings.answered_after d.remote.links l) l)
      (subst (λ r. New (slabs.refused_after d.remote.slabs t) r (channel_of h l).to_lender.parcels) (sym (ring_now (request.Borrow t) rest is))
      (allows_refused d.sizes d.remote.slabs (ring_of d.remote.links l) rest l (channel_of h l).lender (channel_of h l).number front.rest
      (channel_of h l).to_lender.ended (channel_of h l).to_lender.parcels t was.1 is
      (λ i m j e held.
      a.refused i m t j e (or_left (is_refusal t q.msg) (refuses_in t front.rest) (refusal_is q.msg u t says (eqb-true u.0 t.0 same))) held)
      (rest_of a))))
      old)
  heard_allowed x (written {p = p} {e = e} {at = at} {rest = rest} is says named) =
      go (device.is_newest (last d.history p) e && slabs.is_mapped (state_for d.sizes d.remote.slabs p))
    where
      leased : has_lease l at.0 (state_for d.sizes d.remote.slabs p) ≡ true
      leased = (and_parts (has_lease l at.0 (state_for d.sizes d.remote.slabs p)) _ named).0

      go : (b : Bool) → AllowedOwing n (record d { remote = remote.with_page_if b (remote.settled_for d.sizes d.remote l p) p }) g (words l (settled_word d p))
      go true = settled_heard (with_number d.remote.bits p.0) d.calls p at.0 (request.Write p e) rest is (λ t. refl) leased
      go false = settled_heard d.remote.bits d.calls p at.0 (request.Write p e) rest is (λ t. refl) leased
  heard_allowed x (brought {c = b} {p = p} {at = at} {rest = rest} is says named) =
      settled_heard d.remote.bits (calls.came_after d.calls b q.page) p at.0 (request.Read b p) rest is (λ t. refl)
      (and_parts (has_lease l at.0 (state_for d.sizes d.remote.slabs p)) _ named).0
  heard_allowed x (asked_rate {t = t} {k = k} says at) =
      heard_via d (Some (parcel_of (msg.Rates k (rates.value_of d.rates t)) [])) refl (λ m other. itself m d)
      (unless-map (channel_of h l).lender_gone _ _
      (λ (a : Old).
      let is : is_ask k q.msg ≡ true = ask_is q.msg k says in
      let first : asks_in k (q ∷ front.rest) ≡ true = or_left (is_ask k q.msg) (asks_in k front.rest) is in
      let waits : Waits (channel_of h l).lender k = a.asks k first in
      allows_more d.sizes d.remote.slabs (ring_of d.remote.links l) l (channel_of h l).lender (channel_of h l).number front.rest
      (channel_of h l).to_lender.ended (channel_of h l).to_lender.parcels (parcel_of (msg.Rates k (rates.value_of d.rates t)) [])
      (may_tell d.remote.slabs (ring_of d.remote.links l) l (channel_of h l).lender (channel_of h l).number front.rest (channel_of h l).to_lender.ended
      (channel_of h l).to_lender.parcels k (rates.value_of d.rates t) waits (a.one k first) (a.ask_once.0 k is)
      (greeted k waits.at waits.link waits.slab false waits.held))
      (rest_of a))
      old)
  heard_allowed x (told_to_go {t = t} {k = k} says at) =
      let m : MappedBy d.remote.slabs l k t = mapped_by_is d.remote.slabs l k t at in
      let owned : has_lease l k (state_of d.remote.slabs t) ≡ true = ap (has_lease l k) m.is ∙ own l k in
      heard_via (record d { remote = remote.evicted_after d.sizes d.remote t }) (done_word (slabs.evicted_lease (state_of d.remote.slabs t))) refl
      (λ o other. sees_parts o d (slabs.evicted_after d.remote.slabs t) (remote.evicted_after d.sizes d.remote t).bits d.remote.links d.calls
      (holds_apart o d.remote.slabs t (slabs.after_evict (state_of d.remote.slabs t)) (λ j. elsewhere l o k j (state_of d.remote.slabs t) other owned)
      (λ j. evicted_none o j (state_of d.remote.slabs t) (elsewhere l o k j (state_of d.remote.slabs t) other owned)))
      refl)
      (unless-map (channel_of h l).lender_gone _ _
      (λ (a : Old).
      let is : is_evict k q.msg ≡ true = evict_is q.msg k says in
      let first : evicts_in k (q ∷ front.rest) ≡ true = or_left (is_evict k q.msg) (evicts_in k front.rest) is in
      let slot : HasSlot (channel_of h l).lender.slots k true = a.told k first in
      allows_evicted d.sizes d.remote.slabs (ring_of d.remote.links l) l (channel_of h l).lender (channel_of h l).number front.rest
      (channel_of h l).to_lender.ended (channel_of h l).to_lender.parcels t k m.flying m.is slot (a.apart k first) (a.evict_once.0 k is) (slot_greeted k slot)
      (rest_of a))
      old)
    where
      own : (l : Lender) (k : Lease) → ((l.0 == l.0) && (k.0 == k.0)) ≡ true
      own l k = ap (λ b. b && (k.0 == k.0)) (eq-eqb l.0 l.0 refl) ∙ eq-eqb k.0 k.0 refl
