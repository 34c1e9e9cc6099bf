-- The device's side of a link moves: it sends, and takes replies.
use Rattle.std.proofs.Common.{◌≡◌, ℕ, ◌<◌, ◌⊎◌, inl, inr, Bool, true, false, cond, ◌||◌, ◌&&◌, List, [], ◌∷◌, ◌++◌, length, refl, sym, ap, ◌∙◌, subst, eq-eqb, Option, None, Some}
use Rattle.std.specs.Prelude.{◌==◌}
use Rattle.std.specs.List.{AllByRecursion, filter}
use Rattle.std.proofs.lemmas.Bool.{cases_lt, eqb-true, and_parts, and_from, both_ways, false_from_ne_true}
use Rattle.std.proofs.lemmas.List.{get_or_past}
use Rattle.swap_base.specs.declared.Slab.{Slab}
use Rattle.swap_base.specs.declared.Page.{Page}
use Rattle.swap_base.specs.declared.Lender.{Lender}
use Rattle.swap_base.specs.declared.Lease.{Lease}
use Rattle.swap_base.specs.declared.EntryNo.{EntryNo}
use Rattle.swap_base.specs.Sizes.{Sizes, slab_of, zeros}
use Rattle.swap_queue.specs.Queue.{first_of}
use Rattle.swap_record.specs.History.{History, array}
use Rattle.swap_wire.specs.declared.Msg.{Msg}
use Rattle.swap_wire.specs.declared.Msg.TheVariants as msg
use Rattle.swap_wire.specs.Fabric.{Parcel, lends}
use Rattle.swap_bits.specs.Bits.{has}
use Rattle.swap_calls.specs.Calls.{Calls}
use Rattle.swap_slabs.specs.Slabs as slabs
use Rattle.swap_slabs.specs.Slabs.{has_lease, state_of}
use Rattle.swap_slabs.specs.declared.SlabState.{SlabState}
use Rattle.swap_slabs.specs.declared.SlabState.TheVariants.{Local, Asking, Borrowing, Mapped, Draining}
use Rattle.swap_rings.specs.Rings.{ring_of}
use Rattle.swap_rings.specs.declared.Request.{Request}
use Rattle.swap_rings.specs.declared.Request.TheVariants.{Query, Borrow, Write, Read}
use Rattle.swap_remote.specs.Remote.{Remote, slab_for, state_for, has_page}
use Rattle.swap_table.specs.Device.{Device, borrow_reply}
use Rattle.swap_table.specs.Serves.{Keeping, Owing, latest_write, entry_to, bytes_of, IsLeasedFrom, IsAwaited, PageFits, Serves}
use Rattle.swap_table.proofs.LinkTables.{by_slab, state-same, state-other}
use Rattle.swap_link.specs.Lane.{Lane, append_after}
use Rattle.swap_link.specs.Channel.{Channel}
use Rattle.swap_link.specs.Keeping.{Unless}
use Rattle.swap_link.specs.lemmas.KeepLaws.{unless-map, unless-at}
use Rattle.swap_joint.specs.Order.{is_request, is_reply, replies_by, Carries, served_of}
use Rattle.swap_joint.specs.Brought.{page_found, HoldsFor, Replied, Asked}
use Rattle.swap_joint.specs.Sight.{FewerLeases, StaysLeased, KeepsEntries, StillReads, SeesSame}
use Rattle.swap_joint.specs.Stored.{gives_back, lends_in, lends_slab, lends_to, AreNew, IsGivenBack, Stored, JoinedOf, Joined}
use Rattle.swap_joint.specs.Seats.{HasSeat, is_done}
use Rattle.swap_link.specs.Fits.{IsSound}
use Rattle.swap_joint.proofs.Seats.{seat_given}
use Rattle.swap_joint.proofs.Pairs.{filter-drops}
use Rattle.swap_joint.proofs.Lanes.{by_append}
use Rattle.swap_joint.proofs.Orders.{itself, order_sent, order_quiet, said_quiet, Heard, order_heard}
use Rattle.swap_joint.proofs.Facts.{OrderedAt, NoNewLease, fewer_new, leased_all, still_all, order_seen}
use Rattle.swap_joint.proofs.Turns.{any_last}
use Rattle.swap_joint.proofs.Serves.{joined, Clear, any-rest, no_done}
use Rattle.swap_base.proofs.Bools.{or_parts}

-- a lease that is given back stays so, where no slab has a lease that it hadn't
pub given_fewer :
    (l : Lender) (c : Channel) (states states' : List SlabState) (k : Lease) → FewerLeases l states states' → IsGivenBack states l c k
    → IsGivenBack states' l c k
given_fewer l c states states' k fewer was =
    record {
      known = was.known;
      unleased = λ t. false_from_ne_true _ (λ now. both_ways (has_lease l k (state_of states t)) (was.unleased t) (fewer t k now));
      unlent = was.unlent;
    }

new_fewer : (l : Lender) (states states' : List SlabState) (ps : List Parcel) → FewerLeases l states states' → AreNew states l ps → AreNew states' l ps
new_fewer l states states' ps fewer new =
    record { fresh = λ k t e. false_from_ne_true _ (λ now. both_ways (has_lease l k (state_of states t)) (new.fresh k t e) (fewer t k now)); once = new.once }

-- the device moves, and the link sees it as before: a bit that is set was set, or its page is found
abbrev pub BitsFound : Sizes → History → History → List SlabState → List Bool → List Bool → Lender → Channel → Type 0
BitsFound s H H' states bits bits' l c =
    (p : Page) (k : Lease) → has_lease l k (state_for s states p) ≡ true → has bits' p.0 ≡ true
    → ((has bits p.0 ≡ true) × (array (zeros s) H' p ≡ array (zeros s) H p)) ⊎ (page_found s c k p ≡ Some (array (zeros s) H' p))

stored_seen :
    (s : Sizes) (H H' : History) (states states' : List SlabState) (bits bits' : List Bool) (l : Lender) (c : Channel) (S : List Request)
    → FewerLeases l states states' → KeepsEntries H H' → BitsFound s H H' states bits bits' l c → Stored s H states bits l c S → Stored s H' states' bits' l c S
stored_seen s H H' states states' bits bits' l c S fewer entries lit k = record {
  leased = λ t j at. k.leased t j (fewer t j at);
  lent = k.lent;
  written = λ p j e at is.
      let was = k.written p j e (fewer (slab_for s p) j at) is in
      let now = entries p e was.0 in (now.0, was.1 ∙ ap (λ b. Some b) (sym now.1));
  readable = λ p j at set.
      let was : has_lease l j (state_for s states p) ≡ true = fewer (slab_for s p) j at in
      elim (lit p j was set) [ inl h ↦ k.readable p j was h.0 ∙ ap (λ b. Some b) (sym h.1) | inr h ↦ h ];
  given = λ j e. given_fewer l c states states' j fewer (k.given j e);
}

pub joined_sees :
    (s : Sizes) (H H' : History) (cs cs' : Calls) (states states' : List SlabState) (bits bits' : List Bool) (ring : List Request) (l : Lender) (c : Channel)
    → FewerLeases l states states' → AllByRecursion (StaysLeased s l states states') ring → KeepsEntries H H' → BitsFound s H H' states bits bits' l c
    → AllByRecursion (StillReads cs cs') ring → JoinedOf s H cs states bits ring l c → JoinedOf s H' cs' states' bits' ring l c
joined_sees s H H' cs cs' states states' bits bits' ring l c fewer leased entries lit still h =
    joined s H' cs' states' bits' ring l c (served_of h.order) h.order.under_way h.present
    (order_seen s H H' cs cs' states states' ring l c c.to_lender c.to_device (served_of h.order) h.order.under_way leased entries still
    (fewer_new s states states' l ring fewer) (itself (Replied s H cs states l) (Asked s H cs states l c) ring c.to_lender c.to_device h.order))
    (unless-map c.lender_gone _ _ (stored_seen s H H' states states' bits bits' l c (served_of h.order) fewer entries lit) h.stored)
    (new_fewer l states states' c.to_device.parcels fewer h.loans)

pub joined_same : (l : Lender) (d d' : Device) (c : Channel) → SeesSame l d d' → Joined d l c → Joined d' l c
joined_same l d d' c sees h =
    let P : Sizes → Type 0 = λ s. JoinedOf s d'.history d'.calls d'.remote.slabs d'.remote.bits (ring_of d'.remote.links l) l c in
    let Q : List Request → Type 0 = λ r. JoinedOf d.sizes d'.history d'.calls d'.remote.slabs d'.remote.bits r l c in
    subst P (sym sees.sizes) (subst Q (sym sees.ring)
    (joined_sees d.sizes d.history d'.history d.calls d'.calls d.remote.slabs d'.remote.slabs d.remote.bits d'.remote.bits
    (ring_of d.remote.links l) l c sees.fewer sees.leased sees.entries (λ p k at set. inl (sees.bits p k at set)) sees.calls h))

-- a message more to the lender: what it gives back was given back, or it gives it back
gives-append : (k : Lease) (a : Lane) (q : Parcel) → gives_back k (append_after a q).parcels ≡ true → (gives_back k a.parcels ≡ true) ⊎ (is_done k q.msg ≡ true)
gives-append k a q =
    by_append (λ z. gives_back k z.parcels ≡ true → (gives_back k a.parcels ≡ true) ⊎ (is_done k q.msg ≡ true)) a q (λ _ e. inl e)
    (λ _. any_last (λ (q : Parcel). is_done k q.msg) a.parcels q) (λ _ e. inl e)

abbrev pub with_message : Channel → Parcel → Channel
with_message c q = record c { to_lender = append_after c.to_lender q }

stored_said :
    (s : Sizes) (H : History) (states : List SlabState) (bits : List Bool) (l : Lender) (c : Channel) (S : List Request) (q : Parcel)
    → ((k : Lease) → is_done k q.msg ≡ true → IsGivenBack states l c k) → Stored s H states bits l c S → Stored s H states bits l (with_message c q) S
stored_said s H states bits l c S q back k = record {
  leased = k.leased;
  lent = k.lent;
  written = k.written;
  readable = k.readable;
  given = λ j e. given_on j (elim (gives-append j c.to_lender q e) [ inl was ↦ k.given j was | inr new ↦ back j new ]);
}
  where
    given_on : (j : Lease) → IsGivenBack states l c j → IsGivenBack states l (with_message c q) j
    given_on j was = record { known = was.known; unleased = was.unleased; unlent = was.unlent }

-- a request is sent
pub joined_sent :
    (s : Sizes) (H : History) (cs : Calls) (states : List SlabState) (bits : List Bool) (ring : List Request) (l : Lender) (c : Channel) (q : Parcel)
    (x : Request)
    → is_request q.msg ≡ true → Carries s H states l q x → Unless c.lender_gone (HoldsFor s H cs states l c x) → JoinedOf s H cs states bits ring l c
    → JoinedOf s H cs states bits (ring ++ x ∷ []) l (with_message c q)
joined_sent s H cs states bits ring l c q x is carries holds h =
    joined s H cs states bits (ring ++ x ∷ []) l (with_message c q) (served_of h.order) (h.order.under_way ++ x ∷ []) h.present
    (order_sent (Replied s H cs states l) (Asked s H cs states l c) ring c.to_lender c.to_device q x h.order is (carries, holds))
    (unless-map c.lender_gone _ _
    (stored_said s H states bits l c (served_of h.order) q (λ k e. absurd (both_ways (is_done k q.msg) (no_done q.msg is k) e))) h.stored)
    h.loans

-- another message is sent, as Hello
pub joined_said :
    (s : Sizes) (H : History) (cs : Calls) (states : List SlabState) (bits : List Bool) (ring : List Request) (l : Lender) (c : Channel) (q : Parcel)
    → is_request q.msg ≡ false → ((k : Lease) → is_done k q.msg ≡ true → Unless c.lender_gone (IsGivenBack states l c k))
    → JoinedOf s H cs states bits ring l c → JoinedOf s H cs states bits ring l (with_message c q)
joined_said s H cs states bits ring l c q plain back h =
    joined s H cs states bits ring l (with_message c q) (served_of h.order) h.order.under_way h.present
    (order_quiet (Replied s H cs states l) (Asked s H cs states l c) ring c.to_lender c.to_device (append_after c.to_lender q) c.to_device
    (served_of h.order) h.order.under_way (said_quiet c.to_lender c.to_device q plain)
    (itself (Replied s H cs states l) (Asked s H cs states l c) ring c.to_lender c.to_device h.order))
    (unless_with c.lender_gone _ _
    (λ stands. stored_said s H states bits l c (served_of h.order) q (λ k e. unless-at c.lender_gone _ stands (back k e))) h.stored)
    h.loans
  where
    unless_with : (b : Bool) (P Q : Type 0) → (b ≡ false → P → Q) → Unless b P → Unless b Q
    unless_with true P Q f p = tt
    unless_with false P Q f p = f refl p

-- the oldest request's reply is taken

abbrev pub without_reply : Channel → List Parcel → Channel
without_reply c qs = record c { to_device = record c.to_device { parcels = qs } }

latest-later : (p : Page) (x : Request) (rest : List Request) (e : EntryNo) → latest_write p rest ≡ Some e → latest_write p (x ∷ rest) ≡ Some e
latest-later p x rest e is = ap (λ o. first_of o (entry_to p x)) is

-- what is left of a link whose first reply was taken, before the device does anything with it
pub record Taken (s : Sizes) (H : History) (cs : Calls) (states : List SlabState) (bits : List Bool) (ring : List Request) (l : Lender) (c : Channel)
    (q : Parcel) (qs : List Parcel) : Type 0 where
  pub one : Request
  pub rest : List Request
  pub ring_is : ring ≡ one ∷ rest
  pub answers : Replied s H cs states l q one
  pub left : List Request
  pub behind : List Request
  pub rest_is : rest ≡ left ++ behind
  pub under_way : List Request
  pub order : OrderedAt s H cs states rest l c c.to_lender (record c.to_device { parcels = qs }) left under_way
  pub stored : Unless c.lender_gone (Stored s H states bits l c (one ∷ left))
  pub loans : AreNew states l qs

-- those of a list without its first message
pub new_left :
    (states : List SlabState) (l : Lender) (c : Channel) (q : Parcel) (qs : List Parcel) → c.to_device.parcels ≡ q ∷ qs → AreNew states l c.to_device.parcels
    → AreNew states l qs
new_left states l c q qs front new =
    let now : AreNew states l (q ∷ qs) = subst (λ ps. AreNew states l ps) front new in
    record { fresh = λ k t e. now.fresh k t (any-rest (λ (q : Parcel). lends k q.msg) q qs e); once = now.once.1 }

pub taken_front :
    (s : Sizes) (H : History) (cs : Calls) (states : List SlabState) (bits : List Bool) (ring : List Request) (l : Lender) (c : Channel) (q : Parcel)
    (qs : List Parcel)
    → c.to_device.parcels ≡ q ∷ qs → is_reply q.msg ≡ true → JoinedOf s H cs states bits ring l c → Taken s H cs states bits ring l c q qs
taken_front s H cs states bits ring l c q qs front is h =
    let t : Heard (Replied s H cs states l) (Asked s H cs states l c) ring c.to_lender c.to_device q qs (served_of h.order) h.order.under_way =
    order_heard (Replied s H cs states l) (Asked s H cs states l c) ring c.to_lender c.to_device q qs h.order front is in
    let o = t.after.order in
    record {
      one = t.one;
      rest = t.rest;
      ring_is = t.ring_is;
      answers = t.answers;
      left = t.left;
      behind = o.under_way ++ o.dropped;
      rest_is = o.in_four ∙ ap (λ z. z ++ (o.under_way ++ o.dropped)) t.after.served;
      under_way = h.order.under_way;
      order = t.after;
      stored = subst (λ z. Unless c.lender_gone (Stored s H states bits l c z)) t.served_is h.stored;
      loans = new_left states l c q qs front h.loans;
    }

stored_left :
    (s : Sizes) (H : History) (states : List SlabState) (bits : List Bool) (l : Lender) (c : Channel) (q : Parcel) (qs : List Parcel) (x : Request)
    (left : List Request)
    → c.to_device.parcels ≡ q ∷ qs → Stored s H states bits l c (x ∷ left) → Stored s H states bits l (without_reply c qs) left
stored_left s H states bits l c q qs x left front k = record {
  leased = k.leased;
  lent = λ t j at. k.lent t j (ap (lends_to t j) front ∙ any-rest (λ (q : Parcel). lends_slab t j q.msg) q qs at);
  written = λ p j e at is. k.written p j e at (latest-later p x left e is);
  readable = k.readable;
  given =
      λ j e. let was = k.given j e in
      record { known = was.known; unleased = was.unleased; unlent = (or_parts (lends j q.msg) (lends_in j qs) (sym (ap (lends_in j) front) ∙ was.unlent)).1 };
}

-- a notice is taken: it answers no request
stored_noticed :
    (s : Sizes) (H : History) (states : List SlabState) (bits : List Bool) (l : Lender) (c : Channel) (q : Parcel) (qs : List Parcel) (S : List Request)
    → c.to_device.parcels ≡ q ∷ qs → Stored s H states bits l c S → Stored s H states bits l (without_reply c qs) S
stored_noticed s H states bits l c q qs S front k = record {
  leased = k.leased;
  lent = λ t j at. k.lent t j (ap (lends_to t j) front ∙ any-rest (λ (q : Parcel). lends_slab t j q.msg) q qs at);
  written = k.written;
  readable = k.readable;
  given =
      λ j e. let was = k.given j e in
      record { known = was.known; unleased = was.unleased; unlent = (or_parts (lends j q.msg) (lends_in j qs) (sym (ap (lends_in j) front) ∙ was.unlent)).1 };
}

pub joined_noticed :
    (s : Sizes) (H : History) (cs : Calls) (states : List SlabState) (bits : List Bool) (ring : List Request) (l : Lender) (c : Channel) (q : Parcel)
    (qs : List Parcel)
    → c.to_device.parcels ≡ q ∷ qs → is_reply q.msg ≡ false → JoinedOf s H cs states bits ring l c → JoinedOf s H cs states bits ring l (without_reply c qs)
joined_noticed s H cs states bits ring l c q qs front plain h =
    let R : Parcel → Request → Type 0 = Replied s H cs states l in
    let C : Parcel → Request → Type 0 = Asked s H cs states l c in
    joined s H cs states bits ring l (without_reply c qs) (served_of h.order) h.order.under_way h.present
    (order_quiet R C ring c.to_lender c.to_device c.to_lender (record c.to_device { parcels = qs }) (served_of h.order) h.order.under_way
    (record { asks = refl; replies = sym (ap (filter replies_by) front ∙ filter-drops replies_by q qs plain); to_lender = λ f. f; to_device = λ f. f })
    (itself R C ring c.to_lender c.to_device h.order))
    (unless-map c.lender_gone _ _ (stored_noticed s H states bits l c q qs (served_of h.order) front) h.stored) (new_left states l c q qs front h.loans)

-- a lease that its slab gives up as a message is taken may be given back
pub given_up :
    (s : Sizes) (H : History) (cs : Calls) (states states' : List SlabState) (bits : List Bool) (ring : List Request) (l : Lender) (c : Channel) (q : Parcel)
    (qs : List Parcel) (t : Slab) (k : Lease)
    → c.to_device.parcels ≡ q ∷ qs → IsSound c.lender → has_lease l k (state_of states t) ≡ true
    → ((u : Slab) → has_lease l k (state_of states' u) ≡ false) → JoinedOf s H cs states bits ring l c
    → Unless c.lender_gone (IsGivenBack states' l (without_reply c qs) k)
given_up s H cs states states' bits ring l c q qs t k front sound at none h =
    unless-map c.lender_gone _ _ (λ (stored : Stored s H states bits l c (served_of h.order)). record {
      known = seat_given c.lender c.number k t sound (stored.leased t k at);
      unleased = none;
      unlent =
          false_from_ne_true _
          (λ e. both_ways (has_lease l k (state_of states t)) (h.loans.fresh k t (ap (lends_in k) front ∙ any-rest (λ (q : Parcel). lends k q.msg) q qs e)) at);
    }) h.stored

-- a slab is refused, or a page was read: the link sees the device as before
pub joined_left :
    (s : Sizes) (H : History) (cs : Calls) (states : List SlabState) (bits : List Bool) (ring : List Request) (l : Lender) (c : Channel) (q : Parcel)
    (qs : List Parcel)
    → c.to_device.parcels ≡ q ∷ qs → c.device_gone ≡ false → (t : Taken s H cs states bits ring l c q qs)
    → JoinedOf s H cs states bits t.rest l (without_reply c qs)
joined_left s H cs states bits ring l c q qs front present t =
    joined s H cs states bits t.rest l (without_reply c qs) t.left t.under_way present t.order
    (unless-map c.lender_gone _ _ (stored_left s H states bits l c q qs t.one t.left front) t.stored) t.loans

-- a write came back: its page may be read, where its entry is the last of the page
pub joined_wrote :
    (s : Sizes) (H : History) (cs : Calls) (states states' : List SlabState) (bits bits' : List Bool) (ring : List Request) (l : Lender) (c : Channel)
    (q : Parcel) (qs : List Parcel) (p : Page) (e : EntryNo)
    → c.to_device.parcels ≡ q ∷ qs → c.device_gone ≡ false → (t : Taken s H cs states bits ring l c q qs) → FewerLeases l states states'
    → AllByRecursion (StaysLeased s l states states') t.rest → latest_write p (t.one ∷ t.left) ≡ Some e
    → bytes_of H e ≡ array (zeros s) H p → ((o : Page) → has bits' o.0 ≡ true → (has bits o.0 ≡ true) ⊎ (o.0 ≡ p.0))
    → JoinedOf s H cs states' bits' t.rest l (without_reply c qs)
joined_wrote s H cs states states' bits bits' ring l c q qs p e front present t fewer leased last_write content lit =
    joined s H cs states' bits' t.rest l (without_reply c qs) t.left t.under_way present
    (order_seen s H H cs cs states states' t.rest l c c.to_lender (record c.to_device { parcels = qs }) t.left t.under_way leased (λ o f out. (out, refl))
    (still_all cs cs t.rest (λ a e is. is)) (fewer_new s states states' l t.rest fewer) t.order)
    (unless-map c.lender_gone _ _
    (λ (k : Stored s H states bits l c (t.one ∷ t.left)).
    stored_seen s H H states states' bits bits' l (without_reply c qs) t.left fewer (λ o f out. (out, refl))
    (λ o j at set. elim (lit o set) [
      | inl was ↦ inl (was, refl)
      | inr same ↦ inr (
          let page : o ≡ p = ap (λ (n : ℕ). record { 0 = n }) same in
          let here : has_lease l j (state_for s states p) ≡ true = subst (λ (o : Page). has_lease l j (state_for s states o) ≡ true) page at in
          subst (λ (o : Page). page_found s c j o ≡ Some (array (zeros s) H o)) (sym page) ((k.written p j e here last_write).1 ∙ ap (λ b. Some b) content)
          )
    ])
    (stored_left s H states bits l c q qs t.one t.left front k)) t.stored) (new_fewer l states states' qs fewer t.loans)

-- a slab is lent: nothing of its pages is under way, and none has its bit set
pub lends_reply : (m : Msg) (u : Slab) (k j : Lease) → borrow_reply m ≡ Some (u, Some k) → lends j m ≡ (k.0 == j.0)
lends_reply (msg.Lent slab lease) u k j e = ap (λ n. n == j.0) (let F : Option (Slab × Option Lease) → ℕ = of_reply in ap F e)
  where
    of_lease : Option Lease → ℕ
    of_lease None = 0
    of_lease (Some k) = k.0

    of_reply : Option (Slab × Option Lease) → ℕ
    of_reply None = 0
    of_reply (Some reply) = of_lease reply.1
lends_reply (msg.Refused slab) u k j e = absurd (neither (let F : Option (Slab × Option Lease) → Bool = is_loan in ap F e))
  where
    is_some : Option Lease → Bool
    is_some None = false
    is_some (Some k) = true

    is_loan : Option (Slab × Option Lease) → Bool
    is_loan None = false
    is_loan (Some reply) = is_some reply.1

    neither : false ≡ true → ⊥
    neither e = cc
lends_reply _ u k j e = cc

pub loan : (m : Msg) (v : Slab) (k : Lease) (u : Slab) (j : Lease) → borrow_reply m ≡ Some (v, Some k) → v.0 ≡ u.0 → k.0 ≡ j.0 → lends_slab u j m ≡ true
loan (msg.Lent slab lease) v k u j e slab_same lease_same =
    and_from (slab.0 == u.0) (lease.0 == j.0) (eq-eqb slab.0 u.0 ((let F : Option (Slab × Option Lease) → ℕ = slab_in in ap F e) ∙ slab_same))
    (eq-eqb lease.0 j.0 ((let F : Option (Slab × Option Lease) → ℕ = lease_in in ap F e) ∙ lease_same))
  where
    slab_in : Option (Slab × Option Lease) → ℕ
    slab_in None = 0
    slab_in (Some reply) = reply.0.0

    of_lease : Option Lease → ℕ
    of_lease None = 0
    of_lease (Some k) = k.0

    lease_in : Option (Slab × Option Lease) → ℕ
    lease_in None = 0
    lease_in (Some reply) = of_lease reply.1
loan (msg.Refused slab) v k u j e slab_same lease_same = absurd (neither (let F : Option (Slab × Option Lease) → Bool = is_loan in ap F e))
  where
    is_some : Option Lease → Bool
    is_some None = false
    is_some (Some k) = true

    is_loan : Option (Slab × Option Lease) → Bool
    is_loan None = false
    is_loan (Some reply) = is_some reply.1

    neither : false ≡ true → ⊥
    neither e = cc
loan _ v k u j e slab_same lease_same = cc

pub joined_lent :
    (s : Sizes) (H : History) (cs : Calls) (states : List SlabState) (bits : List Bool) (ring : List Request) (l : Lender) (c : Channel) (q : Parcel)
    (qs : List Parcel) (u v : Slab) (k : Lease)
    → c.to_device.parcels ≡ q ∷ qs → c.device_gone ≡ false → (t : Taken s H cs states bits ring l c q qs)
    → u.0 < length states → state_of states u ≡ Borrowing l → borrow_reply q.msg ≡ Some (v, Some k) → v.0 ≡ u.0
    → ((p : Page) (e : EntryNo) → slab_of s p.0 ≡ u.0 → latest_write p t.left ≡ Some e → ⊥) → ((p : Page) → slab_of s p.0 ≡ u.0 → has bits p.0 ≡ true → ⊥)
    → AllByRecursion (NoNewLease s states (slabs.lent_after states u k) l) t.rest → ((j : Lease) → lends j q.msg ≡ true → lends_in j qs ≡ false)
    → JoinedOf s H cs (slabs.lent_after states u k) bits t.rest l (without_reply c qs)
joined_lent s H cs states bits ring l c q qs u v k front present t within borrows reply same_slab none clear none_new lent_once =
    joined s H cs states' bits t.rest l (without_reply c qs) t.left t.under_way present
    (order_seen s H H cs cs states states' t.rest l c c.to_lender (record c.to_device { parcels = qs }) t.left t.under_way
    (leased_all s l states states' t.rest kept) (λ o f out. (out, refl)) (still_all cs cs t.rest (λ a e is. is)) none_new t.order)
    (unless-map c.lender_gone _ _
    (λ (h : Stored s H states bits l c (t.one ∷ t.left)). let g : Stored s H states bits l (without_reply c qs) t.left =
    stored_left s H states bits l c q qs t.one t.left front h in
    record {
      leased = λ w j at.
          by_slab (λ w. has_lease l j (state_of states' w) ≡ true → HasSeat c.lender c.number j w) u w
          (λ at.
          h.lent u j
          (ap (lends_to u j) front
          ∙ any_first (lends_slab u j q.msg) (lends_to u j qs) (loan q.msg v k u j reply same_slab (lease_is j (sym (ap (has_lease l j) now) ∙ at)))))
          (λ other at. g.leased w j (sym (ap (has_lease l j) (state-other states u w (slabs.after_lent (state_of states u) k) other)) ∙ at)) at;
      lent = g.lent;
      written = λ p j e at is. g.written p j e (old p j (λ same. none p e same is) at) is;
      readable = λ p j at set. g.readable p j (old p j (λ same. clear p same set) at) set;
      given = λ j e. let was = h.given j e in record {
        known = was.known;
        unleased = λ w. by_slab (λ w. has_lease l j (state_of states' w) ≡ false) u w
            (ap (has_lease l j) now
            ∙ ap (λ b. (l.0 == l.0) && b)
            (sym (lends_reply q.msg v k j reply) ∙ (or_parts (lends j q.msg) (lends_in j qs) (sym (ap (lends_in j) front) ∙ was.unlent)).0)
            ∙ and_off (l.0 == l.0))
            (λ other. ap (has_lease l j) (state-other states u w (slabs.after_lent (state_of states u) k) other) ∙ was.unleased w);
        unlent = (g.given j e).unlent;
      };
    }) t.stored)
    (record {
      fresh = λ j w e. by_slab (λ w. has_lease l j (state_of states' w) ≡ false) u w
          (ap (has_lease l j) now
          ∙ false_from_ne_true _
          (λ at. both_ways (lends_in j qs) (lent_once j (lends_reply q.msg v k j reply ∙ (and_parts (l.0 == l.0) (k.0 == j.0) at).1)) e))
          (λ other. ap (has_lease l j) (state-other states u w (slabs.after_lent (state_of states u) k) other) ∙ t.loans.fresh j w e);
      once = t.loans.once;
    })
  where
    states' : List SlabState
    states' = slabs.lent_after states u k

    now : state_of (slabs.lent_after states u k) u ≡ Mapped l k 0
    now = state-same states u (slabs.after_lent (state_of states u) k) within ∙ ap (λ x. slabs.after_lent x k) borrows

    any_first : (a b : Bool) → a ≡ true → (a || b) ≡ true
    any_first true b e = refl
    any_first false b e = cc

    lease_is : (j : Lease) → has_lease l j (Mapped l k 0) ≡ true → k.0 ≡ j.0
    lease_is j e = eqb-true k.0 j.0 (and_parts (l.0 == l.0) (k.0 == j.0) e).1

    and_off : (b : Bool) → (b && false) ≡ false
    and_off true = refl
    and_off false = refl

    kept : (w : Slab) (j : Lease) → has_lease l j (state_of states w) ≡ true → has_lease l j (state_of (slabs.lent_after states u k) w) ≡ true
    kept w j at =
        by_slab (λ w. has_lease l j (state_of states w) ≡ true → has_lease l j (state_of (slabs.lent_after states u k) w) ≡ true) u w
        (λ at. absurd (both_ways (has_lease l j (state_of states u)) (ap (has_lease l j) borrows) at))
        (λ other at. ap (has_lease l j) (state-other states u w (slabs.after_lent (state_of states u) k) other) ∙ at) at

    old :
        (p : Page) (j : Lease) → (slab_of s p.0 ≡ u.0 → ⊥) → has_lease l j (state_for s (slabs.lent_after states u k) p) ≡ true
        → has_lease l j (state_for s states p) ≡ true
    old p j other at = sym (ap (has_lease l j) (state-other states u (slab_for s p) (slabs.after_lent (state_of states u) k) other)) ∙ at

-- what the device and its links agree on says of the pages at a lender

pub latest_mapped :
    (s : Sizes) (H : History) (cs : Calls) (states : List SlabState) (l : Lender) (p : Page) (ring : List Request) (e : EntryNo)
    → AllByRecursion (IsAwaited s H cs states l) ring → latest_write p ring ≡ Some e → IsLeasedFrom l (state_for s states p)
latest_mapped s H cs states l p [] e all is = cc
latest_mapped s H cs states l p (x ∷ ring) e all is = go (latest_write p ring) refl is (latest_mapped s H cs states l p ring e all.1)
  where
    here : (x : Request) → IsAwaited s H cs states l x → entry_to p x ≡ Some e → IsLeasedFrom l (state_for s states p)
    here (Query t) a is = cc
    here (Borrow t) a is = cc
    here (Read c q) a is = cc
    here (Write q f) a is = test (q.0 == p.0) refl is
      where
        test : (b : Bool) → (q.0 == p.0) ≡ b → cond b (Some f) None ≡ Some e → IsLeasedFrom l (state_for s states p)
        test true same is = subst (λ n. IsLeasedFrom l (state_for s states (record { 0 = n }))) (eqb-true q.0 p.0 same) a.1
        test false same is = cc

    go :
        (o : Option EntryNo) → latest_write p ring ≡ o → first_of o (entry_to p x) ≡ Some e
        → (latest_write p ring ≡ Some e → IsLeasedFrom l (state_for s states p))
        → IsLeasedFrom l (state_for s states p)
    go (Some f) same is rest = rest (same ∙ is)
    go None same is rest = here x all.0 is

pub bit_within : (bits : List Bool) (i : ℕ) → has bits i ≡ true → i < length bits
bit_within bits i set = elim (cases_lt i (length bits)) [ inl within ↦ within | inr past ↦ absurd (both_ways (has bits i) (get_or_past bits i false past) set) ]

pub clear_of :
    (keeps : Keeping) (owes : Owing) (s : Sizes) (n : ℕ) (H : History) (cs : Calls) (r : Remote) (l : Lender) → Serves keeps owes s n H cs r
    → Clear s r.slabs r.bits (ring_of r.links l) l
clear_of keeps owes s n H cs r l k = record {
  single = k.single;
  ordered = (k.link l).ordered;
  none = λ p j at set. go p j (state_for s r.slabs p) at set (k.page p (subst (λ m. p.0 < m) k.bits_len (bit_within r.bits p.0 set)));
}
  where
    go :
        (p : Page) (j : Lease) (x : SlabState) → has_lease l j x ≡ true → has_page r p ≡ true → PageFits keeps s H r.links p (has_page r p) x
        → latest_write p (ring_of r.links l) ≡ None
    go p j Local at set fits = cc
    go p j (Asking pair) at set fits = cc
    go p j (Borrowing m) at set fits = cc
    go p j (Draining m i f) at set fits = absurd (both_ways (has_page r p) fits set)
    go p j (Mapped m i f) at set fits =
        subst (λ n. latest_write p (ring_of r.links (record { 0 = n })) ≡ None) (eqb-true m.0 l.0 (and_parts (m.0 == l.0) (i.0 == j.0) at).0) (fits.0 set).none
