-- The device takes a message of a link that is up: each link stays joined with its lender.
use Rattle.std.proofs.Common.{◌≡◌, ℕ, ◌+◌, ◌-◌, ◌<◌, ◌≤◌, ◌⊎◌, inl, inr, Bool, true, false, cond, ◌==◌, ◌&&◌, List, [], ◌∷◌, ◌++◌, length, refl, sym, ap, ◌∙◌, subst, arith, eq-eqb, get_or-set_other, Option, None, Some}
use Rattle.std.specs.List.{AllByRecursion}
use Rattle.std.proofs.lemmas.Bool.{cond_both, cond-false, cases_eq, cases_lt, both_ways, and_parts, eqb-true, and_from}
use Rattle.std.proofs.lemmas.List.{get_or_past}
use Rattle.swap_base.specs.declared.Page.{Page}
use Rattle.swap_base.specs.declared.Slab.{Slab}
use Rattle.swap_base.specs.declared.Lender.{Lender}
use Rattle.swap_base.specs.declared.Lease.{Lease}
use Rattle.swap_base.specs.declared.EntryNo.{EntryNo}
use Rattle.swap_base.specs.Sizes.{Sizes, pages_of, slab_of, zeros}
use Rattle.swap_queue.specs.Queue.{first_of}
use Rattle.swap_record.specs.History.{History, last}
use Rattle.swap_wire.specs.declared.Msg.{Msg}
use Rattle.swap_wire.specs.declared.Msg.TheVariants as msg
use Rattle.swap_wire.specs.Fabric.{Parcel, Handed, Brought, NothingCame, Take, lends}
use Rattle.swap_bits.specs.Bits.{has, with_number}
use Rattle.swap_calls.specs.Calls as calls
use Rattle.swap_calls.specs.Calls.{Calls}
use Rattle.swap_calls.specs.declared.Arrived.TheVariants as arrived
use Rattle.swap_slabs.specs.Slabs as slabs
use Rattle.swap_slabs.specs.Slabs.{has_lease, state_of}
use Rattle.swap_slabs.specs.declared.Reply.TheVariants as reply
use Rattle.swap_slabs.specs.declared.SlabState.{SlabState}
use Rattle.swap_slabs.specs.declared.SlabState.TheVariants.{Local, Asking, Borrowing, Mapped, Draining}
use Rattle.swap_rings.specs.Rings as rings
use Rattle.swap_rings.specs.Rings.{LinkState, ring_of, is_up}
use Rattle.swap_rings.specs.declared.Request.{Request}
use Rattle.swap_rings.specs.declared.Request.TheVariants as request
use Rattle.swap_remote.specs.Remote as remote
use Rattle.swap_remote.specs.Remote.{slab_for, state_for, has_page}
use Rattle.swap_remote.specs.lemmas.Cleared.{evicted_bit, length-evicted}
use Rattle.swap_table.specs.Device.{Device, Heard, query_reply, borrow_reply, write_reply, read_reply, rate_asked, taken_back, is_newest, done_word}
use Rattle.swap_table.specs.Serves.{is_for_slab, flying_for, entry_to, latest_write, IsLeasedFrom, IsAwaited, MayPrecede, AreInOrder, SlabFits, PageFits}
use Rattle.swap_table.specs.Moves.{words, Hears, roomy, lent, refused, written, brought, asked_rate, told_to_go}
use Rattle.swap_base.proofs.Lists.{not_eqb, one_if}
use Rattle.swap_table.proofs.LinkTables.{state-other, entry_to-own, flying-cons}
use Rattle.swap_table.proofs.LeasesStayDistinct.{unleased}
use Rattle.swap_table.proofs.EntriesStay.{last_bytes, none_later}
use Rattle.swap_table.proofs.HistoryGoesOn.{latest_out}
use Rattle.swap_table.proofs.SendsKeepServing.{slab_within, pages_some}
use Rattle.swap_table.proofs.RepliesKeepServing.{answered-ring, answered-other, answered-up}
use Rattle.swap_table.proofs.EvictionKeepsSlabs.{MappedBy, mapped_by_is, settled_free, evicted_free}
use Rattle.swap_link.specs.Channel.{Channel, take_after, taken_from}
use Rattle.swap_link.specs.Harbor as harbor
use Rattle.swap_link.specs.Harbor.{Harbor, channel_of, KeepsAt}
use Rattle.swap_link.specs.lemmas.HarborLaws.{called}
use Rattle.swap_link.specs.Keeping.{Unless}
use Rattle.swap_joint.specs.Order.{is_reply}
use Rattle.swap_joint.specs.Sight.{SameLeases, StaysLeased, StillReads, SeesSame}
use Rattle.swap_joint.specs.Stored.{lends_in, LentOnce, IsGivenBack, JoinedOf, Joined, AllJoined, JoinedOwing}
use Rattle.swap_joint.proofs.Pairs.{all-front}
use Rattle.swap_joint.proofs.Facts.{NoNewLease, leased_all, still_all}
use Rattle.swap_joint.proofs.Sights.{entries_stay, leases_set, leases_refused, leases_answered, fewer_settled, leased_settled, sees_parts, sees_itself, sees_evicted, still_same, still_arrives}
use Rattle.swap_joint.proofs.Hears.{joined_sees, joined_same, joined_noticed, given_up, without_reply, Taken, taken_front, joined_left, joined_wrote, joined_lent, latest_mapped, bit_within}
use Rattle.swap_joint.proofs.Joins.{ServesAt, all_but, joins_through, up_within}
use Rattle.swap_base.proofs.Bools.{and_first}
use Rattle.swap_table.proofs.AnswersKeepServing.{newest_is}
use Rattle.swap_table.proofs.MovesKeepAgreement.{with_page_slabs}
use Rattle.swap_table.proofs.AccountsKept.{written_links}

-- a take: the first message to the device is gone, or nothing changes
pub record FrontIs (c : Channel) (q : Parcel) : Type 0 where
  pub rest : List Parcel
  pub is : c.to_device.parcels ≡ q ∷ rest
  pub after : (take_after c).1 ≡ without_reply c rest

takes : (c : Channel) → c.device_gone ≡ false → take_after c ≡ taken_from c c.to_device.parcels
takes c present = cond-false c.device_gone (NothingCame, c) (taken_from c c.to_device.parcels) present

pub taken_brings : (c : Channel) (q : Parcel) → c.device_gone ≡ false → (take_after c).0 ≡ Brought q → FrontIs c q
taken_brings c q present e =
    go c.to_device.parcels refl (sym (ap (λ (x : Handed × Channel). x.0) (takes c present)) ∙ e) (ap (λ (x : Handed × Channel). x.1) (takes c present))
  where
    brought : (a b : Parcel) → Brought a ≡ Brought b → a ≡ b
    brought a b e = cc

    go : (ps : List Parcel) → c.to_device.parcels ≡ ps → (taken_from c ps).0 ≡ Brought q → (take_after c).1 ≡ (taken_from c ps).1 → FrontIs c q
    go [] is e after = absurd (cond_both c.to_device.ended _ _ (λ (x : Handed × Channel). x.0 ≡ Brought q → ⊥) (λ _ e. cc) (λ _ e. cc) e)
    go (p ∷ ps) is e after = record { rest = ps; is = is ∙ ap (λ (x : Parcel). x ∷ ps) (brought p q e); after = after }

pub taken_nothing : (c : Channel) → (take_after c).0 ≡ NothingCame → (take_after c).1 ≡ c
taken_nothing c e = cond_both c.device_gone _ _ (λ (x : Handed × Channel). x.0 ≡ NothingCame → x.1 ≡ c) (λ _ e. refl) (λ _. from c.to_device.parcels) e
  where
    from : (ps : List Parcel) → (taken_from c ps).0 ≡ NothingCame → (taken_from c ps).1 ≡ c
    from [] e = cond_both c.to_device.ended _ _ (λ (x : Handed × Channel). x.0 ≡ NothingCame → x.1 ≡ c) (λ _ e. cc) (λ _ e. refl) e
    from (p ∷ ps) e = cc

-- a message that answers a request is a reply, and a notice isn't
room_is : (m : Msg) (r : Slab × ℕ) → query_reply m ≡ Some r → is_reply m ≡ true
room_is (msg.Room slab free) r e = refl
room_is _ r e = cc

borrow_is : (m : Msg) (r : Slab × Option Lease) → borrow_reply m ≡ Some r → is_reply m ≡ true
borrow_is (msg.Lent slab lease) r e = refl
borrow_is (msg.Refused slab) r e = refl
borrow_is _ r e = cc

write_is : (m : Msg) (r : Lease × ℕ) → write_reply m ≡ Some r → is_reply m ≡ true
write_is (msg.Wrote lease place) r e = refl
write_is _ r e = cc

read_is : (m : Msg) (r : Lease × ℕ) → read_reply m ≡ Some r → is_reply m ≡ true
read_is (msg.PageIs lease place) r e = refl
read_is _ r e = cc

rate_is : (m : Msg) (k : Lease) → rate_asked m ≡ Some k → is_reply m ≡ false
rate_is (msg.AskRates lease) k e = refl
rate_is _ k e = cc

back_is : (m : Msg) (k : Lease) → taken_back m ≡ Some k → is_reply m ≡ false
back_is (msg.Evict lease) k e = refl
back_is _ k e = cc

-- the writes of a page after its last page-out's: there are none
latest_after :
    (p : Page) (e : EntryNo) (ring : List Request) (g : EntryNo) → AllByRecursion (MayPrecede (request.Write p e)) ring → latest_write p ring ≡ Some g
    → e.0 < g.0
latest_after p e [] g all is = cc
latest_after p e (y ∷ ring) g all is = go (latest_write p ring) refl is (latest_after p e ring g all.1)
  where
    here : (y : Request) → MayPrecede (request.Write p e) y → entry_to p y ≡ Some g → e.0 < g.0
    here (request.Query u) h is = cc
    here (request.Borrow u) h is = cc
    here (request.Read c q) h is = cc
    here (request.Write q f) h is = test (q.0 == p.0) refl is
      where
        test : (b : Bool) → (q.0 == p.0) ≡ b → cond b (Some f) None ≡ Some g → e.0 < g.0
        test true same is = let entry : f ≡ g = cc in subst (λ (x : EntryNo). e.0 < x.0) entry (h (sym (eqb-true q.0 p.0 same)))
        test false same is = cc

    go : (o : Option EntryNo) → latest_write p ring ≡ o → first_of o (entry_to p y) ≡ Some g → (latest_write p ring ≡ Some g → e.0 < g.0) → e.0 < g.0
    go (Some f) same is rest = rest (same ∙ is)
    go None same is rest = here y all.0 is

none_after :
    (s : Sizes) (H : History) (cs : Calls) (states : List SlabState) (l : Lender) (p : Page) (e : EntryNo) (ring : List Request)
    → AllByRecursion (MayPrecede (request.Write p e)) ring → AllByRecursion (IsAwaited s H cs states l) ring → last H p ≡ Some e → latest_write p ring ≡ None
none_after s H cs states l p e ring order awaited newest = go (latest_write p ring) refl
  where
    go : (o : Option EntryNo) → latest_write p ring ≡ o → o ≡ None
    go None is = refl
    go (Some g) is = absurd (omega (arith, latest_after p e ring g order is, none_later H p e g newest (latest_out s H cs states l p ring g awaited is)))

-- leases of another lender, where a slab is lent
leases_lent :
    (l m : Lender) (states : List SlabState) (t : Slab) (k : Lease) → (l.0 ≡ m.0 → ⊥) → state_of states t ≡ Borrowing m
    → SameLeases l states (slabs.lent_after states t k)
leases_lent l m states t k other is =
    leases_set l states t (slabs.after_lent (state_of states t) k)
    (λ j. ap (λ x. has_lease l j (slabs.after_lent x k)) is ∙ ap (λ b. b && (k.0 == j.0)) (not_eqb m.0 l.0 (λ e. other (sym e)))
    ∙ sym (ap (has_lease l j) is))

-- no read under way is of a page of a slab that is borrowed
new_lent :
    (s : Sizes) (H : History) (cs : Calls) (states : List SlabState) (l : Lender) (u : Slab) (k : Lease) (ring : List Request) → state_of states u ≡ Borrowing l
    → AllByRecursion (IsAwaited s H cs states l) ring → AllByRecursion (NoNewLease s states (slabs.lent_after states u k) l) ring
new_lent s H cs states l u k [] borrows all = tt
new_lent s H cs states l u k (request.Query t ∷ ring) borrows all = (tt, new_lent s H cs states l u k ring borrows all.1)
new_lent s H cs states l u k (request.Borrow t ∷ ring) borrows all = (tt, new_lent s H cs states l u k ring borrows all.1)
new_lent s H cs states l u k (request.Write p e ∷ ring) borrows all = (tt, new_lent s H cs states l u k ring borrows all.1)
new_lent s H cs states l u k (request.Read a p ∷ ring) borrows all = (
  λ j at. sym (ap (has_lease l j) (state-other states u (slab_for s p) (slabs.after_lent (state_of states u) k) (λ same.
      let P : SlabState → Type 0 = λ x. IsLeasedFrom l x in
      subst P (ap (λ m. state_of states (record { 0 = m })) same ∙ borrows) all.0.2))) ∙ at,
  new_lent s H cs states l u k ring borrows all.1,
)

-- a page that may be read
set_bit : (bits : List Bool) (p o : Page) → has (with_number bits p.0) o.0 ≡ true → (has bits o.0 ≡ true) ⊎ (o.0 ≡ p.0)
set_bit bits p o set = elim (cases_eq o.0 p.0) [ inl same ↦ inr same | inr other ↦ inl (sym (get_or-set_other bits p.0 o.0 true false other) ∙ set) ]

-- a slab that is leased from a lender has as many requests under way as fly for it
flies :
    (s : Sizes) (links : List LinkState) (t : Slab) (l : Lender) (x : SlabState) → IsLeasedFrom l x → SlabFits s links t x
    → slabs.flying_of x ≡ flying_for s t (ring_of links l)
flies s links t l Local at fits = absurd at
flies s links t l (Asking pair) at fits = absurd at
flies s links t l (Borrowing m) at fits = absurd at
flies s links t l (Mapped m k f) at fits = fits.1 ∙ ap (λ n. flying_for s t (ring_of links (record { 0 = n }))) at
flies s links t l (Draining m k f) at fits = fits.1 ∙ ap (λ n. flying_for s t (ring_of links (record { 0 = n }))) at

-- and the lease of which it names
leased_own : (l : Lender) (x : SlabState) (k : Lease) → IsLeasedFrom l x → slabs.settled_lease x ≡ Some k → has_lease l k x ≡ true
leased_own l Local k at gives = absurd at
leased_own l (Asking pair) k at gives = absurd at
leased_own l (Borrowing m) k at gives = absurd at
leased_own l (Mapped m j f) k at gives = cc
leased_own l (Draining m j f) k at gives = and_from (m.0 == l.0) (j.0 == k.0) (eq-eqb m.0 l.0 at) (eq-eqb j.0 k.0 (lease_is ((f - 1) == 0) gives))
  where
    lease_is : (b : Bool) → cond b (Some j) None ≡ Some k → j.0 ≡ k.0
    lease_is true e = cc
    lease_is false e = cc

-- another lender has no lease of it
away : (m l : Lender) (x : SlabState) (k : Lease) → IsLeasedFrom l x → (m.0 ≡ l.0 → ⊥) → has_lease m k x ≡ true → ⊥
away m l Local k at other has = at
away m l (Asking pair) k at other has = at
away m l (Borrowing o) k at other has = at
away m l (Mapped o j f) k at other has = other (sym (eqb-true o.0 m.0 (and_parts (o.0 == m.0) (j.0 == k.0) has).0) ∙ at)
away m l (Draining o j f) k at other has = other (sym (eqb-true o.0 m.0 (and_parts (o.0 == m.0) (j.0 == k.0) has).0) ∙ at)

-- a request that was answered is for a page of this slab
own_slab : (s : Sizes) (p : Page) → (slab_of s p.0 == (slab_for s p).0) ≡ true
own_slab s p = eq-eqb (slab_of s p.0) (slab_of s p.0) refl

-- a device that gives a lease back, where there is one to give
owing_done :
    (n : ℕ) (d : Device) (h : Harbor) (l : Lender) (o : Option Lease) → AllJoined n d h → is_up d.remote.links l ≡ true
    → ((k : Lease) → o ≡ Some k → Unless (channel_of h l).lender_gone (IsGivenBack d.remote.slabs l (channel_of h l) k))
    → JoinedOwing n d h (words l (done_word o))
owing_done n d h l None all up back = all
owing_done n d h l (Some k) all up back = (
  all,
  up,
  λ j e. let same : k ≡ j = ap (λ (m : ℕ). record { 0 = m }) (eqb-true k.0 j.0 e) in
      subst (λ (i : Lease). Unless (channel_of h l).lender_gone (IsGivenBack d.remote.slabs l (channel_of h l) i)) same (back k refl),
)

-- a message that is heard
module _ (n : ℕ) (d : Device) (h g : Harbor) (l : Lender) (q : Parcel) (all : AllJoined n d h) (serves : ServesAt n d h) (up : is_up d.remote.links l ≡ true)
    (moved : harbor.Moves h (Take l) (Brought q) g) where
  lender_in : l.0 < n
  lender_in = (serves.link l).lender up

  link_in : l.0 < length d.remote.links
  link_in = up_within d.remote.links l up

  c : Channel
  c = channel_of h l

  here : Joined d l (channel_of h l)
  here = all l lender_in up

  brings : FrontIs (channel_of h l) q
  brings = taken_brings (channel_of h l) q here.present (ap (λ (x : Handed × Harbor). x.0) moved.1)

  -- the channel after it
  channel_is : channel_of g l ≡ without_reply (channel_of h l) brings.rest
  channel_is = ap (λ (x : Handed × Harbor). channel_of x.1 l) (sym moved.1) ∙ called h l (take_after (channel_of h l)).1 moved.0.range ∙ brings.after

  -- the link is joined with its message gone, and so are all links
  heard_through :
      (d' : Device) → ((m : Lender) → (m.0 ≡ l.0 → ⊥) → SeesSame m d d') → Joined d' l (without_reply (channel_of h l) brings.rest) → AllJoined n d' g
  heard_through d' others k =
      joins_through n d d' h g (Take l) (Brought q) moved others (all_but l n d h all) (λ within _. subst (λ ch. Joined d' l ch) (sym brings.after) k)

  -- what may be given back is so on the channel after it
  back_on :
      (states : List SlabState) (k : Lease) → Unless (channel_of h l).lender_gone (IsGivenBack states l (without_reply (channel_of h l) brings.rest) k)
      → Unless (channel_of g l).lender_gone (IsGivenBack states l (channel_of g l) k)
  back_on states k given = subst (λ ch. Unless ch.lender_gone (IsGivenBack states l ch k)) (sym channel_is) given

  abbrev Reply : Type 0
  Reply = Taken d.sizes d.history d.calls d.remote.slabs d.remote.bits (ring_of d.remote.links l) l (channel_of h l) q brings.rest

  reply_taken : is_reply q.msg ≡ true → Reply
  reply_taken is =
      taken_front d.sizes d.history d.calls d.remote.slabs d.remote.bits (ring_of d.remote.links l) l (channel_of h l) q brings.rest brings.is is here

  left : (t : Reply) → JoinedOf d.sizes d.history d.calls d.remote.slabs d.remote.bits t.rest l (without_reply (channel_of h l) brings.rest)
  left t =
      joined_left d.sizes d.history d.calls d.remote.slabs d.remote.bits (ring_of d.remote.links l) l (channel_of h l) q brings.rest brings.is here.present t

  ring_now : (t : Reply) → ring_of (rings.answered_after d.remote.links l) l ≡ t.rest
  ring_now t = answered-ring d.remote.links l t.one t.rest link_in t.ring_is

  -- the request that the reply answers
  cons_same : (x y : Request) (xs ys : List Request) → x ∷ xs ≡ y ∷ ys → x ≡ y
  cons_same x y xs ys e = cc

  one_is : (t : Reply) (x : Request) (xs : List Request) → ring_of d.remote.links l ≡ x ∷ xs → t.one ≡ x
  one_is t x xs e = cons_same t.one x t.rest xs (sym t.ring_is ∙ e)

  awaited :
      (t : Reply) (x : Request) (xs : List Request) → ring_of d.remote.links l ≡ x ∷ xs
      → AllByRecursion (IsAwaited d.sizes d.history d.calls d.remote.slabs l) (x ∷ t.rest)
  awaited t x xs e =
      subst (λ ys. AllByRecursion (IsAwaited d.sizes d.history d.calls d.remote.slabs l) ys) (t.ring_is ∙ ap (λ y. y ∷ t.rest) (one_is t x xs e))
      (serves.link l).awaited

  -- a slab is refused, or a lender told of its free slots: each slab keeps its leases
  same_joins :
      (t : Reply) (states : List SlabState) → ((m : Lender) → SameLeases m d.remote.slabs states)
      → AllJoined n (record d { remote = record d.remote { slabs = states; links = rings.answered_after d.remote.links l } }) g
  same_joins t states leases =
      heard_through (record d { remote = record d.remote { slabs = states; links = rings.answered_after d.remote.links l } })
      (λ m other.
      sees_parts m d states (rings.answered_after d.remote.links l) d.calls d.links_made (leases m) (answered-other d.remote.links l m other) (still_same m d))
      (subst (λ r. JoinedOf d.sizes d.history d.calls states d.remote.bits r l (without_reply (channel_of h l) brings.rest)) (sym (ring_now t))
      (joined_sees d.sizes d.history d.history d.calls d.calls d.remote.slabs states d.remote.bits d.remote.bits t.rest l
      (without_reply (channel_of h l) brings.rest) (λ u k at. sym (leases l u k) ∙ at)
      (leased_all d.sizes l d.remote.slabs states t.rest (λ u k at. leases l u k ∙ at))
      (entries_stay d.history) (λ p k at set. inl (set, refl)) (still_all d.calls d.calls t.rest (λ a e is. is)) (left t)))

  -- a request for a page was answered
  module _ (t : Reply) (p : Page) (p_in : p.0 < pages_of d.sizes) (leased : IsLeasedFrom l (state_for d.sizes d.remote.slabs p))
      (for_it : is_for_slab d.sizes (slab_for d.sizes p) t.one ≡ true) where
    slab_in : (slab_for d.sizes p).0 < d.sizes.slabs
    slab_in = slab_within d.sizes p.0 p_in

    states' : List SlabState
    states' = slabs.settled_after d.remote.slabs (slab_for d.sizes p)

    fewer_by_one : slabs.flying_of (state_for d.sizes d.remote.slabs p) - 1 ≡ flying_for d.sizes (slab_for d.sizes p) t.rest
    fewer_by_one =
        let all =
        flies d.sizes d.remote.links (slab_for d.sizes p) l (state_for d.sizes d.remote.slabs p) leased (serves.slab (slab_for d.sizes p) slab_in)
        ∙ ap (flying_for d.sizes (slab_for d.sizes p)) t.ring_is ∙ flying-cons d.sizes (slab_for d.sizes p) t.one t.rest
        ∙ ap (λ b. one_if b + flying_for d.sizes (slab_for d.sizes p) t.rest) for_it in
        omega (arith, all)

    stays_here : AllByRecursion (StaysLeased d.sizes l d.remote.slabs (slabs.settled_after d.remote.slabs (slab_for d.sizes p))) t.rest
    stays_here = leased_settled d.sizes l d.remote.slabs (slab_for d.sizes p) t.rest (λ _. fewer_by_one)

    stays_there :
        (m : Lender) → (m.0 ≡ l.0 → ⊥)
        → AllByRecursion (StaysLeased d.sizes m d.remote.slabs (slabs.settled_after d.remote.slabs (slab_for d.sizes p))) (ring_of d.remote.links m)
    stays_there m other =
        leased_settled d.sizes m d.remote.slabs (slab_for d.sizes p) (ring_of d.remote.links m)
        (λ from. absurd (twice (state_for d.sizes d.remote.slabs p) from leased))
      where
        twice : (x : SlabState) → IsLeasedFrom m x → IsLeasedFrom l x → ⊥
        twice Local a b = a
        twice (Asking pair) a b = a
        twice (Borrowing o) a b = a
        twice (Mapped o k f) a b = other (sym a ∙ b)
        twice (Draining o k f) a b = other (sym a ∙ b)

    -- of another link, with the page's bit set or as it was
    sees_there :
        (m : Lender) → (m.0 ≡ l.0 → ⊥) → (bits : List Bool) (cs : Calls) → ((a : Page) → has bits a.0 ≡ true → (has d.remote.bits a.0 ≡ true) ⊎ (a.0 ≡ p.0))
        → ((o : Lender) → AllByRecursion (StillReads d.calls cs) (ring_of d.remote.links o))
        → SeesSame m d
        (record d {
          remote = record { bits = bits; slabs = slabs.settled_after d.remote.slabs (slab_for d.sizes p); links = rings.answered_after d.remote.links l };
          calls = cs;
        })
    sees_there m other bits cs lit still = record {
      sizes = refl;
      fewer = fewer_settled m d.remote.slabs (slab_for d.sizes p);
      leased = stays_there m other;
      entries = entries_stay d.history;
      bits = λ a k at set. elim (lit a set) [
        | inl was ↦ (was, refl)
        | inr same ↦
            absurd
            (away m l (state_for d.sizes d.remote.slabs p) k leased other
            (subst (λ x. has_lease m k (state_for d.sizes d.remote.slabs (record { 0 = x })) ≡ true) same at))
      ];
      ring = ap (λ (k : LinkState). k.ring) (answered-other d.remote.links l m other);
      up = ap (λ (k : LinkState). k.up) (answered-other d.remote.links l m other);
      calls = still m;
    }

    -- a page was read, or a write came back that is not the newest
    settled_joins :
        (cs : Calls) → ((xs : List Request) → AllByRecursion (StillReads d.calls cs) xs)
        → AllJoined n (record d { remote = remote.settled_for d.sizes d.remote l p; calls = cs }) g
    settled_joins cs still =
        heard_through (record d { remote = remote.settled_for d.sizes d.remote l p; calls = cs })
        (λ m other. sees_there m other d.remote.bits cs (λ a set. inl set) (λ o. still (ring_of d.remote.links o)))
        (subst
        (λ r.
        JoinedOf d.sizes d.history cs (slabs.settled_after d.remote.slabs (slab_for d.sizes p)) d.remote.bits r l (without_reply (channel_of h l) brings.rest))
        (sym (ring_now t))
        (joined_sees d.sizes d.history d.history d.calls cs d.remote.slabs
        (slabs.settled_after d.remote.slabs (slab_for d.sizes p)) d.remote.bits d.remote.bits t.rest l (without_reply (channel_of h l) brings.rest)
        (fewer_settled l d.remote.slabs (slab_for d.sizes p)) stays_here
        (entries_stay d.history) (λ p k at set. inl (set, refl)) (still t.rest) (left t)))

    -- the lease that goes with it may be given back
    settled_back :
        (k : Lease) → slabs.settled_lease (state_for d.sizes d.remote.slabs p) ≡ Some k
        → Unless (channel_of g l).lender_gone (IsGivenBack (slabs.settled_after d.remote.slabs (slab_for d.sizes p)) l (channel_of g l) k)
    settled_back k gives =
        back_on (slabs.settled_after d.remote.slabs (slab_for d.sizes p)) k
        (given_up d.sizes d.history d.calls d.remote.slabs (slabs.settled_after d.remote.slabs (slab_for d.sizes p)) d.remote.bits (ring_of d.remote.links l) l
        (channel_of h l) q brings.rest (slab_for d.sizes p) k brings.is moved.0.channel.sound
        (leased_own l (state_for d.sizes d.remote.slabs p) k leased gives)
        (λ u.
        unleased (slabs.settled_after d.remote.slabs (slab_for d.sizes p)) l k u (settled_free d.remote.slabs (slab_for d.sizes p) l k serves.single leased
        gives))
        here)

  -- a write came back
  wrote_joins :
      (t : Reply) (p : Page) (e : EntryNo) (rest : List Request) → ring_of d.remote.links l ≡ request.Write p e ∷ rest
      → AllJoined n (record d { remote = remote.written_after d.sizes d.remote l p (is_newest (last d.history p) e) }) g
  wrote_joins t p e rest is =
      go (is_newest (last d.history p) e && slabs.is_mapped (state_for d.sizes d.remote.slabs p))
      (λ yes. newest_is (last d.history p) e (and_first (is_newest (last d.history p) e) (slabs.is_mapped (state_for d.sizes d.remote.slabs p)) yes))
    where
      one : t.one ≡ request.Write p e
      one = one_is t (request.Write p e) rest is

      waits : AllByRecursion (IsAwaited d.sizes d.history d.calls d.remote.slabs l) (request.Write p e ∷ t.rest)
      waits = awaited t (request.Write p e) rest is

      ordered : AreInOrder (request.Write p e ∷ t.rest)
      ordered = subst AreInOrder (t.ring_is ∙ ap (λ x. x ∷ t.rest) one) (serves.link l).ordered

      for_it : is_for_slab d.sizes (slab_for d.sizes p) t.one ≡ true
      for_it = ap (is_for_slab d.sizes (slab_for d.sizes p)) one ∙ own_slab d.sizes p

      last_write : last d.history p ≡ Some e → latest_write p (t.one ∷ t.left) ≡ Some e
      last_write newest =
          let none : latest_write p t.rest ≡ None = none_after d.sizes d.history d.calls d.remote.slabs l p e t.rest ordered.0 waits.1 newest in
          let fewer : latest_write p t.left ≡ None = front_none p t.left t.behind (ap (latest_write p) (sym t.rest_is) ∙ none) in
          ap (λ x. latest_write p (x ∷ t.left)) one ∙ ap (λ o. first_of o (entry_to p (request.Write p e))) fewer ∙ entry_to-own p e
        where
          none_second : (a b : Option EntryNo) → first_of a b ≡ None → b ≡ None
          none_second None b e = e
          none_second (Some x) b e = cc

          none_first : (a b : Option EntryNo) → first_of a b ≡ None → a ≡ None
          none_first None b e = refl
          none_first (Some x) b e = cc

          both_none : (a b : Option EntryNo) → a ≡ None → b ≡ None → first_of a b ≡ None
          both_none a b x y = ap (λ o. first_of o b) x ∙ y

          front_none : (p : Page) (xs ys : List Request) → latest_write p (xs ++ ys) ≡ None → latest_write p xs ≡ None
          front_none p [] ys e = refl
          front_none p (x ∷ xs) ys e =
              both_none (latest_write p xs) (entry_to p x) (front_none p xs ys (none_first (latest_write p (xs ++ ys)) (entry_to p x) e))
              (none_second (latest_write p (xs ++ ys)) (entry_to p x) e)

      go :
          (b : Bool) → (b ≡ true → last d.history p ≡ Some e)
          → AllJoined n (record d { remote = remote.with_page_if b (remote.settled_for d.sizes d.remote l p) p }) g
      go false newest = settled_joins t p waits.0.0 waits.0.1 for_it d.calls (λ xs. still_all d.calls d.calls xs (λ a e is. is))
      go true newest =
          heard_through
          (record d {
            remote =
                record {
                  bits = with_number d.remote.bits p.0;
                  slabs = slabs.settled_after d.remote.slabs (slab_for d.sizes p);
                  links = rings.answered_after d.remote.links l;
                };
          })
          (λ m other.
          sees_there t p waits.0.0 waits.0.1 for_it m other (with_number d.remote.bits p.0) d.calls (λ a set. set_bit d.remote.bits p a set)
          (λ o. still_same o d))
          (subst
          (λ r.
          JoinedOf d.sizes d.history d.calls (slabs.settled_after d.remote.slabs (slab_for d.sizes p)) (with_number d.remote.bits p.0) r l
          (without_reply (channel_of h l) brings.rest))
          (sym (ring_now t))
          (joined_wrote d.sizes d.history d.calls d.remote.slabs (slabs.settled_after d.remote.slabs (slab_for d.sizes p)) d.remote.bits
          (with_number d.remote.bits p.0) (ring_of d.remote.links l) l (channel_of h l) q brings.rest p e brings.is here.present t
          (fewer_settled l d.remote.slabs (slab_for d.sizes p))
          (stays_here t p waits.0.0 waits.0.1 for_it) (last_write (newest refl)) (last_bytes (zeros d.sizes) d.history p e (newest refl))
          (λ a set. set_bit d.remote.bits p a set)))

  -- a slab is lent
  lent_joins :
      (t : Reply) (u v : Slab) (k : Lease) (rest : List Request) → ring_of d.remote.links l ≡ request.Borrow u ∷ rest → borrow_reply q.msg ≡ Some (v, Some k)
      → v.0 ≡ u.0 → AllJoined n (record d { remote = remote.lent_after d.remote l u k }) g
  lent_joins t u v k rest is says same =
      heard_through (record d { remote = remote.lent_after d.remote l u k })
      (λ m other.
      sees_parts m d (slabs.lent_after d.remote.slabs u k) (rings.answered_after d.remote.links l) d.calls d.links_made
      (leases_lent m l d.remote.slabs u k other borrows)
      (answered-other d.remote.links l m other) (still_same m d))
      (subst (λ r. JoinedOf d.sizes d.history d.calls (slabs.lent_after d.remote.slabs u k) d.remote.bits r l (without_reply (channel_of h l) brings.rest))
      (sym (ring_now t))
      (joined_lent d.sizes d.history d.calls d.remote.slabs d.remote.bits (ring_of d.remote.links l) l
      (channel_of h l) q brings.rest u v k brings.is here.present t (subst (λ m. u.0 < m) (sym serves.slabs_len) waits.0.0) borrows says same
      (λ p e same is. unmapped p same (latest_mapped d.sizes d.history d.calls d.remote.slabs l p t.left e left_awaited is))
      (λ p same set. both_ways (has_page d.remote p) (clear_bit p same set) set)
      (new_lent d.sizes d.history d.calls d.remote.slabs l u k t.rest borrows waits.1) once_now))
    where
      waits : AllByRecursion (IsAwaited d.sizes d.history d.calls d.remote.slabs l) (request.Borrow u ∷ t.rest)
      waits = awaited t (request.Borrow u) rest is

      borrows : state_of d.remote.slabs u ≡ Borrowing l
      borrows = waits.0.1

      left_awaited : AllByRecursion (IsAwaited d.sizes d.history d.calls d.remote.slabs l) t.left
      left_awaited =
          all-front (IsAwaited d.sizes d.history d.calls d.remote.slabs l) t.left t.behind
          (subst (λ ys. AllByRecursion (IsAwaited d.sizes d.history d.calls d.remote.slabs l) ys) t.rest_is waits.1)

      borrowing : (p : Page) → slab_of d.sizes p.0 ≡ u.0 → state_for d.sizes d.remote.slabs p ≡ Borrowing l
      borrowing p same = ap (λ m. state_of d.remote.slabs (record { 0 = m })) same ∙ borrows

      unmapped : (p : Page) → slab_of d.sizes p.0 ≡ u.0 → IsLeasedFrom l (state_for d.sizes d.remote.slabs p) → ⊥
      unmapped p same m = let P : SlabState → Type 0 = λ x. IsLeasedFrom l x in subst P (borrowing p same) m

      clear_bit : (p : Page) → slab_of d.sizes p.0 ≡ u.0 → has_page d.remote p ≡ true → has_page d.remote p ≡ false
      clear_bit p same set = let P : SlabState → Type 0 = λ x. PageFits (KeepsAt h) d.sizes d.history d.remote.links p (has_page d.remote p) x in
          subst P (borrowing p same) (serves.page p (subst (λ m. p.0 < m) serves.bits_len (bit_within d.remote.bits p.0 set)))

      once_now : (j : Lease) → lends j q.msg ≡ true → lends_in j brings.rest ≡ false
      once_now = (subst (λ ps. LentOnce ps) brings.is here.loans.once).0

  -- a notice is taken
  noticed : is_reply q.msg ≡ false → Joined d l (without_reply (channel_of h l) brings.rest)
  noticed plain =
      joined_noticed d.sizes d.history d.calls d.remote.slabs d.remote.bits (ring_of d.remote.links l) l (channel_of h l) q brings.rest brings.is plain here

  rate_joins : is_reply q.msg ≡ false → AllJoined n d g
  rate_joins plain = heard_through d (λ m other. sees_itself m d) (noticed plain)

  -- and takes a slab back
  module _ (t : Slab) (k : Lease) (m : MappedBy d.remote.slabs l k t) where
    flies_all : (o : Lender) → o.0 ≡ l.0 → m.flying ≡ flying_for d.sizes t (ring_of d.remote.links o)
    flies_all o same =
        let P : SlabState → Type 0 = λ x. SlabFits d.sizes d.remote.links t x in
        let fits : SlabFits d.sizes d.remote.links t (Mapped l k m.flying) = subst P m.is (serves.slab t (subst (λ i. t.0 < i) serves.slabs_len m.within)) in
        fits.1 ∙ ap (λ i. flying_for d.sizes t (ring_of d.remote.links (record { 0 = i }))) (sym same)

    bits_fewer : (p : Page) → has_page (remote.evicted_after d.sizes d.remote t) p ≡ true → has_page d.remote p ≡ true
    bits_fewer p set = elim (cases_lt p.0 (pages_of d.sizes)) [
      | inl within ↦
          kept (slab_of d.sizes p.0 == t.0)
          (sym (evicted_bit d.sizes d.remote t p.0 (subst (λ i. t.0 < i) serves.slabs_len m.within) serves.bits_len (pages_some d.sizes p.0 within)) ∙ set)
      | inr past ↦
          absurd
          (both_ways (has_page (remote.evicted_after d.sizes d.remote t) p)
          (get_or_past (remote.evicted_after d.sizes d.remote t).bits p.0 false
          (subst (λ i. i ≤ p.0)
          (sym (length-evicted d.sizes d.remote t (subst (λ i. t.0 < i) serves.slabs_len m.within) serves.bits_len ∙ serves.bits_len)) past))
          set)
    ]
      where
        kept : (b : Bool) → cond b false (has_page d.remote p) ≡ true → has_page d.remote p ≡ true
        kept true e = cc
        kept false e = e

    sees_it : (o : Lender) → SeesSame o d (record d { remote = remote.evicted_after d.sizes d.remote t })
    sees_it o = sees_evicted o d t l k m.flying m.is (flies_all o) bits_fewer

    evicted_joins : is_reply q.msg ≡ false → AllJoined n (record d { remote = remote.evicted_after d.sizes d.remote t }) g
    evicted_joins plain =
        heard_through (record d { remote = remote.evicted_after d.sizes d.remote t }) (λ o other. sees_it o)
        (joined_same l d (record d { remote = remote.evicted_after d.sizes d.remote t }) (without_reply (channel_of h l) brings.rest) (sees_it l)
        (noticed plain))

    evicted_back :
        (j : Lease) → slabs.evicted_lease (state_of d.remote.slabs t) ≡ Some j
        → Unless (channel_of g l).lender_gone (IsGivenBack (slabs.evicted_after d.remote.slabs t) l (channel_of g l) j)
    evicted_back j gives =
        let own : has_lease l j (state_of d.remote.slabs t) ≡ true =
        ap (has_lease l j) m.is
        ∙ and_from (l.0 == l.0) (k.0 == j.0) (eq-eqb l.0 l.0 refl)
        (eq-eqb k.0 j.0 (lease_is (m.flying == 0) (sym (ap slabs.evicted_lease m.is) ∙ gives))) in
        back_on (slabs.evicted_after d.remote.slabs t) j
        (given_up d.sizes d.history d.calls d.remote.slabs (slabs.evicted_after d.remote.slabs t) d.remote.bits (ring_of d.remote.links l) l
        (channel_of h l) q brings.rest t j brings.is moved.0.channel.sound own
        (λ u. unleased (slabs.evicted_after d.remote.slabs t) l j u (evicted_free d.remote.slabs t l k j m.flying serves.single m.is gives)) here)
      where
        lease_is : (b : Bool) → cond b (Some k) None ≡ Some j → k.0 ≡ j.0
        lease_is true e = cc
        lease_is false e = cc

  -- each message that is heard
  pub heard_joins : (x : Heard) → Hears d l q x → JoinedOwing n x.device g (words l x.word)
  heard_joins x (roomy {t = t} {u = u} {free = free} {rest = rest} is says same) =
      same_joins (reply_taken (room_is q.msg (u, free) says)) (slabs.answered_after d.remote.slabs t l (reply.Free free))
      (λ m. leases_answered m l d.remote.slabs t (reply.Free free))
  heard_joins x (lent {t = t} {u = u} {k = k} {rest = rest} is says same none) =
      lent_joins (reply_taken (borrow_is q.msg (u, Some k) says)) t u k rest is says (eqb-true u.0 t.0 same)
  heard_joins x (refused {t = t} {u = u} {rest = rest} is says same) =
      let r : Reply = reply_taken (borrow_is q.msg (u, None) says) in
      same_joins r (slabs.refused_after d.remote.slabs t) (λ m. leases_refused m l d.remote.slabs t (awaited r (request.Borrow t) rest is).0.1)
  heard_joins x (written {p = p} {e = e} {at = at} {rest = rest} is says named) =
      let r : Reply = reply_taken (write_is q.msg at says) in
      let waits = awaited r (request.Write p e) rest is in
      owing_done n (record d { remote = remote.written_after d.sizes d.remote l p (is_newest (last d.history p) e) }) g l
      (slabs.settled_lease (state_for d.sizes d.remote.slabs p)) (wrote_joins r p e rest is)
      (ap (λ links. is_up links l)
      (written_links (is_newest (last d.history p) e && slabs.is_mapped (state_for d.sizes d.remote.slabs p)) (remote.settled_for d.sizes d.remote l p) p)
      ∙ answered-up d.remote.links l l link_in ∙ up)
      (λ k gives.
      subst (λ states. Unless (channel_of g l).lender_gone (IsGivenBack states l (channel_of g l) k))
      (sym
      (with_page_slabs (is_newest (last d.history p) e && slabs.is_mapped (state_for d.sizes d.remote.slabs p))
      (remote.settled_for d.sizes d.remote l p) p))
      (settled_back r p waits.0.0 waits.0.1
      (ap (is_for_slab d.sizes (slab_for d.sizes p)) (one_is r (request.Write p e) rest is) ∙ own_slab d.sizes p) k gives))
  heard_joins x (brought {c = a} {p = p} {at = at} {rest = rest} is says named) =
      let r : Reply = reply_taken (read_is q.msg at says) in
      let waits = awaited r (request.Read a p) rest is in
      let for_it = ap (is_for_slab d.sizes (slab_for d.sizes p)) (one_is r (request.Read a p) rest is) ∙ own_slab d.sizes p in
      owing_done n (record d { remote = remote.settled_for d.sizes d.remote l p; calls = calls.came_after d.calls a q.page }) g l
      (slabs.settled_lease (state_for d.sizes d.remote.slabs p))
      (settled_joins r p waits.0.1 waits.0.2 for_it (calls.came_after d.calls a q.page)
      (λ xs. still_all d.calls (calls.came_after d.calls a q.page) xs (still_arrives arrived.Came q.page d.calls a)))
      (answered-up d.remote.links l l link_in ∙ up) (settled_back r p waits.0.1 waits.0.2 for_it)
  heard_joins x (asked_rate {t = t} {k = k} says at) = (rate_joins (rate_is q.msg k says), up, λ j e. cc)
  heard_joins x (told_to_go {t = t} {k = k} says at) =
      let m : MappedBy d.remote.slabs l k t = mapped_by_is d.remote.slabs l k t at in
      owing_done n (record d { remote = remote.evicted_after d.sizes d.remote t }) g l (slabs.evicted_lease (state_of d.remote.slabs t))
      (evicted_joins t k m (back_is q.msg k says)) up (evicted_back t k m)
