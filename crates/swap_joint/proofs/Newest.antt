-- What is joined: the newest content of a page stands at its lender, and a slab with a lease has its slot.
use Rattle.std.proofs.Common.{◌≡◌, ℕ, ◌<◌, Bool, true, false, cond, ◌||◌, List, [], ◌∷◌, ◌++◌, refl, sym, ap, ◌∙◌, subst, eq-eqb, Option, None, Some}
use Rattle.std.specs.List.{list_any, filter}
use Rattle.std.proofs.lemmas.Bool.{both_ways}
use Rattle.swap_base.specs.declared.Page.{Page}
use Rattle.swap_base.specs.declared.Lender.{Lender}
use Rattle.swap_base.specs.declared.Lease.{Lease}
use Rattle.swap_base.specs.declared.EntryNo.{EntryNo}
use Rattle.swap_base.specs.Sizes.{Sizes, pages_of, place_of}
use Rattle.swap_queue.specs.Queue.{first_of}
use Rattle.swap_record.specs.History.{History}
use Rattle.swap_wire.specs.declared.Msg.{Msg}
use Rattle.swap_wire.specs.declared.Msg.TheVariants as msg
use Rattle.swap_wire.specs.Fabric.{Parcel, replaces}
use Rattle.swap_slabs.specs.Slabs as slabs
use Rattle.swap_slabs.specs.Slabs.{has_lease}
use Rattle.swap_slabs.specs.declared.SlabState.{SlabState}
use Rattle.swap_slabs.specs.declared.SlabState.TheVariants.{Local, Asking, Borrowing, Mapped, Draining}
use Rattle.swap_rings.specs.Rings.{ring_of, is_up}
use Rattle.swap_rings.specs.declared.Request.{Request}
use Rattle.swap_rings.specs.declared.Request.TheVariants.{Query, Borrow, Write, Read}
use Rattle.swap_remote.specs.Remote.{slab_for, state_for, has_page}
use Rattle.swap_table.specs.Device.{Device}
use Rattle.swap_table.specs.Serves.{latest_write, entry_to, PageFits, SlabFits, AreSingle}
use Rattle.swap_base.proofs.Lists.{not_eqb}
use Rattle.swap_table.proofs.RequestsKeepServing.{has_own}
use Rattle.swap_table.proofs.SendsKeepServing.{slab_within}
use Rattle.swap_link.specs.Keeping.{Unless}
use Rattle.swap_link.specs.lemmas.KeepLaws.{unless-map}
use Rattle.swap_link.specs.Harbor.{Harbor, channel_of, KeepsAt}
use Rattle.swap_joint.specs.Pairs.{Pairwise}
use Rattle.swap_joint.specs.Order.{is_request, asks_by, Carries, served_of}
use Rattle.swap_joint.specs.Seats.{HasSeat, is_done}
use Rattle.swap_joint.specs.Stored.{gives_back, Stored, Joined, AllJoined}
use Rattle.swap_joint.specs.Brought.{Asked}
use Rattle.swap_joint.specs.Newest.{IsNewestAt, IsNewest}
use Rattle.swap_joint.specs.Owned.{HasItsSlot, HaveTheirSlots}
use Rattle.swap_joint.proofs.Joins.{ServesAt}
use Rattle.swap_joint.proofs.Pairs.{First, pairs-implies, pairs-first, filter-first, filter-drops}
use Rattle.swap_joint.proofs.Serves.{elsewhere}
use Rattle.swap_joint.proofs.Hears.{bit_within}
use Rattle.swap_base.proofs.Bools.{or_left, or_right, or_none}

-- no write in a part of a list without one
both_none : (a b : Option EntryNo) → first_of a b ≡ None → (a ≡ None) × (b ≡ None)
both_none None b e = (refl, e)
both_none (Some x) b e = cc

back_none : (p : Page) (xs ys : List Request) → latest_write p (xs ++ ys) ≡ None → latest_write p ys ≡ None
back_none p [] ys e = e
back_none p (x ∷ xs) ys e = back_none p xs ys (both_none (latest_write p (xs ++ ys)) (entry_to p x) e).0

front_none : (p : Page) (xs ys : List Request) → latest_write p (xs ++ ys) ≡ None → latest_write p xs ≡ None
front_none p [] ys e = refl
front_none p (x ∷ xs) ys e =
    let parts = both_none (latest_write p (xs ++ ys)) (entry_to p x) e in
    ap (λ o. first_of o (entry_to p x)) (front_none p xs ys parts.0) ∙ parts.1

-- a request that doesn't write the page replaces nothing of it
carried_apart :
    (s : Sizes) (H : History) (states : List SlabState) (l : Lender) (p : Page) (k : Lease) (q : Parcel) (x : Request) → AreSingle states
    → has_lease l k (state_for s states p) ≡ true → Carries s H states l q x → entry_to p x ≡ None → replaces k (place_of s p.0) q.msg ≡ false
carried_apart s H states l p k q (Query t) single at h none = ap (λ (r : Parcel). replaces k (place_of s p.0) r.msg) h
carried_apart s H states l p k q (Borrow t) single at h none = ap (λ (r : Parcel). replaces k (place_of s p.0) r.msg) h
carried_apart s H states l p k q (Read c o) single at h none = ap (λ (r : Parcel). replaces k (place_of s p.0) r.msg) h.1
carried_apart s H states l p k q (Write o e) single at h none =
    ap (λ (r : Parcel). replaces k (place_of s p.0) r.msg) h.1
    ∙ elsewhere s states l p o k h.0 single at h.2 (λ same. some_none (sym (ap (λ b. cond b (Some e) None) (eq-eqb o.0 p.0 same)) ∙ none))
  where
    some_none : Some e ≡ None → ⊥
    some_none e = cc

plain_apart : (k : Lease) (i : ℕ) (m : Msg) → is_request m ≡ false → (is_done k m ≡ true → ⊥) → replaces k i m ≡ false
plain_apart k i (msg.Write j n) plain kept = cc
plain_apart k i (msg.Done j) plain kept = not_eqb j.0 k.0 (λ same. kept (eq-eqb j.0 k.0 same))
plain_apart k i _ plain kept = refl

-- no message under way to the lender replaces what it holds of a page without a write under way
nothing_replaces :
    (s : Sizes) (H : History) (states : List SlabState) (l : Lender) (p : Page) (k : Lease) (ps : List Parcel) (us : List Request) → AreSingle states
    → has_lease l k (state_for s states p) ≡ true → Pairwise (Carries s H states l) (filter asks_by ps) us → (gives_back k ps ≡ true → ⊥)
    → latest_write p us ≡ None
    → list_any (λ (q : Parcel). replaces k (place_of s p.0) q.msg) ps ≡ false
nothing_replaces s H states l p k [] us single at pairs kept none = refl
nothing_replaces s H states l p k (q ∷ ps) us single at pairs kept none =
    go (is_request q.msg) refl
    (λ rest h clear. nothing_replaces s H states l p k ps rest single at h (λ e. kept (or_right (is_done k q.msg) (gives_back k ps) e)) clear)
  where
    go :
        (b : Bool) → is_request q.msg ≡ b
        → ((rest : List Request) → Pairwise (Carries s H states l) (filter asks_by ps) rest → latest_write p rest ≡ None
        → list_any (λ (q : Parcel). replaces k (place_of s p.0) q.msg) ps ≡ false)
        → (replaces k (place_of s p.0) q.msg || list_any (λ (q : Parcel). replaces k (place_of s p.0) q.msg) ps) ≡ false
    go false plain later =
        or_none (replaces k (place_of s p.0) q.msg) _ (plain_apart k (place_of s p.0) q.msg plain (λ e. kept (or_left (is_done k q.msg) (gives_back k ps) e)))
        (later us (subst (λ zs. Pairwise (Carries s H states l) zs us) (filter-drops asks_by q ps plain) pairs) none)
    go true asks later =
        let f : First (Carries s H states l) q (filter asks_by ps) us =
        pairs-first (Carries s H states l) q (filter asks_by ps) us
        (subst (λ zs. Pairwise (Carries s H states l) zs us) (filter-first asks_by q ps asks) pairs) in
        let parts = both_none (latest_write p f.rest) (entry_to p f.one) (ap (latest_write p) (sym f.is) ∙ none) in
        or_none (replaces k (place_of s p.0) q.msg) _ (carried_apart s H states l p k q f.one single at f.here parts.1) (later f.rest f.there parts.0)

pub joined_is_newest : (n : ℕ) (d : Device) (h : Harbor) → AllJoined n d h → ServesAt n d h → IsNewest d h
joined_is_newest n d h all serves p set =
    go (state_for d.sizes d.remote.slabs p) refl (serves.page p within) (serves.slab (slab_for d.sizes p) (slab_within d.sizes p.0 within))
  where
    within : p.0 < pages_of d.sizes
    within = subst (λ m. p.0 < m) serves.bits_len (bit_within d.remote.bits p.0 set)

    go :
        (x : SlabState) → state_for d.sizes d.remote.slabs p ≡ x → PageFits (KeepsAt h) d.sizes d.history d.remote.links p (has_page d.remote p) x
        → SlabFits d.sizes d.remote.links (slab_for d.sizes p) x → IsNewestAt d h p x
    go Local is fits slab = both_ways (has_page d.remote p) fits set
    go (Asking pair) is fits slab = both_ways (has_page d.remote p) fits set
    go (Borrowing l) is fits slab = both_ways (has_page d.remote p) fits set
    go (Draining l k f) is fits slab = both_ways (has_page d.remote p) fits set
    go (Mapped l k f) is fits slab =
        let j : Joined d l (channel_of h l) = all l ((serves.link l).lender slab.0) slab.0 in
        let at : has_lease l k (state_for d.sizes d.remote.slabs p) ≡ true = ap (has_lease l k) is ∙ has_own l k f in
        let none : latest_write p (ring_of d.remote.links l) ≡ None = (fits.0 set).none in
        let o = j.order in (
          slab.0,
          unless-map (channel_of h l).lender_gone _ _ (λ (k' : Stored d.sizes d.history d.remote.slabs d.remote.bits l (channel_of h l) (served_of j.order)). (
            k'.readable p k at set,
            none,
            nothing_replaces d.sizes d.history d.remote.slabs l p k (channel_of h l).to_lender.parcels j.order.under_way serves.single at
                (pairs-implies (Asked d.sizes d.history d.calls d.remote.slabs l (channel_of h l)) (Carries d.sizes d.history d.remote.slabs l)
                (filter asks_by (channel_of h l).to_lender.parcels) j.order.under_way (λ q x k. k.0) j.order.requests)
                (λ e. both_ways (has_lease l k (state_for d.sizes d.remote.slabs p)) ((k'.given k e).unleased (slab_for d.sizes p)) at)
                (front_none p j.order.under_way j.order.dropped
                (back_none p (served_of j.order) (j.order.under_way ++ j.order.dropped) (ap (latest_write p) (sym j.order.in_four) ∙ none))),
          )) j.stored,
        )

-- each slab that is mapped or drains has its slot
pub joined_have_slots : (n : ℕ) (d : Device) (h : Harbor) → AllJoined n d h → ServesAt n d h → HaveTheirSlots d h
joined_have_slots n d h all serves t within = go (slabs.state_of d.remote.slabs t) refl (serves.slab t within)
  where
    seat :
        (l : Lender) (k : Lease) → has_lease l k (slabs.state_of d.remote.slabs t) ≡ true → is_up d.remote.links l ≡ true
        → Unless (channel_of h l).lender_gone (HasSeat (channel_of h l).lender (channel_of h l).number k t)
    seat l k at up =
        let j : Joined d l (channel_of h l) = all l ((serves.link l).lender up) up in
        unless-map (channel_of h l).lender_gone _ _
        (λ (k' : Stored d.sizes d.history d.remote.slabs d.remote.bits l (channel_of h l) (served_of j.order)). k'.leased t k at) j.stored

    go : (x : SlabState) → slabs.state_of d.remote.slabs t ≡ x → SlabFits d.sizes d.remote.links t x → HasItsSlot d h t x
    go Local is fits = tt
    go (Asking pair) is fits = tt
    go (Borrowing l) is fits = tt
    go (Draining l k f) is fits = seat l k (ap (has_lease l k) is ∙ has_own l k f) fits.0
    go (Mapped l k f) is fits = seat l k (ap (has_lease l k) is ∙ has_own l k f) fits.0
