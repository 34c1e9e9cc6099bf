-- The far side of a link moves: its lender serves a message or is measured, leaves or crashes, and the link is cut.
use Rattle.std.proofs.Common.{◌≡◌, ℕ, ◌<◌, ◌≤◌, ◌⊎◌, inl, inr, Bool, true, false, cond, ◌||◌, ◌&&◌, zero, suc, List, [], ◌∷◌, ◌++◌, take, refl, sym, ap, ◌∙◌, subst, arith, eq-eqb, Option, None, Some}
use Rattle.std.specs.Prelude.{◌==◌}
use Rattle.std.specs.List.{AllByRecursion, list_any, filter}
use Rattle.std.proofs.lemmas.Bool.{cond_both, cond-true, cond-false, and_parts, and_from, eqb-true, eqb-false, false_from_ne_true, both_ways}
use Rattle.swap_base.specs.declared.Link.{Link}
use Rattle.swap_base.specs.declared.Slab.{Slab}
use Rattle.swap_base.specs.declared.Page.{Page}
use Rattle.swap_base.specs.declared.Caller.{Caller}
use Rattle.swap_base.specs.declared.Lender.{Lender as LenderNo}
use Rattle.swap_base.specs.declared.Lease.{Lease}
use Rattle.swap_base.specs.declared.EntryNo.{EntryNo}
use Rattle.swap_base.specs.Sizes.{Sizes, place_of, zeros}
use Rattle.swap_queue.specs.Queue.{first_of}
use Rattle.swap_record.specs.History.{History, array}
use Rattle.swap_wire.specs.declared.Msg.{Msg}
use Rattle.swap_wire.specs.declared.Msg.TheVariants as msg
use Rattle.swap_wire.specs.declared.fabric.Gave.{Gave}
use Rattle.swap_wire.specs.Fabric.{Parcel, write_parcel, lends, replaces}
use Rattle.swap_bits.specs.Bits.{has}
use Rattle.swap_slabs.specs.Slabs.{has_lease, state_of}
use Rattle.swap_slabs.specs.declared.SlabState.{SlabState}
use Rattle.swap_slabs.specs.declared.SlabState.TheVariants.{Local, Asking, Borrowing, Mapped, Draining}
use Rattle.swap_rings.specs.declared.Request.{Request}
use Rattle.swap_rings.specs.declared.Request.TheVariants.{Query, Borrow, Write, Read}
use Rattle.swap_remote.specs.Remote.{slab_for, state_for}
use Rattle.swap_table.specs.Serves.{latest_write, entry_to, IsOut, bytes_of, AreSingle, MayPrecede, AreInOrder}
use Rattle.swap_base.proofs.Lists.{not_eqb}
use Rattle.swap_table.proofs.LeasesStayDistinct.{only_slab}
use Rattle.swap_table.proofs.LinkTables.{latest-append, entry_to-own}
use Rattle.swap_table.proofs.RequestsKeepServing.{same_page}
use Rattle.swap_lender.specs.Lender.{Lender}
use Rattle.swap_lender.specs.Table.{Turn, serve, may_send, host, gone_after, restart}
use Rattle.swap_link.specs.Fits.{IsSound}
use Rattle.swap_link.specs.Lane.{Lane, append_after, end_lane, cut}
use Rattle.swap_link.specs.Channel.{Channel, forward_after, deliver_after, give_after, given_from, leave_after, cut_after, crash_after, connect_after}
use Rattle.swap_link.specs.Keeping.{Unless, slot_page, left_by}
use Rattle.swap_link.specs.lemmas.Slots.{IsLater, later-serve, next-serve, slot_page-host, next-host}
use Rattle.swap_link.specs.lemmas.KeepLaws.{unless, unless-map, unless-at, took-served, left-kept}
use Rattle.swap_joint.specs.Order.{is_request, Carries, served_of, asks_by}
use Rattle.swap_calls.specs.Calls.{Calls}
use Rattle.swap_joint.specs.Brought.{page_found, HoldsFor, Replied, Asked}
use Rattle.swap_joint.specs.Stored.{gives_back, lends_in, lends_slab, lends_to, LentOnce, AreNew, IsGivenBack, Stored, JoinedOf}
use Rattle.swap_joint.specs.Seats.{HasSeat, AreSlots, is_done}
use Rattle.swap_joint.proofs.Seats.{seat_given, seat_served, seat_host}
use Rattle.swap_joint.proofs.Lanes.{by_append}
use Rattle.swap_joint.proofs.Pairs.{filter-drops, all-front}
use Rattle.swap_joint.proofs.Orders.{itself, Quiet, order_map, order_quiet, order_cut_to, order_cut_from, order_new, Carried, order_front, order_served, all_at_most, all_true}
use Rattle.swap_joint.proofs.Facts.{OrderedAt}
use Rattle.swap_joint.proofs.Turns.{Noticed, any_last, once-append, lends-append, loan-append, forwarded_noticed, serves_quietly, hosts_quietly, Reply, replies, forwarded_one}

-- a link's parts put together
pub joined :
    (s : Sizes) (H : History) (cs : Calls) (states : List SlabState) (bits : List Bool) (ring : List Request) (l : LenderNo) (c : Channel) (S U : List Request)
    → c.device_gone ≡ false → OrderedAt s H cs states ring l c c.to_lender c.to_device S U → Unless c.lender_gone (Stored s H states bits l c S)
    → AreNew states l c.to_device.parcels → JoinedOf s H cs states bits ring l c
joined s H cs states bits ring l c S U present h k new =
    record { present = present; order = h.order; stored = subst (λ z. Unless c.lender_gone (Stored s H states bits l c z)) (sym h.served) k; loans = new }

-- an order of a link whose lender changes, where what is held for reads stays held
pub order_moved :
    (s : Sizes) (H : History) (cs : Calls) (states : List SlabState) (ring : List Request) (l : LenderNo) (c d : Channel) (a b : Lane) (S U : List Request)
    (Q : Request → Type 0)
    → ((x : Request) → Q x → Unless c.lender_gone (HoldsFor s H cs states l c x) → Unless d.lender_gone (HoldsFor s H cs states l d x))
    → (h : OrderedAt s H cs states ring l c a b S U) → AllByRecursion Q h.order.under_way → OrderedAt s H cs states ring l d a b S U
order_moved s H cs states ring l c d a b S U Q each h all =
    order_map (Replied s H cs states l) (Asked s H cs states l c) (Replied s H cs states l) (Asked s H cs states l d) (λ x. Unit {0}) Q ring a b S U
    (λ q x one k. k) (λ q x one k. (k.0, each x one k.1)) h (all_true S) all

-- what is found of a place after a message was served
some-later : (k next : ℕ) (z : List ℕ) (was now : Option (List ℕ)) (b : List ℕ) → IsLater k next z was now → was ≡ Some b → now ≡ Some b
some-later k next z was now b h e = let P : Option (List ℕ) → Type 0 = λ o. IsLater k next z o now in subst P e h

found-served :
    (l : Lender) (n : Link) (m : Msg) (page : List ℕ) (k : Lease) (i : ℕ) (b : List ℕ) → IsSound l → may_send l n m ≡ true
    → left_by k i m page (slot_page l n k i) ≡ Some b → slot_page (serve l n m page).lender n k i ≡ Some b
found-served l n m page k i b sound may e = some-later k.0 l.next_lease _ _ _ b (later-serve l n m page k i sound may) e

-- a state has one lease
lease_one : (l : LenderNo) (j k : Lease) (x : SlabState) → has_lease l j x ≡ true → has_lease l k x ≡ true → j ≡ k
lease_one l j k Local a b = cc
lease_one l j k (Asking pair) a b = cc
lease_one l j k (Borrowing m) a b = cc
lease_one l j k (Mapped m o f) a b =
    ap (λ (n : ℕ). record { 0 = n })
    (sym (eqb-true o.0 j.0 (and_parts (m.0 == l.0) (o.0 == j.0) a).1) ∙ eqb-true o.0 k.0 (and_parts (m.0 == l.0) (o.0 == k.0) b).1)
lease_one l j k (Draining m o f) a b =
    ap (λ (n : ℕ). record { 0 = n })
    (sym (eqb-true o.0 j.0 (and_parts (m.0 == l.0) (o.0 == j.0) a).1) ∙ eqb-true o.0 k.0 (and_parts (m.0 == l.0) (o.0 == k.0) b).1)

-- a write of another page is to another place
pub elsewhere :
    (s : Sizes) (states : List SlabState) (l : LenderNo) (p q : Page) (k j : Lease) → AreSingle states → has_lease l k (state_for s states p) ≡ true
    → has_lease l j (state_for s states q) ≡ true → (q.0 ≡ p.0 → ⊥) → ((j.0 == k.0) && (place_of s q.0 == place_of s p.0)) ≡ false
elsewhere s states l p q k j single here there other = false_from_ne_true _ (λ e.
    let parts = and_parts (j.0 == k.0) (place_of s q.0 == place_of s p.0) e in
    let same : has_lease l k (state_for s states q) ≡ true =
    subst (λ n. has_lease l (record { 0 = n }) (state_for s states q) ≡ true) (eqb-true j.0 k.0 parts.0) there in
    other (same_page s p.0 q.0 (only_slab states l k (slab_for s p) (slab_for s q) single here same) (eqb-true (place_of s q.0) (place_of s p.0) parts.1)))

-- the last write of a page, of two lists
first_of-some : {X : Type 0} (a : Option X) (x : X) → first_of a (Some x) ≡ None → ⊥
first_of-some None x e = cc
first_of-some (Some y) x e = cc

latest_some : (p : Page) (e : EntryNo) (xs ys : List Request) → latest_write p (xs ++ Write p e ∷ ys) ≡ None → ⊥
latest_some p e [] ys is = first_of-some (latest_write p ys) e (ap (λ o. first_of (latest_write p ys) o) (sym (entry_to-own p e)) ∙ is)
latest_some p e (x ∷ xs) ys is = latest_some p e xs ys (none_before (latest_write p (xs ++ Write p e ∷ ys)) (entry_to p x) is)
  where
    none_before : (a b : Option EntryNo) → first_of a b ≡ None → a ≡ None
    none_before None b e = refl
    none_before (Some y) b e = cc

-- what the device knows of the pages at the lender: a lease is one slab's, and no write of a page whose bit is set is under way
pub record Clear (s : Sizes) (states : List SlabState) (bits : List Bool) (ring : List Request) (l : LenderNo) : Type 0 where
  pub single : AreSingle states
  pub ordered : AreInOrder ring
  pub none : (p : Page) (k : Lease) → has_lease l k (state_for s states p) ≡ true → has bits p.0 ≡ true → latest_write p ring ≡ None

-- a message to the lender fewer, and messages to the device that don't lend what is given back
given_later :
    (states : List SlabState) (l : LenderNo) (c d : Channel) (k : Lease) → c.lender.next_lease ≤ d.lender.next_lease
    → (k.0 < c.lender.next_lease → lends_in k c.to_device.parcels ≡ false → lends_in k d.to_device.parcels ≡ false) → IsGivenBack states l c k
    → IsGivenBack states l d k
given_later states l c d k more unlent h = record { known = let a = h.known in omega (arith, a, more); unleased = h.unleased; unlent = unlent h.known h.unlent }

pub any-rest : {X : Type 0} (test : X → Bool) (x : X) (xs : List X) → list_any test xs ≡ true → list_any test (x ∷ xs) ≡ true
any-rest test x xs e = go (test x)
  where
    go : (b : Bool) → (b || list_any test xs) ≡ true
    go true = refl
    go false = e

pub any-take : {X : Type 0} (test : X → Bool) (n : ℕ) (xs : List X) → list_any test (take n xs) ≡ true → list_any test xs ≡ true
any-take test zero xs e = cc
any-take test (suc n) [] e = cc
any-take test (suc n) (x ∷ xs) e = go (test x) e (any-take test n xs)
  where
    go : (b : Bool) → (b || list_any test (take n xs)) ≡ true → (list_any test (take n xs) ≡ true → list_any test xs ≡ true) → (b || list_any test xs) ≡ true
    go true e rest = refl
    go false e rest = rest e

pub none-take : {X : Type 0} (test : X → Bool) (n : ℕ) (xs : List X) → list_any test xs ≡ false → list_any test (take n xs) ≡ false
none-take test n xs e = false_from_ne_true _ (λ yes. both_ways (list_any test xs) e (any-take test n xs yes))

-- what is left at a place of a page that is kept, by a message that doesn't write the page
kept_by :
    (s : Sizes) (states : List SlabState) (l : LenderNo) (c : Channel) (q : Parcel) (ps : List Parcel) (p : Page) (k : Lease) (was : Option (List ℕ))
    → is_request q.msg ≡ false → c.to_lender.parcels ≡ q ∷ ps → has_lease l k (state_for s states p) ≡ true
    → ((j : Lease) → gives_back j c.to_lender.parcels ≡ true → IsGivenBack states l c j) → left_by k (place_of s p.0) q.msg q.page was ≡ was
kept_by s states l c q ps p k was plain front at give_after =
    left-kept k (place_of s p.0) q.msg q.page was (go q.msg plain (λ j e. give_after j (ap (gives_back j) front ∙ ap (λ b. b || gives_back j ps) e)))
  where
    go : (m : Msg) → is_request m ≡ false → ((j : Lease) → is_done j m ≡ true → IsGivenBack states l c j) → replaces k (place_of s p.0) m ≡ false
    go (msg.Write j i) plain back = cc
    go (msg.Done j) plain back =
        not_eqb j.0 k.0 (λ same. both_ways (has_lease l k (state_for s states p)) ((back k (eq-eqb j.0 k.0 same)).unleased (slab_for s p)) at)
    go _ plain back = refl

-- a message that is no request was served: what is found of a page with a lease stays
plain_found :
    (s : Sizes) (H : History) (states : List SlabState) (bits : List Bool) (l : LenderNo) (c d : Channel) (S : List Request) (q : Parcel) (ps : List Parcel)
    → is_request q.msg ≡ false → c.to_lender.parcels ≡ q ∷ ps → IsSound c.lender → may_send c.lender c.number q.msg ≡ true
    → d.lender ≡ (serve c.lender c.number q.msg q.page).lender → d.number ≡ c.number → Stored s H states bits l c S → (p : Page) (j : Lease) (b : List ℕ)
    → has_lease l j (state_for s states p) ≡ true → page_found s c j p ≡ Some b → page_found s d j p ≡ Some b
plain_found s H states bits l c d S q ps plain front sound may lender number k p j b at e =
    ap (λ (m : Lender). slot_page m d.number j (place_of s p.0)) lender
    ∙ ap (λ n. slot_page (serve c.lender c.number q.msg q.page).lender n j (place_of s p.0)) number
    ∙ found-served c.lender c.number q.msg q.page j (place_of s p.0) b sound may (kept_by s states l c q ps p j _ plain front at k.given ∙ e)

-- a lease that isn't given back isn't by the first message
kept_done :
    (c d : Channel) (q : Parcel) (ps : List Parcel) (j : Lease) → c.to_lender.parcels ≡ q ∷ ps → (gives_back j c.to_lender.parcels ≡ true → ⊥)
    → is_done j q.msg ≡ false
kept_done c d q ps j front kept = false_from_ne_true _ (λ e. kept (ap (gives_back j) front ∙ ap (λ b. b || gives_back j ps) e))

seated :
    (c d : Channel) (q : Parcel) (t : Slab) (j : Lease) → d.lender ≡ (serve c.lender c.number q.msg q.page).lender → d.number ≡ c.number
    → HasSeat (serve c.lender c.number q.msg q.page).lender c.number j t → HasSeat d.lender d.number j t
seated c d q t j lender number h =
    subst (λ (m : Lender). HasSeat m d.number j t) (sym lender) (subst (λ n. HasSeat (serve c.lender c.number q.msg q.page).lender n j t) (sym number) h)

-- a slab that is being lent is lent by its lease
lends_any : (t : Slab) (j : Lease) (ps : List Parcel) → lends_to t j ps ≡ true → lends_in j ps ≡ true
lends_any t j [] e = cc
lends_any t j (p ∷ ps) e = go (lends_slab t j p.msg) refl e (lends_any t j ps)
  where
    lease_is : (m : Msg) → lends_slab t j m ≡ true → lends j m ≡ true
    lease_is (msg.Lent slab lease) e = (and_parts (slab.0 == t.0) (lease.0 == j.0) e).1
    lease_is _ e = cc

    either : (a b : Bool) → b ≡ true → (a || b) ≡ true
    either true b e = refl
    either false b e = e

    first : (a b : Bool) → a ≡ true → (a || b) ≡ true
    first true b e = refl
    first false b e = cc

    go :
        (b : Bool) → lends_slab t j p.msg ≡ b → (b || lends_to t j ps) ≡ true → (lends_to t j ps ≡ true → lends_in j ps ≡ true)
        → (lends j p.msg || lends_in j ps) ≡ true
    go true is e rest = first (lends j p.msg) (lends_in j ps) (lease_is p.msg is)
    go false is e rest = either (lends j p.msg) (lends_in j ps) (rest e)

serves_plain :
    (s : Sizes) (H : History) (states : List SlabState) (bits : List Bool) (l : LenderNo) (c d : Channel) (S : List Request) (q : Parcel) (ps : List Parcel)
    → is_request q.msg ≡ false → c.to_lender.parcels ≡ q ∷ ps → IsSound c.lender → may_send c.lender c.number q.msg ≡ true
    → d.lender ≡ (serve c.lender c.number q.msg q.page).lender → d.number ≡ c.number → d.to_lender.parcels ≡ ps
    → ((k : Lease) → lends_in k d.to_device.parcels ≡ lends_in k c.to_device.parcels)
    → ((t : Slab) (k : Lease) → lends_to t k d.to_device.parcels ≡ lends_to t k c.to_device.parcels) → Stored s H states bits l c S
    → Stored s H states bits l d S
serves_plain s H states bits l c d S q ps plain front sound may lender number left unlent loans k = record {
  leased =
      λ t j at.
      seated c d q t j lender number
      (seat_served c.lender c.number q.msg q.page j t sound may
      (kept_done c d q ps j front (λ back. both_ways (has_lease l j (state_of states t)) ((k.given j back).unleased t) at)) (k.leased t j at));
  lent = λ t j at.
      let was : lends_to t j c.to_device.parcels ≡ true = sym (loans t j) ∙ at in
      seated c d q t j lender number
      (seat_served c.lender c.number q.msg q.page j t sound may
      (kept_done c d q ps j front (λ back. both_ways (lends_in j c.to_device.parcels) (k.given j back).unlent (lends_any t j c.to_device.parcels was)))
      (k.lent t j was));
  written =
      λ p j e at is. let h = k.written p j e at is in
      (h.0, plain_found s H states bits l c d S q ps plain front sound may lender number k p j (bytes_of H e) at h.1);
  readable = λ p j at set. plain_found s H states bits l c d S q ps plain front sound may lender number k p j (array (zeros s) H p) at (k.readable p j at set);
  given =
      λ j e.
      given_later states l c d j (subst (λ (m : Lender). c.lender.next_lease ≤ m.next_lease) (sym lender) (next-serve c.lender c.number q.msg q.page))
      (λ less no. unlent j ∙ no)
      (k.given j (ap (gives_back j) front ∙ any-rest (λ (q : Parcel). is_done j q.msg) q ps (ap (gives_back j) (sym left) ∙ e)));
}

-- a request was served: what is found of another page than one that it writes stays
request_found :
    (s : Sizes) (H : History) (states : List SlabState) (l : LenderNo) (c d : Channel) (q : Parcel) (x : Request) → AreSingle states → IsSound c.lender
    → may_send c.lender c.number q.msg ≡ true → Carries s H states l q x → d.lender ≡ (serve c.lender c.number q.msg q.page).lender → d.number ≡ c.number
    → (p : Page) (j : Lease) (b : List ℕ) → has_lease l j (state_for s states p) ≡ true → ((o : Page) (e : EntryNo) → x ≡ Write o e → o.0 ≡ p.0 → ⊥)
    → page_found s c j p ≡ Some b → page_found s d j p ≡ Some b
request_found s H states l c d q x single sound may carries lender number p j b at other e = go x carries other
  where
    now : left_by j (place_of s p.0) q.msg q.page (page_found s c j p) ≡ Some b → page_found s d j p ≡ Some b
    now e =
        ap (λ (m : Lender). slot_page m d.number j (place_of s p.0)) lender
        ∙ ap (λ n. slot_page (serve c.lender c.number q.msg q.page).lender n j (place_of s p.0)) number
        ∙ found-served c.lender c.number q.msg q.page j (place_of s p.0) b sound may e

    go : (x : Request) → Carries s H states l q x → ((o : Page) (e : EntryNo) → x ≡ Write o e → o.0 ≡ p.0 → ⊥) → page_found s d j p ≡ Some b
    go (Query t) h other = now (let P : Parcel → Type 0 = λ r. left_by j (place_of s p.0) r.msg r.page (page_found s c j p) ≡ Some b in subst P (sym h) e)
    go (Borrow t) h other = now (let P : Parcel → Type 0 = λ r. left_by j (place_of s p.0) r.msg r.page (page_found s c j p) ≡ Some b in subst P (sym h) e)
    go (Read a o) h other = now (let P : Parcel → Type 0 = λ r. left_by j (place_of s p.0) r.msg r.page (page_found s c j p) ≡ Some b in subst P (sym h.1) e)
    go (Write o g) h other = now (let P : Parcel → Type 0 = λ r. left_by j (place_of s p.0) r.msg r.page (page_found s c j p) ≡ Some b in
        subst P (sym h.1)
        (cond-false ((h.0.0 == j.0) && (place_of s o.0 == place_of s p.0)) _ _ (elsewhere s states l p o j h.0 single at h.2 (other o g refl)) ∙ e))

pub no_done : (m : Msg) → is_request m ≡ true → (k : Lease) → is_done k m ≡ false
no_done (msg.Done j) e k = cc
no_done _ e k = refl

-- a request was served
serves_request :
    (s : Sizes) (H : History) (states : List SlabState) (bits : List Bool) (ring : List Request) (l : LenderNo) (c d : Channel) (S before after : List Request)
    (q : Parcel) (ps : List Parcel) (x : Request)
    → c.to_lender.parcels ≡ q ∷ ps → IsSound c.lender → may_send c.lender c.number q.msg ≡ true
    → Carries s H states l q x → ring ≡ before ++ x ∷ after → Clear s states bits ring l
    → d.lender ≡ (serve c.lender c.number q.msg q.page).lender → d.number ≡ c.number → d.to_lender.parcels ≡ ps
    → ((k : Lease) → k.0 < c.lender.next_lease → lends_in k c.to_device.parcels ≡ false → lends_in k d.to_device.parcels ≡ false)
    → is_request q.msg ≡ true
    → ((t : Slab) (k : Lease) → lends_to t k d.to_device.parcels ≡ true
    → (lends_to t k c.to_device.parcels ≡ true) ⊎ HasSeat (serve c.lender c.number q.msg q.page).lender c.number k t)
    → Stored s H states bits l c S → Stored s H states bits l d (S ++ x ∷ [])
serves_request s H states bits ring l c d S before after q ps x front sound may carries in_ring clear lender number left unlent asks loans k = record {
  leased = λ t j at. seated c d q t j lender number (seat_served c.lender c.number q.msg q.page j t sound may (no_done q.msg asks j) (k.leased t j at));
  lent = λ t j at. seated c d q t j lender number (elim (loans t j at) [
    | inl was ↦ seat_served c.lender c.number q.msg q.page j t sound may (no_done q.msg asks j) (k.lent t j was)
    | inr new ↦ new
  ]);
  written = λ p j e at is. written x carries in_ring p j e at (sym (latest-append p S x) ∙ is);
  readable = λ p j at set. readable x carries in_ring p j at set;
  given =
      λ j e.
      given_later states l c d j (subst (λ (m : Lender). c.lender.next_lease ≤ m.next_lease) (sym lender) (next-serve c.lender c.number q.msg q.page))
      (unlent j)
      (k.given j (ap (gives_back j) front ∙ any-rest (λ (q : Parcel). is_done j q.msg) q ps (ap (gives_back j) (sym left) ∙ e)));
}
  where
    now : (p : Page) (j : Lease) (b : List ℕ) → left_by j (place_of s p.0) q.msg q.page (page_found s c j p) ≡ Some b → page_found s d j p ≡ Some b
    now p j b e =
        ap (λ (m : Lender). slot_page m d.number j (place_of s p.0)) lender
        ∙ ap (λ n. slot_page (serve c.lender c.number q.msg q.page).lender n j (place_of s p.0)) number
        ∙ found-served c.lender c.number q.msg q.page j (place_of s p.0) b sound may e

    -- of another page than the one that is written
    stays :
        (x : Request) → Carries s H states l q x → (p : Page) (j : Lease) (b : List ℕ) → has_lease l j (state_for s states p) ≡ true
        → ((o : Page) (e : EntryNo) → x ≡ Write o e → o.0 ≡ p.0 → ⊥) → page_found s c j p ≡ Some b → page_found s d j p ≡ Some b
    stays x h p j b at other e = request_found s H states l c d q x clear.single sound may h lender number p j b at other e

    readable :
        (x : Request) → Carries s H states l q x → ring ≡ before ++ x ∷ after → (p : Page) (j : Lease) → has_lease l j (state_for s states p) ≡ true
        → has bits p.0 ≡ true → page_found s d j p ≡ Some (array (zeros s) H p)
    readable x h in_ring p j at set = stays x h p j (array (zeros s) H p) at
        (λ o e is same.
        latest_some p e before after
        (subst (λ (r : List Request). latest_write p r ≡ None) (in_ring ∙ ap (λ y. before ++ y ∷ after) (is ∙ ap (λ n. Write (record { 0 = n }) e) same))
        (clear.none p j at set)))
        (k.readable p j at set)

    written :
        (x : Request) → Carries s H states l q x → ring ≡ before ++ x ∷ after → (p : Page) (j : Lease) (e : EntryNo)
        → has_lease l j (state_for s states p) ≡ true
        → first_of (entry_to p x) (latest_write p S) ≡ Some e → IsOut H p e × (page_found s d j p ≡ Some (bytes_of H e))
    written (Query t) h in_ring p j e at is = let was = k.written p j e at is in (was.0, stays (Query t) h p j (bytes_of H e) at (λ o g y same. cc) was.1)
    written (Borrow t) h in_ring p j e at is = let was = k.written p j e at is in (was.0, stays (Borrow t) h p j (bytes_of H e) at (λ o g y same. cc) was.1)
    written (Read a o) h in_ring p j e at is = let was = k.written p j e at is in (was.0, stays (Read a o) h p j (bytes_of H e) at (λ o g y same. cc) was.1)
    written (Write o g) h in_ring p j e at is = go (o.0 == p.0) refl is
      where
        go : (b : Bool) → (o.0 == p.0) ≡ b → first_of (cond b (Some g) None) (latest_write p S) ≡ Some e
            → IsOut H p e × (page_found s d j p ≡ Some (bytes_of H e))
        go false off is =
            let was = k.written p j e at is in
            (was.0, stays (Write o g) h p j (bytes_of H e) at (λ o' g' y same. eqb-false o.0 p.0 off (page_is o o' g g' y ∙ same)) was.1)
          where
            page_is : (a b : Page) (f h : EntryNo) → Write a f ≡ Write b h → a.0 ≡ b.0
            page_is a b f h y = cc
        go true on is =
            let page : o ≡ p = ap (λ (n : ℕ). record { 0 = n }) (eqb-true o.0 p.0 on) in
            let entry : g ≡ e = cc in
            let there : has_lease l h.0 (state_for s states p) ≡ true = subst (λ (o : Page). has_lease l h.0 (state_for s states o) ≡ true) page h.2 in
            let lease : h.0 ≡ j = lease_one l h.0 j (state_for s states p) there at in
            let out : IsOut H p e = subst (λ (g : EntryNo). IsOut H p g) entry (subst (λ (o : Page). IsOut H o g) page h.3) in
            let is_parcel : q ≡ write_parcel j (place_of s p.0) (bytes_of H e) =
            h.1 ∙ ap (λ (k : Lease). write_parcel k (place_of s o.0) (bytes_of H g)) lease
            ∙ ap (λ (o : Page). write_parcel j (place_of s o.0) (bytes_of H g)) page
            ∙ ap (λ (g : EntryNo). write_parcel j (place_of s p.0) (bytes_of H g)) entry in (
              out,
              now p j (bytes_of H e) (let P : Parcel → Type 0 = λ r. left_by j (place_of s p.0) r.msg r.page (page_found s c j p) ≡ Some (bytes_of H e) in
                  subst P (sym is_parcel)
                  (cond-true ((j.0 == j.0) && (place_of s p.0 == place_of s p.0)) _ _
                  (and_from (j.0 == j.0) (place_of s p.0 == place_of s p.0) (eq-eqb j.0 j.0 refl) (eq-eqb (place_of s p.0) (place_of s p.0) refl)))),
            )

-- notices lend nothing
noticed_new : (states : List SlabState) (l : LenderNo) (a b b' : Lane) → Noticed a b b' → AreNew states l b.parcels → AreNew states l b'.parcels
noticed_new states l a b b' noticed new = record { fresh = λ k t e. new.fresh k t (sym (noticed.lends k) ∙ e); once = noticed.once new.once }

-- a lease that is being lent is lent for a slab
lent_for : (k : Lease) (ps : List Parcel) → lends_in k ps ≡ true → (t : Slab) × (lends_to t k ps ≡ true)
lent_for k [] e = cc
lent_for k (p ∷ ps) e = go (lends k p.msg) refl e (lent_for k ps)
  where
    either : (a b : Bool) → b ≡ true → (a || b) ≡ true
    either true b e = refl
    either false b e = e

    first : (a b : Bool) → a ≡ true → (a || b) ≡ true
    first true b e = refl
    first false b e = cc

    slab_of_loan : (m : Msg) → lends k m ≡ true → (t : Slab) × (lends_slab t k m ≡ true)
    slab_of_loan (msg.Lent slab lease) e = (slab, and_from (slab.0 == slab.0) (lease.0 == k.0) (eq-eqb slab.0 slab.0 refl) e)
    slab_of_loan _ e = cc

    go :
        (b : Bool) → lends k p.msg ≡ b → (b || lends_in k ps) ≡ true → (lends_in k ps ≡ true → (t : Slab) × (lends_to t k ps ≡ true))
        → (t : Slab) × (lends_to t k (p ∷ ps) ≡ true)
    go true is e more = let one = slab_of_loan p.msg is in (one.0, first (lends_slab one.0 k p.msg) (lends_to one.0 k ps) one.1)
    go false is e more = let one = more e in (one.0, either (lends_slab one.0 k p.msg) (lends_to one.0 k ps) one.1)

-- the reply to a request lends a new lease, if any
lent_new :
    (s : Sizes) (H : History) (states : List SlabState) (bits : List Bool) (l : LenderNo) (c : Channel) (S : List Request) (q : Parcel) → IsSound c.lender
    → ((k : Lease) → k.0 < c.lender.next_lease → lends k q.msg ≡ false) → Stored s H states bits l c S → AreNew states l c.to_device.parcels
    → AreNew states l (append_after c.to_device q).parcels
lent_new s H states bits l c S q sound new k loans = record {
  fresh = λ j t e. elim (lends-append-or j c.to_device q e) [
    | inl was ↦ loans.fresh j t was
    | inr now ↦ false_from_ne_true _ (λ at. both_ways (lends j q.msg) (new j (seat_given c.lender c.number j t sound (k.leased t j at))) now)
  ];
  once =
      once-append c.to_device q loans.once
      (λ j e. let one = lent_for j c.to_device.parcels e in new j (seat_given c.lender c.number j one.0 sound (k.lent one.0 j one.1)));
}
  where
    lends-append-or : (j : Lease) (b : Lane) (q : Parcel) → lends_in j (append_after b q).parcels ≡ true
        → (lends_in j b.parcels ≡ true) ⊎ (lends j q.msg ≡ true)
    lends-append-or j b q =
        by_append (λ z. lends_in j z.parcels ≡ true → (lends_in j b.parcels ≡ true) ⊎ (lends j q.msg ≡ true)) b q (λ _ e. inl e)
        (λ _. any_last (λ (q : Parcel). lends j q.msg) b.parcels q) (λ _ e. inl e)

-- the lender takes its first message
abbrev pub without_first : Channel → List Parcel → Channel
without_first c ps = record c { to_lender = record c.to_lender { parcels = ps } }

-- what is held for a read stays held, where what is found of its page does
holds_on :
    (s : Sizes) (H : History) (cs : Calls) (states : List SlabState) (l : LenderNo) (c d : Channel) (x : Request)
    → ((a : Caller) (p : Page) → x ≡ Read a p → (j : Lease) (b : List ℕ) → has_lease l j (state_for s states p) ≡ true → page_found s c j p ≡ Some b
    → page_found s d j p ≡ Some b)
    → HoldsFor s H cs states l c x → HoldsFor s H cs states l d x
holds_on s H cs states l c d (Query t) stays h = tt
holds_on s H cs states l c d (Borrow t) stays h = tt
holds_on s H cs states l c d (Write p e) stays h = tt
holds_on s H cs states l c d (Read a p) stays h = λ k e at is. let was = h k e at is in (was.0, stays a p refl k (bytes_of H e) at was.1)

-- a write that may precede a read is of another page
apart_from : (x y : Request) → MayPrecede x y → (a : Caller) (p o : Page) (e : EntryNo) → y ≡ Read a p → x ≡ Write o e → o.0 ≡ p.0 → ⊥
apart_from x y before a p o e is_read is_write =
    let P : Request → Type 0 = λ x. MayPrecede x y in
    let Q : Request → Type 0 = λ y. MayPrecede (Write o e) y in
    subst Q is_read (subst P is_write before)

pub unless-both : (b : Bool) (P Q R : Type 0) → (P → Q → R) → Unless b P → Unless b Q → Unless b R
unless-both true P Q R f p q = tt
unless-both false P Q R f p q = f p q

pub ordered_back : (xs ys : List Request) → AreInOrder (xs ++ ys) → AreInOrder ys
ordered_back [] ys h = h
ordered_back (x ∷ xs) ys h = ordered_back xs ys h.1

joined_fine :
    (s : Sizes) (H : History) (cs : Calls) (states : List SlabState) (bits : List Bool) (ring : List Request) (l : LenderNo) (c : Channel) (q : Parcel)
    (ps : List Parcel)
    → JoinedOf s H cs states bits ring l c → c.lender_gone ≡ false → IsSound c.lender → AreSlots c.lender → Clear s states bits ring l
    → c.to_lender.parcels ≡ q ∷ ps → may_send c.lender c.number q.msg ≡ true
    → JoinedOf s H cs states bits ring l (deliver_after (without_first c ps) (serve c.lender c.number q.msg q.page))
joined_fine s H cs states bits ring l c q ps h stands sound slots clear front may = go (is_request q.msg) refl
  where
    R : Parcel → Request → Type 0
    R = Replied s H cs states l

    C : Parcel → Request → Type 0
    C = Asked s H cs states l c

    d : Channel
    d = deliver_after (without_first c ps) (serve c.lender c.number q.msg q.page)

    go : (b : Bool) → is_request q.msg ≡ b → JoinedOf s H cs states bits ring l (deliver_after (without_first c ps) (serve c.lender c.number q.msg q.page))
    go false plain =
        let noticed : Noticed c.to_lender c.to_device (forward_after c.number c.to_device (serve c.lender c.number q.msg q.page).parcels) =
        forwarded_noticed c.to_lender c.to_device c.number (serve c.lender c.number q.msg q.page).parcels
        (serves_quietly c.lender c.number q.msg q.page plain) in
        let quiet_now : Quiet c.to_lender c.to_device (record c.to_lender { parcels = ps })
        (forward_after c.number c.to_device (serve c.lender c.number q.msg q.page).parcels) =
        record {
          asks = sym (ap (λ (zs : List Parcel). filter asks_by zs) front ∙ filter-drops asks_by q ps plain);
          replies = noticed.quiet.replies;
          to_lender = λ f. f;
          to_device = noticed.quiet.to_device;
        }
        in
        let o : OrderedAt s H cs states ring l c (record c.to_lender { parcels = ps })
        (forward_after c.number c.to_device (serve c.lender c.number q.msg q.page).parcels) (served_of h.order) h.order.under_way =
        order_quiet R C ring c.to_lender c.to_device (record c.to_lender { parcels = ps })
        (forward_after c.number c.to_device (serve c.lender c.number q.msg q.page).parcels) (served_of h.order) h.order.under_way quiet_now
        (itself R C ring c.to_lender c.to_device h.order)
        in
        joined s H cs states bits ring l d (served_of h.order) h.order.under_way h.present
        (order_moved s H cs states ring l c d (record c.to_lender { parcels = ps })
        (forward_after c.number c.to_device (serve c.lender c.number q.msg q.page).parcels) (served_of h.order) h.order.under_way (λ x. Unit {0})
        (λ x _ held.
        unless-both c.lender_gone _ _ _
        (λ (k : Stored s H states bits l c (served_of h.order)) hold.
        holds_on s H cs states l c d x
        (λ a p is j b at e. plain_found s H states bits l c d (served_of h.order) q ps plain front sound may refl refl k p j b at e) hold)
        h.stored held)
        o (all_true o.order.under_way))
        (unless-map c.lender_gone _ _
        (serves_plain s H states bits l c d (served_of h.order) q ps plain front sound may refl refl refl noticed.lends noticed.loans) h.stored)
        (noticed_new states l c.to_lender c.to_device (forward_after c.number c.to_device (serve c.lender c.number q.msg q.page).parcels) noticed h.loans)
    go true asks =
        let f : Carried C q ps h.order.under_way = order_front R C ring c.to_lender c.to_device q ps h.order front asks in
        let r : Reply s H cs states l c (serve c.lender c.number q.msg q.page) f.one = replies s H cs states l c q f.one f.carries.0 may in
        let lane : forward_after c.number c.to_device (serve c.lender c.number q.msg q.page).parcels ≡ append_after c.to_device r.reply =
        forwarded_one c.number c.to_device (serve c.lender c.number q.msg q.page).parcels r.reply r.parcels r.whole in
        let o : OrderedAt s H cs states ring l c (record c.to_lender { parcels = ps }) (append_after c.to_device r.reply) (served_of h.order
        ++ f.one ∷ []) f.rest =
        order_served R C ring c.to_lender c.to_device q r.reply ps h.order f r.is (r.answers, r.brings (unless-at c.lender_gone _ stands f.carries.1))
        in
        let in_ring : ring ≡ served_of h.order ++ f.one ∷ (f.rest ++ h.order.dropped) =
        h.order.in_four ∙ ap (λ z. served_of h.order ++ (z ++ h.order.dropped)) f.is in
        let behind : AllByRecursion (MayPrecede f.one) f.rest =
        all-front (MayPrecede f.one) f.rest h.order.dropped
        (ordered_back (served_of h.order) (f.one ∷ (f.rest ++ h.order.dropped)) (subst AreInOrder in_ring clear.ordered)).0 in
        let moved : OrderedAt s H cs states ring l d (record c.to_lender { parcels = ps }) (append_after c.to_device r.reply)
        (served_of h.order ++ f.one ∷ []) f.rest =
        order_moved s H cs states ring l c d (record c.to_lender { parcels = ps }) (append_after c.to_device r.reply) (served_of h.order ++ f.one ∷ []) f.rest
        (MayPrecede f.one)
        (λ y before.
        unless-map c.lender_gone _ _
        (holds_on s H cs states l c d y
        (λ a p is j b at e.
        request_found s H states l c d q f.one clear.single sound may f.carries.0 refl refl p j b at
        (λ w g is_write. apart_from f.one y before a p w g is is_write) e)))
        o
        (all_at_most R C (MayPrecede f.one) ring (record c.to_lender { parcels = ps }) (append_after c.to_device r.reply)
        (served_of h.order ++ f.one ∷ []) f.rest o behind)
        in
        let P : Lane → Type 0 = λ z. OrderedAt s H cs states ring l d (record c.to_lender { parcels = ps }) z (served_of h.order ++ f.one ∷ []) f.rest in
        joined s H cs states bits ring l d (served_of h.order ++ f.one ∷ []) f.rest h.present (subst P (sym lane) moved)
        (unless-map c.lender_gone _ _
        (serves_request s H states bits ring l c d (served_of h.order) (served_of h.order) (f.rest ++ h.order.dropped) q ps f.one front sound may f.carries.0
        in_ring clear refl refl refl
        (λ k less off. ap (λ (z : Lane). lends_in k z.parcels) lane ∙ lends-append k c.to_device r.reply (r.new k less) ∙ off) asks
        (λ t k e.
        elim (loan-append t k c.to_device r.reply (sym (ap (λ (z : Lane). lends_to t k z.parcels) lane) ∙ e))
        [ inl was ↦ inl was | inr new ↦ inr (r.seat sound slots t k new) ]))
        h.stored)
        (subst (λ (z : Lane). AreNew states l z.parcels) (sym lane)
        (lent_new s H states bits l c (served_of h.order) r.reply sound r.new (unless-at c.lender_gone _ stands h.stored) h.loans))

-- the lender's end leaves
pub joined_abandoned :
    (s : Sizes) (H : History) (cs : Calls) (states : List SlabState) (bits : List Bool) (ring : List Request) (l : LenderNo) (c : Channel) (a : Lane)
    (m : Lender)
    (S U : List Request)
    → c.device_gone ≡ false → AreNew states l c.to_device.parcels → OrderedAt s H cs states ring l c a c.to_device S U
    → JoinedOf s H cs states bits ring l (record c { lender = m; to_lender = cut a 0; to_device = end_lane c.to_device; lender_gone = true })
joined_abandoned s H cs states bits ring l c a m S U present new h =
    let o : OrderedAt s H cs states ring l c (cut a 0) (end_lane c.to_device) S U =
    order_quiet (Replied s H cs states l) (Asked s H cs states l c) ring (cut a 0) c.to_device (cut a 0) (end_lane c.to_device) S U
    (record { asks = refl; replies = refl; to_lender = λ f. f; to_device = λ f. absurd (both_ways true f refl) })
    (order_cut_to (Replied s H cs states l) (Asked s H cs states l c) ring a c.to_device 0 S U h)
    in
    joined s H cs states bits ring l (record c { lender = m; to_lender = cut a 0; to_device = end_lane c.to_device; lender_gone = true }) S U present
    (order_moved s H cs states ring l c (record c { lender = m; to_lender = cut a 0; to_device = end_lane c.to_device; lender_gone = true }) (cut a 0)
    (end_lane c.to_device) S U (λ x. Unit {0}) (λ x _ held. tt) o (all_true o.order.under_way))
    tt new

pub joined_given :
    (s : Sizes) (H : History) (cs : Calls) (states : List SlabState) (bits : List Bool) (ring : List Request) (l : LenderNo) (c : Channel)
    → JoinedOf s H cs states bits ring l c → IsSound c.lender → AreSlots c.lender → Clear s states bits ring l
    → JoinedOf s H cs states bits ring l (give_after c).1
joined_given s H cs states bits ring l c h sound slots clear = cond_both c.lender_gone _ _ P (λ _. h) (λ stands. from stands c.to_lender.parcels refl)
  where
    P : Gave × Channel → Type 0
    P x = JoinedOf s H cs states bits ring l x.1

    leaves : JoinedOf s H cs states bits ring l (leave_after c)
    leaves =
        joined_abandoned s H cs states bits ring l c c.to_lender (gone_after c.lender c.number).lender (served_of h.order) h.order.under_way h.present h.loans
        (itself (Replied s H cs states l) (Asked s H cs states l c) ring c.to_lender c.to_device h.order)

    from : c.lender_gone ≡ false → (ps : List Parcel) → c.to_lender.parcels ≡ ps → P (given_from c ps)
    from stands [] e = cond_both c.to_lender.ended _ _ P (λ _. leaves) (λ _. h)
    from stands (q ∷ ps) e =
        cond_both (may_send c.lender c.number q.msg) _ _ P
        (λ may.
        subst (λ (t : Turn). JoinedOf s H cs states bits ring l (deliver_after (without_first c ps) t)) (sym (took-served c.lender c.number q.msg q.page may))
        (joined_fine s H cs states bits ring l c q ps h stands sound slots clear e may))
        (λ _. leaves)

-- the host's use is measured
pub joined_hosted :
    (s : Sizes) (H : History) (cs : Calls) (states : List SlabState) (bits : List Bool) (ring : List Request) (l : LenderNo) (c : Channel) (used word : ℕ)
    → JoinedOf s H cs states bits ring l c → JoinedOf s H cs states bits ring l (deliver_after c (host c.lender used word))
joined_hosted s H cs states bits ring l c used word h =
    let noticed : Noticed c.to_lender c.to_device (forward_after c.number c.to_device (host c.lender used word).parcels) =
    forwarded_noticed c.to_lender c.to_device c.number (host c.lender used word).parcels (hosts_quietly c.lender used word) in
    let o : OrderedAt s H cs states ring l c c.to_lender (forward_after c.number c.to_device (host c.lender used word).parcels)
    (served_of h.order) h.order.under_way =
    order_quiet (Replied s H cs states l) (Asked s H cs states l c) ring c.to_lender c.to_device c.to_lender
    (forward_after c.number c.to_device (host c.lender used word).parcels) (served_of h.order) h.order.under_way noticed.quiet
    (itself (Replied s H cs states l) (Asked s H cs states l c) ring c.to_lender c.to_device h.order)
    in
    joined s H cs states bits ring l (deliver_after c (host c.lender used word)) (served_of h.order) h.order.under_way h.present
    (order_moved s H cs states ring l c (deliver_after c (host c.lender used word)) c.to_lender
    (forward_after c.number c.to_device (host c.lender used word).parcels)
    (served_of h.order) h.order.under_way (λ x. Unit {0})
    (λ x _.
    unless-map c.lender_gone _ _
    (holds_on s H cs states l c (deliver_after c (host c.lender used word)) x
    (λ a p is j b at e. slot_page-host c.lender used word c.number j (place_of s p.0) ∙ e)))
    o
    (all_true o.order.under_way))
    (unless-map c.lender_gone _ _ (λ (k : Stored s H states bits l c (served_of h.order)). record {
      leased = λ t j at. seat_host c.lender used word c.number j t (k.leased t j at);
      lent = λ t j at. seat_host c.lender used word c.number j t (k.lent t j (sym (noticed.loans t j) ∙ at));
      written = λ p j e at is. let was = k.written p j e at is in (was.0, slot_page-host c.lender used word c.number j (place_of s p.0) ∙ was.1);
      readable = λ p j at set. slot_page-host c.lender used word c.number j (place_of s p.0) ∙ k.readable p j at set;
      given =
          λ j e. let was = k.given j e in
          record {
            known = subst (λ n. j.0 < n) (sym (next-host c.lender used word)) was.known;
            unleased = was.unleased;
            unlent = noticed.lends j ∙ was.unlent;
          };
    }) h.stored)
    (noticed_new states l c.to_lender c.to_device (forward_after c.number c.to_device (host c.lender used word).parcels) noticed h.loans)

-- of a front of the list each lease is lent once
once_take : (n : ℕ) (ps : List Parcel) → LentOnce ps → LentOnce (take n ps)
once_take zero ps once = tt
once_take (suc n) [] once = tt
once_take (suc n) (p ∷ ps) once = ((λ k e. none-take (λ (q : Parcel). lends k q.msg) n ps (once.0 k e)), once_take n ps once.1)

-- the link is cut
pub joined_cut :
    (s : Sizes) (H : History) (cs : Calls) (states : List SlabState) (bits : List Bool) (ring : List Request) (l : LenderNo) (c : Channel) (m n : ℕ)
    → JoinedOf s H cs states bits ring l c → JoinedOf s H cs states bits ring l (cut_after c m n).1
joined_cut s H cs states bits ring l c m n h =
    joined s H cs states bits ring l (cut_after c m n).1 (served_of h.order) h.order.under_way h.present
    (order_cut_from (Replied s H cs states l) (Asked s H cs states l c) ring (cut c.to_lender m) c.to_device n (served_of h.order) h.order.under_way
    (order_cut_to (Replied s H cs states l) (Asked s H cs states l c) ring c.to_lender c.to_device m (served_of h.order) h.order.under_way
    (itself (Replied s H cs states l) (Asked s H cs states l c) ring c.to_lender c.to_device h.order)))
    (unless-map c.lender_gone _ _ (λ (k : Stored s H states bits l c (served_of h.order)). record {
      leased = k.leased;
      lent = λ t j at. k.lent t j (any-take (λ (q : Parcel). lends_slab t j q.msg) n c.to_device.parcels at);
      written = k.written;
      readable = k.readable;
      given =
          λ j e. let was = k.given j (any-take (λ (q : Parcel). is_done j q.msg) m c.to_lender.parcels e) in
          record { known = was.known; unleased = was.unleased; unlent = none-take (λ (q : Parcel). lends j q.msg) n c.to_device.parcels was.unlent };
    }) h.stored)
    (record {
      fresh = λ k t e. h.loans.fresh k t (any-take (λ (q : Parcel). lends k q.msg) n c.to_device.parcels e);
      once = once_take n c.to_device.parcels h.loans.once;
    })

-- the lender crashes
pub joined_crashed :
    (s : Sizes) (H : History) (cs : Calls) (states : List SlabState) (bits : List Bool) (ring : List Request) (l : LenderNo) (c : Channel)
    → JoinedOf s H cs states bits ring l c → JoinedOf s H cs states bits ring l (crash_after c)
joined_crashed s H cs states bits ring l c h =
    cond_both c.lender_gone _ _ (λ (x : Channel). JoinedOf s H cs states bits ring l x)
    (λ left.
    let o : OrderedAt s H cs states ring l c c.to_lender c.to_device (served_of h.order) h.order.under_way =
    itself (Replied s H cs states l) (Asked s H cs states l c) ring c.to_lender c.to_device h.order in
    joined s H cs states bits ring l (record c { lender = restart c.lender }) (served_of h.order) h.order.under_way h.present
    (order_moved s H cs states ring l c (record c { lender = restart c.lender }) c.to_lender c.to_device (served_of h.order) h.order.under_way (λ x. Unit {0})
    (λ x _ held. unless c.lender_gone _ (λ f. absurd (both_ways c.lender_gone f left))) o (all_true o.order.under_way))
    (unless c.lender_gone _ (λ f. absurd (both_ways c.lender_gone f left))) h.loans)
    (λ _.
    joined_abandoned s H cs states bits ring l c c.to_lender (restart c.lender) (served_of h.order) h.order.under_way h.present h.loans
    (itself (Replied s H cs states l) (Asked s H cs states l c) ring c.to_lender c.to_device h.order))

-- a link is made
pub joined_new :
    (s : Sizes) (H : History) (cs : Calls) (states : List SlabState) (bits : List Bool) (l : LenderNo) (c : Channel) (n : Link)
    → ((t : Slab) (k : Lease) → has_lease l k (state_of states t) ≡ true → ⊥) → JoinedOf s H cs states bits [] l (connect_after c n)
joined_new s H cs states bits l c n none =
    joined s H cs states bits [] l (connect_after c n) [] [] refl
    (order_new (Replied s H cs states l) (Asked s H cs states l (connect_after c n)) (connect_after c n).to_lender (connect_after c n).to_device refl refl)
    (record {
      leased = λ t j at. absurd (none t j at);
      lent = λ t j at. cc;
      written = λ p j e at is. absurd (none (slab_for s p) j at);
      readable = λ p j at set. absurd (none (slab_for s p) j at);
      given = λ j e. cc;
    }) (record { fresh = λ k t e. cc; once = tt })
