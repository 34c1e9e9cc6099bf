-- What the device sends, and links that are made: each link that is up stays joined with its lender.
use Rattle.std.proofs.Common.{◌≡◌, ℕ, ◌+◌, ◌<◌, inl, inr, Bool, true, false, cond, ◌==◌, ◌&&◌, List, [], length, get_or, zero, suc, refl, sym, ap, ◌∙◌, subst, arith, eq-eqb, Option, None, Some}
use Rattle.std.proofs.lemmas.Bool.{cases_lt, both_ways, and_parts, eqb-true}
use Rattle.std.proofs.lemmas.List.{get_or_past}
use Rattle.swap_base.specs.declared.Page.{Page}
use Rattle.swap_base.specs.declared.Slab.{Slab}
use Rattle.swap_base.specs.declared.Lender.{Lender}
use Rattle.swap_base.specs.declared.Lease.{Lease}
use Rattle.swap_base.specs.declared.EntryNo.{EntryNo}
use Rattle.swap_base.specs.declared.Via.TheVariants as via
use Rattle.swap_base.specs.Sizes.{Sizes, place_of}
use Rattle.swap_record.specs.History.{next_name, row_of}
use Rattle.swap_record.specs.declared.Op.TheVariants as op
use Rattle.swap_wire.specs.declared.Msg.TheVariants as msg
use Rattle.swap_wire.specs.declared.fabric.Sent.TheVariants as sent_is
use Rattle.swap_wire.specs.Fabric.{Parcel, parcel_of, write_parcel, read_parcel, FabricAnswer, Connect, Send}
use Rattle.swap_slabs.specs.Slabs as slabs
use Rattle.swap_slabs.specs.Slabs.{has_lease, state_of}
use Rattle.swap_slabs.specs.declared.SlabState.{SlabState}
use Rattle.swap_slabs.specs.declared.SlabState.TheVariants.{Local, Asking, Borrowing, Mapped, Draining}
use Rattle.swap_base.specs.declared.TheConstants.{MOST_LENDERS}
use Rattle.swap_rings.specs.Rings as rings
use Rattle.swap_rings.specs.Rings.{LinkState, link_of, ring_of, is_up}
use Rattle.swap_rings.specs.declared.Request.TheVariants as request
use Rattle.swap_remote.specs.Remote as remote
use Rattle.swap_remote.specs.Remote.{Remote, slab_for, has_page, target}
use Rattle.swap_table.specs.Device as device
use Rattle.swap_table.specs.Device.{Device, enter_entry, write_sent, read_sent, raised_after, next_link}
use Rattle.swap_table.specs.Serves.{IsOutIn, bytes_in, SlabFits}
use Rattle.swap_table.specs.Moves.{Within, Sends, write, read, borrow, query, query_too, IsWord, greeting, rating, giving_back}
use Rattle.swap_table.proofs.EntriesStay.{named_last}
use Rattle.swap_table.proofs.LinkTables.{link-same, link-other}
use Rattle.swap_table.proofs.SendsKeepServing.{sent-other}
use Rattle.swap_table.proofs.WaitsStay.{Target, target_is, may_send_is}
use Rattle.swap_table.proofs.MovesKeepAgreement.{ins_wait, local_is}
use Rattle.swap_link.specs.Channel.{connect_after}
use Rattle.swap_link.specs.Harbor as harbor
use Rattle.swap_link.specs.Harbor.{Harbor, channel_of}
use Rattle.swap_link.specs.lemmas.KeepLaws.{unless}
use Rattle.swap_joint.specs.Order.{is_request}
use Rattle.swap_joint.specs.Sight.{SameLeases}
use Rattle.swap_joint.specs.Turn.{AllTurned}
use Rattle.swap_joint.specs.Allowed.{AllAllowed}
use Rattle.swap_joint.specs.Stored.{JoinedOf, Joined, AllJoined, MayGiveBack}
use Rattle.swap_joint.proofs.Sights.{leases_begun, leases_borrowed, leases_asked, leases_stay, sees_enter, sees_parts, sees_itself, still_same, still_reads}
use Rattle.swap_joint.proofs.Serves.{joined_new}
use Rattle.swap_joint.proofs.Hears.{joined_said}
use Rattle.swap_joint.proofs.Joins.{ServesAt, all_but, joins_alone, joins_through, sends, asks_here, holds_newest, target_lease, ring_more}

-- where remote memory is read for a page
source_is : (d : Device) (p : Page) (a : Lender × Lease) → device.source d p ≡ Some a → (has_page d.remote p ≡ true) × Target d.sizes d.remote p a
source_is d p a e = go (has_page d.remote p) refl e
  where
    go : (b : Bool) → has_page d.remote p ≡ b → cond b (target d.sizes d.remote p) None ≡ Some a → (has_page d.remote p ≡ true) × Target d.sizes d.remote p a
    go true is e = (is, target_is d.sizes d.remote p a e)
    go false is e = cc

-- a slab is asked for
asked_joins :
    (n : ℕ) (d : Device) (f g : Harbor) (l first : Lender) (t : Slab) (second : Option Lender)
    → ((m : Lender) (k : Lease) → has_lease m k (state_of d.remote.slabs t) ≡ false) → is_up d.remote.links l ≡ true
    → (r : Remote) → r ≡ record d.remote {
      slabs = slabs.asked_after d.remote.slabs t first second;
      links = rings.sent_after d.remote.links l
          (request.Query t);
    }
    → AllJoined n d f → harbor.Moves f (Send l (parcel_of (msg.Query t) [])) sent_is.Sent g → AllJoined n (record d { remote = r }) g
asked_joins n d f g l first t second none up r is all moved =
    let one = request.Query t in
    let states : List SlabState = slabs.asked_after d.remote.slabs t first second in
    let same : (m : Lender) → SameLeases m d.remote.slabs states = λ m. leases_asked m first d.remote.slabs t second (none m) in
    subst (λ (r : Remote). AllJoined n (record d { remote = r }) g) (sym is)
    (joins_through n d (record d { remote = record d.remote { slabs = states; links = rings.sent_after d.remote.links l one } }) f g
    (Send l (parcel_of (msg.Query t) [])) sent_is.Sent moved
    (λ m other.
    sees_parts m d states (rings.sent_after d.remote.links l one) d.calls d.links_made (same m) (sent-other d.remote.links l m one other) (still_same m d))
    (all_but l n d f all)
    (λ within _.
    asks_here d.sizes d.history d.calls d.calls d.remote.slabs states d.remote.bits (ring_of d.remote.links l)
    (ring_of (rings.sent_after d.remote.links l one) l) l
    (channel_of f l) (parcel_of (msg.Query t) []) one refl refl (same l) (still_same l d) (ring_more d.remote.links l one up)
    (λ k. unless (channel_of f l).lender_gone _ (λ _. tt)) (all l within up)))

-- a request is sent
pub sent_joins :
    (W : Within) (n : ℕ) (d : Device) (f g : Harbor) (l : Lender) (q : Parcel) (e base : Device) → Sends W d l q e base → ServesAt n d f → AllJoined n d f
    → harbor.Moves f (Send l q) sent_is.Sent g → AllJoined n e g
sent_joins W n d f g l q e base (write {c = c} {p = p} {k = k} {bytes = bytes} outs is) serves all moved =
    let x : Device = enter_entry d c p bytes in
    let entered : AllJoined n x f = joins_alone n d x f (λ l. sees_enter l d c p bytes) all in
    let t = target_is d.sizes d.remote p (l, k) is in
    let entry : EntryNo = next_name d.history in
    let last_is = named_last d.history (row_of d.history c p op.PageOut bytes) in
    let states : List SlabState = slabs.begun_after d.remote.slabs (slab_for d.sizes p) in
    let one = request.Write p entry in
    joins_through n x (write_sent x l p entry) f g (Send l (write_parcel k (place_of d.sizes p.0) bytes)) sent_is.Sent moved
    (λ m other.
    sees_parts m x states (rings.sent_after d.remote.links l one) x.calls d.links_made (leases_begun m d.remote.slabs (slab_for d.sizes p))
    (sent-other d.remote.links l m one other) (still_same m x))
    (all_but l n x f entered)
    (λ within up.
    asks_here d.sizes x.history x.calls x.calls d.remote.slabs states x.remote.bits (ring_of d.remote.links l)
    (ring_of (rings.sent_after d.remote.links l one) l) l
    (channel_of f l) (write_parcel k (place_of d.sizes p.0) bytes) one refl (
      k,
      ap (λ b. write_parcel k (place_of d.sizes p.0) b) (sym (ap bytes_in last_is)),
      leases_begun l d.remote.slabs (slab_for d.sizes p) (slab_for d.sizes p) k ∙ target_lease d.sizes d.remote p (l, k) t,
      subst (λ o. IsOutIn p o) (sym last_is) (eq-eqb p.0 p.0 refl),
    )
    (leases_begun l d.remote.slabs (slab_for d.sizes p)) (still_same l x) (ring_more d.remote.links l one t.up)
    (λ k. unless (channel_of f l).lender_gone _ (λ _. tt)) (entered l within t.up))
sent_joins W n d f g l q e base (read {c = c} {p = p} {k = k} {n = entry} ins within_caller newest none at) serves all moved =
    let source = source_is d p (l, k) at in
    let t = source.1 in
    let idles = ins_wait W d c p ins in
    let states : List SlabState = slabs.begun_after d.remote.slabs (slab_for d.sizes p) in
    let one = request.Read c p in
    let after = read_sent d l c p entry in
    joins_through n d after f g (Send l (read_parcel k (place_of d.sizes p.0))) sent_is.Sent moved
    (λ m other.
    sees_parts m d states (rings.sent_after d.remote.links l one) after.calls d.links_made (leases_begun m d.remote.slabs (slab_for d.sizes p))
    (sent-other d.remote.links l m one other)
    (still_reads d.sizes d.history d.calls d.remote.slabs m c p entry (via.Lender l) d.failed_reads (ring_of d.remote.links m) idles.1 (serves.link m).awaited))
    (all_but l n d f all)
    (λ within up.
    asks_here d.sizes d.history d.calls after.calls d.remote.slabs states d.remote.bits (ring_of d.remote.links l)
    (ring_of (rings.sent_after d.remote.links l one) l) l (channel_of f l) (read_parcel k (place_of d.sizes p.0)) one refl
    (k, refl, leases_begun l d.remote.slabs (slab_for d.sizes p) (slab_for d.sizes p) k ∙ target_lease d.sizes d.remote p (l, k) t)
    (leases_begun l d.remote.slabs (slab_for d.sizes p))
    (still_reads d.sizes d.history d.calls d.remote.slabs l c p entry (via.Lender l) d.failed_reads (ring_of d.remote.links l) idles.1 (serves.link l).awaited)
    (ring_more d.remote.links l one t.up)
    (holds_newest d.sizes d.history d.calls d.remote.slabs states d.remote.bits (ring_of d.remote.links l) l (channel_of f l) c p entry d.failed_reads
    (leases_begun l d.remote.slabs (slab_for d.sizes p)) source.0 newest)
    (all l within t.up))
sent_joins W n d f g l q e base (borrow {t = t} finds may) serves all moved =
    let parts = and_parts (slabs.is_local (state_of d.remote.slabs t)) (rings.may_send d.sizes.window (link_of d.remote.links l)) may in
    let local = local_is (state_of d.remote.slabs t) parts.0 in
    let one = request.Borrow t in
    let states : List SlabState = slabs.borrowed_after d.remote.slabs t l in
    joins_through n d (record d { remote = remote.borrow_sent d.remote t l }) f g (Send l (parcel_of (msg.Borrow t) [])) sent_is.Sent moved
    (λ m other.
    sees_parts m d states (rings.sent_after d.remote.links l one) d.calls d.links_made (leases_borrowed m l d.remote.slabs t local)
    (sent-other d.remote.links l m one other) (still_same m d))
    (all_but l n d f all)
    (λ within up.
    asks_here d.sizes d.history d.calls d.calls d.remote.slabs states d.remote.bits (ring_of d.remote.links l)
    (ring_of (rings.sent_after d.remote.links l one) l) l
    (channel_of f l) (parcel_of (msg.Borrow t) []) one refl refl (leases_borrowed l l d.remote.slabs t local) (still_same l d)
    (ring_more d.remote.links l one (may_send_is d.sizes.window (link_of d.remote.links l) parts.1).0) (λ k. unless (channel_of f l).lender_gone _ (λ _. tt))
    (all l within (may_send_is d.sizes.window (link_of d.remote.links l) parts.1).0))
sent_joins W n d f g l q e base (query {t = t} there may) serves all moved =
    let parts = and_parts (slabs.is_local (state_of d.remote.slabs t)) (rings.may_send d.sizes.window (link_of d.remote.links l)) may in
    let local = local_is (state_of d.remote.slabs t) parts.0 in
    asked_joins n d f g l l t None (λ m k. ap (has_lease m k) local) (may_send_is d.sizes.window (link_of d.remote.links l) parts.1).0
    (remote.query_sent d.remote t None l) refl all moved
sent_joins W n d f g l q e base (query_too {t = t} {m = m} there state other may) serves all moved =
    asked_joins n d f g l m t (Some l) (λ o k. ap (has_lease o k) state) (may_send_is d.sizes.window (link_of d.remote.links l) may).0
    (remote.query_sent d.remote t (Some m) l) refl all moved

-- a word is said that gives back what may be given back
word_plain : (d : Device) (q : Parcel) → IsWord d q → is_request q.msg ≡ false
word_plain d q greeting = refl
word_plain d q (rating k value) = refl
word_plain d q (giving_back k) = refl

pub said_joins :
    (n : ℕ) (d : Device) (f g : Harbor) (l : Lender) (q : Parcel) → IsWord d q → AllJoined n d f → MayGiveBack d l (channel_of f l) q.msg
    → harbor.Moves f (Send l q) sent_is.Sent g → AllJoined n d g
said_joins n d f g l q word all back moved =
    joins_through n d d f g (Send l q) sent_is.Sent moved (λ m other. sees_itself m d) (all_but l n d f all)
    (λ within up. let k : Joined d l (channel_of f l) = all l within up in
    subst (λ ch. Joined d l ch) (sym (sends (channel_of f l) q k.present))
    (joined_said d.sizes d.history d.calls d.remote.slabs d.remote.bits (ring_of d.remote.links l) l (channel_of f l) q (word_plain d q word) back k))

-- a link that is down has no lease
unleased_at :
    (n : ℕ) (d : Device) (h : Harbor) (l : Lender) → ServesAt n d h → is_up d.remote.links l ≡ false → (t : Slab) (k : Lease)
    → has_lease l k (state_of d.remote.slabs t) ≡ true → ⊥
unleased_at n d h l serves off t k at = elim (cases_lt t.0 (length d.remote.slabs)) [
  | inl within ↦ go (state_of d.remote.slabs t) at (serves.slab t (subst (λ m. t.0 < m) serves.slabs_len within))
  | inr past ↦ both_ways (has_lease l k (state_of d.remote.slabs t)) (ap (has_lease l k) (get_or_past d.remote.slabs t.0 Local past)) at
]
  where
    here : (m : Lender) (j : Lease) → ((m.0 == l.0) && (j.0 == k.0)) ≡ true → is_up d.remote.links m ≡ true → ⊥
    here m j at up =
        both_ways (is_up d.remote.links l) off
        (subst (λ i. is_up d.remote.links (record { 0 = i }) ≡ true) (eqb-true m.0 l.0 (and_parts (m.0 == l.0) (j.0 == k.0) at).0) up)

    go : (x : SlabState) → has_lease l k x ≡ true → SlabFits d.sizes d.remote.links t x → ⊥
    go Local at fits = cc
    go (Asking pair) at fits = cc
    go (Borrowing m) at fits = cc
    go (Draining m j f) at fits = here m j at fits.0
    go (Mapped m j f) at fits = here m j at fits.0

-- a link leads to its lender anew
pub raised_joins :
    (n : ℕ) (d : Device) (f g : Harbor) (l : Lender) (r : FabricAnswer (Connect l (next_link d))) → ServesAt n d f → AllJoined n d f → l.0 < n
    → is_up d.remote.links l ≡ false → harbor.Moves f (Connect l (next_link d)) r g → AllJoined n (raised_after d l) g
raised_joins n d f g l r serves all within off moved =
    let few = serves.few in
    let link_in : l.0 < length d.remote.links = subst (λ m. l.0 < m) (sym serves.links_len) (omega (arith, within, few)) in
    let made : link_of (rings.raised_after d.remote.links l) l ≡ rings.link_at_start = link-same d.remote.links l rings.link_at_start link_in in
    joins_through n d (raised_after d l) f g (Connect l (next_link d)) r moved
    (λ m other.
    sees_parts m d d.remote.slabs (rings.raised_after d.remote.links l) d.calls (d.links_made + 1) (leases_stay m d.remote.slabs)
    (link-other d.remote.links l m rings.link_at_start other) (still_same m d))
    (all_but l n d f all)
    (λ within up.
    subst (λ ys. JoinedOf d.sizes d.history d.calls d.remote.slabs d.remote.bits ys l (connect_after (channel_of f l) (next_link d)))
    (sym (ap (λ (k : LinkState). k.ring) made))
    (joined_new d.sizes d.history d.calls d.remote.slabs d.remote.bits l (channel_of f l) (next_link d) (unleased_at n d f l serves off)))

pub raised_up : (n : ℕ) (d : Device) (f : Harbor) (l : Lender) → ServesAt n d f → l.0 < n → is_up (raised_after d l).remote.links l ≡ true
raised_up n d f l serves within =
    let few = serves.few in
    ap (λ (k : LinkState). k.up) (link-same d.remote.links l rings.link_at_start (subst (λ m. l.0 < m) (sym serves.links_len) (omega (arith, within, few))))

-- a device as it is made has no link
all_down : (n i : ℕ) → get_or (rings.all_down n) i rings.down ≡ rings.down
all_down zero i = refl
all_down (suc n) zero = refl
all_down (suc n) (suc i) = all_down n i

pub new_joins : (n m : ℕ) (s : Sizes) (h : Harbor) → AllJoined n (device.device_at_start s m) h
new_joins n m s h l within up =
    absurd (both_ways (is_up (device.device_at_start s m).remote.links l) (ap (λ (k : LinkState). k.up) (all_down MOST_LENDERS l.0)) up)

pub new_turned : (n m : ℕ) (s : Sizes) (h : Harbor) → AllTurned n (device.device_at_start s m) h
new_turned n m s h l within up =
    absurd (both_ways (is_up (device.device_at_start s m).remote.links l) (ap (λ (k : LinkState). k.up) (all_down MOST_LENDERS l.0)) up)

pub new_allowed : (n m : ℕ) (s : Sizes) (h : Harbor) → AllAllowed n (device.device_at_start s m) h
new_allowed n m s h l within up =
    absurd (both_ways (is_up (device.device_at_start s m).remote.links l) (ap (λ (k : LinkState). k.up) (all_down MOST_LENDERS l.0)) up)
