-- The first message under way to a lender may be sent.
use Rattle.std.proofs.Common.{◌≡◌, ℕ, ◌<◌, Bool, true, false, ◌||◌, ◌&&◌, not, ◌==◌, nat_lt, lt-ltb, List, [], ◌∷◌, ◌++◌, length, refl, sym, ap, ◌∙◌, subst, eq-eqb, append-nil}
use Rattle.std.proofs.Math.Nat.{mod-lt}
use Rattle.std.specs.List.{list_any, filter, AllByRecursion}
use Rattle.std.proofs.lemmas.Bool.{both_ways, and_from}
use Rattle.swap_base.specs.declared.Link.{Link}
use Rattle.swap_base.specs.declared.Slab.{Slab}
use Rattle.swap_base.specs.declared.Page.{Page}
use Rattle.swap_base.specs.declared.Lender.{Lender as LenderNo}
use Rattle.swap_base.specs.declared.Lease.{Lease}
use Rattle.swap_base.specs.Sizes.{Sizes, pages_of, place_of}
use Rattle.swap_wire.specs.declared.Msg.{Msg}
use Rattle.swap_wire.specs.declared.Msg.TheVariants as msg
use Rattle.swap_wire.specs.Fabric.{Parcel, parcel_of}
use Rattle.swap_slabs.specs.Slabs.{has_lease}
use Rattle.swap_rings.specs.Rings.{ring_of}
use Rattle.swap_rings.specs.declared.Request.{Request}
use Rattle.swap_rings.specs.declared.Request.TheVariants as request
use Rattle.swap_remote.specs.Remote.{slab_for, state_for}
use Rattle.swap_lender.specs.Lender.{Lender, slot_of, holds, has_greeted, is_for}
use Rattle.swap_lender.specs.Calls.{tenant}
use Rattle.swap_lender.specs.Table.{may_send, may_hello, may_reach}
use Rattle.swap_link.specs.Fits.{IsSound}
use Rattle.swap_link.specs.Channel.{Channel}
use Rattle.swap_link.specs.lemmas.KeepLaws.{unless-at}
use Rattle.swap_table.specs.Device.{Device, hello}
use Rattle.swap_table.specs.Serves.{bytes_of, IsAwaited}
use Rattle.swap_table.proofs.SendsKeepServing.{pages_some}
use Rattle.swap_joint.specs.Order.{is_request, asks_by, Carries}
use Rattle.swap_joint.specs.Pairs.{Pairwise}
use Rattle.swap_joint.specs.Brought.{Asked}
use Rattle.swap_joint.specs.Seats.{HasSeat, is_done}
use Rattle.swap_joint.specs.Stored.{Joined, gives_back}
use Rattle.swap_joint.specs.Turn.{Lodges}
use Rattle.swap_joint.specs.Allowed.{is_rate, is_hello, rates_in, Greets, IsToLender, Allows, Allowed, IsKnown}
use Rattle.swap_joint.proofs.Seats.{seat_within}
use Rattle.swap_joint.proofs.Pairs.{First, pairs-first, filter-first, all-front, all-back}
use Rattle.swap_joint.proofs.Serving.{HeldOf, done_allowed, rates_allowed, none_for}

-- the slots that a link lodges at are held for it
pub held_of : (c : Channel) → Lodges c → HeldOf c.lender c.number
held_of c lodges i m t k e is = (lodges i (record { link = m; slab = t; lease = k }) (ap tenant is)).1

-- a link that a seat is had on holds its lease
pub seat_holds : (l : Lender) (n : Link) (k : Lease) (t : Slab) → HasSeat l n k t → holds l n k ≡ true
seat_holds l n k t h = lt-ltb (slot_of l n k) (length l.slots) (seat_within l n k t h)

-- a page's place is one of its slab's
pub place_within : (s : Sizes) (p : Page) → p.0 < pages_of s → place_of s p.0 < s.pages_per_slab
place_within s p within = mod-lt p.0 (pages_some s p.0 within)

-- what doesn't greet comes from a link that has greeted, and what greets from one that hasn't
pub greeted_before : (s : Sizes) (b ended : Bool) (q : Parcel) (ps : List Parcel) → is_hello q.msg ≡ false → Greets s b ended (q ∷ ps) → b ≡ true
greeted_before s true ended q ps plain h = refl
greeted_before s false ended q ps plain h = absurd (both_ways (is_hello q.msg) plain (ap (λ (p : Parcel). is_hello p.msg) h.0))

pub greets_first :
    (s : Sizes) (b ended : Bool) (q : Parcel) (ps : List Parcel) → is_hello q.msg ≡ true → Greets s b ended (q ∷ ps) → (b ≡ false) × (q ≡ hello s)
greets_first s true ended q ps is h = absurd (both_ways (is_hello q.msg) (or_first (is_hello q.msg) _ h) is)
  where
    or_first : (a b : Bool) → (a || b) ≡ false → a ≡ false
    or_first true b e = cc
    or_first false b e = refl
greets_first s false ended q ps is h = (refl, h.0)

-- the request of a write or a read that is first: its lease is the lease of a page at whose place it reaches
pub record Reaches (s : Sizes) (l : Lender) (n : Link) (k : Lease) (i : ℕ) : Type 0 where
  pub page : Page
  pub within : page.0 < pages_of s
  pub seat : HasSeat l n k (slab_for s page)
  pub at : place_of s page.0 ≡ i

pub reaches_may :
    (s : Sizes) (l : Lender) (n : Link) (k : Lease) (i : ℕ) → l.lending.pages_per_slab ≡ s.pages_per_slab → Reaches s l n k i → may_reach l n k i ≡ true
reaches_may s l n k i size r =
    and_from (holds l n k) (nat_lt i l.lending.pages_per_slab) (seat_holds l n k (slab_for s r.page) r.seat)
    (lt-ltb i l.lending.pages_per_slab (subst (λ m. i < m) (sym size) (subst (λ m. m < s.pages_per_slab) r.at (place_within s r.page r.within))))

-- the first message under way is allowed
module _ (d : Device) (l : LenderNo) (c : Channel) (q : Parcel) (ps : List Parcel) (stands : c.lender_gone ≡ false) (front : c.to_lender.parcels ≡ q ∷ ps)
    (sound : IsSound c.lender) (known : IsKnown d.sizes c) (lodges : Lodges c) (here : Joined d l c)
    (awaited : AllByRecursion (IsAwaited d.sizes d.history d.calls d.remote.slabs l) (ring_of d.remote.links l)) (allowed : Allowed d l c []) where
  allows : Allows d.sizes d.remote.slabs (ring_of d.remote.links l) l c.lender c.number c.to_device.parcels c.to_lender.ended (q ∷ ps)
  allows =
      subst (λ xs. Allows d.sizes d.remote.slabs (ring_of d.remote.links l) l c.lender c.number c.to_device.parcels c.to_lender.ended xs)
      (append-nil c.to_lender.parcels ∙ front) (unless-at c.lender_gone _ stands allowed)

  greeted : is_hello q.msg ≡ false → has_greeted c.lender c.number ≡ true
  greeted plain = greeted_before d.sizes (has_greeted c.lender c.number) c.to_lender.ended q ps plain allows.greets

  -- the request that it carries
  abbrev Carried : Type 0
  Carried = First (Asked d.sizes d.history d.calls d.remote.slabs l c) q (filter asks_by ps) here.order.under_way

  carried : is_request q.msg ≡ true → Carried
  carried is =
      pairs-first (Asked d.sizes d.history d.calls d.remote.slabs l c) q (filter asks_by ps) here.order.under_way
      (subst (λ xs. Pairwise (Asked d.sizes d.history d.calls d.remote.slabs l c) xs here.order.under_way)
      (ap (filter asks_by) front ∙ filter-first asks_by q ps is) here.order.requests)

  waits : (f : Carried) → IsAwaited d.sizes d.history d.calls d.remote.slabs l f.one
  waits f =
      let under_way : AllByRecursion (IsAwaited d.sizes d.history d.calls d.remote.slabs l) here.order.under_way =
      all-front (IsAwaited d.sizes d.history d.calls d.remote.slabs l) here.order.under_way here.order.dropped
      (all-back (IsAwaited d.sizes d.history d.calls d.remote.slabs l) (here.order.answered ++ here.order.unheard)
      (here.order.under_way ++ here.order.dropped)
      (subst (λ xs. AllByRecursion (IsAwaited d.sizes d.history d.calls d.remote.slabs l) xs) here.order.in_four awaited))
      in
      (subst (λ xs. AllByRecursion (IsAwaited d.sizes d.history d.calls d.remote.slabs l) xs) f.is under_way).0

  reaches_at :
      (p : Page) (k j : Lease) (i : ℕ) → p.0 < pages_of d.sizes → has_lease l j (state_for d.sizes d.remote.slabs p) ≡ true → k ≡ j → i ≡ place_of d.sizes p.0
      → Reaches d.sizes c.lender c.number k i
  reaches_at p k j i within leased lease place = record {
    page = p;
    within = within;
    seat =
        (unless-at c.lender_gone _ stands here.stored).leased (slab_for d.sizes p) k
        (subst (λ j. has_lease l j (state_for d.sizes d.remote.slabs p) ≡ true) (sym lease) leased);
    at = sym place;
  }

  reaches_write : (k : Lease) (i : ℕ) → q.msg ≡ msg.Write k i → Reaches d.sizes c.lender c.number k i
  reaches_write k i e = let f : Carried = carried (ap is_request e) in go f.one f.here.0 (waits f)
    where
      msg_of : (m : Msg) (bytes : List ℕ) → q ≡ parcel_of m bytes → msg.Write k i ≡ m
      msg_of m bytes is = sym e ∙ ap (λ (p : Parcel). p.msg) is

      lease_of : (j : Lease) (n : ℕ) → msg.Write k i ≡ msg.Write j n → k ≡ j
      lease_of j n is = cc

      place_is : (j : Lease) (n : ℕ) → msg.Write k i ≡ msg.Write j n → i ≡ n
      place_is j n is = cc

      go :
          (x : Request) → Carries d.sizes d.history d.remote.slabs l q x → IsAwaited d.sizes d.history d.calls d.remote.slabs l x
          → Reaches d.sizes c.lender c.number k i
      go (request.Query t) is waits = absurd (not_query (msg_of (msg.Query t) [] is))
        where
          not_query : msg.Write k i ≡ msg.Query t → ⊥
          not_query e = cc
      go (request.Borrow t) is waits = absurd (not_borrow (msg_of (msg.Borrow t) [] is))
        where
          not_borrow : msg.Write k i ≡ msg.Borrow t → ⊥
          not_borrow e = cc
      go (request.Write p entry) is waits =
          let same = msg_of (msg.Write is.0 (place_of d.sizes p.0)) (bytes_of d.history entry) is.1 in
          reaches_at p k is.0 i waits.0 is.2 (lease_of is.0 (place_of d.sizes p.0) same) (place_is is.0 (place_of d.sizes p.0) same)
      go (request.Read a p) is waits = absurd (not_read is.0 (place_of d.sizes p.0) (msg_of (msg.Read is.0 (place_of d.sizes p.0)) [] is.1))
        where
          not_read : (j : Lease) (n : ℕ) → msg.Write k i ≡ msg.Read j n → ⊥
          not_read j n e = cc

  reaches_read : (k : Lease) (i : ℕ) → q.msg ≡ msg.Read k i → Reaches d.sizes c.lender c.number k i
  reaches_read k i e = let f : Carried = carried (ap is_request e) in go f.one f.here.0 (waits f)
    where
      msg_of : (m : Msg) (bytes : List ℕ) → q ≡ parcel_of m bytes → msg.Read k i ≡ m
      msg_of m bytes is = sym e ∙ ap (λ (p : Parcel). p.msg) is

      lease_of : (j : Lease) (n : ℕ) → msg.Read k i ≡ msg.Read j n → k ≡ j
      lease_of j n is = cc

      place_is : (j : Lease) (n : ℕ) → msg.Read k i ≡ msg.Read j n → i ≡ n
      place_is j n is = cc

      go :
          (x : Request) → Carries d.sizes d.history d.remote.slabs l q x → IsAwaited d.sizes d.history d.calls d.remote.slabs l x
          → Reaches d.sizes c.lender c.number k i
      go (request.Query t) is waits = absurd (not_query (msg_of (msg.Query t) [] is))
        where
          not_query : msg.Read k i ≡ msg.Query t → ⊥
          not_query e = cc
      go (request.Borrow t) is waits = absurd (not_borrow (msg_of (msg.Borrow t) [] is))
        where
          not_borrow : msg.Read k i ≡ msg.Borrow t → ⊥
          not_borrow e = cc
      go (request.Write p entry) is waits =
          absurd (not_write is.0 (place_of d.sizes p.0) (msg_of (msg.Write is.0 (place_of d.sizes p.0)) (bytes_of d.history entry) is.1))
        where
          not_write : (j : Lease) (n : ℕ) → msg.Read k i ≡ msg.Write j n → ⊥
          not_write j n e = cc
      go (request.Read a p) is waits =
          let same = msg_of (msg.Read is.0 (place_of d.sizes p.0)) [] is.1 in
          reaches_at p k is.0 i waits.1 is.2 (lease_of is.0 (place_of d.sizes p.0) same) (place_is is.0 (place_of d.sizes p.0) same)

  hello_may : (v bytes pages : ℕ) → q.msg ≡ msg.Hello v bytes pages → may_hello c.lender c.number v bytes pages ≡ true
  hello_may v bytes pages e =
      let first = greets_first d.sizes (has_greeted c.lender c.number) c.to_lender.ended q ps (ap is_hello e) allows.greets in
      let same : msg.Hello v bytes pages ≡ (hello d.sizes).msg = sym e ∙ ap (λ (p : Parcel). p.msg) first.1 in
      all_four (has_greeted c.lender c.number) (v == 1) (bytes == c.lender.lending.page_bytes) (pages == c.lender.lending.pages_per_slab) first.0
      (eq-eqb v 1 (version_is same)) (eq-eqb bytes c.lender.lending.page_bytes (bytes_is same ∙ sym known.page_bytes))
      (eq-eqb pages c.lender.lending.pages_per_slab (pages_is same ∙ sym known.pages_per_slab))
    where
      all_four : (a b e f : Bool) → a ≡ false → b ≡ true → e ≡ true → f ≡ true → (not a && b && e && f) ≡ true
      all_four a b e f x y z w = cc

      version_is : msg.Hello v bytes pages ≡ (hello d.sizes).msg → v ≡ 1
      version_is e = cc

      bytes_is : msg.Hello v bytes pages ≡ (hello d.sizes).msg → bytes ≡ d.sizes.page_bytes
      bytes_is e = cc

      pages_is : msg.Hello v bytes pages ≡ (hello d.sizes).msg → pages ≡ d.sizes.pages_per_slab
      pages_is e = cc

  may_of : (m : Msg) → q.msg ≡ m → may_send c.lender c.number m ≡ true
  may_of (msg.Hello v bytes pages) e = hello_may v bytes pages e
  may_of (msg.Query t) e = greeted (ap is_hello e)
  may_of (msg.Borrow t) e =
      and_from (has_greeted c.lender c.number) (not (list_any (is_for c.number t) c.lender.slots)) (greeted (ap is_hello e))
      (ap not (none_for c.number t c.lender.slots (λ i m k told held. allows.free.0 t i m k told e held)))
  may_of (msg.Write k i) e = reaches_may d.sizes c.lender c.number k i known.pages_per_slab (reaches_write k i e)
  may_of (msg.Read k i) e = reaches_may d.sizes c.lender c.number k i known.pages_per_slab (reaches_read k i e)
  may_of (msg.Rates k value) e =
      rates_allowed c.lender c.number k sound (held_of c lodges) (allows.rates k (ap (λ b. b || rates_in k ps) (ap (is_rate k) e ∙ eq-eqb k.0 k.0 refl)))
  may_of (msg.Done k) e =
      done_allowed c.lender c.number k sound (held_of c lodges) (allows.done k (ap (λ b. b || gives_back k ps) (ap (is_done k) e ∙ eq-eqb k.0 k.0 refl)))
  may_of _ e = absurd (subst IsToLender e allows.kinds.0)

  pub front_may : may_send c.lender c.number q.msg ≡ true
  front_may = may_of q.msg refl
