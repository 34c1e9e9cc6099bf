-- A link that its device has lost: what is under way to the lender may be sent all the same.
use Rattle.std.proofs.Common.{◌≡◌, ℕ, inr, Bool, true, false, cond, ◌==◌, ◌||◌, List, [], ◌∷◌, ◌++◌, refl, sym, ap, ◌∙◌, subst, eq-eqb, append-nil}
use Rattle.std.specs.List.{list_any, filter, AllByRecursion}
use Rattle.std.proofs.lemmas.Bool.{both_ways, eqb-true, and_parts}
use Rattle.swap_base.specs.declared.Slab.{Slab}
use Rattle.swap_base.specs.declared.Link.{Link}
use Rattle.swap_base.specs.declared.Lender.{Lender as LenderNo}
use Rattle.swap_base.specs.declared.Lease.{Lease}
use Rattle.swap_base.specs.Sizes.{Sizes}
use Rattle.swap_wire.specs.declared.Msg.{Msg}
use Rattle.swap_wire.specs.declared.Msg.TheVariants as msg
use Rattle.swap_wire.specs.Fabric.{Parcel}
use Rattle.swap_slabs.specs.Slabs.{has_lease, state_of}
use Rattle.swap_slabs.specs.declared.SlabState.{SlabState}
use Rattle.swap_rings.specs.Rings.{ring_of}
use Rattle.swap_rings.specs.declared.Request.{Request}
use Rattle.swap_rings.specs.declared.Request.TheVariants as request
use Rattle.swap_remote.specs.Remote.{slab_for, state_for}
use Rattle.swap_lender.specs.declared.SlotState.{SlotState}
use Rattle.swap_lender.specs.declared.SlotState.TheVariants.{Free, Held}
use Rattle.swap_lender.specs.Lender as lender
use Rattle.swap_lender.specs.Lender.{Lender, slot_in, slot_of}
use Rattle.swap_link.specs.Channel.{Channel}
use Rattle.swap_link.specs.lemmas.KeepLaws.{unless, unless-at}
use Rattle.swap_link.specs.lemmas.Slots.{found}
use Rattle.swap_table.specs.Device.{Device}
use Rattle.swap_table.specs.Serves.{AreInOrder, MayPrecede, IsAwaited}
use Rattle.swap_joint.specs.Order.{is_request, asks_by, Carries}
use Rattle.swap_joint.specs.Brought.{Asked}
use Rattle.swap_joint.specs.Pairs.{Pairwise}
use Rattle.swap_joint.specs.Seats.{HasSeat, is_done}
use Rattle.swap_joint.specs.Stored.{gives_back, Joined, Stored}
use Rattle.swap_joint.specs.Allowed.{is_borrow, Greets, Allows, Allowed}
use Rattle.swap_joint.specs.Left.{uses, borrows, HasHeld, IsReach, DoneLast, BorrowOnce, Orderly, Left}
use Rattle.swap_joint.proofs.Pairs.{all-front, all-back}
use Rattle.swap_joint.proofs.Seats.{seat_within}
use Rattle.swap_joint.proofs.Fronts.{place_within}
use Rattle.swap_joint.proofs.Gives.{pairs_none, none_after, is_for_borrow, borrow_of}
use Rattle.swap_base.proofs.Bools.{or_left, or_parts}
use Rattle.swap_joint.proofs.Serves.{ordered_back}
use Rattle.swap_joint.proofs.Turned.{stands_so}

no_truth : {P : Type 0} → false ≡ true → P
no_truth e = cc

-- what was allowed of a link that is up, but for what its device keeps and what is under way to it
pub allows_left :
    (s : Sizes) (states : List SlabState) (ring : List Request) (l : LenderNo) (table : Lender) (n : Link) (come : List Parcel) (ended : Bool)
    (out : List Parcel)
    → Allows s states ring l table n come ended out → Allows s [] [] l table n [] true out
allows_left s states ring l table n come ended out h = record {
  told = λ k e. no_truth e;
  drains = λ t k f e. cc;
  done = h.done;
  done_once = h.done_once;
  evict_once = tt;
  apart = λ k e. no_truth e;
  before = λ t k f e. no_truth e;
  asks = λ k e. no_truth e;
  rates = h.rates;
  ask_once = tt;
  rate_once = h.rate_once;
  one = λ k e. no_truth e;
  home = λ i m t k e held. inr (inr (inr refl));
  refused = λ i m t k e come_ held. no_truth come_;
  free = h.free;
  greets = greeted (lender.has_greeted table n) out h.greets;
  kinds = h.kinds;
}
  where
    greeted : (g : Bool) (ps : List Parcel) → Greets s g ended ps → Greets s g true ps
    greeted true ps e = e
    greeted false [] e = refl
    greeted false (p ∷ ps) e = e

-- a seat is in a slot
seat_held : (l : Lender) (n : Link) (k : Lease) (t : Slab) → HasSeat l n k t → HasHeld l.slots k
seat_held l n k t h = at (slot_in l.slots (slot_of l n k)) refl (found l n k (seat_within l n k t h))
  where
    at : (x : SlotState) → slot_in l.slots (slot_of l n k) ≡ x → lender.has_lease n k x ≡ true → HasHeld l.slots k
    at Free is e = cc
    at (Held m u j told) is e =
        (told, (slot_of l n k, m, u, is ∙ ap (λ (i : ℕ). Held m u (record { 0 = i }) told) (eqb-true j.0 k.0 (and_parts (m.0 == n.0) (j.0 == k.0) e).1)))

plain_reach : (slots : List SlotState) (places : ℕ) (m : Msg) → is_request m ≡ false → IsReach slots places m
plain_reach slots places (msg.Write k i) e = cc
plain_reach slots places (msg.Read k i) e = cc
plain_reach slots places _ e = tt

order_front : (xs ys : List Request) → AreInOrder (xs ++ ys) → AreInOrder xs
order_front [] ys h = tt
order_front (x ∷ xs) ys h = (all-front (MayPrecede x) xs ys h.0, order_front xs ys h.1)

any_nothing : (rs : List Request) → list_any (λ (r : Request). false) rs ≡ false
any_nothing [] = refl
any_nothing (r ∷ rs) = any_nothing rs

module _ (d : Device) (l : LenderNo) (c : Channel) where
  abbrev A : Parcel → Request → Type 0
  A = Asked d.sizes d.history d.calls d.remote.slabs l c

  abbrev W : Request → Type 0
  W = IsAwaited d.sizes d.history d.calls d.remote.slabs l

  abbrev Stores : List Request → Type 0
  Stores served = Stored d.sizes d.history d.remote.slabs d.remote.bits l c served

  -- each write and read reaches its slab's slot
  reach_one :
      (served : List Request) → Stores served → (q : Parcel) (r : Request) → W r → Carries d.sizes d.history d.remote.slabs l q r
      → IsReach c.lender.slots d.sizes.pages_per_slab q.msg
  reach_one served stored q (request.Query t) w is =
      subst (λ (m : Msg). IsReach c.lender.slots d.sizes.pages_per_slab m) (sym (ap (λ (p : Parcel). p.msg) is)) tt
  reach_one served stored q (request.Borrow t) w is =
      subst (λ (m : Msg). IsReach c.lender.slots d.sizes.pages_per_slab m) (sym (ap (λ (p : Parcel). p.msg) is)) tt
  reach_one served stored q (request.Write p e) w (k, is, leased, out) =
      subst (λ (m : Msg). IsReach c.lender.slots d.sizes.pages_per_slab m) (sym (ap (λ (p : Parcel). p.msg) is))
      (seat_held c.lender c.number k (slab_for d.sizes p) (stored.leased (slab_for d.sizes p) k leased), place_within d.sizes p w.0)
  reach_one served stored q (request.Read a p) w (k, is, leased) =
      subst (λ (m : Msg). IsReach c.lender.slots d.sizes.pages_per_slab m) (sym (ap (λ (p : Parcel). p.msg) is))
      (seat_held c.lender c.number k (slab_for d.sizes p) (stored.leased (slab_for d.sizes p) k leased), place_within d.sizes p w.1)

  reach_all :
      (served : List Request) → Stores served → (ps : List Parcel) (rs : List Request) → Pairwise A (filter asks_by ps) rs → AllByRecursion W rs
      → AllByRecursion (λ (q : Parcel). IsReach c.lender.slots d.sizes.pages_per_slab q.msg) ps
  reach_all served stored [] rs h ws = tt
  reach_all served stored (p ∷ ps) rs h ws = go (asks_by p) refl rs h ws (reach_all served stored ps)
    where
      go :
          (b : Bool) → asks_by p ≡ b → (rs : List Request) → Pairwise A (cond b (p ∷ filter asks_by ps) (filter asks_by ps)) rs → AllByRecursion W rs
          → ((rs : List Request) → Pairwise A (filter asks_by ps) rs → AllByRecursion W rs
          → AllByRecursion (λ (q : Parcel). IsReach c.lender.slots d.sizes.pages_per_slab q.msg) ps)
          → AllByRecursion (λ (q : Parcel). IsReach c.lender.slots d.sizes.pages_per_slab q.msg) (p ∷ ps)
      go true is [] h ws more = absurd h
      go true is (r ∷ rs) h ws more = (reach_one served stored p r ws.0 h.0.0, more rs h.1 ws.1)
      go false is rs h ws more = (plain_reach c.lender.slots d.sizes.pages_per_slab p.msg is, more rs h ws)

  -- no slab is borrowed twice
  borrow_all : (ps : List Parcel) (rs : List Request) → Pairwise A (filter asks_by ps) rs → AreInOrder rs → BorrowOnce ps
  borrow_all [] rs h order = tt
  borrow_all (p ∷ ps) rs h order = go (asks_by p) refl rs h order (borrow_all ps)
    where
      go :
          (b : Bool) → asks_by p ≡ b → (rs : List Request) → Pairwise A (cond b (p ∷ filter asks_by ps) (filter asks_by ps)) rs → AreInOrder rs
          → ((rs : List Request) → Pairwise A (filter asks_by ps) rs → AreInOrder rs → BorrowOnce ps) → BorrowOnce (p ∷ ps)
      go true is [] h order more = absurd h
      go true is (r ∷ rs) h order more = (
        λ t e.
            let same : r ≡ request.Borrow t = is_for_borrow d.sizes d.history d.remote.slabs l p r t (borrow_of t p.msg e) h.0.0 in
            pairs_none A (λ q. borrows t q.msg) asks_by (is_borrow t) ps rs
            (λ q x a b. ap (is_borrow t) (is_for_borrow d.sizes d.history d.remote.slabs l q x t (borrow_of t q.msg b) a.0) ∙ eq-eqb t.0 t.0 refl)
            (λ q b. ap is_request (borrow_of t q.msg b)) h.1
            (none_after t rs (subst (λ (x : Request). AllByRecursion (MayPrecede x) rs) same order.0)),
        more rs h.1 order.1,
      )
      go false is rs h order more = ((λ t e. absurd (both_ways (asks_by p) is (ap is_request (borrow_of t p.msg e)))), more rs h order)

  -- a lease that is given back is used by no message
  uses_leased :
      (q : Parcel) (r : Request) (k : Lease) → Carries d.sizes d.history d.remote.slabs l q r → uses k q.msg ≡ true
      → ((u : Slab) → has_lease l k (state_of d.remote.slabs u) ≡ false) → ⊥
  uses_leased q (request.Query t) k is e none = no_truth (subst (λ (m : Msg). uses k m ≡ true) (ap (λ (p : Parcel). p.msg) is) e)
  uses_leased q (request.Borrow t) k is e none = no_truth (subst (λ (m : Msg). uses k m ≡ true) (ap (λ (p : Parcel). p.msg) is) e)
  uses_leased q (request.Write p x) k (j, is, leased, out) e none =
      let same : j.0 ≡ k.0 = eqb-true j.0 k.0 (subst (λ (m : Msg). uses k m ≡ true) (ap (λ (p : Parcel). p.msg) is) e) in
      both_ways (has_lease l j (state_for d.sizes d.remote.slabs p))
      (subst (λ (i : ℕ). has_lease l (record { 0 = i }) (state_for d.sizes d.remote.slabs p) ≡ false) (sym same) (none (slab_for d.sizes p))) leased
  uses_leased q (request.Read a p) k (j, is, leased) e none =
      let same : j.0 ≡ k.0 = eqb-true j.0 k.0 (subst (λ (m : Msg). uses k m ≡ true) (ap (λ (p : Parcel). p.msg) is) e) in
      both_ways (has_lease l j (state_for d.sizes d.remote.slabs p))
      (subst (λ (i : ℕ). has_lease l (record { 0 = i }) (state_for d.sizes d.remote.slabs p) ≡ false) (sym same) (none (slab_for d.sizes p))) leased

  uses_asks : (k : Lease) (m : Msg) → uses k m ≡ true → is_request m ≡ true
  uses_asks k (msg.Write j i) e = refl
  uses_asks k (msg.Read j i) e = refl
  uses_asks k _ e = cc

  done_all : (ps : List Parcel) → ((k : Lease) → gives_back k ps ≡ true → list_any (λ (p : Parcel). uses k p.msg) ps ≡ false) → DoneLast ps
  done_all [] none = tt
  done_all (q ∷ qs) none = (
    (λ k e. (or_parts (uses k q.msg) _ (none k (or_left (is_done k q.msg) _ e))).1),
    done_all qs (λ k e. (or_parts (uses k q.msg) _ (none k (back_true (is_done k q.msg) _ e))).1),
  )
    where
      back_true : (a b : Bool) → b ≡ true → (a || b) ≡ true
      back_true true b e = refl
      back_true false b e = e

  orderly_of :
      c.lender_gone ≡ false → Joined d l c → AllByRecursion W (ring_of d.remote.links l) → AreInOrder (ring_of d.remote.links l)
      → Orderly c.lender.slots d.sizes.pages_per_slab c.to_lender.parcels
  orderly_of stands joined awaited ordered =
      let o = joined.order in
      let stored = unless-at c.lender_gone _ stands joined.stored in
      let there : AreInOrder (o.under_way ++ o.dropped) =
      ordered_back (o.answered ++ o.unheard) (o.under_way ++ o.dropped) (subst AreInOrder o.in_four ordered) in
      let waits : AllByRecursion W (o.under_way ++ o.dropped) =
      all-back W (o.answered ++ o.unheard) (o.under_way ++ o.dropped) (subst (λ xs. AllByRecursion W xs) o.in_four awaited) in
      record {
        reach = reach_all _ stored c.to_lender.parcels o.under_way o.requests (all-front W o.under_way o.dropped waits);
        done_last = done_all c.to_lender.parcels
            (λ k given.
            pairs_none A (λ q. uses k q.msg) asks_by (λ r. false) c.to_lender.parcels o.under_way
            (λ q r a e. absurd (uses_leased q r k a.0 e (stored.given k given).unleased)) (λ q e. uses_asks k q.msg e) o.requests
            (any_nothing o.under_way));
        borrow_once = borrow_all c.to_lender.parcels o.under_way o.requests (order_front o.under_way o.dropped there);
      }

  -- a link that is lost
  pub left_of : Joined d l c → AllByRecursion W (ring_of d.remote.links l) → AreInOrder (ring_of d.remote.links l) → Allowed d l c [] → Left d.sizes l c
  left_of joined awaited ordered h = go c.lender_gone refl
    where
      leaves :
          c.lender_gone ≡ false
          → Allows d.sizes [] [] l c.lender c.number [] true c.to_lender.parcels × Orderly c.lender.slots d.sizes.pages_per_slab c.to_lender.parcels
      leaves stands =
          let all : Allows d.sizes d.remote.slabs (ring_of d.remote.links l) l c.lender c.number c.to_device.parcels c.to_lender.ended
          (c.to_lender.parcels ++ []) =
          unless-at c.lender_gone _ stands h in (
            subst (λ out. Allows d.sizes [] [] l c.lender c.number [] true out) (append-nil c.to_lender.parcels)
                (allows_left d.sizes d.remote.slabs (ring_of d.remote.links l) l c.lender c.number c.to_device.parcels c.to_lender.ended
                (c.to_lender.parcels ++ []) all),
            orderly_of stands joined awaited ordered,
          )

      go : (b : Bool) → c.lender_gone ≡ b → Left d.sizes l c
      go true gone = unless c.lender_gone _ (λ stands. absurd (both_ways c.lender_gone stands gone))
      go false stands = stands_so c.lender_gone _ (leaves stands)
