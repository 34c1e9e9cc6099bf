-- A link is lost or made, the far side moves, and the device as it is made.
use Rattle.std.proofs.Common.{◌≡◌, ℕ, ◌<◌, ◌≤◌, Bool, true, false, cond, ◌==◌, ◌&&◌, not, zero, suc, zero-add, List, [], ◌∷◌, length, get_or, replicate, refl, sym, ap, ◌∙◌, subst, arith, length-set}
use Rattle.std.proofs.Math.Bool.{and-false, and-true}
use Rattle.std.proofs.lemmas.Bool.{eqb-true, eqb-false, and_left}
use Rattle.std.proofs.lemmas.List.{length-map, length-replicate}
use Rattle.swap_base.specs.declared.Page.{Page}
use Rattle.swap_base.specs.declared.Slab.{Slab}
use Rattle.swap_base.specs.declared.Lender.{Lender}
use Rattle.swap_base.specs.declared.Lease.{Lease}
use Rattle.swap_base.specs.declared.Via.TheVariants as via
use Rattle.swap_base.specs.Sizes.{Sizes, pages_of, slab_of, place_of}
use Rattle.swap_record.specs.History.{History}
use Rattle.swap_calls.specs.Calls as calls
use Rattle.swap_calls.specs.Calls.{Calls, state_of}
use Rattle.swap_calls.specs.declared.Arrived.TheVariants as arrived
use Rattle.swap_calls.specs.declared.CallState.{CallState}
use Rattle.swap_calls.specs.declared.CallState.TheVariants.{Idle, Room, Reading}
use Rattle.swap_slabs.specs.Slabs as slabs
use Rattle.swap_slabs.specs.declared.SlabState.{SlabState}
use Rattle.swap_slabs.specs.declared.SlabState.TheVariants.{Local, Asking, Borrowing, Mapped, Draining}
use Rattle.swap_base.specs.declared.TheConstants.{MOST_LENDERS}
use Rattle.swap_rings.specs.Rings as rings
use Rattle.swap_rings.specs.Rings.{LinkState, down, link_at_start, link_of, ring_of, is_up}
use Rattle.swap_rings.specs.declared.Request.{Request}
use Rattle.swap_rings.specs.declared.Request.TheVariants.{Query, Borrow, Write, Read}
use Rattle.swap_remote.specs.Remote as remote
use Rattle.swap_remote.specs.Remote.{Remote, slab_for, state_for, has_page, left_from}
use Rattle.swap_remote.specs.lemmas.Cleared.{length-left, get_or-left}
use Rattle.swap_table.specs.Serves.{Keeping, Owing, flying_for, latest_write, IsLeasedFrom, WaitsFrom, IsAwaited, IsContent, AreOwed, LinkFits, SlabFits, PageFits, Serves}
use Rattle.swap_base.proofs.Lists.{All-implies}
use Rattle.swap_table.proofs.LeasesStayDistinct.{single_lost, single_local}
use Rattle.swap_table.proofs.LinkTables.{by_lender, link-same, link-other}
use Rattle.swap_table.proofs.SendsKeepServing.{slab_within, link_stays}
use Rattle.swap_table.proofs.RequestsKeepServing.{KeepsAll, OwesAll, OwesOthers, page_stays, mapped_stays}

abbrev pub KeepsOthers : Lender → Keeping → Keeping → Type 0
KeepsOthers l keeps keeps' = (m : Lender) → (m.0 ≡ l.0 → ⊥) → (k : Lease) (i : ℕ) (bytes : List ℕ) → keeps m k i bytes → keeps' m k i bytes

-- the fabric alone moved
pub all_serves :
    (keeps keeps' : Keeping) (owes owes' : Owing) (s : Sizes) (n : ℕ) (H : History) (cs : Calls) (r : Remote) → KeepsAll keeps keeps' → OwesAll owes owes'
    → Serves keeps owes s n H cs r → Serves keeps' owes' s n H cs r
all_serves keeps keeps' owes owes' s n H cs r kept owed k = record {
  slabs_len = k.slabs_len;
  bits_len = k.bits_len;
  links_len = k.links_len;
  few = k.few;
  calls_len = k.calls_len;
  single = k.single;
  slab = k.slab;
  link = λ m. link_stays owes owes' s n H cs r.slabs r.slabs m (link_of r.links m) (λ y h. h) (owed m) (k.link m);
  page =
      λ q within.
      page_stays keeps keeps' s H r.links r.links q (has_page r q) (state_for s r.slabs q) (λ m j has. (refl, kept m j (place_of s q.0))) (k.page q within);
}

-- the states of the slabs, and the calls, after a loss
state-lost : (states : List SlabState) (l : Lender) (i : ℕ) → get_or (slabs.lost_after states l) i Local ≡ slabs.after_lost l (get_or states i Local)
state-lost [] l i = refl
state-lost (x ∷ states) l zero = refl
state-lost (x ∷ states) l (suc i) = state-lost states l i

call-lost : (cs : Calls) (l : Lender) (i : ℕ) → (get_or (calls.lost_after cs l) i calls.idle_call).state
    ≡ calls.lost_if_through l (get_or cs i calls.idle_call).state
call-lost [] l i = refl
call-lost (x ∷ cs) l zero = refl
call-lost (x ∷ cs) l (suc i) = call-lost cs l i

waits_lost : (l m : Lender) (p : Page) (state : CallState) → (m.0 ≡ l.0 → ⊥) → WaitsFrom m p state → WaitsFrom m p (calls.lost_if_through l state)
waits_lost l m p Idle other w = absurd w
waits_lost l m p (Room q since) other w = absurd w
waits_lost l m p (Reading q newest via.Disk how newer since) other w = absurd w
waits_lost l m p (Reading q newest (via.Lender o) arrived.Came newer since) other w = absurd w
waits_lost l m p (Reading q newest (via.Lender o) arrived.Failed newer since) other w = absurd w
waits_lost l m p (Reading q newest (via.Lender o) arrived.Lost newer since) other w = absurd w
waits_lost l m p (Reading q newest (via.Lender o) arrived.Waiting newer since) other w = go (o.0 == l.0) refl
  where
    go : (b : Bool) → (o.0 == l.0) ≡ b → WaitsFrom m p (Reading q newest (via.Lender o) (cond b arrived.Lost arrived.Waiting) newer since)
    go true e = absurd (other (sym w.1 ∙ eqb-true o.0 l.0 e))
    go false e = w

content_lost :
    (l : Lender) (H : History) (page : List ℕ) (p : Page) (state : CallState) → IsContent H page p state → IsContent H page p (calls.lost_if_through l state)
content_lost l H page p Idle h = h
content_lost l H page p (Room q since) h = h
content_lost l H page p (Reading q newest via.Disk how newer since) h = h
content_lost l H page p (Reading q newest (via.Lender o) arrived.Waiting newer since) h = h
content_lost l H page p (Reading q newest (via.Lender o) arrived.Came newer since) h = h
content_lost l H page p (Reading q newest (via.Lender o) arrived.Failed newer since) h = h
content_lost l H page p (Reading q newest (via.Lender o) arrived.Lost newer since) h = h

mapped_lost : (l m : Lender) (state : SlabState) → (m.0 ≡ l.0 → ⊥) → IsLeasedFrom m state → IsLeasedFrom m (slabs.after_lost l state)
mapped_lost l m Local other h = absurd h
mapped_lost l m (Asking pair) other h = absurd h
mapped_lost l m (Borrowing o) other h = absurd h
mapped_lost l m (Mapped o lease flying) other h = go (o.0 == l.0) refl
  where
    go : (b : Bool) → (o.0 == l.0) ≡ b → IsLeasedFrom m (cond b Local (Mapped o lease flying))
    go true e = absurd (other (sym h ∙ eqb-true o.0 l.0 e))
    go false e = h
mapped_lost l m (Draining o lease flying) other h = go (o.0 == l.0) refl
  where
    go : (b : Bool) → (o.0 == l.0) ≡ b → IsLeasedFrom m (cond b Local (Draining o lease flying))
    go true e = absurd (other (sym h ∙ eqb-true o.0 l.0 e))
    go false e = h

-- a slab that asks goes on asking
asks_lost : (l m : Lender) (state : SlabState) → slabs.asks m state ≡ true → slabs.asks m (slabs.after_lost l state) ≡ true
asks_lost l m Local h = cc
asks_lost l m (Asking pair) h = h
asks_lost l m (Borrowing o) h = cc
asks_lost l m (Mapped o lease flying) h = cc
asks_lost l m (Draining o lease flying) h = cc

borrowing_lost : (l m : Lender) (state : SlabState) → (m.0 ≡ l.0 → ⊥) → state ≡ Borrowing m → slabs.after_lost l state ≡ Borrowing m
borrowing_lost l m state other is = ap (slabs.after_lost l) is ∙ go (m.0 == l.0) refl
  where
    go : (b : Bool) → (m.0 == l.0) ≡ b → cond b Local (Borrowing m) ≡ Borrowing m
    go true e = absurd (other (eqb-true m.0 l.0 e))
    go false e = refl

awaited_lost :
    (s : Sizes) (H : History) (cs : Calls) (states : List SlabState) (l m : Lender) (y : Request) → (m.0 ≡ l.0 → ⊥) → IsAwaited s H cs states m y
    → IsAwaited s H (calls.lost_after cs l) (slabs.lost_after states l) m y
awaited_lost s H cs states l m (Query u) other k = (k.0, ap (slabs.asks m) (state-lost states l u.0) ∙ asks_lost l m (slabs.state_of states u) k.1)
awaited_lost s H cs states l m (Borrow u) other k = (k.0, state-lost states l u.0 ∙ borrowing_lost l m (slabs.state_of states u) other k.1)
awaited_lost s H cs states l m (Write p e) other k =
    (k.0, subst (λ y. IsLeasedFrom m y) (sym (state-lost states l (slab_of s p.0))) (mapped_lost l m (state_for s states p) other k.1), k.2)
awaited_lost s H cs states l m (Read c p) other k = (
  k.0,
  k.1,
  subst (λ y. IsLeasedFrom m y) (sym (state-lost states l (slab_of s p.0))) (mapped_lost l m (state_for s states p) other k.2),
  let P : CallState → Type 0 = λ y. WaitsFrom m p y in subst P (sym (call-lost cs l c.0)) (waits_lost l m p (state_of cs c) other k.3),
)

owed_lost :
    (H : History) (cs : Calls) (l : Lender) (ring : List Request) (pages : List (List ℕ)) → AreOwed H cs ring pages
    → AreOwed H (calls.lost_after cs l) ring pages
owed_lost H cs l [] [] o = o
owed_lost H cs l [] (page ∷ pages) o = o
owed_lost H cs l (Query u ∷ ring) pages o = owed_lost H cs l ring pages o
owed_lost H cs l (Borrow u ∷ ring) pages o = owed_lost H cs l ring pages o
owed_lost H cs l (Write p e ∷ ring) pages o = owed_lost H cs l ring pages o
owed_lost H cs l (Read c p ∷ ring) [] o = o
owed_lost H cs l (Read c p ∷ ring) (page ∷ pages) o = (
  let P : CallState → Type 0 = λ y. IsContent H page p y in
      subst P (sym (call-lost cs l c.0)) (content_lost l H page p (state_of cs c) o.0),
  owed_lost H cs l ring pages o.1,
)

-- a slab after a loss
slab_lost :
    (s : Sizes) (links : List LinkState) (l : Lender) (u : Slab) (state : SlabState) → SlabFits s links u state
    → SlabFits s (rings.lost_after links l) u (slabs.after_lost l state)
slab_lost s links l u Local k = tt
slab_lost s links l u (Asking pair) k = tt
slab_lost s links l u (Borrowing m) k = go (m.0 == l.0) refl
  where
    go : (b : Bool) → (m.0 == l.0) ≡ b → SlabFits s (rings.lost_after links l) u (cond b Local (Borrowing m))
    go true e = tt
    go false e = ap (λ (y : LinkState). y.up) (link-other links l m down (eqb-false m.0 l.0 e)) ∙ k
slab_lost s links l u (Mapped m lease flying) k = go (m.0 == l.0) refl
  where
    go : (b : Bool) → (m.0 == l.0) ≡ b → SlabFits s (rings.lost_after links l) u (cond b Local (Mapped m lease flying))
    go true e = tt
    go false e =
        let P : LinkState → Type 0 = λ y. (y.up ≡ true) × (flying ≡ count_for y) in subst P (sym (link-other links l m down (eqb-false m.0 l.0 e))) k
      where
        count_for : LinkState → ℕ
        count_for y = flying_for s u y.ring
slab_lost s links l u (Draining m lease flying) k = go (m.0 == l.0) refl
  where
    go : (b : Bool) → (m.0 == l.0) ≡ b → SlabFits s (rings.lost_after links l) u (cond b Local (Draining m lease flying))
    go true e = tt
    go false e =
        let P : LinkState → Type 0 = λ y. (y.up ≡ true) × (flying ≡ count_for y) in subst P (sym (link-other links l m down (eqb-false m.0 l.0 e))) k
      where
        count_for : LinkState → ℕ
        count_for y = flying_for s u y.ring

-- a page after a loss
page_lost :
    (keeps keeps' : Keeping) (s : Sizes) (H : History) (links : List LinkState) (l : Lender) (q : Page) (bit : Bool) (state : SlabState)
    → KeepsOthers l keeps keeps' → PageFits keeps s H links q bit state
    → PageFits keeps' s H (rings.lost_after links l) q (bit && not (slabs.is_at l state)) (slabs.after_lost l state)
page_lost keeps keeps' s H links l q bit Local kept h = and_left bit true h
page_lost keeps keeps' s H links l q bit (Asking pair) kept h = and_left bit true h
page_lost keeps keeps' s H links l q bit (Draining m lease flying) kept h = go (m.0 == l.0)
  where
    go : (b : Bool) → PageFits keeps' s H (rings.lost_after links l) q (bit && not b) (cond b Local (Draining m lease flying))
    go true = and_left bit false h
    go false = and_left bit true h
page_lost keeps keeps' s H links l q bit (Borrowing m) kept h = go (m.0 == l.0)
  where
    go : (b : Bool) → PageFits keeps' s H (rings.lost_after links l) q (bit && not b) (cond b Local (Borrowing m))
    go true = and_left bit false h
    go false = and_left bit true h
page_lost keeps keeps' s H links l q bit (Mapped m lease flying) kept h = go (m.0 == l.0) refl
  where
    go : (b : Bool) → (m.0 == l.0) ≡ b → PageFits keeps' s H (rings.lost_after links l) q (bit && not b) (cond b Local (Mapped m lease flying))
    go true e = and-false bit
    go false e =
        let other : m.0 ≡ l.0 → ⊥ = eqb-false m.0 l.0 e in
        let P : Bool → Type 0 = λ x. PageFits keeps' s H (rings.lost_after links l) q x (Mapped m lease flying) in
        subst P (sym (and-true bit))
        (mapped_stays keeps keeps' s H links (rings.lost_after links l) q bit m lease flying flying
        (ap (λ (y : LinkState). latest_write q y.ring) (link-other links l m down other)) (kept m other lease (place_of s q.0)) h)

pub lost_serves :
    (keeps keeps' : Keeping) (owes owes' : Owing) (s : Sizes) (n : ℕ) (H : History) (cs : Calls) (r : Remote) (l : Lender) → Serves keeps owes s n H cs r
    → l.0 < MOST_LENDERS → KeepsOthers l keeps keeps' → OwesOthers l owes owes' → Serves keeps' owes' s n H (calls.lost_after cs l) (remote.lost_after s r l)
lost_serves keeps keeps' owes owes' s n H cs r l k within kept owed =
    let link_in : l.0 < length r.links = subst (λ m. l.0 < m) (sym k.links_len) within in
    record {
      slabs_len = length-map r.slabs _ ∙ k.slabs_len;
      bits_len = length-left s r.slabs l r.bits 0 ∙ k.bits_len;
      links_len = length-set r.links l.0 down ∙ k.links_len;
      few = k.few;
      calls_len = length-map cs _ ∙ k.calls_len;
      single = single_lost r.slabs l k.single;
      slab =
          λ u u_in. let P : SlabState → Type 0 = λ y. SlabFits s (rings.lost_after r.links l) u y in
          subst P (sym (state-lost r.slabs l u.0)) (slab_lost s r.links l u (slabs.state_of r.slabs u) (k.slab u u_in));
      link =
          λ m.
          by_lender (λ m. LinkFits owes' s n H (calls.lost_after cs l) (slabs.lost_after r.slabs l) m (link_of (rings.lost_after r.links l) m)) l m
          (let P : LinkState → Type 0 = λ y. LinkFits owes' s n H (calls.lost_after cs l) (slabs.lost_after r.slabs l) l y in
          subst P (sym (link-same r.links l down link_in))
          (record { quiet = λ _. refl; lender = λ up. absurd (no_up up); awaited = tt; ordered = tt; owed = λ up. absurd (no_up up) }))
          (λ other.
          let P : LinkState → Type 0 = λ y. LinkFits owes' s n H (calls.lost_after cs l) (slabs.lost_after r.slabs l) m y in
          let f : LinkFits owes s n H cs r.slabs m (link_of r.links m) = k.link m in
          subst P (sym (link-other r.links l m down other))
          (record {
            quiet = f.quiet;
            lender = f.lender;
            awaited = All-implies (IsAwaited s H cs r.slabs m) _ (ring_of r.links m) (λ y h. awaited_lost s H cs r.slabs l m y other h) f.awaited;
            ordered = f.ordered;
            owed =
                λ up. let o = f.owed up in
                record { pages = o.pages; owed = owed m other o.pages o.owed; reads = owed_lost H cs l (ring_of r.links m) o.pages o.reads };
          }));
      page =
          λ q q_in.
          let bit : get_or (left_from s r.slabs l r.bits 0) q.0 false ≡ (has_page r q && not (slabs.is_at l (state_for s r.slabs q))) =
          get_or-left s r.slabs l r.bits 0 q.0
          ∙ ap (λ m. has_page r q && not (slabs.is_at l (slabs.state_of r.slabs (record { 0 = slab_of s m })))) (zero-add q.0) in
          let P : SlabState → Type 0 = λ y. PageFits keeps' s H (rings.lost_after r.links l) q (get_or (left_from s r.slabs l r.bits 0) q.0 false) y in
          let Q : Bool → Type 0 = λ b. PageFits keeps' s H (rings.lost_after r.links l) q b (slabs.after_lost l (state_for s r.slabs q)) in
          subst P (sym (state-lost r.slabs l (slab_of s q.0)))
          (subst Q (sym bit) (page_lost keeps keeps' s H r.links l q (has_page r q) (state_for s r.slabs q) kept (k.page q q_in)));
    }
  where
    no_up : false ≡ true → ⊥
    no_up e = cc

-- a link is made, where none was up
up_of :
    (s : Sizes) (links : List LinkState) (u : Slab) (m : Lender) (j : Lease) (state : SlabState) → SlabFits s links u state → slabs.has_lease m j state ≡ true
    → is_up links m ≡ true
up_of s links u m j Local k has = cc
up_of s links u m j (Asking pair) k has = cc
up_of s links u m j (Borrowing o) k has = cc
up_of s links u m j (Mapped o lease flying) k has =
    subst (λ n. is_up links (record { 0 = n }) ≡ true) (eqb-true o.0 m.0 (and_first (o.0 == m.0) (lease.0 == j.0) has)) k.0
  where
    and_first : (a b : Bool) → (a && b) ≡ true → a ≡ true
    and_first true b is = refl
    and_first false b is = cc
up_of s links u m j (Draining o lease flying) k has =
    subst (λ n. is_up links (record { 0 = n }) ≡ true) (eqb-true o.0 m.0 (and_first (o.0 == m.0) (lease.0 == j.0) has)) k.0
  where
    and_first : (a b : Bool) → (a && b) ≡ true → a ≡ true
    and_first true b is = refl
    and_first false b is = cc

slab_raised :
    (s : Sizes) (links : List LinkState) (l : Lender) (u : Slab) (state : SlabState) → is_up links l ≡ false → SlabFits s links u state
    → SlabFits s (rings.raised_after links l) u state
slab_raised s links l u Local off k = tt
slab_raised s links l u (Asking pair) off k = tt
slab_raised s links l u (Borrowing m) off k = ap (λ (y : LinkState). y.up) (link-other links l m link_at_start (λ e. up_and_down links l m e off k)) ∙ k
  where
    up_and_down : (links : List LinkState) (l m : Lender) → m.0 ≡ l.0 → is_up links l ≡ false → is_up links m ≡ true → ⊥
    up_and_down links l m e off up = let down' : is_up links m ≡ false = subst (λ n. is_up links (record { 0 = n }) ≡ false) (sym e) off in cc
slab_raised s links l u (Mapped m lease flying) off k =
    let P : LinkState → Type 0 = λ y. (y.up ≡ true) × (flying ≡ flying_for s u y.ring) in
    subst P (sym (link-other links l m link_at_start (λ e. up_and_down links l m e off k.0))) k
  where
    up_and_down : (links : List LinkState) (l m : Lender) → m.0 ≡ l.0 → is_up links l ≡ false → is_up links m ≡ true → ⊥
    up_and_down links l m e off up = let down' : is_up links m ≡ false = subst (λ n. is_up links (record { 0 = n }) ≡ false) (sym e) off in cc
slab_raised s links l u (Draining m lease flying) off k =
    let P : LinkState → Type 0 = λ y. (y.up ≡ true) × (flying ≡ flying_for s u y.ring) in
    subst P (sym (link-other links l m link_at_start (λ e. up_and_down links l m e off k.0))) k
  where
    up_and_down : (links : List LinkState) (l m : Lender) → m.0 ≡ l.0 → is_up links l ≡ false → is_up links m ≡ true → ⊥
    up_and_down links l m e off up = let down' : is_up links m ≡ false = subst (λ n. is_up links (record { 0 = n }) ≡ false) (sym e) off in cc

pub raised_serves :
    (keeps keeps' : Keeping) (owes owes' : Owing) (s : Sizes) (n : ℕ) (H : History) (cs : Calls) (r : Remote) (l : Lender) → Serves keeps owes s n H cs r
    → l.0 < n → is_up r.links l ≡ false → KeepsOthers l keeps keeps' → OwesOthers l owes owes' → owes' l []
    → Serves keeps' owes' s n H cs (remote.raised_after r l)
raised_serves keeps keeps' owes owes' s n H cs r l k within off kept owed none =
    let link_in : l.0 < length r.links = subst (λ m. l.0 < m) (sym k.links_len) (omega (arith, within, k.few)) in
    record {
      slabs_len = k.slabs_len;
      bits_len = k.bits_len;
      links_len = length-set r.links l.0 link_at_start ∙ k.links_len;
      few = k.few;
      calls_len = k.calls_len;
      single = k.single;
      slab = λ u u_in. slab_raised s r.links l u (slabs.state_of r.slabs u) off (k.slab u u_in);
      link =
          λ m.
          by_lender (λ m. LinkFits owes' s n H cs r.slabs m (link_of (rings.raised_after r.links l) m)) l m
          (let P : LinkState → Type 0 = λ y. LinkFits owes' s n H cs r.slabs l y in
          subst P (sym (link-same r.links l link_at_start link_in))
          (record { quiet = λ _. refl; lender = λ _. within; awaited = tt; ordered = tt; owed = λ _. record { pages = []; owed = none; reads = tt } }))
          (λ other. let P : LinkState → Type 0 = λ y. LinkFits owes' s n H cs r.slabs m y in
          subst P (sym (link-other r.links l m link_at_start other))
          (link_stays owes owes' s n H cs r.slabs r.slabs m (link_of r.links m) (λ y h. h) (owed m other) (k.link m)));
      page =
          λ q q_in.
          page_stays keeps keeps' s H r.links (rings.raised_after r.links l) q (has_page r q) (state_for s r.slabs q) (λ m j has.
          let other : m.0 ≡ l.0 → ⊥ =
          λ e.
          up_and_down r.links l m e off
          (up_of s r.links (slab_for s q) m j (state_for s r.slabs q) (k.slab (slab_for s q) (slab_within s q.0 q_in)) has) in
          (ap (λ (y : LinkState). latest_write q y.ring) (link-other r.links l m link_at_start other), kept m other j (place_of s q.0))) (k.page q q_in);
    }
  where
    up_and_down : (links : List LinkState) (l m : Lender) → m.0 ≡ l.0 → is_up links l ≡ false → is_up links m ≡ true → ⊥
    up_and_down links l m e off up = let down' : is_up links m ≡ false = subst (λ n. is_up links (record { 0 = n }) ≡ false) (sym e) off in cc

-- the device as it is made
get_or-same : {X : Type 0} (n i : ℕ) (x : X) → get_or (replicate n x) i x ≡ x
get_or-same zero i x = refl
get_or-same (suc n) zero x = refl
get_or-same (suc n) (suc i) x = get_or-same n i x

pub new_serves : (keeps : Keeping) (owes : Owing) (s : Sizes) (n : ℕ) → n ≤ MOST_LENDERS
    → Serves keeps owes s n [] (calls.all_idle s.callers) (remote.remote_at_start s)
new_serves keeps owes s n few = record {
  slabs_len = length-replicate s.slabs Local;
  bits_len = length-replicate (pages_of s) false;
  links_len = length-replicate MOST_LENDERS down;
  few = few;
  calls_len = length-replicate s.callers calls.idle_call;
  single = single_local s.slabs;
  slab = λ u u_in. let P : SlabState → Type 0 = λ y. SlabFits s (rings.all_down MOST_LENDERS) u y in subst P (sym (get_or-same s.slabs u.0 Local)) tt;
  link =
      λ m. let P : LinkState → Type 0 = λ y. LinkFits owes s n [] (calls.all_idle s.callers) (slabs.all_local s.slabs) m y in
      subst P (sym (get_or-same MOST_LENDERS m.0 down))
      (record { quiet = λ _. refl; lender = λ up. absurd (no_up up); awaited = tt; ordered = tt; owed = λ up. absurd (no_up up) });
  page =
      λ q q_in.
      let P : SlabState → Type 0 = λ y. PageFits keeps s [] (rings.all_down MOST_LENDERS) q (get_or (replicate (pages_of s) false) q.0 false) y in
      subst P (sym (get_or-same s.slabs (slab_of s q.0) Local)) (get_or-same (pages_of s) q.0 false);
}
  where
    no_up : false ≡ true → ⊥
    no_up e = cc
