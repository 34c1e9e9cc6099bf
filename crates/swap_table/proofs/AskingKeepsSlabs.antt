-- A slab asks for a place: queries are sent, and lenders tell their room or are gone.
use Rattle.std.proofs.Common.{◌≡◌, ℕ, ◌<◌, Bool, true, false, cond, ◌==◌, ◌&&◌, ◌||◌, List, [], ◌∷◌, length, refl, sym, ap, ◌∙◌, subst, arith, length-set, Option, None, Some}
use Rattle.std.proofs.lemmas.Bool.{eqb-true, eq-eqb}
use Rattle.std.specs.List.{AllByRecursion}
use Rattle.swap_base.specs.declared.Page.{Page}
use Rattle.swap_base.specs.declared.Slab.{Slab}
use Rattle.swap_base.specs.declared.Lender.{Lender}
use Rattle.swap_base.specs.declared.Lease.{Lease}
use Rattle.swap_base.specs.Sizes.{Sizes, place_of}
use Rattle.swap_record.specs.History.{History}
use Rattle.swap_calls.specs.Calls.{Calls}
use Rattle.swap_slabs.specs.Slabs as slabs
use Rattle.swap_slabs.specs.declared.Reply.{Reply}
use Rattle.swap_slabs.specs.declared.Reply.TheVariants as reply
use Rattle.swap_slabs.specs.declared.Pair.{Pair}
use Rattle.swap_slabs.specs.declared.SlabState.{SlabState}
use Rattle.swap_slabs.specs.declared.SlabState.TheVariants.{Local, Asking, Borrowing, Mapped, Draining}
use Rattle.swap_rings.specs.Rings as rings
use Rattle.swap_rings.specs.Rings.{LinkState, link_of, ring_of, is_up}
use Rattle.swap_rings.specs.declared.Request.{Request}
use Rattle.swap_rings.specs.declared.Request.TheVariants.{Query, Borrow, Write, Read}
use Rattle.swap_remote.specs.Remote as remote
use Rattle.swap_remote.specs.Remote.{Remote, slab_for, state_for, has_page}
use Rattle.swap_table.specs.Serves.{Keeping, Owing, latest_write, IsLeasedFrom, IsAwaited, MayPrecede, LinkFits, SlabFits, PageFits, AreSingle, Serves}
use Rattle.swap_base.proofs.Lists.{All-implies}
use Rattle.swap_table.proofs.LeasesStayDistinct.{single_fewer}
use Rattle.swap_table.proofs.LinkTables.{by_lender, by_slab, state-same, state-other, latest-append}
use Rattle.swap_table.proofs.SendsKeepServing.{sent-same, sent-other, link_sent, link_stays, slab_sent}
use Rattle.swap_table.proofs.RequestsKeepServing.{KeepsAll, OwesAll, page_stays, owed-append_query}
use Rattle.swap_table.proofs.RepliesKeepServing.{All-with, answered_serves}
use Rattle.swap_table.proofs.LendingKeepsSlabs.{BorrowsNot, awaited_set, mapped_set, latest_answered}
use Rattle.swap_base.proofs.Bools.{and_parts, or_left, or_right}

-- a slab that is local, or asks
abbrev pub IsHome : SlabState → Type 0
IsHome Local = Unit {0}
IsHome (Asking pair) = Unit {0}
IsHome (Borrowing l) = ⊥
IsHome (Mapped l lease flying) = ⊥
IsHome (Draining l lease flying) = ⊥

home_unleased : (m : Lender) (state : SlabState) → IsHome state → IsLeasedFrom m state → ⊥
home_unleased m Local home h = h
home_unleased m (Asking pair) home h = h
home_unleased m (Borrowing l) home h = h
home_unleased m (Mapped l lease flying) home h = home
home_unleased m (Draining l lease flying) home h = home

home_lease : (m : Lender) (k : Lease) (state : SlabState) → IsHome state → slabs.has_lease m k state ≡ true → ⊥
home_lease m k Local home h = cc
home_lease m k (Asking pair) home h = cc
home_lease m k (Borrowing l) home h = cc
home_lease m k (Mapped l lease flying) home h = home
home_lease m k (Draining l lease flying) home h = home

home_borrows : (m : Lender) (state : SlabState) → IsHome state → state ≡ Borrowing m → ⊥
home_borrows m state home is = subst IsHome is home

home_fits : (s : Sizes) (links : List LinkState) (t : Slab) (state : SlabState) → IsHome state → SlabFits s links t state
home_fits s links t Local home = tt
home_fits s links t (Asking pair) home = tt
home_fits s links t (Borrowing l) home = absurd home
home_fits s links t (Mapped l lease flying) home = absurd home
home_fits s links t (Draining l lease flying) home = absurd home

-- no page of it can be read
home_clear :
    (keeps : Keeping) (s : Sizes) (H : History) (links : List LinkState) (q : Page) (bit : Bool) (state : SlabState) → IsHome state
    → PageFits keeps s H links q bit state → bit ≡ false
home_clear keeps s H links q bit Local home h = h
home_clear keeps s H links q bit (Asking pair) home h = h
home_clear keeps s H links q bit (Borrowing l) home h = absurd home
home_clear keeps s H links q bit (Mapped l lease flying) home h = absurd home
home_clear keeps s H links q bit (Draining l lease flying) home h = absurd home

home_page :
    (keeps : Keeping) (s : Sizes) (H : History) (links : List LinkState) (q : Page) (bit : Bool) (state : SlabState) → IsHome state → bit ≡ false
    → PageFits keeps s H links q bit state
home_page keeps s H links q bit Local home clear = clear
home_page keeps s H links q bit (Asking pair) home clear = clear
home_page keeps s H links q bit (Borrowing l) home clear = absurd home
home_page keeps s H links q bit (Mapped l lease flying) home clear = absurd home
home_page keeps s H links q bit (Draining l lease flying) home clear = absurd home

-- what is awaited, where a slab at home has a new state and asks whom it asked
awaited_home :
    (s : Sizes) (H : History) (cs : Calls) (states : List SlabState) (t : Slab) (state : SlabState) (m : Lender) (y : Request) → t.0 < length states
    → IsHome (slabs.state_of states t) → (slabs.asks m (slabs.state_of states t) ≡ true → slabs.asks m state ≡ true) → IsAwaited s H cs states m y
    → IsAwaited s H cs (slabs.with_state states t state) m y
awaited_home s H cs states t state m (Query u) within home asks k = (
  k.0,
  by_slab (λ u. slabs.asks m (slabs.state_of states u) ≡ true → slabs.asks m (slabs.state_of (slabs.with_state states t state) u) ≡ true) t u
      (λ e. ap (slabs.asks m) (state-same states t state within) ∙ asks e) (λ other e. ap (slabs.asks m) (state-other states t u state other) ∙ e) k.1,
)
awaited_home s H cs states t state m (Borrow u) within home asks k = (
  k.0,
  by_slab (λ u. slabs.state_of states u ≡ Borrowing m → slabs.state_of (slabs.with_state states t state) u ≡ Borrowing m) t u
      (λ e. absurd (home_borrows m (slabs.state_of states t) home e)) (λ other e. state-other states t u state other ∙ e) k.1,
)
awaited_home s H cs states t state m (Write p e) within home asks k =
    (k.0, mapped_set states t (slab_for s p) state m (home_unleased m (slabs.state_of states t) home) k.1, k.2)
awaited_home s H cs states t state m (Read c p) within home asks k =
    (k.0, k.1, mapped_set states t (slab_for s p) state m (home_unleased m (slabs.state_of states t) home) k.2, k.3)

home_single :
    (states : List SlabState) (t : Slab) (state : SlabState) → t.0 < length states → IsHome state → AreSingle states
    → AreSingle (slabs.with_state states t state)
home_single states t state within home single = single_fewer states t state within (λ m j h. absurd (home_lease m j state home h)) single

-- a page, where a slab at home has a new state
page_home :
    (keeps keeps' : Keeping) (s : Sizes) (H : History) (r : Remote) (links : List LinkState) (q : Page) (t : Slab) (state : SlabState) → t.0 < length r.slabs
    → IsHome (slabs.state_of r.slabs t) → IsHome state → KeepsAll keeps keeps'
    → ((m : Lender) → latest_write q (ring_of links m) ≡ latest_write q (ring_of r.links m))
    → PageFits keeps s H r.links q (has_page r q) (state_for s r.slabs q)
    → PageFits keeps' s H links q (has_page r q) (state_for s (slabs.with_state r.slabs t state) q)
page_home keeps keeps' s H r links q t state within was home kept same h =
    by_slab
    (λ u. PageFits keeps s H r.links q (has_page r q) (slabs.state_of r.slabs u)
    → PageFits keeps' s H links q (has_page r q) (slabs.state_of (slabs.with_state r.slabs t state) u))
    t
    (slab_for s q)
    (λ h.
    let Q : SlabState → Type 0 = λ y. PageFits keeps' s H links q (has_page r q) y in
    subst Q (sym (state-same r.slabs t state within))
    (home_page keeps' s H links q (has_page r q) state home (home_clear keeps s H r.links q (has_page r q) (slabs.state_of r.slabs t) was h)))
    (λ other h.
    let Q : SlabState → Type 0 = λ y. PageFits keeps' s H links q (has_page r q) y in
    subst Q (sym (state-other r.slabs t (slab_for s q) state other))
    (page_stays keeps keeps' s H r.links links q (has_page r q) (state_for s r.slabs q) (λ m j has. (same m, kept m j (place_of s q.0))) h))
    h

slab_home :
    (s : Sizes) (states : List SlabState) (links links' : List LinkState) (t u : Slab) (state : SlabState) → t.0 < length states → IsHome state
    → ((u : Slab) (y : SlabState) → SlabFits s links u y → SlabFits s links' u y) → SlabFits s links u (slabs.state_of states u)
    → SlabFits s links' u (slabs.state_of (slabs.with_state states t state) u)
slab_home s states links links' t u state within home each h =
    by_slab (λ u. SlabFits s links u (slabs.state_of states u) → SlabFits s links' u (slabs.state_of (slabs.with_state states t state) u)) t u
    (λ _. let P : SlabState → Type 0 = λ y. SlabFits s links' t y in subst P (sym (state-same states t state within)) (home_fits s links' t state home))
    (λ other h. let P : SlabState → Type 0 = λ y. SlabFits s links' u y in
    subst P (sym (state-other states t u state other)) (each u (slabs.state_of states u) h))
    h

latest-query :
    (links : List LinkState) (l m : Lender) (t : Slab) (q : Page) → l.0 < length links
    → latest_write q (ring_of (rings.sent_after links l (Query t)) m) ≡ latest_write q (ring_of links m)
latest-query links l m t q within =
    by_lender (λ m. latest_write q (ring_of (rings.sent_after links l (Query t)) m) ≡ latest_write q (ring_of links m)) l m
    (ap (λ (k : LinkState). latest_write q k.ring) (sent-same links l (Query t) within) ∙ latest-append q (ring_of links l) (Query t))
    (λ other. ap (λ (k : LinkState). latest_write q k.ring) (sent-other links l m (Query t) other))

-- a query comes after the requests under way on a link that the slab didn't ask on
before_query :
    (s : Sizes) (H : History) (cs : Calls) (states : List SlabState) (t : Slab) (l : Lender) (y : Request) → (slabs.asks l (slabs.state_of states t) ≡ true → ⊥)
    → IsAwaited s H cs states l y → MayPrecede y (Query t)
before_query s H cs states t l (Query u) quiet k = λ same. quiet (subst (λ n. slabs.asks l (slabs.state_of states (record { 0 = n })) ≡ true) same k.1)
before_query s H cs states t l (Borrow u) quiet k = tt
before_query s H cs states t l (Write p e) quiet k = tt
before_query s H cs states t l (Read c p) quiet k = tt

-- a slab at home has a new state in which it asks one lender more, to which a query was sent
query_serves : (keeps keeps' : Keeping) (owes owes' : Owing) (s : Sizes) (n : ℕ) (H : History) (cs : Calls) (r : Remote) (t : Slab) (l : Lender)
    (state : SlabState)
    → Serves keeps owes s n H cs r → t.0 < s.slabs → IsHome (slabs.state_of r.slabs t) → IsHome state → is_up r.links l ≡ true
    → (slabs.asks l (slabs.state_of r.slabs t) ≡ true → ⊥) → slabs.asks l state ≡ true
    → ((m : Lender) → slabs.asks m (slabs.state_of r.slabs t) ≡ true → slabs.asks m state ≡ true) → KeepsAll keeps keeps' → OwesAll owes owes'
    → Serves keeps' owes' s n H cs (record r { slabs = slabs.with_state r.slabs t state; links = rings.sent_after r.links l (Query t) })
query_serves keeps keeps' owes owes' s n H cs r t l state k within was home up quiet asks more kept owed =
    let x : Request = Query t in
    let states' : List SlabState = slabs.with_state r.slabs t state in
    let slab_in : t.0 < length r.slabs = subst (λ m. t.0 < m) (sym k.slabs_len) within in
    let lender_in : l.0 < n = (k.link l).lender up in
    let link_in : l.0 < length r.links = subst (λ m. l.0 < m) (sym k.links_len) (omega (arith, lender_in, k.few)) in
    let each : (m : Lender) (y : Request) → IsAwaited s H cs r.slabs m y → IsAwaited s H cs states' m y =
    λ m y h. awaited_home s H cs r.slabs t state m y slab_in was (more m) h in
    record {
      slabs_len = length-set r.slabs t.0 state ∙ k.slabs_len;
      bits_len = k.bits_len;
      links_len = length-set r.links l.0 _ ∙ k.links_len;
      few = k.few;
      calls_len = k.calls_len;
      single = home_single r.slabs t state slab_in home k.single;
      slab =
          λ u u_in.
          slab_home s r.slabs r.links (rings.sent_after r.links l x) t u state slab_in home (λ u y h. slab_sent s r.links l x u y link_in refl h)
          (k.slab u u_in);
      link =
          λ m.
          by_lender (λ m. LinkFits owes' s n H cs states' m (link_of (rings.sent_after r.links l x) m)) l m
          (let P : LinkState → Type 0 = λ y. LinkFits owes' s n H cs states' l y in
          subst P (sym (sent-same r.links l x link_in))
          (link_sent owes owes' s n H cs r.slabs states' l (link_of r.links l) x up (each l)
          (within, ap (slabs.asks l) (state-same r.slabs t state slab_in) ∙ asks)
          (All-implies (IsAwaited s H cs r.slabs l) (λ y. MayPrecede y x) (ring_of r.links l) (λ y h. before_query s H cs r.slabs t l y quiet h)
          (k.link l).awaited)
          (λ o. record { pages = o.pages; owed = owed l o.pages o.owed; reads = owed-append_query H cs (ring_of r.links l) o.pages t o.reads }) (k.link l)))
          (λ other.
          let P : LinkState → Type 0 = λ y. LinkFits owes' s n H cs states' m y in
          subst P (sym (sent-other r.links l m x other)) (link_stays owes owes' s n H cs r.slabs states' m (link_of r.links m) (each m) (owed m) (k.link m)));
      page =
          λ q q_in.
          page_home keeps keeps' s H r (rings.sent_after r.links l x) q t state slab_in was home kept (λ m. latest-query r.links l m t q link_in)
          (k.page q q_in);
    }

-- a pair asks its first, and its second where there is one
asks_first : (l : Lender) (second : Option Lender) → slabs.asks l (Asking (slabs.pair_of l second)) ≡ true
asks_first l second = ap (λ b. (b && true) || (slabs.is_lender l second && slabs.is_waiting (slabs.asked_of second))) (eq-eqb l.0 l.0 refl)

asks_second : (m l : Lender) → slabs.asks l (Asking (slabs.pair_of m (Some l))) ≡ true
asks_second m l = or_right ((m.0 == l.0) && true) ((l.0 == l.0) && true) (ap (λ b. b && true) (eq-eqb l.0 l.0 refl))

-- one that asked a first alone asks nobody else
asks_one : (m l : Lender) → slabs.asks l (Asking (slabs.pair_of m None)) ≡ true → m.0 ≡ l.0
asks_one m l h = go (m.0 == l.0) refl h
  where
    go : (b : Bool) → (m.0 == l.0) ≡ b → ((b && true) || false) ≡ true → m.0 ≡ l.0
    go true e h = eqb-true m.0 l.0 e
    go false e h = cc

asks_still : (m l o : Lender) → slabs.asks o (Asking (slabs.pair_of m None)) ≡ true → slabs.asks o (Asking (slabs.pair_of m (Some l))) ≡ true
asks_still m l o h = or_left ((m.0 == o.0) && true) ((l.0 == o.0) && true) (go (m.0 == o.0) h)
  where
    go : (b : Bool) → ((b && true) || false) ≡ true → (b && true) ≡ true
    go true h = refl
    go false h = cc

pub query_sent_serves : (keeps keeps' : Keeping) (owes owes' : Owing) (s : Sizes) (n : ℕ) (H : History) (cs : Calls) (r : Remote) (t : Slab) (l : Lender)
    → Serves keeps owes s n H cs r → t.0 < s.slabs → slabs.state_of r.slabs t ≡ Local → is_up r.links l ≡ true → KeepsAll keeps keeps' → OwesAll owes owes'
    → Serves keeps' owes' s n H cs (remote.query_sent r t None l)
query_sent_serves keeps keeps' owes owes' s n H cs r t l k within local up kept owed =
    query_serves keeps keeps' owes owes' s n H cs r t l (Asking (slabs.pair_of l None)) k within (subst IsHome (sym local) tt) tt up (silent l)
    (asks_first l None) (λ m h. absurd (silent m h)) kept owed
  where
    not_both : false ≡ true → ⊥
    not_both e = cc

    silent : (m : Lender) → slabs.asks m (slabs.state_of r.slabs t) ≡ true → ⊥
    silent m h = not_both (sym (ap (slabs.asks m) local) ∙ h)

pub query_too_serves : (keeps keeps' : Keeping) (owes owes' : Owing) (s : Sizes) (n : ℕ) (H : History) (cs : Calls) (r : Remote) (t : Slab) (m l : Lender)
    → Serves keeps owes s n H cs r → t.0 < s.slabs → slabs.state_of r.slabs t ≡ Asking (slabs.pair_of m None) → (m.0 ≡ l.0 → ⊥) → is_up r.links l ≡ true
    → KeepsAll keeps keeps' → OwesAll owes owes' → Serves keeps' owes' s n H cs (remote.query_sent r t (Some m) l)
query_too_serves keeps keeps' owes owes' s n H cs r t m l k within is other up kept owed =
    query_serves keeps keeps' owes owes' s n H cs r t l (Asking (slabs.pair_of m (Some l))) k within (subst IsHome (sym is) tt) tt up
    (λ h. other (asks_one m l (asks_as l h))) (asks_second m l) (λ o h. asks_still m l o (asks_as o h)) kept owed
  where
    asks_as : (o : Lender) → slabs.asks o (slabs.state_of r.slabs t) ≡ true → slabs.asks o (Asking (slabs.pair_of m None)) ≡ true
    asks_as o h = sym (ap (slabs.asks o) is) ∙ h

-- after one lender's reply every other that was asked is still waited for
or_parts : (a b : Bool) → (a || b) ≡ true → (a ≡ false) → b ≡ true
or_parts true b h off = cc
or_parts false b h off = h

others_asked :
    (l m : Lender) (pair : Pair) (reply : Reply) → (m.0 ≡ l.0 → ⊥) → slabs.waits_for pair l ≡ true → slabs.waits_for pair m ≡ true
    → slabs.asks m (slabs.answered_state (slabs.with_reply pair l reply)) ≡ true
others_asked l m pair reply other here there = go (pair.first.0 == l.0) refl
  where
    first_not : (pair.first.0 == l.0) ≡ true → (pair.first.0 == m.0) ≡ false
    first_not e = test (pair.first.0 == m.0) refl
      where
        test : (b : Bool) → (pair.first.0 == m.0) ≡ b → b ≡ false
        test true em = absurd (other (sym (eqb-true pair.first.0 m.0 em) ∙ eqb-true pair.first.0 l.0 e))
        test false em = refl

    asks_as : (p : Pair) → slabs.waits p ≡ true → slabs.waits_for p m ≡ true → slabs.asks m (slabs.answered_state p) ≡ true
    asks_as p some asks = ap (λ b. slabs.asks m (cond b (Asking p) Local)) some ∙ asks

    second_number : (o : Option Lender) → slabs.is_lender l o ≡ true → slabs.is_lender m o ≡ true → ⊥
    second_number None a b = cc
    second_number (Some o) a b = other (sym (eqb-true o.0 m.0 b) ∙ eqb-true o.0 l.0 a)

    go :
        (b : Bool) → (pair.first.0 == l.0) ≡ b → slabs.asks m (slabs.answered_state (cond b (record pair { one = reply }) (record pair { two = reply }))) ≡ true
    go true e =
        let second : (slabs.is_lender m pair.second && slabs.is_waiting pair.two) ≡ true =
        or_parts ((pair.first.0 == m.0) && slabs.is_waiting pair.one) (slabs.is_lender m pair.second && slabs.is_waiting pair.two) there
        (ap (λ b. b && slabs.is_waiting pair.one) (first_not e)) in
        let two : slabs.is_waiting pair.two ≡ true = (and_parts (slabs.is_lender m pair.second) (slabs.is_waiting pair.two) second).1 in
        asks_as (record pair { one = reply }) (or_right (slabs.is_waiting reply) (slabs.is_waiting pair.two) two)
        (or_right ((pair.first.0 == m.0) && slabs.is_waiting reply) (slabs.is_lender m pair.second && slabs.is_waiting pair.two) second)
    go false e =
        let second : (slabs.is_lender l pair.second && slabs.is_waiting pair.two) ≡ true =
        or_parts ((pair.first.0 == l.0) && slabs.is_waiting pair.one) (slabs.is_lender l pair.second && slabs.is_waiting pair.two) here
        (ap (λ b. b && slabs.is_waiting pair.one) e) in
        let first : ((pair.first.0 == m.0) && slabs.is_waiting pair.one) ≡ true =
        left (slabs.is_lender m pair.second) refl ((pair.first.0 == m.0) && slabs.is_waiting pair.one) there
        (and_parts (slabs.is_lender l pair.second) (slabs.is_waiting pair.two) second).0 in
        let one : slabs.is_waiting pair.one ≡ true = (and_parts (pair.first.0 == m.0) (slabs.is_waiting pair.one) first).1 in
        asks_as (record pair { two = reply }) (or_left (slabs.is_waiting pair.one) (slabs.is_waiting reply) one)
        (or_left ((pair.first.0 == m.0) && slabs.is_waiting pair.one) (slabs.is_lender m pair.second && slabs.is_waiting reply) first)
      where
        left :
            (b : Bool) → slabs.is_lender m pair.second ≡ b → (a : Bool) → (a || (b && slabs.is_waiting pair.two)) ≡ true → slabs.is_lender l pair.second ≡ true
            → a ≡ true
        left true is a h l_is = absurd (second_number pair.second l_is is)
        left false is true h l_is = refl
        left false is false h l_is = cc

-- a slab that asks, and what it is after a reply
after_home :
    (state : SlabState) (l : Lender) (reply : Reply) → slabs.asks l state ≡ true
    → IsHome state × IsHome (slabs.after_answer state l reply)
    × ((m : Lender) → (m.0 ≡ l.0 → ⊥) → slabs.asks m state ≡ true → slabs.asks m (slabs.after_answer state l reply) ≡ true)
after_home Local l reply h = cc
after_home (Borrowing o) l reply h = cc
after_home (Mapped o lease flying) l reply h = cc
after_home (Draining o lease flying) l reply h = cc
after_home (Asking pair) l reply h = (tt, go (slabs.waits (slabs.with_reply pair l reply)), λ m other there. others_asked l m pair reply other h there)
  where
    go : (b : Bool) → IsHome (cond b (Asking (slabs.with_reply pair l reply)) Local)
    go true = tt
    go false = tt

-- a lender that was asked tells its room
after_query :
    (t : Slab) (y : Request) (s : Sizes) (H : History) (cs : Calls) (states : List SlabState) (l : Lender) → IsHome (slabs.state_of states t)
    → MayPrecede (Query t) y → IsAwaited s H cs states l y → BorrowsNot t y
after_query t (Query u) s H cs states l home k a = λ same. k (sym same)
after_query t (Borrow u) s H cs states l home k a =
    λ same. home_borrows l (slabs.state_of states t) home (subst (λ n. slabs.state_of states (record { 0 = n }) ≡ Borrowing l) same a.1)
after_query t (Write p e) s H cs states l home k a = tt
after_query t (Read c p) s H cs states l home k a = tt

pub told_serves : (keeps keeps' : Keeping) (owes owes' : Owing) (s : Sizes) (n : ℕ) (H : History) (cs : Calls) (r : Remote) (l : Lender) (t : Slab) (free : ℕ)
    (rest : List Request)
    → Serves keeps owes s n H cs r → is_up r.links l ≡ true → ring_of r.links l ≡ Query t ∷ rest → KeepsAll keeps keeps' → OwesAll owes owes'
    → Serves keeps' owes' s n H cs (remote.told_after r l t free)
told_serves keeps keeps' owes owes' s n H cs r l t free rest k up ring kept owed =
    let x : Request = Query t in
    let awaited : AllByRecursion (IsAwaited s H cs r.slabs l) (x ∷ rest) =
    subst (λ ys. AllByRecursion (IsAwaited s H cs r.slabs l) ys) ring (k.link l).awaited in
    let within : t.0 < s.slabs = awaited.0.0 in
    let slab_in : t.0 < length r.slabs = subst (λ m. t.0 < m) (sym k.slabs_len) within in
    let lender_in : l.0 < n = (k.link l).lender up in
    let link_in : l.0 < length r.links = subst (λ m. l.0 < m) (sym k.links_len) (omega (arith, lender_in, k.few)) in
    let state : SlabState = slabs.after_answer (slabs.state_of r.slabs t) l (reply.Free free) in
    let a = after_home (slabs.state_of r.slabs t) l (reply.Free free) awaited.0.1 in
    let was : IsHome (slabs.state_of r.slabs t) = a.0 in
    let home : IsHome state = a.1 in
    answered_serves keeps keeps' owes owes' s n H cs cs r r.bits l x rest t state k
    (record {
      up = up;
      ring = ring;
      slab_in = within;
      off = λ u other. refl;
      single = home_single r.slabs t state slab_in home k.single;
      fits = home_fits s (rings.answered_after r.links l) t state home;
      calls_len = refl;
      here =
          λ after h.
          All-with (MayPrecede x) (IsAwaited s H cs r.slabs l) (IsAwaited s H cs (slabs.with_state r.slabs t state) l) rest
          (λ y b c. awaited_set s H cs r.slabs t state l y (home_unleased l (slabs.state_of r.slabs t) was) (after_query t y s H cs r.slabs l was b c) c)
          after h;
      there = λ m other y h. awaited_home s H cs r.slabs t state m y slab_in was (a.2 m other) h;
      owed = λ _ o. record { pages = o.pages; owed = owed l o.pages o.owed; reads = o.reads };
      others = λ m other _ o. record { pages = o.pages; owed = owed m o.pages o.owed; reads = o.reads };
    })
    refl
    (λ q q_in.
    page_home keeps keeps' s H r (rings.answered_after r.links l) q t state slab_in was home kept (λ m. latest_answered r.links l m x rest q link_in ring refl)
    (k.page q q_in))

-- a lender that was asked is gone, and its link is down
pub gone_serves :
    (keeps : Keeping) (owes : Owing) (s : Sizes) (n : ℕ) (H : History) (cs : Calls) (r : Remote) (l : Lender) (t : Slab) → Serves keeps owes s n H cs r
    → t.0 < s.slabs → is_up r.links l ≡ false → slabs.asks l (slabs.state_of r.slabs t) ≡ true → Serves keeps owes s n H cs (remote.gone_after r l t)
gone_serves keeps owes s n H cs r l t k within off asks =
    let slab_in : t.0 < length r.slabs = subst (λ m. t.0 < m) (sym k.slabs_len) within in
    let state : SlabState = slabs.after_answer (slabs.state_of r.slabs t) l reply.Gone in
    let states' : List SlabState = slabs.with_state r.slabs t state in
    let a = after_home (slabs.state_of r.slabs t) l reply.Gone asks in
    let was : IsHome (slabs.state_of r.slabs t) = a.0 in
    let home : IsHome state = a.1 in
    record {
      slabs_len = length-set r.slabs t.0 state ∙ k.slabs_len;
      bits_len = k.bits_len;
      links_len = k.links_len;
      few = k.few;
      calls_len = k.calls_len;
      single = home_single r.slabs t state slab_in home k.single;
      slab = λ u u_in. slab_home s r.slabs r.links r.links t u state slab_in home (λ u y h. h) (k.slab u u_in);
      link =
          λ m.
          by_lender (λ m. LinkFits owes s n H cs states' m (link_of r.links m)) l m
          (let f : LinkFits owes s n H cs r.slabs l (link_of r.links l) = k.link l in
          let empty : ring_of r.links l ≡ [] = f.quiet off in
          record {
            quiet = f.quiet;
            lender = f.lender;
            awaited = subst (λ ys. AllByRecursion (IsAwaited s H cs states' l) ys) (sym empty) tt;
            ordered = f.ordered;
            owed = f.owed;
          })
          (λ other.
          link_stays owes owes s n H cs r.slabs states' m (link_of r.links m) (λ y h. awaited_home s H cs r.slabs t state m y slab_in was (a.2 m other) h)
          (λ pages o. o) (k.link m));
      page = λ q q_in. page_home keeps keeps s H r r.links q t state slab_in was home (λ m j i b h. h) (λ m. refl) (k.page q q_in);
    }
