-- A request for a page is sent to the lender of its slab.
use Rattle.std.proofs.Common.{◌≡◌, ℕ, ◌+◌, ◌*◌, ◌<◌, true, false, zero, suc, List, [], ◌∷◌, ◌++◌, length, refl, sym, ap, ◌∙◌, subst, arith, length-set}
use Rattle.std.proofs.Math.Nat.{div-lt_iff_lt-mul, mul_comm}
use Rattle.std.specs.List.{AllByRecursion}
use Rattle.swap_base.specs.declared.Page.{Page}
use Rattle.swap_base.specs.declared.Slab.{Slab}
use Rattle.swap_base.specs.declared.Lender.{Lender}
use Rattle.swap_base.specs.declared.Lease.{Lease}
use Rattle.swap_base.specs.Sizes.{Sizes, pages_of, slab_of}
use Rattle.swap_record.specs.History.{History}
use Rattle.swap_calls.specs.Calls.{Calls}
use Rattle.swap_slabs.specs.Slabs as slabs
use Rattle.swap_slabs.specs.declared.SlabState.{SlabState}
use Rattle.swap_slabs.specs.declared.SlabState.TheVariants.{Local, Asking, Borrowing, Mapped, Draining}
use Rattle.swap_rings.specs.Rings as rings
use Rattle.swap_rings.specs.Rings.{LinkState, link_of, ring_of, is_up, sent_on}
use Rattle.swap_rings.specs.declared.Request.{Request}
use Rattle.swap_rings.specs.declared.Request.TheVariants.{Query, Borrow, Write, Read}
use Rattle.swap_remote.specs.Remote.{Remote, slab_for, state_for, has_page, sent_for}
use Rattle.swap_table.specs.Serves.{Keeping, Owing, is_for_slab, flying_for, IsLeasedFrom, IsAwaited, MayPrecede, OwesReads, LinkFits, SlabFits, PageFits, Serves}
use Rattle.swap_base.proofs.Lists.{All-implies, All-append, one_if}
use Rattle.swap_table.proofs.LeasesStayDistinct.{single_same}
use Rattle.swap_table.proofs.LinkTables.{by_lender, by_slab, link-same, link-other, state-same, state-other, flying-append, order-append}

-- a slab has a page where there is a page
pub pages_some : (s : Sizes) (p : ℕ) → p < pages_of s → 0 < s.pages_per_slab
pages_some s p within = go s.pages_per_slab refl
  where
    go : (e : ℕ) → s.pages_per_slab ≡ e → 0 < s.pages_per_slab
    go zero is = let none : p < 0 * s.slabs = subst (λ n. p < n * s.slabs) is within in absurd (omega (arith, none))
    go (suc e) is = subst (λ n. 0 < n) (sym is) (omega arith)

-- a page's slab is one of the slabs
pub slab_within : (s : Sizes) (p : ℕ) → p < pages_of s → slab_of s p < s.slabs
slab_within s p within = go s.pages_per_slab refl
  where
    go : (e : ℕ) → s.pages_per_slab ≡ e → slab_of s p < s.slabs
    go zero is = let none : p < 0 * s.slabs = subst (λ n. p < n * s.slabs) is within in absurd (omega (arith, none))
    go (suc e) is =
        let some : 0 < s.pages_per_slab = subst (λ n. 0 < n) (sym is) (omega arith) in
        (div-lt_iff_lt-mul {k = s.pages_per_slab} {x = p} {y = s.slabs} some).1 (subst (λ n. p < n) (mul_comm s.pages_per_slab s.slabs) within)

-- the links after a request was sent on one that is up
pub sent-same : (links : List LinkState) (l : Lender) (x : Request) → l.0 < length links → link_of (rings.sent_after links l x) l ≡ sent_on (link_of links l) x
sent-same links l x within = link-same links l (sent_on (link_of links l) x) within

pub sent-other : (links : List LinkState) (l m : Lender) (x : Request) → (m.0 ≡ l.0 → ⊥) → link_of (rings.sent_after links l x) m ≡ link_of links m
sent-other links l m x other = link-other links l m (sent_on (link_of links l) x) other

pub sent-up : (links : List LinkState) (l m : Lender) (x : Request) → l.0 < length links → is_up (rings.sent_after links l x) m ≡ is_up links m
sent-up links l m x within =
    by_lender (λ m. is_up (rings.sent_after links l x) m ≡ is_up links m) l m (ap (λ (k : LinkState). k.up) (sent-same links l x within))
    (λ other. ap (λ (k : LinkState). k.up) (sent-other links l m x other))

-- how many requests are for a slab, where the one that was sent isn't
flying-sent :
    (s : Sizes) (links : List LinkState) (l m : Lender) (x : Request) (t : Slab) → l.0 < length links → is_for_slab s t x ≡ false
    → flying_for s t (ring_of (rings.sent_after links l x) m) ≡ flying_for s t (ring_of links m)
flying-sent s links l m x t within off =
    by_lender (λ m. flying_for s t (ring_of (rings.sent_after links l x) m) ≡ flying_for s t (ring_of links m)) l m
    (ap (λ (k : LinkState). flying_for s t k.ring) (sent-same links l x within) ∙ flying-append s t (ring_of links l) x
    ∙ ap (λ b. flying_for s t (ring_of links l) + one_if b) off ∙ omega arith)
    (λ other. ap (λ (k : LinkState). flying_for s t k.ring) (sent-other links l m x other))

pub slab_sent :
    (s : Sizes) (links : List LinkState) (l : Lender) (x : Request) (t : Slab) (state : SlabState) → l.0 < length links → is_for_slab s t x ≡ false
    → SlabFits s links t state → SlabFits s (rings.sent_after links l x) t state
slab_sent s links l x t Local within off k = tt
slab_sent s links l x t (Asking pair) within off k = tt
slab_sent s links l x t (Borrowing m) within off k = sent-up links l m x within ∙ k
slab_sent s links l x t (Mapped m lease flying) within off k = (sent-up links l m x within ∙ k.0, k.1 ∙ sym (flying-sent s links l m x t within off))
slab_sent s links l x t (Draining m lease flying) within off k = (sent-up links l m x within ∙ k.0, k.1 ∙ sym (flying-sent s links l m x t within off))

-- a slab to which one request more flies is mapped as before
pub begun-same :
    (states : List SlabState) (t : Slab) (l : Lender) (lease : Lease) (flying : ℕ) → t.0 < length states → slabs.state_of states t ≡ Mapped l lease flying
    → slabs.state_of (slabs.begun_after states t) t ≡ Mapped l lease (flying + 1)
begun-same states t l lease flying within is = state-same states t (slabs.after_begin (slabs.state_of states t)) within ∙ ap slabs.after_begin is

pub begun-other : (states : List SlabState) (t u : Slab) → (u.0 ≡ t.0 → ⊥) → slabs.state_of (slabs.begun_after states t) u ≡ slabs.state_of states u
begun-other states t u other = state-other states t u (slabs.after_begin (slabs.state_of states t)) other

mapped_begun :
    (states : List SlabState) (t u : Slab) (l m : Lender) (lease : Lease) (flying : ℕ) → t.0 < length states → slabs.state_of states t ≡ Mapped l lease flying
    → IsLeasedFrom m (slabs.state_of states u) → IsLeasedFrom m (slabs.state_of (slabs.begun_after states t) u)
mapped_begun states t u l m lease flying within is k =
    by_slab (λ u. IsLeasedFrom m (slabs.state_of states u) → IsLeasedFrom m (slabs.state_of (slabs.begun_after states t) u)) t u
    (λ k.
    subst (λ x. IsLeasedFrom m x) (sym (begun-same states t l lease flying within is)) (let P : SlabState → Type 0 = λ x. IsLeasedFrom m x in subst P is k))
    (λ other k. subst (λ x. IsLeasedFrom m x) (sym (begun-other states t u other)) k) k

pub awaited_begun :
    (s : Sizes) (H : History) (calls : Calls) (states : List SlabState) (t : Slab) (l m : Lender) (lease : Lease) (flying : ℕ) (y : Request)
    → t.0 < length states
    → slabs.state_of states t ≡ Mapped l lease flying → IsAwaited s H calls states m y → IsAwaited s H calls (slabs.begun_after states t) m y
awaited_begun s H calls states t l m lease flying (Query u) within is k = (
  k.0,
  by_slab (λ u. slabs.asks m (slabs.state_of states u) ≡ true → slabs.asks m (slabs.state_of (slabs.begun_after states t) u) ≡ true) t u
      (λ e. absurd (not_both (sym (ap (slabs.asks m) is) ∙ e))) (λ other e. ap (slabs.asks m) (begun-other states t u other) ∙ e) k.1,
)
  where
    not_both : false ≡ true → ⊥
    not_both e = cc
awaited_begun s H calls states t l m lease flying (Borrow u) within is k = (
  k.0,
  by_slab (λ u. slabs.state_of states u ≡ Borrowing m → slabs.state_of (slabs.begun_after states t) u ≡ Borrowing m) t u (λ e. absurd (not_both (sym is ∙ e)))
      (λ other e. begun-other states t u other ∙ e) k.1,
)
  where
    not_both : Mapped l lease flying ≡ Borrowing m → ⊥
    not_both e = cc
awaited_begun s H calls states t l m lease flying (Write p e) within is k = (k.0, mapped_begun states t (slab_for s p) l m lease flying within is k.1, k.2)
awaited_begun s H calls states t l m lease flying (Read c p) within is k = (k.0, k.1, mapped_begun states t (slab_for s p) l m lease flying within is k.2, k.3)

-- the link that the request was sent on, and every other
pub link_sent :
    (owes owes' : Owing) (s : Sizes) (n : ℕ) (H : History) (calls : Calls) (states states' : List SlabState) (l : Lender) (link : LinkState) (x : Request)
    → link.up ≡ true → ((y : Request) → IsAwaited s H calls states l y → IsAwaited s H calls states' l y) → IsAwaited s H calls states' l x
    → AllByRecursion (λ y. MayPrecede y x) link.ring → (OwesReads owes H calls l link.ring → OwesReads owes' H calls l (link.ring ++ x ∷ []))
    → LinkFits owes s n H calls states l link → LinkFits owes' s n H calls states' l (sent_on link x)
link_sent owes owes' s n H calls states states' l link x up each awaited order reads k = record {
  quiet = λ down. absurd (both up down);
  lender = k.lender;
  awaited =
      All-append (IsAwaited s H calls states' l) link.ring (x ∷ [])
      (All-implies (IsAwaited s H calls states l) (IsAwaited s H calls states' l) link.ring each k.awaited) (awaited, tt);
  ordered = order-append link.ring x k.ordered order;
  owed = λ _. reads (k.owed up);
}
  where
    both : link.up ≡ true → link.up ≡ false → ⊥
    both a b = cc

pub link_stays :
    (owes owes' : Owing) (s : Sizes) (n : ℕ) (H : History) (calls : Calls) (states states' : List SlabState) (m : Lender) (link : LinkState)
    → ((y : Request) → IsAwaited s H calls states m y → IsAwaited s H calls states' m y) → ((pages : List (List ℕ)) → owes m pages → owes' m pages)
    → LinkFits owes s n H calls states m link → LinkFits owes' s n H calls states' m link
link_stays owes owes' s n H calls states states' m link each pages k = record {
  quiet = k.quiet;
  lender = k.lender;
  awaited = All-implies (IsAwaited s H calls states m) (IsAwaited s H calls states' m) link.ring each k.awaited;
  ordered = k.ordered;
  owed = λ up. record { pages = (k.owed up).pages; owed = pages (k.owed up).pages (k.owed up).owed; reads = (k.owed up).reads };
}

-- what the request is: for this slab alone, awaited, and after those under way
pub record IsSendable (s : Sizes) (H : History) (calls : Calls) (states : List SlabState) (l : Lender) (p : Page) (ring : List Request)
    (x : Request) : Type 0 where
  pub here : is_for_slab s (slab_for s p) x ≡ true
  pub there : (t : Slab) → (t.0 ≡ slab_of s p.0 → ⊥) → is_for_slab s t x ≡ false
  pub awaited : IsAwaited s H calls states l x
  pub order : AllByRecursion (λ y. MayPrecede y x) ring

-- a page's slab is mapped to a lender whose link is up
pub record LiesAt (s : Sizes) (r : Remote) (p : Page) (l : Lender) (lease : Lease) (flying : ℕ) : Type 0 where
  pub within : p.0 < pages_of s
  pub mapped : state_for s r.slabs p ≡ Mapped l lease flying
  pub up : is_up r.links l ≡ true

pub sent_serves : (keeps keeps' : Keeping) (owes owes' : Owing) (s : Sizes) (n : ℕ) (H : History) (calls : Calls) (r : Remote) (l : Lender) (p : Page)
    (lease : Lease) (flying : ℕ) (x : Request)
    → Serves keeps owes s n H calls r → LiesAt s r p l lease flying → IsSendable s H calls r.slabs l p (ring_of r.links l) x
    → (OwesReads owes H calls l (ring_of r.links l) → OwesReads owes' H calls l (ring_of r.links l ++ x ∷ []))
    → ((m : Lender) → (m.0 ≡ l.0 → ⊥) → (pages : List (List ℕ)) → owes m pages → owes' m pages)
    → ((q : Page) → q.0 < pages_of s → PageFits keeps' s H (rings.sent_after r.links l x) q (has_page r q)
    (state_for s (slabs.begun_after r.slabs (slab_for s p)) q))
    → Serves keeps' owes' s n H calls (sent_for s r l p x)
sent_serves keeps keeps' owes owes' s n H calls r l p lease flying x k lies may reads others pages =
    let t : Slab = slab_for s p in
    let slab_in : t.0 < length r.slabs = subst (λ m. t.0 < m) (sym k.slabs_len) (slab_within s p.0 lies.within) in
    let lender_in : l.0 < n = (k.link l).lender lies.up in
    let link_in : l.0 < length r.links = subst (λ m. l.0 < m) (sym k.links_len) (omega (arith, lender_in, k.few)) in
    let before : SlabFits s r.links t (Mapped l lease flying) = let P : SlabState → Type 0 = λ y. SlabFits s r.links t y in
    subst P lies.mapped (k.slab t (slab_within s p.0 lies.within)) in
    let after : SlabFits s (rings.sent_after r.links l x) t (Mapped l lease (flying + 1)) = (
      sent-up r.links l l x link_in ∙ before.0,
      sym
          (ap (λ (y : LinkState). flying_for s t y.ring) (sent-same r.links l x link_in) ∙ flying-append s t (ring_of r.links l) x
          ∙ ap (λ b. flying_for s t (ring_of r.links l) + one_if b) may.here ∙ ap (λ m. m + 1) (sym before.1)),
    ) in
    record {
      slabs_len = length-set r.slabs t.0 _ ∙ k.slabs_len;
      bits_len = k.bits_len;
      links_len = length-set r.links l.0 _ ∙ k.links_len;
      few = k.few;
      calls_len = k.calls_len;
      single =
          single_same r.slabs t (slabs.after_begin (slabs.state_of r.slabs t)) slab_in
          (λ m j. let P : SlabState → Type 0 = λ y. slabs.has_lease m j (slabs.after_begin y) ≡ slabs.has_lease m j y in subst P (sym lies.mapped) refl)
          k.single;
      slab =
          λ u within.
          by_slab (λ u. u.0 < s.slabs → SlabFits s (rings.sent_after r.links l x) u (slabs.state_of (slabs.begun_after r.slabs t) u)) t u
          (λ _. let P : SlabState → Type 0 = λ y. SlabFits s (rings.sent_after r.links l x) t y in
          subst P (sym (begun-same r.slabs t l lease flying slab_in lies.mapped)) after)
          (λ other within. let P : SlabState → Type 0 = λ y. SlabFits s (rings.sent_after r.links l x) u y in
          subst P (sym (begun-other r.slabs t u other)) (slab_sent s r.links l x u (slabs.state_of r.slabs u) link_in (may.there u other) (k.slab u within)))
          within;
      link =
          λ m.
          by_lender (λ m. LinkFits owes' s n H calls (slabs.begun_after r.slabs t) m (link_of (rings.sent_after r.links l x) m)) l m
          (let P : LinkState → Type 0 = λ y. LinkFits owes' s n H calls (slabs.begun_after r.slabs t) l y in
          subst P (sym (sent-same r.links l x link_in))
          (link_sent owes owes' s n H calls r.slabs (slabs.begun_after r.slabs t) l (link_of r.links l) x lies.up
          (λ y h. awaited_begun s H calls r.slabs t l l lease flying y slab_in lies.mapped h)
          (awaited_begun s H calls r.slabs t l l lease flying x slab_in lies.mapped may.awaited) may.order reads (k.link l)))
          (λ other.
          let P : LinkState → Type 0 = λ y. LinkFits owes' s n H calls (slabs.begun_after r.slabs t) m y in
          subst P (sym (sent-other r.links l m x other))
          (link_stays owes owes' s n H calls r.slabs (slabs.begun_after r.slabs t) m (link_of r.links m)
          (λ y h. awaited_begun s H calls r.slabs t l m lease flying y slab_in lies.mapped h) (others m other) (k.link m)));
      page = pages;
    }
