-- The oldest request of a link is answered, and a slab is borrowed.
use Rattle.std.proofs.Common.{◌≡◌, ℕ, ◌+◌, ◌<◌, Bool, true, false, zero-add, List, [], ◌∷◌, length, get_or, sym, ap, ◌∙◌, subst, arith, length-set}
use Rattle.std.specs.List.{AllByRecursion}
use Rattle.swap_base.specs.declared.Page.{Page}
use Rattle.swap_base.specs.declared.Slab.{Slab}
use Rattle.swap_base.specs.declared.Lender.{Lender}
use Rattle.swap_base.specs.Sizes.{Sizes, pages_of}
use Rattle.swap_record.specs.History.{History}
use Rattle.swap_calls.specs.Calls.{Calls}
use Rattle.swap_slabs.specs.Slabs as slabs
use Rattle.swap_slabs.specs.declared.SlabState.{SlabState}
use Rattle.swap_slabs.specs.declared.SlabState.TheVariants.{Local, Asking, Borrowing, Mapped, Draining}
use Rattle.swap_rings.specs.Rings as rings
use Rattle.swap_rings.specs.Rings.{LinkState, link_of, ring_of, is_up, answered_on, without_oldest}
use Rattle.swap_rings.specs.declared.Request.{Request}
use Rattle.swap_remote.specs.Remote.{Remote, state_for}
use Rattle.swap_table.specs.Serves.{Keeping, Owing, is_for_slab, flying_for, IsAwaited, MayPrecede, AreInOrder, OwesReads, LinkFits, SlabFits, PageFits, AreSingle, Serves}
use Rattle.swap_base.proofs.Lists.{one_if, All-implies}
use Rattle.swap_table.proofs.LinkTables.{by_lender, by_slab, link-same, link-other, state-same, state-other, flying-cons}

-- the links after the oldest request of one was answered
pub answered-same : (links : List LinkState) (l : Lender) → l.0 < length links → link_of (rings.answered_after links l) l ≡ answered_on (link_of links l)
answered-same links l within = link-same links l (answered_on (link_of links l)) within

pub answered-other : (links : List LinkState) (l m : Lender) → (m.0 ≡ l.0 → ⊥) → link_of (rings.answered_after links l) m ≡ link_of links m
answered-other links l m other = link-other links l m (answered_on (link_of links l)) other

pub answered-up : (links : List LinkState) (l m : Lender) → l.0 < length links → is_up (rings.answered_after links l) m ≡ is_up links m
answered-up links l m within =
    by_lender (λ m. is_up (rings.answered_after links l) m ≡ is_up links m) l m (ap (λ (k : LinkState). k.up) (answered-same links l within))
    (λ other. ap (λ (k : LinkState). k.up) (answered-other links l m other))

pub answered-ring :
    (links : List LinkState) (l : Lender) (x : Request) (rest : List Request) → l.0 < length links → ring_of links l ≡ x ∷ rest
    → ring_of (rings.answered_after links l) l ≡ rest
answered-ring links l x rest within is = ap (λ (k : LinkState). k.ring) (answered-same links l within) ∙ ap without_oldest is

-- how many requests are for a slab, where the one that was answered isn't
flying-answered :
    (s : Sizes) (links : List LinkState) (l m : Lender) (x : Request) (rest : List Request) (t : Slab) → l.0 < length links → ring_of links l ≡ x ∷ rest
    → is_for_slab s t x ≡ false → flying_for s t (ring_of (rings.answered_after links l) m) ≡ flying_for s t (ring_of links m)
flying-answered s links l m x rest t within is off =
    by_lender (λ m. flying_for s t (ring_of (rings.answered_after links l) m) ≡ flying_for s t (ring_of links m)) l m
    (ap (flying_for s t) (answered-ring links l x rest within is)
    ∙ sym (ap (flying_for s t) is ∙ flying-cons s t x rest ∙ ap (λ b. one_if b + flying_for s t rest) off ∙ zero-add (flying_for s t rest)))
    (λ other. ap (λ (k : LinkState). flying_for s t k.ring) (answered-other links l m other))

slab_answered :
    (s : Sizes) (links : List LinkState) (l : Lender) (x : Request) (rest : List Request) (t : Slab) (state : SlabState) → l.0 < length links
    → ring_of links l ≡ x ∷ rest → is_for_slab s t x ≡ false → SlabFits s links t state → SlabFits s (rings.answered_after links l) t state
slab_answered s links l x rest t Local within is off k = tt
slab_answered s links l x rest t (Asking pair) within is off k = tt
slab_answered s links l x rest t (Borrowing m) within is off k = answered-up links l m within ∙ k
slab_answered s links l x rest t (Mapped m lease flying) within is off k =
    (answered-up links l m within ∙ k.0, k.1 ∙ sym (flying-answered s links l m x rest t within is off))
slab_answered s links l x rest t (Draining m lease flying) within is off k =
    (answered-up links l m within ∙ k.0, k.1 ∙ sym (flying-answered s links l m x rest t within is off))

-- what an answer may do: a slab has a new state, calls change, and what is awaited on every link stays so
pub record IsAnswer (owes owes' : Owing) (s : Sizes) (H : History) (cs cs' : Calls) (r : Remote) (l : Lender) (x : Request) (rest : List Request) (t : Slab)
    (state : SlabState) : Type 0 where
  pub up : is_up r.links l ≡ true
  pub ring : ring_of r.links l ≡ x ∷ rest
  pub slab_in : t.0 < s.slabs
  pub off : (u : Slab) → (u.0 ≡ t.0 → ⊥) → is_for_slab s u x ≡ false
  pub single : AreSingle (slabs.with_state r.slabs t state)
  pub fits : SlabFits s (rings.answered_after r.links l) t state
  pub calls_len : length cs' ≡ length cs
  pub here :
      AllByRecursion (MayPrecede x) rest → AllByRecursion (IsAwaited s H cs r.slabs l) rest
      → AllByRecursion (IsAwaited s H cs' (slabs.with_state r.slabs t state) l) rest
  pub there : (m : Lender) → (m.0 ≡ l.0 → ⊥) → (y : Request) → IsAwaited s H cs r.slabs m y → IsAwaited s H cs' (slabs.with_state r.slabs t state) m y
  pub owed : AllByRecursion (MayPrecede x) rest → OwesReads owes H cs l (x ∷ rest) → OwesReads owes' H cs' l rest
  pub others :
      (m : Lender) → (m.0 ≡ l.0 → ⊥) → AllByRecursion (IsAwaited s H cs r.slabs m) (ring_of r.links m) → OwesReads owes H cs m (ring_of r.links m)
      → OwesReads owes' H cs' m (ring_of r.links m)

-- a test of each, where another holds of each too
pub All-with : {X : Type 0} (P Q R : X → Type 0) (xs : List X) → ((x : X) → P x → Q x → R x) → AllByRecursion P xs → AllByRecursion Q xs → AllByRecursion R xs
All-with P Q R [] each p q = tt
All-with P Q R (x ∷ xs) each p q = (each x p.0 q.0, All-with P Q R xs each p.1 q.1)

link_answered : (owes owes' : Owing) (s : Sizes) (n : ℕ) (H : History) (cs cs' : Calls) (r : Remote) (l : Lender) (x : Request) (rest : List Request) (t : Slab)
    (state : SlabState) (link : LinkState)
    → link.up ≡ true → link.ring ≡ x ∷ rest → IsAnswer owes owes' s H cs cs' r l x rest t state → LinkFits owes s n H cs r.slabs l link
    → LinkFits owes' s n H cs' (slabs.with_state r.slabs t state) l (answered_on link)
link_answered owes owes' s n H cs cs' r l x rest t state link up ring a k =
    let awaited : AllByRecursion (IsAwaited s H cs r.slabs l) (x ∷ rest) = subst (λ ys. AllByRecursion (IsAwaited s H cs r.slabs l) ys) ring k.awaited in
    let ordered : AreInOrder (x ∷ rest) = subst AreInOrder ring k.ordered in
    let left : without_oldest link.ring ≡ rest = ap without_oldest ring in
    record {
      quiet = λ down. absurd (both up down);
      lender = k.lender;
      awaited = subst (λ ys. AllByRecursion (IsAwaited s H cs' (slabs.with_state r.slabs t state) l) ys) (sym left) (a.here ordered.0 awaited.1);
      ordered = subst AreInOrder (sym left) ordered.1;
      owed = λ _. subst (λ ys. OwesReads owes' H cs' l ys) (sym left) (a.owed ordered.0 (subst (λ ys. OwesReads owes H cs l ys) ring (k.owed up)));
    }
  where
    both : link.up ≡ true → link.up ≡ false → ⊥
    both a b = cc

link_other :
    (owes owes' : Owing) (s : Sizes) (n : ℕ) (H : History) (cs cs' : Calls) (states states' : List SlabState) (m : Lender) (link : LinkState)
    → ((y : Request) → IsAwaited s H cs states m y → IsAwaited s H cs' states' m y)
    → (AllByRecursion (IsAwaited s H cs states m) link.ring → OwesReads owes H cs m link.ring → OwesReads owes' H cs' m link.ring)
    → LinkFits owes s n H cs states m link → LinkFits owes' s n H cs' states' m link
link_other owes owes' s n H cs cs' states states' m link each reads k = record {
  quiet = k.quiet;
  lender = k.lender;
  awaited = All-implies (IsAwaited s H cs states m) (IsAwaited s H cs' states' m) link.ring each k.awaited;
  ordered = k.ordered;
  owed = λ up. reads k.awaited (k.owed up);
}

pub answered_serves : (keeps keeps' : Keeping) (owes owes' : Owing) (s : Sizes) (n : ℕ) (H : History) (cs cs' : Calls) (r : Remote) (bits : List Bool)
    (l : Lender) (x : Request) (rest : List Request) (t : Slab) (state : SlabState)
    → Serves keeps owes s n H cs r → IsAnswer owes owes' s H cs cs' r l x rest t state → length bits ≡ length r.bits
    → ((q : Page) → q.0 < pages_of s
    → PageFits keeps' s H (rings.answered_after r.links l) q (get_or bits q.0 false) (state_for s (slabs.with_state r.slabs t state) q))
    → Serves keeps' owes' s n H cs' (record { bits = bits; slabs = slabs.with_state r.slabs t state; links = rings.answered_after r.links l })
answered_serves keeps keeps' owes owes' s n H cs cs' r bits l x rest t state k a bits_len pages =
    let slab_in : t.0 < length r.slabs = subst (λ m. t.0 < m) (sym k.slabs_len) a.slab_in in
    let lender_in : l.0 < n = (k.link l).lender a.up in
    let link_in : l.0 < length r.links = subst (λ m. l.0 < m) (sym k.links_len) (omega (arith, lender_in, k.few)) in
    record {
      slabs_len = length-set r.slabs t.0 state ∙ k.slabs_len;
      bits_len = bits_len ∙ k.bits_len;
      links_len = length-set r.links l.0 _ ∙ k.links_len;
      few = k.few;
      calls_len = a.calls_len ∙ k.calls_len;
      single = a.single;
      slab =
          λ u within.
          by_slab (λ u. u.0 < s.slabs → SlabFits s (rings.answered_after r.links l) u (slabs.state_of (slabs.with_state r.slabs t state) u)) t u
          (λ _. let P : SlabState → Type 0 = λ y. SlabFits s (rings.answered_after r.links l) t y in subst P (sym (state-same r.slabs t state slab_in)) a.fits)
          (λ other within. let P : SlabState → Type 0 = λ y. SlabFits s (rings.answered_after r.links l) u y in
          subst P (sym (state-other r.slabs t u state other))
          (slab_answered s r.links l x rest u (slabs.state_of r.slabs u) link_in a.ring (a.off u other) (k.slab u within)))
          within;
      link =
          λ m.
          by_lender (λ m. LinkFits owes' s n H cs' (slabs.with_state r.slabs t state) m (link_of (rings.answered_after r.links l) m)) l m
          (let P : LinkState → Type 0 = λ y. LinkFits owes' s n H cs' (slabs.with_state r.slabs t state) l y in
          subst P (sym (answered-same r.links l link_in))
          (link_answered owes owes' s n H cs cs' r l x rest t state (link_of r.links l) a.up a.ring a (k.link l)))
          (λ other.
          let P : LinkState → Type 0 = λ y. LinkFits owes' s n H cs' (slabs.with_state r.slabs t state) m y in
          subst P (sym (answered-other r.links l m other))
          (link_other owes owes' s n H cs cs' r.slabs (slabs.with_state r.slabs t state) m (link_of r.links m) (a.there m other) (a.others m other)
          (k.link m)));
      page = pages;
    }
