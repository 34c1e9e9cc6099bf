-- A mapped slab is taken back, and a lease is given back.
use Rattle.std.proofs.Common.{◌≡◌, ℕ, ◌-◌, ◌<◌, Bool, true, false, cond, ◌==◌, ◌&&◌, List, length, refl, sym, ap, ◌∙◌, subst, length-set, option_map, Option, None, Some, ⊎_elim}
use Rattle.std.proofs.lemmas.Bool.{eqb-true, eq-eqb, cases_lt}
use Rattle.std.proofs.lemmas.List.{get_or_past}
use Rattle.std.proofs.lemmas.List.Quantifiers.{position-Some}
use Rattle.std.specs.List.{AllByRecursion, position}
use Rattle.swap_base.specs.declared.Page.{Page}
use Rattle.swap_base.specs.declared.Slab.{Slab}
use Rattle.swap_base.specs.declared.Lender.{Lender}
use Rattle.swap_base.specs.declared.Lease.{Lease}
use Rattle.swap_base.specs.Sizes.{Sizes, pages_of, slab_of, place_of}
use Rattle.swap_record.specs.History.{History}
use Rattle.swap_calls.specs.Calls.{Calls}
use Rattle.swap_slabs.specs.Slabs as slabs
use Rattle.swap_slabs.specs.declared.SlabState.{SlabState}
use Rattle.swap_slabs.specs.declared.SlabState.TheVariants.{Local, Asking, Borrowing, Mapped, Draining}
use Rattle.swap_rings.specs.Rings.{link_of, ring_of}
use Rattle.swap_remote.specs.Remote as remote
use Rattle.swap_remote.specs.Remote.{Remote, slab_for, state_for, has_page}
use Rattle.swap_table.specs.Serves.{Keeping, Owing, IsLeasedFrom, IsAwaited, LinkFits, SlabFits, PageFits, AreSingle, Serves}
use Rattle.swap_table.proofs.LeasesStayDistinct.{lease_in_range, single_fewer, only_slab, unleased}
use Rattle.swap_table.proofs.LinkTables.{by_lender, by_slab, state-same, state-other}
use Rattle.swap_table.proofs.SendsKeepServing.{link_stays}
use Rattle.swap_table.proofs.RequestsKeepServing.{KeepsAll, OwesAll, page_stays, same_lease}
use Rattle.swap_table.proofs.LendingKeepsSlabs.{KeepsButLease}
use Rattle.swap_table.proofs.AnswersKeepServing.{IsAtRest, mapped_rests, drained_fits, drained_lease, drained_awaited, drained_elsewhere, drained_page}

-- a mapped slab is taken back: its bits are cleared, and it drains
pub evicted_serves : (keeps keeps' : Keeping) (owes owes' : Owing) (s : Sizes) (n : ℕ) (H : History) (cs : Calls) (r : Remote) (l : Lender) (t : Slab)
    (lease : Lease) (flying : ℕ)
    → Serves keeps owes s n H cs r → t.0 < s.slabs → slabs.state_of r.slabs t ≡ Mapped l lease flying → length (remote.evicted_after s r t).bits ≡ length r.bits
    → ((q : Page) → q.0 < pages_of s → has_page (remote.evicted_after s r t) q ≡ cond (slab_of s q.0 == t.0) false (has_page r q)) → KeepsAll keeps keeps'
    → OwesAll owes owes' → Serves keeps' owes' s n H cs (remote.evicted_after s r t)
evicted_serves keeps keeps' owes owes' s n H cs r l t lease flying k within is bits_len bit kept owed =
    let slab_in : t.0 < length r.slabs = subst (λ m. t.0 < m) (sym k.slabs_len) within in
    let state : SlabState = slabs.after_evict (slabs.state_of r.slabs t) in
    let is_state : state ≡ slabs.drain_to l lease flying = ap slabs.after_evict is in
    let states' : List SlabState = slabs.with_state r.slabs t state in
    let before : SlabFits s r.links t (Mapped l lease flying) = let P : SlabState → Type 0 = λ y. SlabFits s r.links t y in subst P is (k.slab t within) in
    let rests : IsAtRest (slabs.state_of r.slabs t) = mapped_rests l lease flying (slabs.state_of r.slabs t) is in
    let away : (m : Lender) → (m.0 ≡ l.0 → ⊥) → IsLeasedFrom m (slabs.state_of r.slabs t) → ⊥ = λ m other h. let P : SlabState
    → Type 0 = λ y. IsLeasedFrom m y in
    let h' : IsLeasedFrom m (Mapped l lease flying) = subst P is h in other (sym h') in
    let f : LinkFits owes s n H cs r.slabs l (link_of r.links l) = k.link l in
    record {
      slabs_len = length-set r.slabs t.0 state ∙ k.slabs_len;
      bits_len = bits_len ∙ k.bits_len;
      links_len = k.links_len;
      few = k.few;
      calls_len = k.calls_len;
      single =
          single_fewer r.slabs t state slab_in
          (λ m j h. ap (slabs.has_lease m j) is ∙ drained_lease l m lease j flying (sym (ap (slabs.has_lease m j) is_state) ∙ h)) k.single;
      slab =
          λ u u_in.
          by_slab (λ u. SlabFits s r.links u (slabs.state_of r.slabs u) → SlabFits s r.links u (slabs.state_of states' u)) t u
          (λ _. let P : SlabState → Type 0 = λ y. SlabFits s r.links t y in
          subst P (sym (state-same r.slabs t state slab_in ∙ is_state)) (drained_fits s r.links l t lease flying before.0 before.1))
          (λ other h. let P : SlabState → Type 0 = λ y. SlabFits s r.links u y in subst P (sym (state-other r.slabs t u state other)) h) (k.slab u u_in);
      link =
          λ m.
          by_lender (λ m. LinkFits owes' s n H cs states' m (link_of r.links m)) l m
          (let P : SlabState → Type 0 = λ y. AllByRecursion (IsAwaited s H cs (slabs.with_state r.slabs t y) l) (ring_of r.links l) in
          record {
            quiet = f.quiet;
            lender = f.lender;
            awaited = subst P (sym is_state) (drained_awaited s H cs r.slabs t l lease flying (ring_of r.links l) slab_in rests before.1 f.awaited);
            ordered = f.ordered;
            owed = λ up. let o = f.owed up in record { pages = o.pages; owed = owed l o.pages o.owed; reads = o.reads };
          })
          (λ other.
          link_stays owes owes' s n H cs r.slabs states' m (link_of r.links m) (λ y h. drained_elsewhere s H cs r.slabs t state m y rests (away m other) h)
          (owed m) (k.link m));
      page =
          λ q q_in.
          by_slab
          (λ u. (u.0 ≡ slab_of s q.0) → PageFits keeps s H r.links q (has_page r q) (slabs.state_of r.slabs u)
          → PageFits keeps' s H r.links q (has_page (remote.evicted_after s r t) q) (slabs.state_of states' u))
          t
          (slab_for s q)
          (λ same _.
          let clear : has_page (remote.evicted_after s r t) q ≡ false =
          bit q q_in ∙ ap (λ b. cond b false (has_page r q)) (eq-eqb (slab_of s q.0) t.0 (sym same)) in
          let Q : SlabState → Type 0 = λ y. PageFits keeps' s H r.links q (has_page (remote.evicted_after s r t) q) y in
          subst Q (sym (state-same r.slabs t state slab_in ∙ is_state))
          (drained_page keeps' s H r.links q (has_page (remote.evicted_after s r t) q) l lease flying clear))
          (λ other _ h.
          let stays : has_page (remote.evicted_after s r t) q ≡ has_page r q =
          bit q q_in ∙ ap (λ b. cond b false (has_page r q)) (ne (slab_of s q.0) t.0 other) in
          let Q : SlabState → Type 0 = λ y. PageFits keeps' s H r.links q (has_page (remote.evicted_after s r t) q) y in
          let R : Bool → Type 0 = λ b. PageFits keeps' s H r.links q b (state_for s r.slabs q) in
          subst Q (sym (state-other r.slabs t (slab_for s q) state other))
          (subst R (sym stays)
          (page_stays keeps keeps' s H r.links r.links q (has_page r q) (state_for s r.slabs q) (λ m j has. (refl, kept m j (place_of s q.0))) h)))
          refl (k.page q q_in);
    }
  where
    ne : (a b : ℕ) → (a ≡ b → ⊥) → (a == b) ≡ false
    ne a b other = go (a == b) refl
      where
        go : (t : Bool) → (a == b) ≡ t → t ≡ false
        go true e = absurd (other (eqb-true a b e))
        go false e = refl

-- a lease is given back that no slab has
pub given_serves :
    (keeps keeps' : Keeping) (owes owes' : Owing) (s : Sizes) (n : ℕ) (H : History) (cs : Calls) (r : Remote) (l : Lender) (lease : Lease)
    → slabs.by_lease r.slabs l lease ≡ None → KeepsButLease l lease keeps keeps' → OwesAll owes owes' → Serves keeps owes s n H cs r
    → Serves keeps' owes' s n H cs r
given_serves keeps keeps' owes owes' s n H cs r l lease free kept owed k = record {
  slabs_len = k.slabs_len;
  bits_len = k.bits_len;
  links_len = k.links_len;
  few = k.few;
  calls_len = k.calls_len;
  single = k.single;
  slab = k.slab;
  link = λ m. link_stays owes owes' s n H cs r.slabs r.slabs m (link_of r.links m) (λ y h. h) (owed m) (k.link m);
  page =
      λ q within.
      page_stays keeps keeps' s H r.links r.links q (has_page r q) (state_for s r.slabs q)
      (λ m j has. (
        refl,
        λ bytes.
            kept m j (place_of s q.0) bytes
            (λ em ej. not_both (unleased r.slabs l lease (slab_for s q) free) (same_lease l m lease j (state_for s r.slabs q) em ej has)),
      ))
      (k.page q within);
}
  where
    not_both : {b : Bool} → b ≡ false → b ≡ true → ⊥
    not_both a b = cc

-- no slab has a lease that its only slab gave up
pub given_free :
    (states : List SlabState) (t : Slab) (l : Lender) (lease : Lease) → AreSingle states → slabs.has_lease l lease (slabs.state_of states t) ≡ true
    → slabs.by_lease (slabs.with_state states t Local) l lease ≡ None
given_free states t l lease single has = go (position (λ state. slabs.has_lease l lease state) (slabs.with_state states t Local)) refl
  where
    not_both : false ≡ true → ⊥
    not_both e = cc

    within : t.0 < length states
    within = lease_in_range states l lease t has

    go :
        (o : Option ℕ) → position (λ state. slabs.has_lease l lease state) (slabs.with_state states t Local) ≡ o
        → option_map {U = Slab} (λ (i : ℕ). record { 0 = i }) o ≡ None
    go None is = refl
    go (Some i) is =
        let found : slabs.has_lease l lease (slabs.state_of (slabs.with_state states t Local) (record { 0 = i })) ≡ true =
        (position-Some (λ state. slabs.has_lease l lease state) (slabs.with_state states t Local) i Local is).1 in
        absurd
        (by_slab (λ u. slabs.has_lease l lease (slabs.state_of (slabs.with_state states t Local) u) ≡ true → ⊥) t (record { 0 = i })
        (λ h. not_both (sym (ap (slabs.has_lease l lease) (state-same states t Local within)) ∙ h))
        (λ other h.
        other
        (only_slab states l lease t (record { 0 = i }) single has
        (sym (ap (slabs.has_lease l lease) (state-other states t (record { 0 = i }) Local other)) ∙ h)))
        found)

-- one that gave it up as its last request was answered, or as it was taken back
lease_is : (a b : Lease) (t : Bool) → cond t (Some a) None ≡ Some b → (t ≡ true) × (a ≡ b)
lease_is a b true e = (refl, cc)
lease_is a b false e = cc

own_lease : (l : Lender) (k : Lease) (m : Lender) (j : Lease) → m.0 ≡ l.0 → j ≡ k → ((m.0 == l.0) && (j.0 == k.0)) ≡ true
own_lease l k m j em ej = ap (λ b. b && (j.0 == k.0)) (eq-eqb m.0 l.0 em) ∙ eq-eqb j.0 k.0 (ap (λ (x : Lease). x.0) ej)

pub settled_free :
    (states : List SlabState) (t : Slab) (l : Lender) (lease : Lease) → AreSingle states → IsLeasedFrom l (slabs.state_of states t)
    → slabs.settled_lease (slabs.state_of states t) ≡ Some lease → slabs.by_lease (slabs.settled_after states t) l lease ≡ None
settled_free states t l lease single at gives = go (slabs.state_of states t) refl at gives
  where
    go :
        (state : SlabState) → slabs.state_of states t ≡ state → IsLeasedFrom l state → slabs.settled_lease state ≡ Some lease
        → slabs.by_lease (slabs.with_state states t (slabs.after_settled (slabs.state_of states t))) l lease ≡ None
    go Local is at gives = absurd at
    go (Asking pair) is at gives = absurd at
    go (Borrowing m) is at gives = absurd at
    go (Mapped m k flying) is at gives = cc
    go (Draining m k flying) is at gives =
        let given = lease_is k lease ((flying - 1) == 0) gives in
        let home : slabs.after_settled (slabs.state_of states t) ≡ Local =
        ap slabs.after_settled is ∙ ap (λ b. cond b Local (Draining m k (flying - 1))) given.0 in
        let P : SlabState → Type 0 = λ y. slabs.by_lease (slabs.with_state states t y) l lease ≡ None in
        subst P (sym home) (given_free states t l lease single (ap (slabs.has_lease l lease) is ∙ own_lease l lease m k at given.1))

pub evicted_free :
    (states : List SlabState) (t : Slab) (l : Lender) (k lease : Lease) (flying : ℕ) → AreSingle states → slabs.state_of states t ≡ Mapped l k flying
    → slabs.evicted_lease (slabs.state_of states t) ≡ Some lease → slabs.by_lease (slabs.evicted_after states t) l lease ≡ None
evicted_free states t l k lease flying single is gives =
    let given = lease_is k lease (flying == 0) (sym (ap slabs.evicted_lease is) ∙ gives) in
    let home : slabs.after_evict (slabs.state_of states t) ≡ Local = ap slabs.after_evict is ∙ ap (λ b. cond b Local (Draining l k flying)) given.0 in
    let P : SlabState → Type 0 = λ y. slabs.by_lease (slabs.with_state states t y) l lease ≡ None in
    subst P (sym home) (given_free states t l lease single (ap (slabs.has_lease l lease) is ∙ own_lease l lease l k refl given.1))

-- the slab that is mapped at a lender with a lease
pub record MappedBy (states : List SlabState) (l : Lender) (k : Lease) (t : Slab) : Type 0 where
  pub flying : ℕ
  pub within : t.0 < length states
  pub is : slabs.state_of states t ≡ Mapped l k flying

pub mapped_by_is : (states : List SlabState) (l : Lender) (k : Lease) (t : Slab) → remote.mapped_by states l k ≡ Some t → MappedBy states l k t
mapped_by_is states l k t found = by_place (position (λ state. slabs.has_lease l k state) states) refl found
  where
    slab_is : (u : Slab) (b : Bool) → cond b (Some u) None ≡ Some t → (b ≡ true) × (u ≡ t)
    slab_is u true e = (refl, cc)
    slab_is u false e = cc

    both_of : (a b : Bool) → (a && b) ≡ true → (a ≡ true) × (b ≡ true)
    both_of true b e = (refl, e)
    both_of false b e = cc

    of_state :
        (state : SlabState) → slabs.state_of states t ≡ state → slabs.has_lease l k state ≡ true → slabs.is_mapped state ≡ true → t.0 < length states
        → MappedBy states l k t
    of_state Local is has maps within = cc
    of_state (Asking pair) is has maps within = cc
    of_state (Borrowing m) is has maps within = cc
    of_state (Draining m j flying) is has maps within = cc
    of_state (Mapped m j flying) is has maps within =
        let same = both_of (m.0 == l.0) (j.0 == k.0) has in
        record {
          flying = flying;
          within = within;
          is =
              is ∙ ap (λ n. Mapped (record { 0 = n }) j flying) (eqb-true m.0 l.0 same.0)
              ∙ ap (λ n. Mapped l (record { 0 = n }) flying) (eqb-true j.0 k.0 same.1);
        }

    by_place :
        (o : Option ℕ) → position (λ state. slabs.has_lease l k state) states ≡ o
        → remote.only_mapped states (option_map {U = Slab} (λ (i : ℕ). record { 0 = i }) o) ≡ Some t → MappedBy states l k t
    by_place None at found = cc
    by_place (Some i) at found =
        let there = position-Some (λ state. slabs.has_lease l k state) states i Local at in
        let u : Slab = record { 0 = i } in
        let same = slab_is u (slabs.is_mapped (slabs.state_of states u)) found in
        let P : Slab → Type 0 =
        λ x. (slabs.has_lease l k (slabs.state_of states x) ≡ true) × (slabs.is_mapped (slabs.state_of states x) ≡ true) × (x.0 < length states) in
        let facts : P t = subst P same.1 (there.1, same.0, there.0) in
        of_state (slabs.state_of states t) refl facts.0 facts.1 facts.2

-- a slab that asks is one of the slabs
pub asks_within : (states : List SlabState) (l : Lender) (t : Slab) → slabs.asks l (slabs.state_of states t) ≡ true → t.0 < length states
asks_within states l t asks =
    ⊎_elim (λ lt. lt) (λ ge. absurd (not_both (sym (ap (slabs.asks l) (get_or_past states t.0 Local ge)) ∙ asks))) (cases_lt t.0 (length states))
  where
    not_both : false ≡ true → ⊥
    not_both e = cc
