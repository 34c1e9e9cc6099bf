-- A slab is borrowed, lent or refused.
use Rattle.std.proofs.Common.{◌≡◌, ◌≢◌, ℕ, ◌+◌, ◌<◌, Bool, true, false, cond, zero-add, List, [], ◌∷◌, length, refl, sym, ap, ◌∙◌, subst, arith, length-set, None, Some}
use Rattle.std.specs.List.{AllByRecursion}
use Rattle.swap_base.specs.declared.Page.{Page}
use Rattle.swap_base.specs.declared.Slab.{Slab}
use Rattle.swap_base.specs.declared.Lender.{Lender}
use Rattle.swap_base.specs.declared.Lease.{Lease}
use Rattle.swap_base.specs.Sizes.{Sizes, slab_of, place_of}
use Rattle.swap_queue.specs.Queue.{first_of}
use Rattle.swap_record.specs.History.{History}
use Rattle.swap_calls.specs.Calls.{Calls}
use Rattle.swap_slabs.specs.Slabs as slabs
use Rattle.swap_slabs.specs.declared.SlabState.{SlabState}
use Rattle.swap_slabs.specs.declared.SlabState.TheVariants.{Local, Borrowing, Mapped}
use Rattle.swap_base.specs.declared.TheConstants.{MOST_LENDERS}
use Rattle.swap_rings.specs.Rings as rings
use Rattle.swap_rings.specs.Rings.{LinkState, link_of, ring_of, is_up}
use Rattle.swap_rings.specs.declared.Request.{Request}
use Rattle.swap_rings.specs.declared.Request.TheVariants.{Query, Borrow, Write, Read}
use Rattle.swap_remote.specs.Remote as remote
use Rattle.swap_remote.specs.Remote.{Remote, slab_for, state_for, has_page}
use Rattle.swap_table.specs.Serves.{Keeping, Owing, is_for_slab, flying_for, entry_to, latest_write, IsLeasedFrom, IsAwaited, MayPrecede, LinkFits, SlabFits, IsWriteKept, PageFits, AreSingle, Serves}
use Rattle.swap_base.proofs.Lists.{not_eqb, one_if, All-implies}
use Rattle.swap_table.proofs.LeasesStayDistinct.{single_same, single_lent, unleased}
use Rattle.swap_table.proofs.LinkTables.{by_lender, by_slab, state-same, state-other, flying-cons, latest-append, first_of-none}
use Rattle.swap_table.proofs.SendsKeepServing.{sent-same, sent-other, sent-up, link_sent, link_stays, slab_sent}
use Rattle.swap_table.proofs.RequestsKeepServing.{KeepsAll, OwesAll, page_stays, owed-append_borrow, same_lease}
use Rattle.swap_table.proofs.RepliesKeepServing.{All-with, answered-ring, answered-other, answered-up, answered_serves}

-- the request asks for another slab and borrows another, or none
abbrev pub BorrowsNot : Slab → Request → Type 0
BorrowsNot t (Query u) = u.0 ≢ t.0
BorrowsNot t (Borrow u) = u.0 ≢ t.0
BorrowsNot t (Write p e) = Unit {0}
BorrowsNot t (Read c p) = Unit {0}

-- what is awaited, where a slab that wasn't mapped has a new state
pub mapped_set :
    (states : List SlabState) (t u : Slab) (state : SlabState) (m : Lender) → (IsLeasedFrom m (slabs.state_of states t) → ⊥)
    → IsLeasedFrom m (slabs.state_of states u) → IsLeasedFrom m (slabs.state_of (slabs.with_state states t state) u)
mapped_set states t u state m off k =
    by_slab (λ u. IsLeasedFrom m (slabs.state_of states u) → IsLeasedFrom m (slabs.state_of (slabs.with_state states t state) u)) t u (λ k. absurd (off k))
    (λ other k. subst (λ y. IsLeasedFrom m y) (sym (state-other states t u state other)) k) k

pub awaited_set :
    (s : Sizes) (H : History) (cs : Calls) (states : List SlabState) (t : Slab) (state : SlabState) (m : Lender) (y : Request)
    → (IsLeasedFrom m (slabs.state_of states t) → ⊥) → BorrowsNot t y → IsAwaited s H cs states m y → IsAwaited s H cs (slabs.with_state states t state) m y
awaited_set s H cs states t state m (Query u) off not k = (k.0, ap (slabs.asks m) (state-other states t u state not) ∙ k.1)
awaited_set s H cs states t state m (Borrow u) off not k = (k.0, state-other states t u state not ∙ k.1)
awaited_set s H cs states t state m (Write p e) off not k = (k.0, mapped_set states t (slab_for s p) state m off k.1, k.2)
awaited_set s H cs states t state m (Read c p) off not k = (k.0, k.1, mapped_set states t (slab_for s p) state m off k.2, k.3)

-- a slab that neither asks the lender nor borrows from it isn't asked for or borrowed on its link
pub borrows_not :
    (s : Sizes) (H : History) (cs : Calls) (states : List SlabState) (t : Slab) (m : Lender) (y : Request) → (slabs.asks m (slabs.state_of states t) ≡ true → ⊥)
    → (slabs.state_of states t ≡ Borrowing m → ⊥) → IsAwaited s H cs states m y → BorrowsNot t y
borrows_not s H cs states t m (Query u) quiet off k = λ same. quiet (subst (λ n. slabs.asks m (slabs.state_of states (record { 0 = n })) ≡ true) same k.1)
borrows_not s H cs states t m (Borrow u) quiet off k = λ same. off (subst (λ n. slabs.state_of states (record { 0 = n }) ≡ Borrowing m) same k.1)
borrows_not s H cs states t m (Write p e) quiet off k = tt
borrows_not s H cs states t m (Read c p) quiet off k = tt

-- the requests after one that borrows a slab don't borrow it again
after_borrow :
    (s : Sizes) (H : History) (cs : Calls) (states : List SlabState) (t : Slab) (l : Lender) (y : Request) → (slabs.asks l (slabs.state_of states t) ≡ true → ⊥)
    → MayPrecede (Borrow t) y → IsAwaited s H cs states l y → BorrowsNot t y
after_borrow s H cs states t l (Query u) quiet k a = borrows_not_query
  where
    borrows_not_query : u.0 ≡ t.0 → ⊥
    borrows_not_query same = quiet (subst (λ n. slabs.asks l (slabs.state_of states (record { 0 = n })) ≡ true) same a.1)
after_borrow s H cs states t l (Borrow u) quiet k a = λ same. k (sym same)
after_borrow s H cs states t l (Write p e) quiet k a = tt
after_borrow s H cs states t l (Read c p) quiet k a = tt

before_borrow : (t : Slab) (y : Request) → BorrowsNot t y → MayPrecede y (Borrow t)
before_borrow t (Query u) k = tt
before_borrow t (Borrow u) k = k
before_borrow t (Write p e) k = tt
before_borrow t (Read c p) k = tt

-- a slab that is local, or borrowed, asks nobody
pub local_asks : (m : Lender) (state : SlabState) → state ≡ Local → slabs.asks m state ≡ true → ⊥
local_asks m state is h = not_both (sym (ap (slabs.asks m) is) ∙ h)
  where
    not_both : false ≡ true → ⊥
    not_both e = cc

borrowing_asks : (l m : Lender) (state : SlabState) → state ≡ Borrowing l → slabs.asks m state ≡ true → ⊥
borrowing_asks l m state is h = not_both (sym (ap (slabs.asks m) is) ∙ h)
  where
    not_both : false ≡ true → ⊥
    not_both e = cc

-- a slab is borrowed
pub local_borrows : (m : Lender) → Local ≡ Borrowing m → ⊥
local_borrows m e = cc

pub borrow_sent_serves : (keeps keeps' : Keeping) (owes owes' : Owing) (s : Sizes) (n : ℕ) (H : History) (cs : Calls) (r : Remote) (t : Slab) (l : Lender)
    → Serves keeps owes s n H cs r → t.0 < s.slabs → slabs.state_of r.slabs t ≡ Local → is_up r.links l ≡ true → KeepsAll keeps keeps' → OwesAll owes owes'
    → Serves keeps' owes' s n H cs (remote.borrow_sent r t l)
borrow_sent_serves keeps keeps' owes owes' s n H cs r t l k within local up kept owed =
    let x : Request = Borrow t in
    let states' : List SlabState = slabs.borrowed_after r.slabs t l in
    let slab_in : t.0 < length r.slabs = subst (λ m. t.0 < m) (sym k.slabs_len) within in
    let lender_in : l.0 < n = (k.link l).lender up in
    let lender_few : l.0 < MOST_LENDERS = omega (arith, lender_in, k.few) in
    let link_in : l.0 < length r.links = subst (λ m. l.0 < m) (sym k.links_len) lender_few in
    let unmapped : (m : Lender) → IsLeasedFrom m (slabs.state_of r.slabs t) → ⊥ = λ m h. let P : SlabState → Type 0 = λ y. IsLeasedFrom m y in
    subst P local h in
    let unborrowed : (m : Lender) → slabs.state_of r.slabs t ≡ Borrowing m → ⊥ = λ m e. local_borrows m (sym local ∙ e) in
    let each : (m : Lender) (y : Request) → IsAwaited s H cs r.slabs m y → IsAwaited s H cs states' m y =
    λ m y h.
    awaited_set s H cs r.slabs t (Borrowing l) m y (unmapped m)
    (borrows_not s H cs r.slabs t m y (local_asks m (slabs.state_of r.slabs t) local) (unborrowed m) h) h in
    record {
      slabs_len = length-set r.slabs t.0 (Borrowing l) ∙ k.slabs_len;
      bits_len = k.bits_len;
      links_len = length-set r.links l.0 _ ∙ k.links_len;
      few = k.few;
      calls_len = k.calls_len;
      single =
          single_same r.slabs t (Borrowing l) slab_in
          (λ m j. let P : SlabState → Type 0 = λ y. slabs.has_lease m j (Borrowing l) ≡ slabs.has_lease m j y in subst P (sym local) refl) k.single;
      slab =
          λ u within.
          by_slab (λ u. u.0 < s.slabs → SlabFits s (rings.sent_after r.links l x) u (slabs.state_of states' u)) t u
          (λ _. let P : SlabState → Type 0 = λ y. SlabFits s (rings.sent_after r.links l x) t y in
          subst P (sym (state-same r.slabs t (Borrowing l) slab_in)) (sent-up r.links l l x link_in ∙ up))
          (λ other within. let P : SlabState → Type 0 = λ y. SlabFits s (rings.sent_after r.links l x) u y in
          subst P (sym (state-other r.slabs t u (Borrowing l) other)) (slab_sent s r.links l x u (slabs.state_of r.slabs u) link_in refl (k.slab u within)))
          within;
      link =
          λ m.
          by_lender (λ m. LinkFits owes' s n H cs states' m (link_of (rings.sent_after r.links l x) m)) l m
          (let P : LinkState → Type 0 = λ y. LinkFits owes' s n H cs states' l y in
          subst P (sym (sent-same r.links l x link_in))
          (link_sent owes owes' s n H cs r.slabs states' l (link_of r.links l) x up (each l) (within, state-same r.slabs t (Borrowing l) slab_in)
          (All-implies (IsAwaited s H cs r.slabs l) (λ y. MayPrecede y x) (ring_of r.links l)
          (λ y h. before_borrow t y (borrows_not s H cs r.slabs t l y (local_asks l (slabs.state_of r.slabs t) local) (unborrowed l) h)) (k.link l).awaited)
          (λ o. record { pages = o.pages; owed = owed l o.pages o.owed; reads = owed-append_borrow H cs (ring_of r.links l) o.pages t o.reads }) (k.link l)))
          (λ other.
          let P : LinkState → Type 0 = λ y. LinkFits owes' s n H cs states' m y in
          subst P (sym (sent-other r.links l m x other)) (link_stays owes owes' s n H cs r.slabs states' m (link_of r.links m) (each m) (owed m) (k.link m)));
      page =
          λ q q_in.
          by_slab
          (λ u. PageFits keeps s H r.links q (has_page r q) (slabs.state_of r.slabs u)
          → PageFits keeps' s H (rings.sent_after r.links l x) q (has_page r q) (slabs.state_of states' u))
          t
          (slab_for s q)
          (λ h.
          let P : SlabState → Type 0 = λ y. PageFits keeps s H r.links q (has_page r q) y in
          let Q : SlabState → Type 0 = λ y. PageFits keeps' s H (rings.sent_after r.links l x) q (has_page r q) y in
          subst Q (sym (state-same r.slabs t (Borrowing l) slab_in)) (subst P local h))
          (λ other h.
          let Q : SlabState → Type 0 = λ y. PageFits keeps' s H (rings.sent_after r.links l x) q (has_page r q) y in
          subst Q (sym (state-other r.slabs t (slab_for s q) (Borrowing l) other))
          (page_stays keeps keeps' s H r.links (rings.sent_after r.links l x) q (has_page r q) (state_for s r.slabs q)
          (λ m j has. (latest-borrow r.links l m t q link_in, kept m j (place_of s q.0))) h))
          (k.page q q_in);
    }
  where
    latest-borrow :
        (links : List LinkState) (l m : Lender) (t : Slab) (q : Page) → l.0 < length links
        → latest_write q (ring_of (rings.sent_after links l (Borrow t)) m) ≡ latest_write q (ring_of links m)
    latest-borrow links l m t q within =
        by_lender (λ m. latest_write q (ring_of (rings.sent_after links l (Borrow t)) m) ≡ latest_write q (ring_of links m)) l m
        (ap (λ (k : LinkState). latest_write q k.ring) (sent-same links l (Borrow t) within) ∙ latest-append q (ring_of links l) (Borrow t))
        (λ other. ap (λ (k : LinkState). latest_write q k.ring) (sent-other links l m (Borrow t) other))

-- no request is for a slab that isn't mapped to the link's lender
pub not_for :
    (s : Sizes) (H : History) (cs : Calls) (states : List SlabState) (t : Slab) (m : Lender) (y : Request) → (IsLeasedFrom m (slabs.state_of states t) → ⊥)
    → IsAwaited s H cs states m y → is_for_slab s t y ≡ false
not_for s H cs states t m (Query u) off k = refl
not_for s H cs states t m (Borrow u) off k = refl
not_for s H cs states t m (Write p e) off k =
    not_eqb (slab_of s p.0) t.0 (λ same. off (subst (λ n. IsLeasedFrom m (slabs.state_of states (record { 0 = n }))) same k.1))
not_for s H cs states t m (Read c p) off k =
    not_eqb (slab_of s p.0) t.0 (λ same. off (subst (λ n. IsLeasedFrom m (slabs.state_of states (record { 0 = n }))) same k.2))

flying_none :
    (s : Sizes) (H : History) (cs : Calls) (states : List SlabState) (t : Slab) (m : Lender) (ring : List Request)
    → (IsLeasedFrom m (slabs.state_of states t) → ⊥) → AllByRecursion (IsAwaited s H cs states m) ring → flying_for s t ring ≡ 0
flying_none s H cs states t m [] off all = refl
flying_none s H cs states t m (y ∷ ring) off all =
    flying-cons s t y ring ∙ ap (λ b. one_if b + flying_for s t ring) (not_for s H cs states t m y off all.0) ∙ zero-add (flying_for s t ring)
    ∙ flying_none s H cs states t m ring off all.1

-- and none writes one of its pages
writes_not :
    (s : Sizes) (H : History) (cs : Calls) (states : List SlabState) (q : Page) (m : Lender) (y : Request) → (IsLeasedFrom m (state_for s states q) → ⊥)
    → IsAwaited s H cs states m y → entry_to q y ≡ None
writes_not s H cs states q m (Query u) off k = refl
writes_not s H cs states q m (Borrow u) off k = refl
writes_not s H cs states q m (Read c p) off k = refl
writes_not s H cs states q m (Write p e) off k =
    ap (λ b. cond b (Some e) None) (not_eqb p.0 q.0 (λ same. off (subst (λ n. IsLeasedFrom m (state_for s states (record { 0 = n }))) same k.1)))

latest_none :
    (s : Sizes) (H : History) (cs : Calls) (states : List SlabState) (q : Page) (m : Lender) (ring : List Request) → (IsLeasedFrom m (state_for s states q) → ⊥)
    → AllByRecursion (IsAwaited s H cs states m) ring → latest_write q ring ≡ None
latest_none s H cs states q m [] off all = refl
latest_none s H cs states q m (y ∷ ring) off all =
    ap (λ o. first_of o (entry_to q y)) (latest_none s H cs states q m ring off all.1) ∙ writes_not s H cs states q m y off all.0

-- the last write of a page, where the request that was answered isn't one of its writes
pub latest_answered :
    (links : List LinkState) (l m : Lender) (x : Request) (rest : List Request) (q : Page) → l.0 < length links → ring_of links l ≡ x ∷ rest
    → entry_to q x ≡ None
    → latest_write q (ring_of (rings.answered_after links l) m) ≡ latest_write q (ring_of links m)
latest_answered links l m x rest q within is none =
    by_lender (λ m. latest_write q (ring_of (rings.answered_after links l) m) ≡ latest_write q (ring_of links m)) l m
    (ap (latest_write q) (answered-ring links l x rest within is)
    ∙ sym (ap (latest_write q) is ∙ ap (λ o. first_of (latest_write q rest) o) none ∙ first_of-none (latest_write q rest)))
    (λ other. ap (λ (k : LinkState). latest_write q k.ring) (answered-other links l m other))

borrows_one : (l m : Lender) → Borrowing l ≡ Borrowing m → m.0 ≡ l.0
borrows_one l m e = let F : SlabState → ℕ = lender_number in sym (ap F e)
  where
    lender_number : SlabState → ℕ
    lender_number (Borrowing l) = l.0
    lender_number _ = 0

abbrev pub KeepsButLease : Lender → Lease → Keeping → Keeping → Type 0
KeepsButLease l lease keeps keeps' =
    (m : Lender) (k : Lease) (i : ℕ) (bytes : List ℕ) → (m.0 ≡ l.0 → k.0 ≡ lease.0 → ⊥) → keeps m k i bytes → keeps' m k i bytes

-- a slab is lent: it is mapped with nothing flying
pub lent_serves : (keeps keeps' : Keeping) (owes owes' : Owing) (s : Sizes) (n : ℕ) (H : History) (cs : Calls) (r : Remote) (l : Lender) (t : Slab)
    (lease : Lease) (rest : List Request)
    → Serves keeps owes s n H cs r → is_up r.links l ≡ true → ring_of r.links l ≡ Borrow t ∷ rest → slabs.by_lease r.slabs l lease ≡ None
    → KeepsButLease l lease keeps keeps' → OwesAll owes owes' → Serves keeps' owes' s n H cs (remote.lent_after r l t lease)
lent_serves keeps keeps' owes owes' s n H cs r l t lease rest k up ring new kept owed =
    let x : Request = Borrow t in
    let awaited : AllByRecursion (IsAwaited s H cs r.slabs l) (x ∷ rest) =
    subst (λ ys. AllByRecursion (IsAwaited s H cs r.slabs l) ys) ring (k.link l).awaited in
    let is : slabs.state_of r.slabs t ≡ Borrowing l = awaited.0.1 in
    let within : t.0 < s.slabs = awaited.0.0 in
    let state : SlabState = slabs.after_lent (slabs.state_of r.slabs t) lease in
    let is_state : state ≡ Mapped l lease 0 = ap (λ y. slabs.after_lent y lease) is in
    let slab_in : t.0 < length r.slabs = subst (λ m. t.0 < m) (sym k.slabs_len) within in
    let lender_in : l.0 < n = (k.link l).lender up in
    let link_in : l.0 < length r.links = subst (λ m. l.0 < m) (sym k.links_len) (omega (arith, lender_in, k.few)) in
    let unmapped : (m : Lender) → IsLeasedFrom m (slabs.state_of r.slabs t) → ⊥ = λ m h. let P : SlabState → Type 0 = λ y. IsLeasedFrom m y in subst P is h in
    let fits : SlabFits s (rings.answered_after r.links l) t (Mapped l lease 0) = (
      answered-up r.links l l link_in ∙ up,
      sym (ap (flying_for s t) (answered-ring r.links l x rest link_in ring) ∙ flying_none s H cs r.slabs t l rest (unmapped l) awaited.1),
    ) in
    let single : AreSingle (slabs.with_state r.slabs t state) = let P : SlabState → Type 0 = λ y. AreSingle (slabs.with_state r.slabs t y) in
    subst P (sym is_state) (single_lent r.slabs t l lease slab_in is new k.single) in
    answered_serves keeps keeps' owes owes' s n H cs cs r r.bits l x rest t state k
    (record {
      up = up;
      ring = ring;
      slab_in = within;
      off = λ u other. refl;
      single = single;
      fits = let P : SlabState → Type 0 = λ y. SlabFits s (rings.answered_after r.links l) t y in subst P (sym is_state) fits;
      calls_len = refl;
      here =
          λ after h.
          All-with (MayPrecede x) (IsAwaited s H cs r.slabs l) (IsAwaited s H cs (slabs.with_state r.slabs t state) l) rest
          (λ y a b.
          awaited_set s H cs r.slabs t state l y (unmapped l) (after_borrow s H cs r.slabs t l y (borrowing_asks l l (slabs.state_of r.slabs t) is) a b) b)
          after h;
      there =
          λ m other y h.
          awaited_set s H cs r.slabs t state m y (unmapped m)
          (borrows_not s H cs r.slabs t m y (borrowing_asks l m (slabs.state_of r.slabs t) is) (λ e. other (borrows_one l m (sym is ∙ e))) h) h;
      owed = λ _ o. record { pages = o.pages; owed = owed l o.pages o.owed; reads = o.reads };
      others = λ m other _ o. record { pages = o.pages; owed = owed m o.pages o.owed; reads = o.reads };
    })
    refl
    (λ q q_in.
    by_slab
    (λ u. slab_of s q.0 ≡ u.0 → PageFits keeps s H r.links q (has_page r q) (slabs.state_of r.slabs u)
    → PageFits keeps' s H (rings.answered_after r.links l) q (has_page r q) (slabs.state_of (slabs.with_state r.slabs t state) u))
    t
    (slab_for s q)
    (λ e h.
    let P : SlabState → Type 0 = λ y. PageFits keeps s H r.links q (has_page r q) y in
    let Q : SlabState → Type 0 = λ y. PageFits keeps' s H (rings.answered_after r.links l) q (has_page r q) y in
    let clear : has_page r q ≡ false = subst P is h in
    let none : latest_write q (ring_of (rings.answered_after r.links l) l) ≡ None =
    ap (latest_write q) (answered-ring r.links l x rest link_in ring)
    ∙ latest_none s H cs r.slabs q l rest (λ h. unmapped l (subst (λ m. IsLeasedFrom l (slabs.state_of r.slabs (record { 0 = m }))) e h)) awaited.1 in
    subst Q (sym (state-same r.slabs t state slab_in ∙ is_state))
    ((λ set. absurd (not_both clear set)), subst (λ o. IsWriteKept keeps' H l lease (place_of s q.0) o) (sym none) tt))
    (λ other e h.
    let Q : SlabState → Type 0 = λ y. PageFits keeps' s H (rings.answered_after r.links l) q (has_page r q) y in
    subst Q (sym (state-other r.slabs t (slab_for s q) state other))
    (page_stays keeps keeps' s H r.links (rings.answered_after r.links l) q (has_page r q) (state_for s r.slabs q) (λ m j has. (
      latest_answered r.links l m x rest q link_in ring refl,
      λ bytes.
          kept m j (place_of s q.0) bytes
          (λ em ej. not_both (unleased r.slabs l lease (slab_for s q) new) (same_lease l m lease j (state_for s r.slabs q) em ej has)),
    )) h))
    refl (k.page q q_in))
  where
    not_both : {b : Bool} → b ≡ false → b ≡ true → ⊥
    not_both a b = cc

-- a slab is refused: it is local
pub refused_serves : (keeps keeps' : Keeping) (owes owes' : Owing) (s : Sizes) (n : ℕ) (H : History) (cs : Calls) (r : Remote) (l : Lender) (t : Slab)
    (rest : List Request)
    → Serves keeps owes s n H cs r → is_up r.links l ≡ true → ring_of r.links l ≡ Borrow t ∷ rest → KeepsAll keeps keeps' → OwesAll owes owes'
    → Serves keeps' owes' s n H cs (remote.refused_after r l t)
refused_serves keeps keeps' owes owes' s n H cs r l t rest k up ring kept owed =
    let x : Request = Borrow t in
    let awaited : AllByRecursion (IsAwaited s H cs r.slabs l) (x ∷ rest) =
    subst (λ ys. AllByRecursion (IsAwaited s H cs r.slabs l) ys) ring (k.link l).awaited in
    let is : slabs.state_of r.slabs t ≡ Borrowing l = awaited.0.1 in
    let within : t.0 < s.slabs = awaited.0.0 in
    let slab_in : t.0 < length r.slabs = subst (λ m. t.0 < m) (sym k.slabs_len) within in
    let lender_in : l.0 < n = (k.link l).lender up in
    let link_in : l.0 < length r.links = subst (λ m. l.0 < m) (sym k.links_len) (omega (arith, lender_in, k.few)) in
    let unmapped : (m : Lender) → IsLeasedFrom m (slabs.state_of r.slabs t) → ⊥ = λ m h. let P : SlabState → Type 0 = λ y. IsLeasedFrom m y in subst P is h in
    answered_serves keeps keeps' owes owes' s n H cs cs r r.bits l x rest t Local k
    (record {
      up = up;
      ring = ring;
      slab_in = within;
      off = λ u other. refl;
      single =
          single_same r.slabs t Local slab_in
          (λ m j. let P : SlabState → Type 0 = λ y. slabs.has_lease m j Local ≡ slabs.has_lease m j y in subst P (sym is) refl) k.single;
      fits = tt;
      calls_len = refl;
      here =
          λ after h.
          All-with (MayPrecede x) (IsAwaited s H cs r.slabs l) (IsAwaited s H cs (slabs.with_state r.slabs t Local) l) rest
          (λ y a b.
          awaited_set s H cs r.slabs t Local l y (unmapped l) (after_borrow s H cs r.slabs t l y (borrowing_asks l l (slabs.state_of r.slabs t) is) a b) b)
          after h;
      there =
          λ m other y h.
          awaited_set s H cs r.slabs t Local m y (unmapped m)
          (borrows_not s H cs r.slabs t m y (borrowing_asks l m (slabs.state_of r.slabs t) is) (λ e. other (borrows_one l m (sym is ∙ e))) h) h;
      owed = λ _ o. record { pages = o.pages; owed = owed l o.pages o.owed; reads = o.reads };
      others = λ m other _ o. record { pages = o.pages; owed = owed m o.pages o.owed; reads = o.reads };
    })
    refl
    (λ q q_in.
    by_slab
    (λ u. PageFits keeps s H r.links q (has_page r q) (slabs.state_of r.slabs u)
    → PageFits keeps' s H (rings.answered_after r.links l) q (has_page r q) (slabs.state_of (slabs.with_state r.slabs t Local) u))
    t
    (slab_for s q)
    (λ h.
    let P : SlabState → Type 0 = λ y. PageFits keeps s H r.links q (has_page r q) y in
    let Q : SlabState → Type 0 = λ y. PageFits keeps' s H (rings.answered_after r.links l) q (has_page r q) y in
    subst Q (sym (state-same r.slabs t Local slab_in)) (subst P is h))
    (λ other h.
    let Q : SlabState → Type 0 = λ y. PageFits keeps' s H (rings.answered_after r.links l) q (has_page r q) y in
    subst Q (sym (state-other r.slabs t (slab_for s q) Local other))
    (page_stays keeps keeps' s H r.links (rings.answered_after r.links l) q (has_page r q) (state_for s r.slabs q)
    (λ m j has. (latest_answered r.links l m x rest q link_in ring refl, kept m j (place_of s q.0))) h))
    (k.page q q_in))
