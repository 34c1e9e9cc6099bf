-- A write or a read comes back from the lender.
use Rattle.std.proofs.Common.{◌≡◌, ℕ, ◌+◌, ◌-◌, ◌<◌, Bool, true, false, cond, ◌==◌, ◌&&◌, List, [], ◌∷◌, length, set, get_or, refl, sym, ap, ◌∙◌, subst, arith, length-set, get_or-set_other, IsSome, Option, None, Some}
use Rattle.std.proofs.lemmas.Bool.{eqb-true, eqb-false, eq-eqb}
use Rattle.std.proofs.Math.Bool.{and-false}
use Rattle.std.specs.List.{AllByRecursion}
use Rattle.swap_base.specs.declared.Page.{Page}
use Rattle.swap_base.specs.declared.Slab.{Slab}
use Rattle.swap_base.specs.declared.Lender.{Lender}
use Rattle.swap_base.specs.declared.Lease.{Lease}
use Rattle.swap_base.specs.declared.Caller.{Caller}
use Rattle.swap_base.specs.declared.EntryNo.{EntryNo}
use Rattle.swap_base.specs.declared.Via.TheVariants as via
use Rattle.swap_base.specs.Sizes.{Sizes, pages_of, slab_of, place_of, zeros}
use Rattle.swap_queue.specs.Queue.{first_of}
use Rattle.swap_record.specs.History.{History, last}
use Rattle.swap_calls.specs.Calls as calls
use Rattle.swap_calls.specs.Calls.{Calls, state_of}
use Rattle.swap_calls.specs.declared.Arrived.TheVariants as arrived
use Rattle.swap_calls.specs.declared.CallState.{CallState}
use Rattle.swap_calls.specs.declared.CallState.TheVariants.{Idle, Room, Reading}
use Rattle.swap_slabs.specs.Slabs as slabs
use Rattle.swap_slabs.specs.declared.SlabState.{SlabState}
use Rattle.swap_slabs.specs.declared.SlabState.TheVariants.{Local, Asking, Borrowing, Mapped, Draining}
use Rattle.swap_bits.specs.Bits.{has, with_number}
use Rattle.swap_rings.specs.Rings as rings
use Rattle.swap_rings.specs.Rings.{LinkState, ring_of, is_up}
use Rattle.swap_rings.specs.declared.Request.{Request}
use Rattle.swap_rings.specs.declared.Request.TheVariants.{Query, Borrow, Write, Read}
use Rattle.swap_remote.specs.Remote as remote
use Rattle.swap_remote.specs.Remote.{Remote, slab_for, state_for, has_page}
use Rattle.swap_table.specs.Device.{is_newest}
use Rattle.swap_table.specs.Serves.{Keeping, Owing, is_for_slab, flying_for, entry_to, latest_write, bytes_of, IsLeasedFrom, WaitsFrom, IsAwaited, MayPrecede, AreInOrder, IsContent, AreOwed, OwesReads, SlabFits, IsWriteKept, IsReadable, PageFits, AreSingle, Serves}
use Rattle.swap_base.proofs.Lists.{by_page, not_eqb, one_if, All-implies}
use Rattle.swap_table.proofs.LeasesStayDistinct.{single_same, single_fewer}
use Rattle.swap_table.proofs.LinkTables.{by_slab, state-same, state-other, flying-cons, entry_to-own, entry_to-other}
use Rattle.swap_table.proofs.EntriesStay.{last_bytes, none_later}
use Rattle.swap_table.proofs.HistoryGoesOn.{latest_out}
use Rattle.swap_table.proofs.SendsKeepServing.{slab_within}
use Rattle.swap_table.proofs.RequestsKeepServing.{KeepsAll, OwesAll, OwesOthers, page_stays, mapped_stays}
use Rattle.swap_table.proofs.RepliesKeepServing.{All-with, answered-ring, answered-up, answered_serves}
use Rattle.swap_table.proofs.LendingKeepsSlabs.{BorrowsNot, not_for, borrows_not, latest_answered}

-- a slab that is mapped to a lender, or drains there
pub data Leased (l : Lender) (state : SlabState) : Type 0 where
  maps : (lease : Lease) (flying : ℕ) → state ≡ Mapped l lease flying → Leased l state
  drains : (lease : Lease) (flying : ℕ) → state ≡ Draining l lease flying → Leased l state

pub leased_of : (l : Lender) (state : SlabState) → IsLeasedFrom l state → Leased l state
leased_of l Local h = absurd h
leased_of l (Asking pair) h = absurd h
leased_of l (Borrowing m) h = absurd h
leased_of l (Mapped m lease flying) h = maps lease flying (ap (λ n. Mapped (record { 0 = n }) lease flying) h)
leased_of l (Draining m lease flying) h = drains lease flying (ap (λ n. Draining (record { 0 = n }) lease flying) h)

-- what is awaited, where a mapped slab stays mapped to the same lender
mapped_stays_set :
    (states : List SlabState) (t u : Slab) (state : SlabState) (m : Lender) → t.0 < length states
    → (IsLeasedFrom m (slabs.state_of states t) → IsLeasedFrom m state) → IsLeasedFrom m (slabs.state_of states u)
    → IsLeasedFrom m (slabs.state_of (slabs.with_state states t state) u)
mapped_stays_set states t u state m within same k =
    by_slab (λ u. IsLeasedFrom m (slabs.state_of states u) → IsLeasedFrom m (slabs.state_of (slabs.with_state states t state) u)) t u
    (λ k. subst (λ y. IsLeasedFrom m y) (sym (state-same states t state within)) (same k))
    (λ other k. subst (λ y. IsLeasedFrom m y) (sym (state-other states t u state other)) k) k

awaited_stays :
    (s : Sizes) (H : History) (cs : Calls) (states : List SlabState) (t : Slab) (state : SlabState) (m : Lender) (y : Request) → t.0 < length states
    → (IsLeasedFrom m (slabs.state_of states t) → IsLeasedFrom m state) → (slabs.asks m (slabs.state_of states t) ≡ true → ⊥)
    → (slabs.state_of states t ≡ Borrowing m → ⊥) → IsAwaited s H cs states m y
    → IsAwaited s H cs (slabs.with_state states t state) m y
awaited_stays s H cs states t state m (Query u) within same quiet off k = (
  k.0,
  by_slab (λ u. slabs.asks m (slabs.state_of states u) ≡ true → slabs.asks m (slabs.state_of (slabs.with_state states t state) u) ≡ true) t u
      (λ e. absurd (quiet e)) (λ other e. ap (slabs.asks m) (state-other states t u state other) ∙ e) k.1,
)
awaited_stays s H cs states t state m (Borrow u) within same quiet off k = (
  k.0,
  by_slab (λ u. slabs.state_of states u ≡ Borrowing m → slabs.state_of (slabs.with_state states t state) u ≡ Borrowing m) t u (λ e. absurd (off e))
      (λ other e. state-other states t u state other ∙ e) k.1,
)
awaited_stays s H cs states t state m (Write p e) within same quiet off k = (k.0, mapped_stays_set states t (slab_for s p) state m within same k.1, k.2)
awaited_stays s H cs states t state m (Read c p) within same quiet off k = (k.0, k.1, mapped_stays_set states t (slab_for s p) state m within same k.2, k.3)

mapped_borrows : (l m : Lender) (lease : Lease) (flying : ℕ) → Mapped l lease flying ≡ Borrowing m → ⊥
mapped_borrows l m lease flying e = cc

mapped_asks : (l m : Lender) (lease : Lease) (flying : ℕ) (state : SlabState) → state ≡ Mapped l lease flying → slabs.asks m state ≡ true → ⊥
mapped_asks l m lease flying state is h = let no : slabs.asks m (Mapped l lease flying) ≡ true = subst (λ y. slabs.asks m y ≡ true) is h in cc

-- one request fewer flies for a mapped slab
settled_fits :
    (s : Sizes) (links : List LinkState) (l : Lender) (x : Request) (rest : List Request) (t : Slab) (lease : Lease) (flying : ℕ) → l.0 < length links
    → ring_of links l ≡ x ∷ rest → is_for_slab s t x ≡ true → SlabFits s links t (Mapped l lease flying)
    → SlabFits s (rings.answered_after links l) t (Mapped l lease (flying - 1))
settled_fits s links l x rest t lease flying within ring here k =
    let all : flying ≡ 1 + flying_for s t rest = k.1 ∙ ap (flying_for s t) ring ∙ flying-cons s t x rest ∙ ap (λ b. one_if b + flying_for s t rest) here in
    (answered-up links l l within ∙ k.0, omega (arith, all) ∙ sym (ap (flying_for s t) (answered-ring links l x rest within ring)))

-- the writes of a page after one of it are of later entries
latest_after : (p : Page) (e : EntryNo) (ring : List Request) (g : EntryNo) → AllByRecursion (MayPrecede (Write p e)) ring → latest_write p ring ≡ Some g
    → e.0 < g.0
latest_after p e [] g all is = cc
latest_after p e (y ∷ ring) g all is = go (latest_write p ring) refl is (latest_after p e ring g all.1)
  where
    here : (y : Request) → MayPrecede (Write p e) y → entry_to p y ≡ Some g → e.0 < g.0
    here (Query u) h is = cc
    here (Borrow u) h is = cc
    here (Read c q) h is = cc
    here (Write q f) h is = test (q.0 == p.0) refl is
      where
        test : (b : Bool) → (q.0 == p.0) ≡ b → cond b (Some f) None ≡ Some g → e.0 < g.0
        test true same is = let entry : f ≡ g = cc in subst (λ (x : EntryNo). e.0 < x.0) entry (h (sym (eqb-true q.0 p.0 same)))
        test false same is = cc

    go : (o : Option EntryNo) → latest_write p ring ≡ o → first_of o (entry_to p y) ≡ Some g → (latest_write p ring ≡ Some g → e.0 < g.0) → e.0 < g.0
    go (Some f) same is rest = rest (same ∙ is)
    go None same is rest = here y all.0 is

none_after :
    (s : Sizes) (H : History) (cs : Calls) (states : List SlabState) (l : Lender) (p : Page) (e : EntryNo) (ring : List Request)
    → AllByRecursion (MayPrecede (Write p e)) ring → AllByRecursion (IsAwaited s H cs states l) ring → last H p ≡ Some e → latest_write p ring ≡ None
none_after s H cs states l p e ring order awaited newest = go (latest_write p ring) refl
  where
    go : (o : Option EntryNo) → latest_write p ring ≡ o → o ≡ None
    go None is = refl
    go (Some g) is = absurd (omega (arith, latest_after p e ring g order is, none_later H p e g newest (latest_out s H cs states l p ring g awaited is)))

pub newest_is : (o : Option EntryNo) (e : EntryNo) → is_newest o e ≡ true → o ≡ Some e
newest_is None e is = cc
newest_is (Some f) e is = ap (λ n. Some (record { 0 = n })) (eqb-true f.0 e.0 is)

with_page_is : (b : Bool) (r : Remote) (p : Page) → remote.with_page_if b r p ≡ record r { bits = cond b (with_number r.bits p.0) r.bits }
with_page_is true r p = refl
with_page_is false r p = refl

-- the facts of the page whose write came back
write_back : (keeps keeps' : Keeping) (s : Sizes) (H : History) (links links' : List LinkState) (bits : List Bool) (p : Page) (l : Lender) (lease : Lease)
    (f f' : ℕ) (e : EntryNo) (rest : List Request) (b : Bool)
    → p.0 < length bits → ring_of links l ≡ Write p e ∷ rest → ring_of links' l ≡ rest → (b ≡ true → last H p ≡ Some e)
    → (last H p ≡ Some e → latest_write p rest ≡ None) → ((bytes : List ℕ) → keeps l lease (place_of s p.0) bytes → keeps' l lease (place_of s p.0) bytes)
    → PageFits keeps s H links p (has bits p.0) (Mapped l lease f)
    → PageFits keeps' s H links' p (has (cond b (with_number bits p.0) bits) p.0) (Mapped l lease f')
write_back keeps keeps' s H links links' bits p l lease f f' e rest b within ring ring' newest none kept h =
    (readable b newest, subst (λ o. IsWriteKept keeps' H l lease (place_of s p.0) o) (sym (ap (latest_write p) ring')) (left (latest_write p rest) refl))
  where
    before : latest_write p (ring_of links l) ≡ first_of (latest_write p rest) (Some e)
    before = ap (latest_write p) ring ∙ ap (λ o. first_of (latest_write p rest) o) (entry_to-own p e)

    never_none : (o : Option EntryNo) → first_of o (Some e) ≡ None → ⊥
    never_none None is = cc
    never_none (Some g) is = cc

    left : (o : Option EntryNo) → latest_write p rest ≡ o → IsWriteKept keeps' H l lease (place_of s p.0) o
    left None is = tt
    left (Some g) is =
        let was : latest_write p (ring_of links l) ≡ Some g = before ∙ ap (λ o. first_of o (Some e)) is in
        kept (bytes_of H g) (let P : Option EntryNo → Type 0 = λ o. IsWriteKept keeps H l lease (place_of s p.0) o in subst P was h.1)

    readable :
        (b : Bool) → (b ≡ true → last H p ≡ Some e) → has (cond b (with_number bits p.0) bits) p.0 ≡ true
        → IsReadable keeps' (zeros s) H p l lease (place_of s p.0) (ring_of links' l)
    readable false newest set = absurd (never_none (latest_write p rest) (sym before ∙ (h.0 set).none))
    readable true newest set =
        let is : last H p ≡ Some e = newest refl in
        let was : latest_write p (ring_of links l) ≡ Some e = before ∙ ap (λ o. first_of o (Some e)) (none is) in
        let here : keeps l lease (place_of s p.0) (bytes_of H e) = let P : Option EntryNo → Type 0 = λ o. IsWriteKept keeps H l lease (place_of s p.0) o in
        subst P was h.1 in
        record {
          some = subst (λ o. IsSome o) (sym is) refl;
          none = ap (latest_write p) ring' ∙ none is;
          kept = subst (λ bytes. keeps' l lease (place_of s p.0) bytes) (last_bytes (zeros s) H p e is) (kept (bytes_of H e) here);
        }

-- the pages whose writes didn't come back
pub page_back :
    (keeps keeps' : Keeping) (s : Sizes) (H : History) (r : Remote) (l : Lender) (q : Page) (x : Request) (rest : List Request) (t : Slab) (state : SlabState)
    (lease : Lease) (flying : ℕ)
    → l.0 < length r.links → t.0 < length r.slabs → ring_of r.links l ≡ x ∷ rest → entry_to q x ≡ None
    → slabs.state_of r.slabs t ≡ Mapped l lease flying → state ≡ Mapped l lease (flying - 1) → KeepsAll keeps keeps'
    → PageFits keeps s H r.links q (has_page r q) (state_for s r.slabs q)
    → PageFits keeps' s H (rings.answered_after r.links l) q (has_page r q) (state_for s (slabs.with_state r.slabs t state) q)
page_back keeps keeps' s H r l q x rest t state lease flying link_in slab_in ring none is is_state kept h =
    by_slab
    (λ u. PageFits keeps s H r.links q (has_page r q) (slabs.state_of r.slabs u)
    → PageFits keeps' s H (rings.answered_after r.links l) q (has_page r q) (slabs.state_of (slabs.with_state r.slabs t state) u))
    t
    (slab_for s q)
    (λ h.
    let P : SlabState → Type 0 = λ y. PageFits keeps s H r.links q (has_page r q) y in
    let Q : SlabState → Type 0 = λ y. PageFits keeps' s H (rings.answered_after r.links l) q (has_page r q) y in
    subst Q (sym (state-same r.slabs t state slab_in ∙ is_state))
    (mapped_stays keeps keeps' s H r.links (rings.answered_after r.links l) q (has_page r q) l lease flying (flying - 1)
    (latest_answered r.links l l x rest q link_in ring none) (kept l lease (place_of s q.0)) (subst P is h)))
    (λ other h.
    let Q : SlabState → Type 0 = λ y. PageFits keeps' s H (rings.answered_after r.links l) q (has_page r q) y in
    subst Q (sym (state-other r.slabs t (slab_for s q) state other))
    (page_stays keeps keeps' s H r.links (rings.answered_after r.links l) q (has_page r q) (state_for s r.slabs q)
    (λ m j has. (latest_answered r.links l m x rest q link_in ring none, kept m j (place_of s q.0))) h))
    h

-- what is awaited, where a request isn't for the slab that has a new state
awaited_apart :
    (s : Sizes) (H : History) (cs : Calls) (states : List SlabState) (t : Slab) (state : SlabState) (m : Lender) (y : Request) → is_for_slab s t y ≡ false
    → BorrowsNot t y → IsAwaited s H cs states m y → IsAwaited s H cs (slabs.with_state states t state) m y
awaited_apart s H cs states t state m (Query u) off not k = (k.0, ap (slabs.asks m) (state-other states t u state not) ∙ k.1)
awaited_apart s H cs states t state m (Borrow u) off not k = (k.0, state-other states t u state not ∙ k.1)
awaited_apart s H cs states t state m (Write p e) off not k =
    (k.0, subst (λ y. IsLeasedFrom m y) (sym (state-other states t (slab_for s p) state (eqb-false (slab_of s p.0) t.0 off))) k.1, k.2)
awaited_apart s H cs states t state m (Read c p) off not k =
    (k.0, k.1, subst (λ y. IsLeasedFrom m y) (sym (state-other states t (slab_for s p) state (eqb-false (slab_of s p.0) t.0 off))) k.2, k.3)

-- no request is for a slab for which none flies
pub none_for : (s : Sizes) (t : Slab) (ring : List Request) → flying_for s t ring ≡ 0 → AllByRecursion (λ y. is_for_slab s t y ≡ false) ring
none_for s t [] e = tt
none_for s t (y ∷ ring) e = let both = apart (is_for_slab s t y) refl in (both.0, none_for s t ring both.1)
  where
    apart : (b : Bool) → is_for_slab s t y ≡ b → (is_for_slab s t y ≡ false) × (flying_for s t ring ≡ 0)
    apart false is = let all = flying-cons s t y ring ∙ ap (λ b. one_if b + flying_for s t ring) is in (is, omega (arith, all, e))
    apart true is = let all = flying-cons s t y ring ∙ ap (λ b. one_if b + flying_for s t ring) is in absurd (omega (arith, all, e))

-- a slab of the lender drains, or is local where nothing flies: what it is, what is awaited, and its pages
pub drained_fits :
    (s : Sizes) (links : List LinkState) (l : Lender) (t : Slab) (lease : Lease) (flying : ℕ) → is_up links l ≡ true → flying ≡ flying_for s t (ring_of links l)
    → SlabFits s links t (slabs.drain_to l lease flying)
drained_fits s links l t lease flying up all = go (flying == 0)
  where
    go : (b : Bool) → SlabFits s links t (cond b Local (Draining l lease flying))
    go true = tt
    go false = (up, all)

pub drained_lease :
    (l m : Lender) (lease k : Lease) (flying : ℕ) → slabs.has_lease m k (slabs.drain_to l lease flying) ≡ true
    → slabs.has_lease m k (Mapped l lease flying) ≡ true
drained_lease l m lease k flying h = go (flying == 0) h
  where
    go : (b : Bool) → slabs.has_lease m k (cond b Local (Draining l lease flying)) ≡ true → slabs.has_lease m k (Mapped l lease flying) ≡ true
    go true h = cc
    go false h = h

-- a slab that is mapped to a lender, or drains there, neither asks nor borrows
pub record IsAtRest (state : SlabState) : Type 0 where
  pub quiet : (m : Lender) → slabs.asks m state ≡ true → ⊥
  pub off : (m : Lender) → state ≡ Borrowing m → ⊥

pub mapped_rests : (l : Lender) (lease : Lease) (flying : ℕ) (state : SlabState) → state ≡ Mapped l lease flying → IsAtRest state
mapped_rests l lease flying state is =
    record { quiet = λ m h. mapped_asks l m lease flying state is h; off = λ m e. mapped_borrows l m lease flying (sym is ∙ e) }

drains_rests : (l : Lender) (lease : Lease) (flying : ℕ) (state : SlabState) → state ≡ Draining l lease flying → IsAtRest state
drains_rests l lease flying state is =
    record {
      quiet = λ m h. (let no : slabs.asks m (Draining l lease flying) ≡ true = subst (λ y. slabs.asks m y ≡ true) is h in cc);
      off = λ m e. (let no : Draining l lease flying ≡ Borrowing m = sym is ∙ e in cc);
    }

pub drained_awaited :
    (s : Sizes) (H : History) (cs : Calls) (states : List SlabState) (t : Slab) (l : Lender) (lease : Lease) (flying : ℕ) (rest : List Request)
    → t.0 < length states → IsAtRest (slabs.state_of states t) → flying ≡ flying_for s t rest → AllByRecursion (IsAwaited s H cs states l) rest
    → AllByRecursion (IsAwaited s H cs (slabs.with_state states t (slabs.drain_to l lease flying)) l) rest
drained_awaited s H cs states t l lease flying rest within at_rest all h = go (flying == 0) refl
  where
    go : (b : Bool) → (flying == 0) ≡ b → AllByRecursion (IsAwaited s H cs (slabs.with_state states t (cond b Local (Draining l lease flying))) l) rest
    go true none =
        All-with (λ y. is_for_slab s t y ≡ false) (IsAwaited s H cs states l) (IsAwaited s H cs (slabs.with_state states t Local) l) rest
        (λ y off a. awaited_apart s H cs states t Local l y off (borrows_not s H cs states t l y (at_rest.quiet l) (at_rest.off l) a) a)
        (none_for s t rest (sym all ∙ eqb-true flying 0 none)) h
    go false some =
        All-implies (IsAwaited s H cs states l) (IsAwaited s H cs (slabs.with_state states t (Draining l lease flying)) l) rest
        (λ y a. awaited_stays s H cs states t (Draining l lease flying) l y within (λ _. refl) (at_rest.quiet l) (at_rest.off l) a) h

-- and on other links
pub drained_elsewhere :
    (s : Sizes) (H : History) (cs : Calls) (states : List SlabState) (t : Slab) (state : SlabState) (m : Lender) (y : Request)
    → IsAtRest (slabs.state_of states t) → (IsLeasedFrom m (slabs.state_of states t) → ⊥) → IsAwaited s H cs states m y
    → IsAwaited s H cs (slabs.with_state states t state) m y
drained_elsewhere s H cs states t state m y at_rest away a =
    awaited_apart s H cs states t state m y (not_for s H cs states t m y away a) (borrows_not s H cs states t m y (at_rest.quiet m) (at_rest.off m) a) a

pub drained_page :
    (keeps : Keeping) (s : Sizes) (H : History) (links : List LinkState) (q : Page) (bit : Bool) (l : Lender) (lease : Lease) (flying : ℕ) → bit ≡ false
    → PageFits keeps s H links q bit (slabs.drain_to l lease flying)
drained_page keeps s H links q bit l lease flying clear = go (flying == 0)
  where
    go : (b : Bool) → PageFits keeps s H links q bit (cond b Local (Draining l lease flying))
    go true = clear
    go false = clear

-- the oldest request was answered, and was for a page of a slab that drains
module _ (keeps keeps' : Keeping) (owes : Owing) (s : Sizes) (n : ℕ) (H : History) (cs : Calls) (r : Remote) (l : Lender) (x : Request) (rest : List Request)
    (t : Slab) (lease : Lease) (flying : ℕ)
    (k : Serves keeps owes s n H cs r) (up : is_up r.links l ≡ true) (ring : ring_of r.links l ≡ x ∷ rest) (within : t.0 < s.slabs)
    (is : slabs.state_of r.slabs t ≡ Draining l lease flying) (here : is_for_slab s t x ≡ true) where
  abbrev settled_state : SlabState
  settled_state = slabs.after_settled (slabs.state_of r.slabs t)

  settled_is : settled_state ≡ slabs.drain_to l lease (flying - 1)
  settled_is = ap slabs.after_settled is

  settled_in : t.0 < length r.slabs
  settled_in = subst (λ m. t.0 < m) (sym k.slabs_len) within

  settled_link : l.0 < length r.links
  settled_link = let lender_in : l.0 < n = (k.link l).lender up in subst (λ m. l.0 < m) (sym k.links_len) (omega (arith, lender_in, k.few))

  settled_rest : flying - 1 ≡ flying_for s t rest
  settled_rest =
      let before : SlabFits s r.links t (Draining l lease flying) = let P : SlabState → Type 0 = λ y. SlabFits s r.links t y in subst P is (k.slab t within) in
      let all : flying ≡ 1 + flying_for s t rest =
      before.1 ∙ ap (flying_for s t) ring ∙ flying-cons s t x rest ∙ ap (λ b. one_if b + flying_for s t rest) here in
      omega (arith, all)

  settled_fit : SlabFits s (rings.answered_after r.links l) t settled_state
  settled_fit =
      let P : SlabState → Type 0 = λ y. SlabFits s (rings.answered_after r.links l) t y in
      subst P (sym settled_is)
      (drained_fits s (rings.answered_after r.links l) l t lease (flying - 1) (answered-up r.links l l settled_link ∙ up)
      (settled_rest ∙ sym (ap (flying_for s t) (answered-ring r.links l x rest settled_link ring))))

  settled_single : AreSingle (slabs.with_state r.slabs t settled_state)
  settled_single =
      single_fewer r.slabs t settled_state settled_in
      (λ m j h. ap (slabs.has_lease m j) is ∙ drained_lease l m lease j (flying - 1) (sym (ap (slabs.has_lease m j) settled_is) ∙ h)) k.single

  settled_here : AllByRecursion (IsAwaited s H cs r.slabs l) rest → AllByRecursion (IsAwaited s H cs (slabs.with_state r.slabs t settled_state) l) rest
  settled_here h =
      let P : SlabState → Type 0 = λ y. AllByRecursion (IsAwaited s H cs (slabs.with_state r.slabs t y) l) rest in
      subst P (sym settled_is)
      (drained_awaited s H cs r.slabs t l lease (flying - 1) rest settled_in (drains_rests l lease flying (slabs.state_of r.slabs t) is) settled_rest h)

  settled_there :
      (m : Lender) → (m.0 ≡ l.0 → ⊥) → (y : Request) → IsAwaited s H cs r.slabs m y → IsAwaited s H cs (slabs.with_state r.slabs t settled_state) m y
  settled_there m other y a =
      drained_elsewhere s H cs r.slabs t settled_state m y (drains_rests l lease flying (slabs.state_of r.slabs t) is) (λ h. other (sym (away h))) a
    where
      away : IsLeasedFrom m (slabs.state_of r.slabs t) → l.0 ≡ m.0
      away h = let P : SlabState → Type 0 = λ y. IsLeasedFrom m y in let h' : IsLeasedFrom m (Draining l lease flying) = subst P is h in h'

  settled_page :
      (q : Page) → ((slab_of s q.0 ≡ t.0 → ⊥) → entry_to q x ≡ None) → KeepsAll keeps keeps'
      → PageFits keeps s H r.links q (has_page r q) (state_for s r.slabs q)
      → PageFits keeps' s H (rings.answered_after r.links l) q (has_page r q) (state_for s (slabs.with_state r.slabs t settled_state) q)
  settled_page q none kept h =
      by_slab
      (λ u. (u.0 ≡ slab_of s q.0) → PageFits keeps s H r.links q (has_page r q) (slabs.state_of r.slabs u)
      → PageFits keeps' s H (rings.answered_after r.links l) q (has_page r q) (slabs.state_of (slabs.with_state r.slabs t settled_state) u))
      t
      (slab_for s q)
      (λ _ h.
      let P : SlabState → Type 0 = λ y. PageFits keeps s H r.links q (has_page r q) y in
      let Q : SlabState → Type 0 = λ y. PageFits keeps' s H (rings.answered_after r.links l) q (has_page r q) y in
      subst Q (sym (state-same r.slabs t settled_state settled_in ∙ settled_is))
      (drained_page keeps' s H (rings.answered_after r.links l) q (has_page r q) l lease (flying - 1) (subst P is h)))
      (λ other _ h.
      let Q : SlabState → Type 0 = λ y. PageFits keeps' s H (rings.answered_after r.links l) q (has_page r q) y in
      subst Q (sym (state-other r.slabs t (slab_for s q) settled_state other))
      (page_stays keeps keeps' s H r.links (rings.answered_after r.links l) q (has_page r q) (state_for s r.slabs q)
      (λ m j has. (latest_answered r.links l m x rest q settled_link ring (none other), kept m j (place_of s q.0))) h))
      refl h

-- a write of a page whose slab is mapped came back
written_maps : (keeps keeps' : Keeping) (owes owes' : Owing) (s : Sizes) (n : ℕ) (H : History) (cs : Calls) (r : Remote) (l : Lender) (p : Page) (e : EntryNo)
    (rest : List Request)
    → Serves keeps owes s n H cs r → is_up r.links l ≡ true → ring_of r.links l ≡ Write p e ∷ rest → (lease : Lease) (flying : ℕ)
    → state_for s r.slabs p ≡ Mapped l lease flying → KeepsAll keeps keeps' → OwesAll owes owes'
    → Serves keeps' owes' s n H cs (remote.written_after s r l p (is_newest (last H p) e))
written_maps keeps keeps' owes owes' s n H cs r l p e rest k up ring lease flying is kept owed =
    let x : Request = Write p e in
    let t : Slab = slab_for s p in
    let awaited : AllByRecursion (IsAwaited s H cs r.slabs l) (x ∷ rest) =
    subst (λ ys. AllByRecursion (IsAwaited s H cs r.slabs l) ys) ring (k.link l).awaited in
    let ordered : AreInOrder (x ∷ rest) = subst AreInOrder ring (k.link l).ordered in
    let page_in : p.0 < pages_of s = awaited.0.0 in
    let slab_within' : t.0 < s.slabs = slab_within s p.0 page_in in
    let slab_in : t.0 < length r.slabs = subst (λ m. t.0 < m) (sym k.slabs_len) slab_within' in
    let lender_in : l.0 < n = (k.link l).lender up in
    let link_in : l.0 < length r.links = subst (λ m. l.0 < m) (sym k.links_len) (omega (arith, lender_in, k.few)) in
    let state : SlabState = slabs.after_settled (slabs.state_of r.slabs t) in
    let is_state : state ≡ Mapped l lease (flying - 1) = ap slabs.after_settled is in
    let before : SlabFits s r.links t (Mapped l lease flying) = let P : SlabState → Type 0 = λ y. SlabFits s r.links t y in
    subst P is (k.slab t slab_within') in
    let fits : SlabFits s (rings.answered_after r.links l) t (Mapped l lease (flying - 1)) =
    settled_fits s r.links l x rest t lease flying link_in ring (eq-eqb (slab_of s p.0) (slab_of s p.0) refl) before in
    let same : (j : Lender) → IsLeasedFrom j (slabs.state_of r.slabs t) → IsLeasedFrom j state =
    λ j h. let P : SlabState → Type 0 = λ y. IsLeasedFrom j y in
    subst P (sym is_state) (let h' : IsLeasedFrom j (Mapped l lease flying) = subst P is h in h') in
    let off : (j : Lender) → slabs.state_of r.slabs t ≡ Borrowing j → ⊥ = λ j e. mapped_borrows l j lease flying (sym is ∙ e) in
    let quiet : (j : Lender) → slabs.asks j (slabs.state_of r.slabs t) ≡ true → ⊥ = λ j h. mapped_asks l j lease flying (slabs.state_of r.slabs t) is h in
    let newest : Bool = is_newest (last H p) e && slabs.is_mapped (state_for s r.slabs p) in
    let is_newest_too : newest ≡ true → last H p ≡ Some e =
    λ is. newest_is (last H p) e (and_first (is_newest (last H p) e) (slabs.is_mapped (state_for s r.slabs p)) is) in
    let bits : List Bool = cond newest (with_number r.bits p.0) r.bits in
    let bits_len : length bits ≡ length r.bits = chosen_len newest r.bits p.0 in
    let bit_in : p.0 < length r.bits = subst (λ m. p.0 < m) (sym k.bits_len) page_in in
    let old : PageFits keeps s H r.links p (has_page r p) (Mapped l lease flying) = let P : SlabState
    → Type 0 = λ y. PageFits keeps s H r.links p (has_page r p) y in
    subst P is (k.page p page_in) in
    let here : PageFits keeps' s H (rings.answered_after r.links l) p (get_or bits p.0 false) (Mapped l lease (flying - 1)) =
    write_back keeps keeps' s H r.links (rings.answered_after r.links l) r.bits p l lease flying (flying - 1) e rest newest bit_in ring
    (answered-ring r.links l x rest link_in ring) is_newest_too (λ is. none_after s H cs r.slabs l p e rest ordered.0 awaited.1 is)
    (kept l lease (place_of s p.0)) old in
    let R : Remote → Type 0 = λ y. Serves keeps' owes' s n H cs y in
    subst R (sym (with_page_is newest (remote.settled_for s r l p) p))
    (answered_serves keeps keeps' owes owes' s n H cs cs r bits l x rest t state k
    (record {
      up = up;
      ring = ring;
      slab_in = slab_within';
      off = λ u other. not_eqb (slab_of s p.0) u.0 (λ e. other (sym e));
      single =
          single_same r.slabs t state slab_in
          (λ j o. let P : SlabState → Type 0 = λ y. slabs.has_lease j o (slabs.after_settled y) ≡ slabs.has_lease j o y in subst P (sym is) refl) k.single;
      fits = let P : SlabState → Type 0 = λ y. SlabFits s (rings.answered_after r.links l) t y in subst P (sym is_state) fits;
      calls_len = refl;
      here =
          λ after h.
          All-implies (IsAwaited s H cs r.slabs l) (IsAwaited s H cs (slabs.with_state r.slabs t state) l) rest
          (λ y h. awaited_stays s H cs r.slabs t state l y slab_in (same l) (quiet l) (off l) h) h;
      there = λ j other y h. awaited_stays s H cs r.slabs t state j y slab_in (same j) (quiet j) (off j) h;
      owed = λ _ o. record { pages = o.pages; owed = owed l o.pages o.owed; reads = o.reads };
      others = λ j other _ o. record { pages = o.pages; owed = owed j o.pages o.owed; reads = o.reads };
    })
    bits_len
    (λ q q_in.
    by_page
    (λ q. q.0 < pages_of s → PageFits keeps' s H (rings.answered_after r.links l) q (get_or bits q.0 false) (state_for s (slabs.with_state r.slabs t state) q))
    p q
    (λ _. let Q : SlabState → Type 0 = λ y. PageFits keeps' s H (rings.answered_after r.links l) p (get_or bits p.0 false) y in
    subst Q (sym (state-same r.slabs t state slab_in ∙ is_state)) here)
    (λ other q_in.
    let bit : get_or bits q.0 false ≡ has_page r q = chosen_bit newest r.bits p.0 q.0 other in
    let Q : Bool → Type 0 = λ b. PageFits keeps' s H (rings.answered_after r.links l) q b (state_for s (slabs.with_state r.slabs t state) q) in
    subst Q (sym bit)
    (page_back keeps keeps' s H r l q x rest t state lease flying link_in slab_in ring (entry_to-other q p e other) is is_state kept (k.page q q_in)))
    q_in))
  where
    and_first : (a b : Bool) → (a && b) ≡ true → a ≡ true
    and_first true b is = refl
    and_first false b is = cc

    chosen_len : (b : Bool) (bits : List Bool) (i : ℕ) → length (cond b (with_number bits i) bits) ≡ length bits
    chosen_len true bits i = length-set bits i true
    chosen_len false bits i = refl

    chosen_bit : (b : Bool) (bits : List Bool) (i j : ℕ) → (j ≡ i → ⊥) → get_or (cond b (with_number bits i) bits) j false ≡ get_or bits j false
    chosen_bit true bits i j other = get_or-set_other bits i j true false other
    chosen_bit false bits i j other = refl

-- a read that came back: its caller's call has the page, and every other waits on
came_other : (cs : Calls) (c d : Caller) (bytes : List ℕ) → (d.0 ≡ c.0 → ⊥) → state_of (calls.came_after cs c bytes) d ≡ state_of cs d
came_other cs c d bytes other = ap (λ (x : calls.Call). x.state) (get_or-set_other cs c.0 d.0 _ calls.idle_call other)

awaited_came :
    (s : Sizes) (H : History) (cs : Calls) (states : List SlabState) (m : Lender) (c : Caller) (bytes : List ℕ) (y : Request)
    → ((d : Caller) (q : Page) → y ≡ Read d q → d.0 ≡ c.0 → ⊥) → IsAwaited s H cs states m y → IsAwaited s H (calls.came_after cs c bytes) states m y
awaited_came s H cs states m c bytes (Query u) other k = k
awaited_came s H cs states m c bytes (Borrow u) other k = k
awaited_came s H cs states m c bytes (Write p e) other k = k
awaited_came s H cs states m c bytes (Read d q) other k =
    (k.0, k.1, k.2, let P : CallState → Type 0 = λ y. WaitsFrom m q y in subst P (sym (came_other cs c d bytes (other d q refl))) k.3)

owed_came :
    (H : History) (cs : Calls) (c : Caller) (bytes : List ℕ) (ring : List Request) (pages : List (List ℕ))
    → AllByRecursion (λ y. (d : Caller) (q : Page) → y ≡ Read d q → d.0 ≡ c.0 → ⊥) ring → AreOwed H cs ring pages
    → AreOwed H (calls.came_after cs c bytes) ring pages
owed_came H cs c bytes [] [] all o = o
owed_came H cs c bytes [] (page ∷ pages) all o = o
owed_came H cs c bytes (Query u ∷ ring) pages all o = owed_came H cs c bytes ring pages all.1 o
owed_came H cs c bytes (Borrow u ∷ ring) pages all o = owed_came H cs c bytes ring pages all.1 o
owed_came H cs c bytes (Write p e ∷ ring) pages all o = owed_came H cs c bytes ring pages all.1 o
owed_came H cs c bytes (Read d q ∷ ring) [] all o = o
owed_came H cs c bytes (Read d q ∷ ring) (page ∷ pages) all o = (
  let P : CallState → Type 0 = λ y. IsContent H page q y in
      subst P (sym (came_other cs c d bytes (all.0 d q refl))) o.0,
  owed_came H cs c bytes ring pages all.1 o.1,
)

-- the reads after a caller's, and those on other links, are other callers'
after_read : (c : Caller) (p : Page) (y : Request) → MayPrecede (Read c p) y → (d : Caller) (q : Page) → y ≡ Read d q → d.0 ≡ c.0 → ⊥
after_read c p (Query u) h d q is same = cc
after_read c p (Borrow u) h d q is same = cc
after_read c p (Write o e) h d q is same = cc
after_read c p (Read b o) h d q is same = h (sym (reader_is b d o q is ∙ same))
  where
    reader_is : (b d : Caller) (o q : Page) → Read b o ≡ Read d q → b.0 ≡ d.0
    reader_is b d o q is = let F : Request → ℕ = reader in ap F is
      where
        reader : Request → ℕ
        reader (Read c p) = c.0
        reader _ = 0

-- a call waits for one lender
waits_one : (l m : Lender) (p q : Page) (state : CallState) → WaitsFrom l p state → WaitsFrom m q state → m.0 ≡ l.0
waits_one l m p q Idle a b = absurd a
waits_one l m p q (Room r since) a b = absurd a
waits_one l m p q (Reading r newest via.Disk how newer since) a b = absurd a
waits_one l m p q (Reading r newest (via.Lender o) arrived.Waiting newer since) a b = sym b.1 ∙ a.1
waits_one l m p q (Reading r newest (via.Lender o) arrived.Came newer since) a b = absurd a
waits_one l m p q (Reading r newest (via.Lender o) arrived.Failed newer since) a b = absurd a
waits_one l m p q (Reading r newest (via.Lender o) arrived.Lost newer since) a b = absurd a

elsewhere :
    (s : Sizes) (H : History) (cs : Calls) (states : List SlabState) (l m : Lender) (c : Caller) (p : Page) (y : Request) → WaitsFrom l p (state_of cs c)
    → (m.0 ≡ l.0 → ⊥) → IsAwaited s H cs states m y → (d : Caller) (q : Page) → y ≡ Read d q → d.0 ≡ c.0 → ⊥
elsewhere s H cs states l m c p (Query u) w other a d q is same = cc
elsewhere s H cs states l m c p (Borrow u) w other a d q is same = cc
elsewhere s H cs states l m c p (Write o e) w other a d q is same = cc
elsewhere s H cs states l m c p (Read b o) w other a d q is same =
    let reader : b.0 ≡ c.0 = reader_is b d o q is ∙ same in
    other (waits_one l m p o (state_of cs c) w (subst (λ n. WaitsFrom m o (state_of cs (record { 0 = n }))) reader a.3))
  where
    reader_is : (b d : Caller) (o q : Page) → Read b o ≡ Read d q → b.0 ≡ d.0
    reader_is b d o q is = let F : Request → ℕ = reader in ap F is
      where
        reader : Request → ℕ
        reader (Read c p) = c.0
        reader _ = 0

-- the page owed to the oldest read
pub record OwesFirst (owes : Owing) (H : History) (cs : Calls) (l : Lender) (c : Caller) (p : Page) (rest : List Request) : Type 0 where
  pub page : List ℕ
  pub more : List (List ℕ)
  pub owed : owes l (page ∷ more)
  pub content : IsContent H page p (state_of cs c)
  pub reads : AreOwed H cs rest more

pub owes_first :
    (owes : Owing) (H : History) (cs : Calls) (l : Lender) (c : Caller) (p : Page) (rest : List Request) → OwesReads owes H cs l (Read c p ∷ rest)
    → OwesFirst owes H cs l c p rest
owes_first owes H cs l c p rest o = go o.pages o.owed o.reads
  where
    go : (pages : List (List ℕ)) → owes l pages → AreOwed H cs (Read c p ∷ rest) pages → OwesFirst owes H cs l c p rest
    go [] owed reads = absurd reads
    go (page ∷ more) owed reads = record { page = page; more = more; owed = owed; content = reads.0; reads = reads.1 }

-- a read of a page whose slab is mapped came back
brought_maps : (keeps keeps' : Keeping) (owes owes' : Owing) (s : Sizes) (n : ℕ) (H : History) (cs : Calls) (r : Remote) (l : Lender) (c : Caller) (p : Page)
    (bytes : List ℕ) (rest : List Request)
    → Serves keeps owes s n H cs r → is_up r.links l ≡ true → ring_of r.links l ≡ Read c p ∷ rest → (lease : Lease) (flying : ℕ)
    → state_for s r.slabs p ≡ Mapped l lease flying → KeepsAll keeps keeps' → OwesOthers l owes owes'
    → ((page : List ℕ) (more : List (List ℕ)) → owes l (page ∷ more) → owes' l more)
    → Serves keeps' owes' s n H (calls.came_after cs c bytes) (remote.settled_for s r l p)
brought_maps keeps keeps' owes owes' s n H cs r l c p bytes rest k up ring lease flying is kept others less =
    let x : Request = Read c p in
    let t : Slab = slab_for s p in
    let cs' : Calls = calls.came_after cs c bytes in
    let awaited : AllByRecursion (IsAwaited s H cs r.slabs l) (x ∷ rest) =
    subst (λ ys. AllByRecursion (IsAwaited s H cs r.slabs l) ys) ring (k.link l).awaited in
    let ordered : AreInOrder (x ∷ rest) = subst AreInOrder ring (k.link l).ordered in
    let page_in : p.0 < pages_of s = awaited.0.1 in
    let slab_within' : t.0 < s.slabs = slab_within s p.0 page_in in
    let slab_in : t.0 < length r.slabs = subst (λ m. t.0 < m) (sym k.slabs_len) slab_within' in
    let lender_in : l.0 < n = (k.link l).lender up in
    let link_in : l.0 < length r.links = subst (λ m. l.0 < m) (sym k.links_len) (omega (arith, lender_in, k.few)) in
    let waits : WaitsFrom l p (state_of cs c) = awaited.0.3 in
    let state : SlabState = slabs.after_settled (slabs.state_of r.slabs t) in
    let is_state : state ≡ Mapped l lease (flying - 1) = ap slabs.after_settled is in
    let before : SlabFits s r.links t (Mapped l lease flying) = let P : SlabState → Type 0 = λ y. SlabFits s r.links t y in
    subst P is (k.slab t slab_within') in
    let fits : SlabFits s (rings.answered_after r.links l) t (Mapped l lease (flying - 1)) =
    settled_fits s r.links l x rest t lease flying link_in ring (eq-eqb (slab_of s p.0) (slab_of s p.0) refl) before in
    let same : (j : Lender) → IsLeasedFrom j (slabs.state_of r.slabs t) → IsLeasedFrom j state =
    λ j h. let P : SlabState → Type 0 = λ y. IsLeasedFrom j y in
    subst P (sym is_state) (let h' : IsLeasedFrom j (Mapped l lease flying) = subst P is h in h') in
    let off : (j : Lender) → slabs.state_of r.slabs t ≡ Borrowing j → ⊥ = λ j e. mapped_borrows l j lease flying (sym is ∙ e) in
    let quiet : (j : Lender) → slabs.asks j (slabs.state_of r.slabs t) ≡ true → ⊥ = λ j h. mapped_asks l j lease flying (slabs.state_of r.slabs t) is h in
    answered_serves keeps keeps' owes owes' s n H cs cs' r r.bits l x rest t state k
    (record {
      up = up;
      ring = ring;
      slab_in = slab_within';
      off = λ u other. not_eqb (slab_of s p.0) u.0 (λ e. other (sym e));
      single =
          single_same r.slabs t state slab_in
          (λ j o. let P : SlabState → Type 0 = λ y. slabs.has_lease j o (slabs.after_settled y) ≡ slabs.has_lease j o y in subst P (sym is) refl) k.single;
      fits = let P : SlabState → Type 0 = λ y. SlabFits s (rings.answered_after r.links l) t y in subst P (sym is_state) fits;
      calls_len = length-set cs c.0 _;
      here =
          λ after h.
          All-with (MayPrecede x) (IsAwaited s H cs r.slabs l) (IsAwaited s H cs' (slabs.with_state r.slabs t state) l) rest
          (λ y a b.
          awaited_came s H cs (slabs.with_state r.slabs t state) l c bytes y (after_read c p y a)
          (awaited_stays s H cs r.slabs t state l y slab_in (same l) (quiet l) (off l) b))
          after h;
      there =
          λ j other y h.
          awaited_came s H cs (slabs.with_state r.slabs t state) j c bytes y (elsewhere s H cs r.slabs l j c p y waits other h)
          (awaited_stays s H cs r.slabs t state j y slab_in (same j) (quiet j) (off j) h);
      owed =
          λ after o.
          let f = owes_first owes H cs l c p rest o in
          record {
            pages = f.more;
            owed = less f.page f.more f.owed;
            reads = owed_came H cs c bytes rest f.more (All-implies (MayPrecede x) _ rest (λ y h. after_read c p y h) after) f.reads;
          };
      others =
          λ j other all o.
          record {
            pages = o.pages;
            owed = others j other o.pages o.owed;
            reads =
                owed_came H cs c bytes (ring_of r.links j) o.pages
                (All-implies (IsAwaited s H cs r.slabs j) _ (ring_of r.links j) (λ y h. elsewhere s H cs r.slabs l j c p y waits other h) all) o.reads;
          };
    })
    refl
    (λ q q_in. page_back keeps keeps' s H r l q x rest t state lease flying link_in slab_in ring refl is is_state kept (k.page q q_in))

-- a write, and a read, of a page whose slab drains came back
written_drains : (keeps keeps' : Keeping) (owes owes' : Owing) (s : Sizes) (n : ℕ) (H : History) (cs : Calls) (r : Remote) (l : Lender) (p : Page) (e : EntryNo)
    (rest : List Request)
    → Serves keeps owes s n H cs r → is_up r.links l ≡ true → ring_of r.links l ≡ Write p e ∷ rest → (lease : Lease) (flying : ℕ)
    → state_for s r.slabs p ≡ Draining l lease flying → KeepsAll keeps keeps' → OwesAll owes owes'
    → Serves keeps' owes' s n H cs (remote.written_after s r l p (is_newest (last H p) e))
written_drains keeps keeps' owes owes' s n H cs r l p e rest k up ring lease flying is kept owed =
    let x : Request = Write p e in
    let t : Slab = slab_for s p in
    let awaited : AllByRecursion (IsAwaited s H cs r.slabs l) (x ∷ rest) =
    subst (λ ys. AllByRecursion (IsAwaited s H cs r.slabs l) ys) ring (k.link l).awaited in
    let within : t.0 < s.slabs = slab_within s p.0 awaited.0.0 in
    let here : is_for_slab s t x ≡ true = eq-eqb (slab_of s p.0) (slab_of s p.0) refl in
    let state : SlabState = slabs.after_settled (slabs.state_of r.slabs t) in
    let unmapped : slabs.is_mapped (state_for s r.slabs p) ≡ false = ap slabs.is_mapped is in
    let stays : remote.written_after s r l p (is_newest (last H p) e) ≡ remote.settled_for s r l p =
    ap (λ b. remote.with_page_if (is_newest (last H p) e && b) (remote.settled_for s r l p) p) unmapped
    ∙ ap (λ b. remote.with_page_if b (remote.settled_for s r l p) p) (and-false (is_newest (last H p) e)) in
    let R : Remote → Type 0 = λ y. Serves keeps' owes' s n H cs y in
    subst R (sym stays)
    (answered_serves keeps keeps' owes owes' s n H cs cs r r.bits l x rest t state k
    (record {
      up = up;
      ring = ring;
      slab_in = within;
      off = λ u other. not_eqb (slab_of s p.0) u.0 (λ e. other (sym e));
      single = settled_single keeps keeps' owes s n H cs r l x rest t lease flying k up ring within is here;
      fits = settled_fit keeps keeps' owes s n H cs r l x rest t lease flying k up ring within is here;
      calls_len = refl;
      here = λ _ h. settled_here keeps keeps' owes s n H cs r l x rest t lease flying k up ring within is here h;
      there = λ j other y h. settled_there keeps keeps' owes s n H cs r l x rest t lease flying k up ring within is here j other y h;
      owed = λ _ o. record { pages = o.pages; owed = owed l o.pages o.owed; reads = o.reads };
      others = λ j other _ o. record { pages = o.pages; owed = owed j o.pages o.owed; reads = o.reads };
    })
    refl
    (λ q q_in.
    settled_page keeps keeps' owes s n H cs r l x rest t lease flying k up ring within is here q
    (λ other. entry_to-other q p e (λ same. other (ap (slab_of s) same))) kept (k.page q q_in)))

brought_drains : (keeps keeps' : Keeping) (owes owes' : Owing) (s : Sizes) (n : ℕ) (H : History) (cs : Calls) (r : Remote) (l : Lender) (c : Caller) (p : Page)
    (bytes : List ℕ) (rest : List Request)
    → Serves keeps owes s n H cs r → is_up r.links l ≡ true → ring_of r.links l ≡ Read c p ∷ rest → (lease : Lease) (flying : ℕ)
    → state_for s r.slabs p ≡ Draining l lease flying → KeepsAll keeps keeps' → OwesOthers l owes owes'
    → ((page : List ℕ) (more : List (List ℕ)) → owes l (page ∷ more) → owes' l more)
    → Serves keeps' owes' s n H (calls.came_after cs c bytes) (remote.settled_for s r l p)
brought_drains keeps keeps' owes owes' s n H cs r l c p bytes rest k up ring lease flying is kept others less =
    let x : Request = Read c p in
    let t : Slab = slab_for s p in
    let cs' : Calls = calls.came_after cs c bytes in
    let awaited : AllByRecursion (IsAwaited s H cs r.slabs l) (x ∷ rest) =
    subst (λ ys. AllByRecursion (IsAwaited s H cs r.slabs l) ys) ring (k.link l).awaited in
    let within : t.0 < s.slabs = slab_within s p.0 awaited.0.1 in
    let here : is_for_slab s t x ≡ true = eq-eqb (slab_of s p.0) (slab_of s p.0) refl in
    let waits : WaitsFrom l p (state_of cs c) = awaited.0.3 in
    let state : SlabState = slabs.after_settled (slabs.state_of r.slabs t) in
    answered_serves keeps keeps' owes owes' s n H cs cs' r r.bits l x rest t state k
    (record {
      up = up;
      ring = ring;
      slab_in = within;
      off = λ u other. not_eqb (slab_of s p.0) u.0 (λ e. other (sym e));
      single = settled_single keeps keeps' owes s n H cs r l x rest t lease flying k up ring within is here;
      fits = settled_fit keeps keeps' owes s n H cs r l x rest t lease flying k up ring within is here;
      calls_len = length-set cs c.0 _;
      here =
          λ after h.
          All-with (MayPrecede x) (IsAwaited s H cs (slabs.with_state r.slabs t state) l) (IsAwaited s H cs' (slabs.with_state r.slabs t state) l) rest
          (λ y a b. awaited_came s H cs (slabs.with_state r.slabs t state) l c bytes y (after_read c p y a) b) after
          (settled_here keeps keeps' owes s n H cs r l x rest t lease flying k up ring within is here h);
      there =
          λ j other y h.
          awaited_came s H cs (slabs.with_state r.slabs t state) j c bytes y (elsewhere s H cs r.slabs l j c p y waits other h)
          (settled_there keeps keeps' owes s n H cs r l x rest t lease flying k up ring within is here j other y h);
      owed =
          λ after o.
          let f = owes_first owes H cs l c p rest o in
          record {
            pages = f.more;
            owed = less f.page f.more f.owed;
            reads = owed_came H cs c bytes rest f.more (All-implies (MayPrecede x) _ rest (λ y h. after_read c p y h) after) f.reads;
          };
      others =
          λ j other all o.
          record {
            pages = o.pages;
            owed = others j other o.pages o.owed;
            reads =
                owed_came H cs c bytes (ring_of r.links j) o.pages
                (All-implies (IsAwaited s H cs r.slabs j) _ (ring_of r.links j) (λ y h. elsewhere s H cs r.slabs l j c p y waits other h) all) o.reads;
          };
    })
    refl
    (λ q q_in. settled_page keeps keeps' owes s n H cs r l x rest t lease flying k up ring within is here q (λ _. refl) kept (k.page q q_in))

-- a write, and a read, came back
pub written_serves : (keeps keeps' : Keeping) (owes owes' : Owing) (s : Sizes) (n : ℕ) (H : History) (cs : Calls) (r : Remote) (l : Lender) (p : Page)
    (e : EntryNo) (rest : List Request)
    → Serves keeps owes s n H cs r → is_up r.links l ≡ true → ring_of r.links l ≡ Write p e ∷ rest → KeepsAll keeps keeps' → OwesAll owes owes'
    → Serves keeps' owes' s n H cs (remote.written_after s r l p (is_newest (last H p) e))
written_serves keeps keeps' owes owes' s n H cs r l p e rest k up ring kept owed = go (leased_of l (state_for s r.slabs p) awaited.0.1)
  where
    awaited : AllByRecursion (IsAwaited s H cs r.slabs l) (Write p e ∷ rest)
    awaited = subst (λ ys. AllByRecursion (IsAwaited s H cs r.slabs l) ys) ring (k.link l).awaited

    go : Leased l (state_for s r.slabs p) → Serves keeps' owes' s n H cs (remote.written_after s r l p (is_newest (last H p) e))
    go (maps lease flying is) = written_maps keeps keeps' owes owes' s n H cs r l p e rest k up ring lease flying is kept owed
    go (drains lease flying is) = written_drains keeps keeps' owes owes' s n H cs r l p e rest k up ring lease flying is kept owed

pub brought_serves : (keeps keeps' : Keeping) (owes owes' : Owing) (s : Sizes) (n : ℕ) (H : History) (cs : Calls) (r : Remote) (l : Lender) (c : Caller)
    (p : Page) (bytes : List ℕ) (rest : List Request)
    → Serves keeps owes s n H cs r → is_up r.links l ≡ true → ring_of r.links l ≡ Read c p ∷ rest → KeepsAll keeps keeps' → OwesOthers l owes owes'
    → ((page : List ℕ) (more : List (List ℕ)) → owes l (page ∷ more) → owes' l more)
    → Serves keeps' owes' s n H (calls.came_after cs c bytes) (remote.settled_for s r l p)
brought_serves keeps keeps' owes owes' s n H cs r l c p bytes rest k up ring kept others less = go (leased_of l (state_for s r.slabs p) awaited.0.2)
  where
    awaited : AllByRecursion (IsAwaited s H cs r.slabs l) (Read c p ∷ rest)
    awaited = subst (λ ys. AllByRecursion (IsAwaited s H cs r.slabs l) ys) ring (k.link l).awaited

    go : Leased l (state_for s r.slabs p) → Serves keeps' owes' s n H (calls.came_after cs c bytes) (remote.settled_for s r l p)
    go (maps lease flying is) = brought_maps keeps keeps' owes owes' s n H cs r l c p bytes rest k up ring lease flying is kept others less
    go (drains lease flying is) = brought_drains keeps keeps' owes owes' s n H cs r l c p bytes rest k up ring lease flying is kept others less
