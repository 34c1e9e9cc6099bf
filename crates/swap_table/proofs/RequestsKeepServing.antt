-- A write and a read are sent: what lenders keep and owe afterwards.
use Rattle.std.proofs.Common.{◌≡◌, ℕ, ◌+◌, ◌*◌, ◌/◌, ◌%◌, ◌<◌, Bool, true, false, cond, ◌==◌, List, [], ◌∷◌, ◌++◌, length, set, refl, sym, ap, ◌∙◌, subst, arith, length-set, get_or-set_same, get_or-set_other, Option, None, Some}
use Rattle.std.proofs.Math.Nat.{div-add-mod}
use Rattle.std.proofs.lemmas.Bool.{eq-eqb, and_from}
use Rattle.std.specs.List.{AllByRecursion}
use Rattle.swap_base.specs.declared.Page.{Page}
use Rattle.swap_base.specs.declared.Slab.{Slab}
use Rattle.swap_base.specs.declared.Lender.{Lender}
use Rattle.swap_base.specs.declared.Lease.{Lease}
use Rattle.swap_base.specs.declared.Caller.{Caller}
use Rattle.swap_base.specs.declared.EntryNo.{EntryNo}
use Rattle.swap_base.specs.declared.Via.TheVariants as via
use Rattle.swap_base.specs.Sizes.{Sizes, pages_of, slab_of, place_of, zeros}
use Rattle.swap_record.specs.History.{History, array, last}
use Rattle.swap_queue.specs.Queue.{first_of}
use Rattle.swap_calls.specs.Calls as calls
use Rattle.swap_calls.specs.Calls.{Calls, state_of}
use Rattle.swap_calls.specs.declared.Arrived.TheVariants as arrived
use Rattle.swap_calls.specs.declared.CallState.{CallState}
use Rattle.swap_calls.specs.declared.CallState.TheVariants.{Reading}
use Rattle.swap_slabs.specs.Slabs as slabs
use Rattle.swap_slabs.specs.declared.SlabState.{SlabState}
use Rattle.swap_slabs.specs.declared.SlabState.TheVariants.{Local, Asking, Borrowing, Mapped, Draining}
use Rattle.swap_rings.specs.Rings as rings
use Rattle.swap_rings.specs.Rings.{LinkState, ring_of}
use Rattle.swap_rings.specs.declared.Request.{Request}
use Rattle.swap_rings.specs.declared.Request.TheVariants.{Query, Borrow, Write, Read}
use Rattle.swap_remote.specs.Remote.{Remote, slab_for, state_for, has_page, sent_for}
use Rattle.swap_table.specs.Serves.{Keeping, Owing, entry_to, latest_write, IsOut, bytes_of, IsLeasedFrom, WaitsFrom, IsAwaited, MayPrecede, IsContent, AreOwed, IsWriteKept, IsReadable, PageFits, AreSingle, Serves}
use Rattle.swap_base.proofs.Lists.{by_page, by_caller, not_eqb}
use Rattle.swap_table.proofs.EntriesStay.{last_out, last_bytes}
use Rattle.swap_table.proofs.LeasesStayDistinct.{only_slab}
use Rattle.swap_table.proofs.LinkTables.{by_lender, by_slab, latest-append, entry_to-own, entry_to-other}
use Rattle.swap_table.proofs.HistoryGoesOn.{IsShift, PageStays, shifted_serves}
use Rattle.swap_table.proofs.SendsKeepServing.{slab_within, sent-same, sent-other, begun-same, begun-other, LiesAt, sent_serves}

-- what is kept stays, but for one place of a lease
abbrev pub KeepsBut : Lender → Lease → ℕ → Keeping → Keeping → Type 0
KeepsBut l lease place keeps keeps' =
    (m : Lender) (k : Lease) (i : ℕ) (bytes : List ℕ) → (m.0 ≡ l.0 → k.0 ≡ lease.0 → i ≡ place → ⊥) → keeps m k i bytes → keeps' m k i bytes

abbrev pub KeepsAll : Keeping → Keeping → Type 0
KeepsAll keeps keeps' = (m : Lender) (k : Lease) (i : ℕ) (bytes : List ℕ) → keeps m k i bytes → keeps' m k i bytes

abbrev pub OwesAll : Owing → Owing → Type 0
OwesAll owes owes' = (m : Lender) (pages : List (List ℕ)) → owes m pages → owes' m pages

abbrev pub OwesOthers : Lender → Owing → Owing → Type 0
OwesOthers l owes owes' = (m : Lender) → (m.0 ≡ l.0 → ⊥) → (pages : List (List ℕ)) → owes m pages → owes' m pages

-- the pages that are owed, with one more request
pub owed-append_write :
    (H : History) (cs : Calls) (ring : List Request) (pages : List (List ℕ)) (p : Page) (e : EntryNo) → AreOwed H cs ring pages
    → AreOwed H cs (ring ++ Write p e ∷ []) pages
owed-append_write H cs [] pages p e o = o
owed-append_write H cs (Query t ∷ ring) pages p e o = owed-append_write H cs ring pages p e o
owed-append_write H cs (Borrow t ∷ ring) pages p e o = owed-append_write H cs ring pages p e o
owed-append_write H cs (Write q f ∷ ring) pages p e o = owed-append_write H cs ring pages p e o
owed-append_write H cs (Read c q ∷ ring) [] p e o = o
owed-append_write H cs (Read c q ∷ ring) (page ∷ pages) p e o = (o.0, owed-append_write H cs ring pages p e o.1)

pub owed-append_borrow :
    (H : History) (cs : Calls) (ring : List Request) (pages : List (List ℕ)) (u : Slab) → AreOwed H cs ring pages → AreOwed H cs (ring ++ Borrow u ∷ []) pages
owed-append_borrow H cs [] pages u o = o
owed-append_borrow H cs (Query t ∷ ring) pages u o = owed-append_borrow H cs ring pages u o
owed-append_borrow H cs (Borrow t ∷ ring) pages u o = owed-append_borrow H cs ring pages u o
owed-append_borrow H cs (Write q f ∷ ring) pages u o = owed-append_borrow H cs ring pages u o
owed-append_borrow H cs (Read c q ∷ ring) [] u o = o
owed-append_borrow H cs (Read c q ∷ ring) (page ∷ pages) u o = (o.0, owed-append_borrow H cs ring pages u o.1)

pub owed-append_query :
    (H : History) (cs : Calls) (ring : List Request) (pages : List (List ℕ)) (u : Slab) → AreOwed H cs ring pages → AreOwed H cs (ring ++ Query u ∷ []) pages
owed-append_query H cs [] pages u o = o
owed-append_query H cs (Query t ∷ ring) pages u o = owed-append_query H cs ring pages u o
owed-append_query H cs (Borrow t ∷ ring) pages u o = owed-append_query H cs ring pages u o
owed-append_query H cs (Write q f ∷ ring) pages u o = owed-append_query H cs ring pages u o
owed-append_query H cs (Read c q ∷ ring) [] u o = o
owed-append_query H cs (Read c q ∷ ring) (page ∷ pages) u o = (o.0, owed-append_query H cs ring pages u o.1)

pub owed-append_read :
    (H : History) (cs : Calls) (ring : List Request) (pages : List (List ℕ)) (c : Caller) (p : Page) (b : List ℕ) → AreOwed H cs ring pages
    → IsContent H b p (state_of cs c) → AreOwed H cs (ring ++ Read c p ∷ []) (pages ++ b ∷ [])
owed-append_read H cs [] [] c p b o is = (is, tt)
owed-append_read H cs [] (page ∷ pages) c p b o is = absurd o
owed-append_read H cs (Query t ∷ ring) pages c p b o is = owed-append_read H cs ring pages c p b o is
owed-append_read H cs (Borrow t ∷ ring) pages c p b o is = owed-append_read H cs ring pages c p b o is
owed-append_read H cs (Write q f ∷ ring) pages c p b o is = owed-append_read H cs ring pages c p b o is
owed-append_read H cs (Read d q ∷ ring) [] c p b o is = absurd o
owed-append_read H cs (Read d q ∷ ring) (page ∷ pages) c p b o is = (o.0, owed-append_read H cs ring pages c p b o.1 is)

-- a page by its slab and its place
pub same_page : (s : Sizes) (p q : ℕ) → slab_of s q ≡ slab_of s p → place_of s q ≡ place_of s p → q ≡ p
same_page s p q slab place =
    let at_p = div-add-mod p s.pages_per_slab in
    let at_q = div-add-mod q s.pages_per_slab in
    sym at_q ∙ ap (λ n. s.pages_per_slab * n + q % s.pages_per_slab) slab ∙ ap (λ n. s.pages_per_slab * (p / s.pages_per_slab) + n) place ∙ at_p

-- a page's facts, where its last write and what is kept of it stay
readable_stays :
    (keeps keeps' : Keeping) (z : List ℕ) (H : History) (q : Page) (m : Lender) (k : Lease) (i : ℕ) (ring ring' : List Request)
    → latest_write q ring' ≡ latest_write q ring
    → ((bytes : List ℕ) → keeps m k i bytes → keeps' m k i bytes) → IsReadable keeps z H q m k i ring → IsReadable keeps' z H q m k i ring'
readable_stays keeps keeps' z H q m k i ring ring' same kept h = record { some = h.some; none = same ∙ h.none; kept = kept (array z H q) h.kept }

write_stays :
    (keeps keeps' : Keeping) (H : History) (m : Lender) (k : Lease) (i : ℕ) (o : Option EntryNo) → ((bytes : List ℕ) → keeps m k i bytes → keeps' m k i bytes)
    → IsWriteKept keeps H m k i o → IsWriteKept keeps' H m k i o
write_stays keeps keeps' H m k i None kept h = tt
write_stays keeps keeps' H m k i (Some e) kept h = kept (bytes_of H e) h

pub mapped_stays :
    (keeps keeps' : Keeping) (s : Sizes) (H : History) (links links' : List LinkState) (q : Page) (bit : Bool) (m : Lender) (k : Lease) (f f' : ℕ)
    → latest_write q (ring_of links' m) ≡ latest_write q (ring_of links m)
    → ((bytes : List ℕ) → keeps m k (place_of s q.0) bytes → keeps' m k (place_of s q.0) bytes)
    → PageFits keeps s H links q bit (Mapped m k f) → PageFits keeps' s H links' q bit (Mapped m k f')
mapped_stays keeps keeps' s H links links' q bit m k f f' same kept h = (
  λ is. readable_stays keeps keeps' (zeros s) H q m k (place_of s q.0) (ring_of links m) (ring_of links' m) same kept (h.0 is),
  subst (λ o. IsWriteKept keeps' H m k (place_of s q.0) o) (sym same) (write_stays keeps keeps' H m k (place_of s q.0) (latest_write q (ring_of links m)) kept
      h.1),
)

-- whatever its state: what is said of a lender and a lease matters where the page's slab has them
pub page_stays :
    (keeps keeps' : Keeping) (s : Sizes) (H : History) (links links' : List LinkState) (q : Page) (bit : Bool) (state : SlabState)
    → ((m : Lender) (k : Lease) → slabs.has_lease m k state ≡ true
    → (latest_write q (ring_of links' m) ≡ latest_write q (ring_of links m))
    × ((bytes : List ℕ) → keeps m k (place_of s q.0) bytes → keeps' m k (place_of s q.0) bytes))
    → PageFits keeps s H links q bit state → PageFits keeps' s H links' q bit state
page_stays keeps keeps' s H links links' q bit Local each h = h
page_stays keeps keeps' s H links links' q bit (Asking pair) each h = h
page_stays keeps keeps' s H links links' q bit (Borrowing m) each h = h
page_stays keeps keeps' s H links links' q bit (Draining m k f) each h = h
page_stays keeps keeps' s H links links' q bit (Mapped m k f) each h =
    let both = each m k (and_from (m.0 == m.0) (k.0 == k.0) (eq-eqb m.0 m.0 refl) (eq-eqb k.0 k.0 refl)) in
    mapped_stays keeps keeps' s H links links' q bit m k f f both.0 both.1 h

-- the last write of a page, where a request that isn't one of its writes was sent
latest_sent :
    (links : List LinkState) (l m : Lender) (x : Request) (q : Page) → l.0 < length links → entry_to q x ≡ None
    → latest_write q (ring_of (rings.sent_after links l x) m) ≡ latest_write q (ring_of links m)
latest_sent links l m x q within none =
    by_lender (λ m. latest_write q (ring_of (rings.sent_after links l x) m) ≡ latest_write q (ring_of links m)) l m
    (ap (λ (k : LinkState). latest_write q k.ring) (sent-same links l x within) ∙ latest-append q (ring_of links l) x
    ∙ ap (λ o. first_of o (latest_write q (ring_of links l))) none)
    (λ other. ap (λ (k : LinkState). latest_write q k.ring) (sent-other links l m x other))

pub has_own : (l : Lender) (k : Lease) (f : ℕ) → slabs.has_lease l k (Mapped l k f) ≡ true
has_own l k f = and_from (l.0 == l.0) (k.0 == k.0) (eq-eqb l.0 l.0 refl) (eq-eqb k.0 k.0 refl)

pub same_lease : (l m : Lender) (k j : Lease) (state : SlabState) → m.0 ≡ l.0 → j.0 ≡ k.0 → slabs.has_lease m j state ≡ true → slabs.has_lease l k state ≡ true
same_lease l m k j state em ej h =
    subst (λ n. slabs.has_lease (record { 0 = n }) k state ≡ true) em (subst (λ n. slabs.has_lease m (record { 0 = n }) state ≡ true) ej h)

-- the pages other than the one that a request was sent for
page_sent :
    (keeps keeps' : Keeping) (s : Sizes) (H : History) (r : Remote) (l : Lender) (p q : Page) (lease : Lease) (flying : ℕ) (x : Request) → AreSingle r.slabs
    → slab_of s p.0 < length r.slabs → l.0 < length r.links → state_for s r.slabs p ≡ Mapped l lease flying → entry_to q x ≡ None
    → ((m : Lender) (k : Lease) (bytes : List ℕ) → (m.0 ≡ l.0 → k.0 ≡ lease.0 → slab_of s q.0 ≡ slab_of s p.0) → keeps m k (place_of s q.0) bytes
    → keeps' m k (place_of s q.0) bytes)
    → PageFits keeps s H r.links q (has_page r q) (state_for s r.slabs q)
    → PageFits keeps' s H (rings.sent_after r.links l x) q (has_page r q) (state_for s (slabs.begun_after r.slabs (slab_for s p)) q)
page_sent keeps keeps' s H r l p q lease flying x states slab_in link_in is none kept h =
    by_slab
    (λ u. PageFits keeps s H r.links q (has_page r q) (slabs.state_of r.slabs u) → (u.0 ≡ slab_of s q.0)
    → PageFits keeps' s H (rings.sent_after r.links l x) q (has_page r q) (slabs.state_of (slabs.begun_after r.slabs (slab_for s p)) u))
    (slab_for s p) (slab_for s q)
    (λ h e.
    let P : SlabState → Type 0 = λ y. PageFits keeps s H r.links q (has_page r q) y in
    let Q : SlabState → Type 0 = λ y. PageFits keeps' s H (rings.sent_after r.links l x) q (has_page r q) y in
    subst Q (sym (begun-same r.slabs (slab_for s p) l lease flying slab_in is))
    (mapped_stays keeps keeps' s H r.links (rings.sent_after r.links l x) q (has_page r q) l lease flying (flying
    + 1) (latest_sent r.links l l x q link_in none)
    (λ bytes. kept l lease bytes (λ _ _. sym e)) (subst P is h)))
    (λ other h e.
    let Q : SlabState → Type 0 = λ y. PageFits keeps' s H (rings.sent_after r.links l x) q (has_page r q) y in
    subst Q (sym (begun-other r.slabs (slab_for s p) (slab_for s q) other))
    (page_stays keeps keeps' s H r.links (rings.sent_after r.links l x) q (has_page r q) (state_for s r.slabs q) (λ m k has. (
      latest_sent r.links l m x q link_in none,
      λ bytes.
          kept m k bytes
          (λ em ek.
          absurd
          (other
          (only_slab r.slabs l lease (slab_for s p) (slab_for s q) states
          (subst (λ y. slabs.has_lease l lease y ≡ true) (sym is) (has_own l lease flying))
          (same_lease l m lease k (state_for s r.slabs q) em ek has)))),
    )) h))
    h refl

-- a write is sent: the lender keeps its bytes
pub write_sent_serves : (keeps keeps' : Keeping) (owes owes' : Owing) (s : Sizes) (n : ℕ) (H : History) (cs : Calls) (r : Remote) (l : Lender) (p : Page)
    (lease : Lease) (flying : ℕ) (e : EntryNo)
    → Serves keeps owes s n H cs r → LiesAt s r p l lease flying → has_page r p ≡ false → IsOut H p e
    → AllByRecursion (λ y. MayPrecede y (Write p e)) (ring_of r.links l)
    → KeepsBut l lease (place_of s p.0) keeps keeps' → keeps' l lease (place_of s p.0) (bytes_of H e) → OwesAll owes owes'
    → Serves keeps' owes' s n H cs (sent_for s r l p (Write p e))
write_sent_serves keeps keeps' owes owes' s n H cs r l p lease flying e k lies clear out order kept now owed =
    let slab_in : slab_of s p.0 < length r.slabs = subst (λ m. slab_of s p.0 < m) (sym k.slabs_len) (slab_within s p.0 lies.within) in
    let lender_in : l.0 < n = (k.link l).lender lies.up in
    let link_in : l.0 < length r.links = subst (λ m. l.0 < m) (sym k.links_len) (omega (arith, lender_in, k.few)) in
    let x : Request = Write p e in
    let mapped : IsLeasedFrom l (state_for s r.slabs p) = subst (λ y. IsLeasedFrom l y) (sym lies.mapped) refl in
    let latest_is : latest_write p (ring_of (rings.sent_after r.links l x) l) ≡ Some e =
    ap (λ (y : LinkState). latest_write p y.ring) (sent-same r.links l x link_in) ∙ latest-append p (ring_of r.links l) x
    ∙ ap (λ o. first_of o (latest_write p (ring_of r.links l))) (entry_to-own p e) in
    let here : PageFits keeps' s H (rings.sent_after r.links l x) p (has_page r p) (Mapped l lease (flying + 1)) =
    ((λ is. absurd (not_both clear is)), subst (λ o. IsWriteKept keeps' H l lease (place_of s p.0) o) (sym latest_is) now) in
    sent_serves keeps keeps' owes owes' s n H cs r l p lease flying x k lies
    (record {
      here = eq-eqb (slab_of s p.0) (slab_of s p.0) refl;
      there = λ t other. not_eqb (slab_of s p.0) t.0 (λ e. other (sym e));
      awaited = (lies.within, mapped, out);
      order = order;
    })
    (λ o. record { pages = o.pages; owed = owed l o.pages o.owed; reads = owed-append_write H cs (ring_of r.links l) o.pages p e o.reads })
    (λ m other pages. owed m pages)
    (λ q within.
    by_page (λ q. q.0 < pages_of s → PageFits keeps' s H (rings.sent_after r.links l x) q (has_page r q)
    (state_for s (slabs.begun_after r.slabs (slab_for s p)) q)) p q
    (λ _. let Q : SlabState → Type 0 = λ y. PageFits keeps' s H (rings.sent_after r.links l x) p (has_page r p) y in
    subst Q (sym (begun-same r.slabs (slab_for s p) l lease flying slab_in lies.mapped)) here)
    (λ other within.
    page_sent keeps keeps' s H r l p q lease flying x k.single slab_in link_in lies.mapped (entry_to-other q p e other)
    (λ m j bytes same. kept m j (place_of s q.0) bytes (λ em ej ep. other (same_page s p.0 q.0 (same em ej) ep))) (k.page q within))
    within)
  where
    not_both : {b : Bool} → b ≡ false → b ≡ true → ⊥
    not_both a b = cc

-- a read comes after the requests under way where none writes its page and its caller waits for none
none_of : {X : Type 0} (a b : Option X) → first_of a b ≡ None → (a ≡ None) × (b ≡ None)
none_of None b e = (refl, e)
none_of (Some x) b e = cc

pub none_written : (p : Page) (ring : List Request) → latest_write p ring ≡ None → AllByRecursion (λ y. entry_to p y ≡ None) ring
none_written p [] e = tt
none_written p (y ∷ ring) e = let both = none_of (latest_write p ring) (entry_to p y) e in (both.1, none_written p ring both.0)

read_last :
    (s : Sizes) (H : History) (cs : Calls) (states : List SlabState) (l : Lender) (c : Caller) (p : Page) (y : Request)
    → ((m : Lender) (q : Page) → WaitsFrom m q (state_of cs c) → ⊥) → entry_to p y ≡ None → IsAwaited s H cs states l y → MayPrecede y (Read c p)
read_last s H cs states l c p (Query t) idles none a = tt
read_last s H cs states l c p (Borrow t) idles none a = tt
read_last s H cs states l c p (Write q e) idles none a = λ same. some_none (sym (ap (λ b. cond b (Some e) None) (eq-eqb q.0 p.0 same)) ∙ none)
  where
    some_none : Some e ≡ None → ⊥
    some_none is = cc
read_last s H cs states l c p (Read d q) idles none a = λ same. idles l q (subst (λ n. WaitsFrom l q (state_of cs (record { 0 = n }))) same a.3)

read_order :
    (s : Sizes) (H : History) (cs : Calls) (states : List SlabState) (l : Lender) (c : Caller) (p : Page) (ring : List Request)
    → ((m : Lender) (q : Page) → WaitsFrom m q (state_of cs c) → ⊥) → AllByRecursion (λ y. entry_to p y ≡ None) ring
    → AllByRecursion (IsAwaited s H cs states l) ring → AllByRecursion (λ y. MayPrecede y (Read c p)) ring
read_order s H cs states l c p [] idles none a = tt
read_order s H cs states l c p (y ∷ ring) idles none a =
    (read_last s H cs states l c p y idles none.0 a.0, read_order s H cs states l c p ring idles none.1 a.1)

-- one caller's call changes that waited for no lender
pub call_shift :
    (H : History) (cs : Calls) (c : Caller) (call : calls.Call) → ((m : Lender) (q : Page) → WaitsFrom m q (state_of cs c) → ⊥)
    → IsShift H H cs (calls.with_call cs c call)
call_shift H cs c call idles = record {
  entries = λ p e out. (out, refl);
  waits =
      λ l d p w.
      by_caller (λ d. WaitsFrom l p (state_of cs d) → WaitsFrom l p (state_of (calls.with_call cs c call) d)) c d (λ w. absurd (idles l p w))
      (λ other w. let P : CallState → Type 0 = λ x. WaitsFrom l p x in subst P (sym (call-other cs c d call other)) w) w;
  owed =
      λ l d p page w is.
      by_caller (λ d. WaitsFrom l p (state_of cs d) → IsContent H page p (state_of cs d) → IsContent H page p (state_of (calls.with_call cs c call) d)) c d
      (λ w is. absurd (idles l p w))
      (λ other w is. let P : CallState → Type 0 = λ x. IsContent H page p x in subst P (sym (call-other cs c d call other)) is) w is;
}
  where
    call-other : (cs : Calls) (c d : Caller) (call : calls.Call) → (d.0 ≡ c.0 → ⊥) → state_of (calls.with_call cs c call) d ≡ state_of cs d
    call-other cs c d call other = ap (λ (x : calls.Call). x.state) (get_or-set_other cs c.0 d.0 call calls.idle_call other)

pub bits_stay : (z : List ℕ) (H : History) (p : Page) (bit : Bool) → PageStays z H H p bit bit
bits_stay z H p bit = record { clear = λ e. e; set = λ e. (e, refl, refl) }

pub call_serves :
    (keeps : Keeping) (owes : Owing) (s : Sizes) (n : ℕ) (H : History) (cs : Calls) (r : Remote) (c : Caller) (call : calls.Call)
    → ((m : Lender) (q : Page) → WaitsFrom m q (state_of cs c) → ⊥) → Serves keeps owes s n H cs r → Serves keeps owes s n H (calls.with_call cs c call) r
call_serves keeps owes s n H cs r c call idles k =
    shifted_serves keeps owes s n H H cs (calls.with_call cs c call) r r.bits (call_shift H cs c call idles) (length-set cs c.0 call) refl
    (λ p _. bits_stay (zeros s) H p (has_page r p)) k

-- a read is sent: the link owes the page's content
pub read_sent_serves : (keeps keeps' : Keeping) (owes owes' : Owing) (s : Sizes) (n : ℕ) (H : History) (cs : Calls) (r : Remote) (l : Lender) (c : Caller)
    (p : Page) (lease : Lease) (flying : ℕ) (newest : EntryNo) (since : ℕ)
    → Serves keeps owes s n H cs r → LiesAt s r p l lease flying → has_page r p ≡ true → last H p ≡ Some newest → c.0 < s.callers
    → ((m : Lender) (q : Page) → WaitsFrom m q (state_of cs c) → ⊥)
    → KeepsAll keeps keeps' → OwesOthers l owes owes'
    → ((pages : List (List ℕ)) (bytes : List ℕ) → owes l pages → keeps l lease (place_of s p.0) bytes → owes' l (pages ++ bytes ∷ []))
    → Serves keeps' owes' s n H (calls.reads cs c p newest (via.Lender l) since) (sent_for s r l p (Read c p))
read_sent_serves keeps keeps' owes owes' s n H cs r l c p lease flying newest since k lies set is_last caller idles kept others more =
    let x : Request = Read c p in
    let call : calls.Call = record { state = Reading p newest (via.Lender l) arrived.Waiting false since; bytes = [] } in
    let cs' : Calls = calls.reads cs c p newest (via.Lender l) since in
    let k' : Serves keeps owes s n H cs' r = call_serves keeps owes s n H cs r c call idles k in
    let slab_in : slab_of s p.0 < length r.slabs = subst (λ m. slab_of s p.0 < m) (sym k.slabs_len) (slab_within s p.0 lies.within) in
    let lender_in : l.0 < n = (k.link l).lender lies.up in
    let link_in : l.0 < length r.links = subst (λ m. l.0 < m) (sym k.links_len) (omega (arith, lender_in, k.few)) in
    let fits : PageFits keeps s H r.links p (has_page r p) (Mapped l lease flying) = let P : SlabState
    → Type 0 = λ y. PageFits keeps s H r.links p (has_page r p) y in
    subst P lies.mapped (k.page p lies.within) in
    let readable : IsReadable keeps (zeros s) H p l lease (place_of s p.0) (ring_of r.links l) = fits.0 set in
    let state : state_of cs' c ≡ Reading p newest (via.Lender l) arrived.Waiting false since =
    ap (λ (y : calls.Call). y.state) (get_or-set_same cs c.0 call calls.idle_call (subst (λ m. c.0 < m) (sym k.calls_len) caller)) in
    let waits : WaitsFrom l p (state_of cs' c) = let P : CallState → Type 0 = λ y. WaitsFrom l p y in subst P (sym state) (refl, refl) in
    let content : IsContent H (array (zeros s) H p) p (state_of cs' c) = let P : CallState → Type 0 = λ y. IsContent H (array (zeros s) H p) p y in
    subst P (sym state) (last_out H p newest is_last, sym (last_bytes (zeros s) H p newest is_last)) in
    let mapped : IsLeasedFrom l (state_for s r.slabs p) = subst (λ y. IsLeasedFrom l y) (sym lies.mapped) refl in
    let order : AllByRecursion (λ y. MayPrecede y x) (ring_of r.links l) =
    read_order s H cs r.slabs l c p (ring_of r.links l) idles (none_written p (ring_of r.links l) readable.none) (k.link l).awaited in
    sent_serves keeps keeps' owes owes' s n H cs' r l p lease flying x k' lies
    (record {
      here = eq-eqb (slab_of s p.0) (slab_of s p.0) refl;
      there = λ t other. not_eqb (slab_of s p.0) t.0 (λ e. other (sym e));
      awaited = (caller, lies.within, mapped, waits);
      order = order;
    })
    (λ o.
    record {
      pages = o.pages ++ array (zeros s) H p ∷ [];
      owed = more o.pages (array (zeros s) H p) o.owed readable.kept;
      reads = owed-append_read H cs' (ring_of r.links l) o.pages c p (array (zeros s) H p) o.reads content;
    })
    others
    (λ q within.
    page_sent keeps keeps' s H r l p q lease flying x k.single slab_in link_in lies.mapped refl (λ m j bytes same. kept m j (place_of s q.0) bytes)
    (k.page q within))
