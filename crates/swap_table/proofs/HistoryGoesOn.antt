-- The history goes on, calls change and bits are cleared, while slabs, links and what lenders keep and owe stay.
use Rattle.std.proofs.Common.{◌≡◌, ℕ, ◌<◌, Bool, true, false, cond, ◌==◌, List, [], ◌∷◌, length, refl, sym, ◌∙◌, subst, IsSome, Option, None, Some}
use Rattle.std.proofs.lemmas.Bool.{eqb-true}
use Rattle.std.specs.List.{AllByRecursion}
use Rattle.swap_base.specs.declared.Page.{Page}
use Rattle.swap_base.specs.declared.Caller.{Caller}
use Rattle.swap_base.specs.declared.Lender.{Lender}
use Rattle.swap_base.specs.declared.Lease.{Lease}
use Rattle.swap_base.specs.declared.EntryNo.{EntryNo}
use Rattle.swap_base.specs.Sizes.{Sizes, pages_of, place_of, zeros}
use Rattle.swap_record.specs.History.{History, array, last}
use Rattle.swap_queue.specs.Queue.{first_of}
use Rattle.swap_bits.specs.Bits.{has}
use Rattle.swap_calls.specs.Calls.{Calls, state_of}
use Rattle.swap_slabs.specs.declared.SlabState.{SlabState}
use Rattle.swap_slabs.specs.declared.SlabState.TheVariants.{Local, Asking, Borrowing, Mapped, Draining}
use Rattle.swap_rings.specs.Rings.{LinkState, link_of, ring_of}
use Rattle.swap_rings.specs.declared.Request.{Request}
use Rattle.swap_rings.specs.declared.Request.TheVariants.{Query, Borrow, Write, Read}
use Rattle.swap_remote.specs.Remote.{Remote, state_for, has_page}
use Rattle.swap_table.specs.Serves.{Keeping, Owing, entry_to, latest_write, IsOut, bytes_of, WaitsFrom, IsAwaited, IsContent, AreOwed, OwesReads, LinkFits, IsWriteKept, IsReadable, PageFits, Serves}
use Rattle.swap_base.proofs.Lists.{All-implies}

-- what the history and the calls may do: entries stay, a waiting call waits on, and what it is owed stays its entry's bytes
pub record IsShift (H H' : History) (calls calls' : Calls) : Type 0 where
  pub entries : (p : Page) (e : EntryNo) → IsOut H p e → IsOut H' p e × (bytes_of H' e ≡ bytes_of H e)
  pub waits : (l : Lender) (c : Caller) (p : Page) → WaitsFrom l p (state_of calls c) → WaitsFrom l p (state_of calls' c)
  pub owed :
      (l : Lender) (c : Caller) (p : Page) (page : List ℕ) → WaitsFrom l p (state_of calls c) → IsContent H page p (state_of calls c)
      → IsContent H' page p (state_of calls' c)

awaited_shift :
    (s : Sizes) (H H' : History) (calls calls' : Calls) (states : List SlabState) (l : Lender) → IsShift H H' calls calls' → (x : Request)
    → IsAwaited s H calls states l x → IsAwaited s H' calls' states l x
awaited_shift s H H' calls calls' states l shift (Query slab) h = h
awaited_shift s H H' calls calls' states l shift (Borrow slab) h = h
awaited_shift s H H' calls calls' states l shift (Write p e) h = (h.0, h.1, (shift.entries p e h.2).0)
awaited_shift s H H' calls calls' states l shift (Read c p) h = (h.0, h.1, h.2, shift.waits l c p h.3)

owed_shift :
    (s : Sizes) (H H' : History) (calls calls' : Calls) (states : List SlabState) (l : Lender) → IsShift H H' calls calls'
    → (ring : List Request) (pages : List (List ℕ)) → AllByRecursion (IsAwaited s H calls states l) ring → AreOwed H calls ring pages
    → AreOwed H' calls' ring pages
owed_shift s H H' calls calls' states l shift [] [] all o = o
owed_shift s H H' calls calls' states l shift [] (page ∷ pages) all o = o
owed_shift s H H' calls calls' states l shift (Query slab ∷ ring) pages all o = owed_shift s H H' calls calls' states l shift ring pages all.1 o
owed_shift s H H' calls calls' states l shift (Borrow slab ∷ ring) pages all o = owed_shift s H H' calls calls' states l shift ring pages all.1 o
owed_shift s H H' calls calls' states l shift (Write p e ∷ ring) pages all o = owed_shift s H H' calls calls' states l shift ring pages all.1 o
owed_shift s H H' calls calls' states l shift (Read c p ∷ ring) [] all o = o
owed_shift s H H' calls calls' states l shift (Read c p ∷ ring) (page ∷ pages) all o =
    (shift.owed l c p page all.0.3 o.0, owed_shift s H H' calls calls' states l shift ring pages all.1 o.1)

-- the entry of the last write of a page is a page-out of it
written_out :
    (s : Sizes) (H : History) (calls : Calls) (states : List SlabState) (l : Lender) (p : Page) (x : Request) (e : EntryNo) → IsAwaited s H calls states l x
    → entry_to p x ≡ Some e → IsOut H p e
written_out s H calls states l p (Query slab) e a is = cc
written_out s H calls states l p (Borrow slab) e a is = cc
written_out s H calls states l p (Read c q) e a is = cc
written_out s H calls states l p (Write q f) e a is = go (q.0 == p.0) refl is
  where
    go : (b : Bool) → (q.0 == p.0) ≡ b → cond b (Some f) None ≡ Some e → IsOut H p e
    go true same is = let entry : f ≡ e = cc in subst (λ g. IsOut H p g) entry (subst (λ n. IsOut H (record { 0 = n }) f) (eqb-true q.0 p.0 same) a.2)
    go false same is = cc

pub latest_out :
    (s : Sizes) (H : History) (calls : Calls) (states : List SlabState) (l : Lender) (p : Page) (ring : List Request) (e : EntryNo)
    → AllByRecursion (IsAwaited s H calls states l) ring → latest_write p ring ≡ Some e → IsOut H p e
latest_out s H calls states l p [] e all is = cc
latest_out s H calls states l p (x ∷ ring) e all is = go (latest_write p ring) refl is (latest_out s H calls states l p ring e all.1)
  where
    go : (o : Option EntryNo) → latest_write p ring ≡ o → first_of o (entry_to p x) ≡ Some e → (latest_write p ring ≡ Some e → IsOut H p e) → IsOut H p e
    go (Some f) same is rest = rest (same ∙ is)
    go None same is rest = written_out s H calls states l p x e all.0 is

-- a page whose bit stays has the content that it had
pub record PageStays (z : List ℕ) (H H' : History) (p : Page) (bit bit' : Bool) : Type 0 where
  pub clear : bit ≡ false → bit' ≡ false
  pub set : bit' ≡ true → (bit ≡ true) × (last H' p ≡ last H p) × (array z H' p ≡ array z H p)

kept_shift :
    (keeps : Keeping) (H H' : History) (l : Lender) (lease : Lease) (place : ℕ) (p : Page) (o : Option EntryNo) → ((e : EntryNo) → o ≡ Some e → IsOut H p e)
    → ((e : EntryNo) → IsOut H p e → IsOut H' p e × (bytes_of H' e ≡ bytes_of H e))
    → IsWriteKept keeps H l lease place o → IsWriteKept keeps H' l lease place o
kept_shift keeps H H' l lease place p None outs entries k = tt
kept_shift keeps H H' l lease place p (Some e) outs entries k = subst (λ b. keeps l lease place b) (sym (entries e (outs e refl)).1) k

readable_shift :
    (keeps : Keeping) (z : List ℕ) (H H' : History) (p : Page) (l : Lender) (lease : Lease) (place : ℕ) (ring : List Request) → last H' p ≡ last H p
    → array z H' p ≡ array z H p → IsReadable keeps z H p l lease place ring → IsReadable keeps z H' p l lease place ring
readable_shift keeps z H H' p l lease place ring el ea k = record {
  some = subst (λ o. IsSome o) (sym el) k.some;
  none = k.none;
  kept = subst (λ b. keeps l lease place b) (sym ea) k.kept;
}

page_shift : (keeps : Keeping) (s : Sizes) (H H' : History) (calls : Calls) (states : List SlabState) (links : List LinkState) (p : Page) (bit bit' : Bool)
    (state : SlabState)
    → ((l : Lender) → AllByRecursion (IsAwaited s H calls states l) (ring_of links l))
    → ((e : EntryNo) → IsOut H p e → IsOut H' p e × (bytes_of H' e ≡ bytes_of H e)) → PageStays (zeros s) H H' p bit bit'
    → PageFits keeps s H links p bit state → PageFits keeps s H' links p bit' state
page_shift keeps s H H' calls states links p bit bit' Local all entries stays k = stays.clear k
page_shift keeps s H H' calls states links p bit bit' (Asking pair) all entries stays k = stays.clear k
page_shift keeps s H H' calls states links p bit bit' (Borrowing l) all entries stays k = stays.clear k
page_shift keeps s H H' calls states links p bit bit' (Draining l lease flying) all entries stays k = stays.clear k
page_shift keeps s H H' calls states links p bit bit' (Mapped l lease flying) all entries stays k = (
  λ is. let same = stays.set is in readable_shift keeps (zeros s) H H' p l lease (place_of s p.0) (ring_of links l) same.1 same.2 (k.0 same.0),
  kept_shift keeps H H' l lease (place_of s p.0) p (latest_write p (ring_of links l))
      (λ e is. latest_out s H calls states l p (ring_of links l) e (all l) is) entries k.1,
)

owes_shift :
    (owes : Owing) (s : Sizes) (H H' : History) (calls calls' : Calls) (states : List SlabState) (l : Lender) (ring : List Request) → IsShift H H' calls calls'
    → AllByRecursion (IsAwaited s H calls states l) ring → OwesReads owes H calls l ring → OwesReads owes H' calls' l ring
owes_shift owes s H H' calls calls' states l ring shift all o =
    record { pages = o.pages; owed = o.owed; reads = owed_shift s H H' calls calls' states l shift ring o.pages all o.reads }

link_shift :
    (owes : Owing) (s : Sizes) (n : ℕ) (H H' : History) (calls calls' : Calls) (states : List SlabState) (l : Lender) (link : LinkState)
    → IsShift H H' calls calls' → LinkFits owes s n H calls states l link → LinkFits owes s n H' calls' states l link
link_shift owes s n H H' calls calls' states l link shift k = record {
  quiet = k.quiet;
  lender = k.lender;
  awaited =
      All-implies (IsAwaited s H calls states l) (IsAwaited s H' calls' states l) link.ring
      (λ x h. awaited_shift s H H' calls calls' states l shift x h) k.awaited;
  ordered = k.ordered;
  owed = λ up. owes_shift owes s H H' calls calls' states l link.ring shift k.awaited (k.owed up);
}

pub shifted_serves :
    (keeps : Keeping) (owes : Owing) (s : Sizes) (n : ℕ) (H H' : History) (calls calls' : Calls) (r : Remote) (bits : List Bool) → IsShift H H' calls calls'
    → length calls' ≡ length calls → length bits ≡ length r.bits
    → ((p : Page) → p.0 < pages_of s → PageStays (zeros s) H H' p (has_page r p) (has bits p.0)) → Serves keeps owes s n H calls r
    → Serves keeps owes s n H' calls' (record r { bits = bits })
shifted_serves keeps owes s n H H' calls calls' r bits shift len bits_len stays k = record {
  slabs_len = k.slabs_len;
  bits_len = bits_len ∙ k.bits_len;
  links_len = k.links_len;
  few = k.few;
  calls_len = len ∙ k.calls_len;
  single = k.single;
  slab = k.slab;
  link = λ l. link_shift owes s n H H' calls calls' r.slabs l (link_of r.links l) shift (k.link l);
  page =
      λ p within.
      page_shift keeps s H H' calls r.slabs r.links p (has_page r p) (has bits p.0) (state_for s r.slabs p) (λ l. (k.link l).awaited) (shift.entries p)
      (stays p within) (k.page p within);
}
