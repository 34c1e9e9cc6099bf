-- Tables of links and slabs after one row was set, and requests by their slabs and pages.
use Rattle.std.proofs.Common.{◌≡◌, ◌+◌, ◌<◌, cond, List, [], ◌∷◌, ◌++◌, length, refl, sym, ap, ◌∙◌, get_or-set_same, get_or-set_other, Option, None, Some}
use Rattle.std.proofs.lemmas.Bool.{eq-eqb}
use Rattle.std.specs.List.{AllByRecursion}
use Rattle.swap_base.specs.declared.Page.{Page}
use Rattle.swap_base.specs.declared.Slab.{Slab}
use Rattle.swap_base.specs.declared.Lender.{Lender}
use Rattle.swap_base.specs.declared.EntryNo.{EntryNo}
use Rattle.swap_base.specs.Sizes.{Sizes}
use Rattle.swap_queue.specs.Queue.{first_of}
use Rattle.swap_slabs.specs.Slabs as slabs
use Rattle.swap_slabs.specs.declared.SlabState.{SlabState}
use Rattle.swap_slabs.specs.declared.SlabState.TheVariants.{Local}
use Rattle.swap_rings.specs.Rings.{LinkState, down, link_of, with_link}
use Rattle.swap_rings.specs.declared.Request.{Request}
use Rattle.swap_rings.specs.declared.Request.TheVariants.{Write}
use Rattle.swap_table.specs.Serves.{is_for_slab, flying_for, entry_to, latest_write, MayPrecede, AreInOrder}
use Rattle.swap_base.proofs.Lists.{by_number, not_eqb, one_if, All-append, count_by-append_one, count_by-cons}

pub by_lender : (P : Lender → Type 0) (l m : Lender) → P l → ((m.0 ≡ l.0 → ⊥) → P m) → P m
by_lender P l m same other = by_number (λ n. P (record { 0 = n })) l.0 m.0 same other

pub by_slab : (P : Slab → Type 0) (t u : Slab) → P t → ((u.0 ≡ t.0 → ⊥) → P u) → P u
by_slab P t u same other = by_number (λ n. P (record { 0 = n })) t.0 u.0 same other

-- a link that was set, and every other
pub link-same : (links : List LinkState) (l : Lender) (x : LinkState) → l.0 < length links → link_of (with_link links l x) l ≡ x
link-same links l x within = get_or-set_same links l.0 x down within

pub link-other : (links : List LinkState) (l m : Lender) (x : LinkState) → (m.0 ≡ l.0 → ⊥) → link_of (with_link links l x) m ≡ link_of links m
link-other links l m x other = get_or-set_other links l.0 m.0 x down other

-- a slab that was set, and every other
pub state-same : (states : List SlabState) (t : Slab) (x : SlabState) → t.0 < length states → slabs.state_of (slabs.with_state states t x) t ≡ x
state-same states t x within = get_or-set_same states t.0 x Local within

pub state-other :
    (states : List SlabState) (t u : Slab) (x : SlabState) → (u.0 ≡ t.0 → ⊥) → slabs.state_of (slabs.with_state states t x) u ≡ slabs.state_of states u
state-other states t u x other = get_or-set_other states t.0 u.0 x Local other

-- how many requests are for a slab, with one more at the end, and without the first
pub flying-append :
    (s : Sizes) (t : Slab) (ring : List Request) (x : Request) → flying_for s t (ring ++ x ∷ []) ≡ flying_for s t ring + one_if (is_for_slab s t x)
flying-append s t ring x = count_by-append_one (is_for_slab s t) ring x

pub flying-cons : (s : Sizes) (t : Slab) (x : Request) (ring : List Request) → flying_for s t (x ∷ ring) ≡ one_if (is_for_slab s t x) + flying_for s t ring
flying-cons s t x ring = count_by-cons (is_for_slab s t) x ring

-- the last write of a page, with one more request
pub first_of-none : {X : Type 0} (a : Option X) → first_of a None ≡ a
first_of-none None = refl
first_of-none (Some x) = refl

first_of-assoc : {X : Type 0} (a b c : Option X) → first_of (first_of a b) c ≡ first_of a (first_of b c)
first_of-assoc None b c = refl
first_of-assoc (Some x) b c = refl

pub latest-append : (page : Page) (ring : List Request) (x : Request) → latest_write page (ring ++ x ∷ []) ≡ first_of (entry_to page x) (latest_write page ring)
latest-append page [] x = sym (first_of-none (entry_to page x))
latest-append page (y ∷ ring) x =
    ap (λ o. first_of o (entry_to page y)) (latest-append page ring x) ∙ first_of-assoc (entry_to page x) (latest_write page ring) (entry_to page y)

-- a page's own writes, and those of another page
pub entry_to-own : (page : Page) (e : EntryNo) → entry_to page (Write page e) ≡ Some e
entry_to-own page e = ap (λ b. cond b (Some e) None) (eq-eqb page.0 page.0 refl)

pub entry_to-other : (page other : Page) (e : EntryNo) → (page.0 ≡ other.0 → ⊥) → entry_to page (Write other e) ≡ None
entry_to-other page other e ne = ap (λ b. cond b (Some e) None) (not_eqb other.0 page.0 (λ same. ne (sym same)))

-- order, with one more request at the end
pub order-append : (ring : List Request) (x : Request) → AreInOrder ring → AllByRecursion (λ y. MayPrecede y x) ring → AreInOrder (ring ++ x ∷ [])
order-append [] x ordered before = (tt, tt)
order-append (y ∷ ring) x ordered before = (All-append (MayPrecede y) ring (x ∷ []) ordered.0 (before.0, tt), order-append ring x ordered.1 before.1)
