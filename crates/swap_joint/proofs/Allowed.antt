-- What may be sent stays so: lists that are cut, popped, and appended to.
use Rattle.std.proofs.Common.{◌≡◌, ℕ, ◌⊎◌, inl, inr, Bool, true, false, ◌||◌, zero, suc, List, [], ◌∷◌, ◌++◌, take, length, refl, sym, ap, ◌∙◌, subst, eq-eqb}
use Rattle.std.specs.List.{list_any, AllByRecursion}
use Rattle.std.proofs.lemmas.Bool.{both_ways}
use Rattle.swap_base.specs.declared.Slab.{Slab}
use Rattle.swap_base.specs.declared.Link.{Link}
use Rattle.swap_base.specs.declared.Lender.{Lender}
use Rattle.swap_base.specs.declared.Lease.{Lease}
use Rattle.swap_base.specs.Sizes.{Sizes}
use Rattle.swap_wire.specs.declared.Msg.{Msg}
use Rattle.swap_wire.specs.declared.Msg.TheVariants as msg
use Rattle.swap_wire.specs.Fabric.{Parcel}
use Rattle.swap_slabs.specs.declared.SlabState.{SlabState}
use Rattle.swap_rings.specs.declared.Request.{Request}
use Rattle.swap_lender.specs.declared.SlotState.{SlotState}
use Rattle.swap_lender.specs.declared.SlotState.TheVariants.{Held}
use Rattle.swap_lender.specs.Lender as lender
use Rattle.swap_lender.specs.Lender.{slot_in, has_greeted}
use Rattle.swap_link.specs.Lane.{Lane, append_after}
use Rattle.swap_joint.specs.Seats.{is_done}
use Rattle.swap_joint.specs.Stored.{gives_back}
use Rattle.swap_joint.specs.Allowed.{is_evict, is_ask, is_rate, is_refusal, is_hello, NamedOnce, BorrowsFree, NoHello, Greets, IsToLender, Allows}
use Rattle.swap_joint.specs.Left.{borrows}
use Rattle.swap_joint.proofs.Lanes.{by_append}
use Rattle.swap_joint.proofs.Turns.{any-append}
use Rattle.swap_joint.proofs.Serves.{any-rest, any-take, none-take}

-- lists that name each lease once

pub once_take : (names : Lease → Msg → Bool) (n : ℕ) (ps : List Parcel) → NamedOnce names ps → NamedOnce names (take n ps)
once_take names zero ps once = tt
once_take names (suc n) [] once = tt
once_take names (suc n) (p ∷ ps) once = ((λ k e. none-take (λ (q : Parcel). names k q.msg) n ps (once.0 k e)), once_take names n ps once.1)

pub named_last :
    (names : Lease → Msg → Bool) (ps : List Parcel) (q : Parcel) → NamedOnce names ps
    → ((k : Lease) → list_any (λ (p : Parcel). names k p.msg) ps ≡ true → names k q.msg ≡ false) → NamedOnce names (ps ++ q ∷ [])
named_last names [] q once other = ((λ k e. refl), tt)
named_last names (p ∷ ps) q once other = (
  (λ k e. any-append (λ (q : Parcel). names k q.msg) ps q (other k (first (names k p.msg) _ e)) ∙ once.0 k e),
  named_last names ps q once.1 (λ k e. other k (rest (names k p.msg) _ e)),
)
  where
    first : (a b : Bool) → a ≡ true → (a || b) ≡ true
    first true b e = refl
    first false b e = cc

    rest : (a b : Bool) → b ≡ true → (a || b) ≡ true
    rest true b e = refl
    rest false b e = e

-- borrows of slabs without a slot

pub free_map :
    (slots slots' : List SlotState) (G H : Lease → Type 0) (ps : List Parcel)
    → ((t : Slab) (i : ℕ) (n : Link) (k : Lease) (e : Bool) → list_any (λ (q : Parcel). borrows t q.msg) ps ≡ true → slot_in slots' i ≡ Held n t k e
    → ((e' : Bool) × (slot_in slots i ≡ Held n t k e')) × (G k → H k))
    → BorrowsFree slots G ps → BorrowsFree slots' H ps
free_map slots slots' G H [] each h = tt
free_map slots slots' G H (q ∷ qs) each h = (
  λ t i n k e is held. let was = each t i n k e (ap (λ b. b || list_any (λ (q : Parcel). borrows t q.msg) qs) (ap (borrows t) is ∙ eq-eqb t.0 t.0 refl)) held in
      was.1 (h.0 t i n k was.0.0 is was.0.1),
  free_map slots slots' (λ k. G k ⊎ (is_done k q.msg ≡ true)) (λ k. H k ⊎ (is_done k q.msg ≡ true)) qs
      (λ t i n k e in_rest held. let was = each t i n k e (any-rest (λ (q : Parcel). borrows t q.msg) q qs in_rest) held in
      (was.0, λ given. elim given [ inl g ↦ inl (was.1 g) | inr d ↦ inr d ]))
      h.1,
)

pub free_take : (slots : List SlotState) (G : Lease → Type 0) (n : ℕ) (ps : List Parcel) → BorrowsFree slots G ps → BorrowsFree slots G (take n ps)
free_take slots G zero ps h = tt
free_take slots G (suc n) [] h = tt
free_take slots G (suc n) (p ∷ ps) h = (h.0, free_take slots (λ k. G k ⊎ (is_done k p.msg ≡ true)) n ps h.1)

-- a message more: what it borrows has no slot that isn't given back before
pub free_last :
    (slots : List SlotState) (G : Lease → Type 0) (ps : List Parcel) (q : Parcel) → BorrowsFree slots G ps
    → ((t : Slab) (i : ℕ) (n : Link) (k : Lease) (e : Bool) → q.msg ≡ msg.Borrow t → slot_in slots i ≡ Held n t k e → G k ⊎ (gives_back k ps ≡ true))
    → BorrowsFree slots G (ps ++ q ∷ [])
free_last slots G [] q h new = ((λ t i n k e is held. elim (new t i n k e is held) [ inl g ↦ g | inr d ↦ absurd (no_truth d) ]), tt)
  where
    no_truth : false ≡ true → ⊥
    no_truth e = cc
free_last slots G (p ∷ ps) q h new = (
  h.0,
  free_last slots (λ k. G k ⊎ (is_done k p.msg ≡ true)) ps q h.1
      (λ t i n k e is held. elim (new t i n k e is held) [ inl g ↦ inl (inl g) | inr d ↦ either (is_done k p.msg) refl d ]),
)
  where
    either : {k : Lease} (b : Bool) → is_done k p.msg ≡ b → (b || gives_back k ps) ≡ true → (G k ⊎ (is_done k p.msg ≡ true)) ⊎ (gives_back k ps ≡ true)
    either true is e = inl (inr is)
    either false is e = inr e

-- greetings

no_hello_take : (n : ℕ) (ps : List Parcel) → NoHello ps → NoHello (take n ps)
no_hello_take n ps h = none-take (λ (q : Parcel). is_hello q.msg) n ps h

pub greets_take : (s : Sizes) (greeted ended : Bool) (n : ℕ) (ps : List Parcel) → Greets s greeted ended ps → Greets s greeted true (take n ps)
greets_take s true ended n ps h = no_hello_take n ps h
greets_take s false ended zero ps h = refl
greets_take s false ended (suc n) [] h = refl
greets_take s false ended (suc n) (q ∷ qs) h = (h.0, no_hello_take n qs h.1)

all_take : (P : Parcel → Type 0) (n : ℕ) (ps : List Parcel) → AllByRecursion P ps → AllByRecursion P (take n ps)
all_take P zero ps h = tt
all_take P (suc n) [] h = tt
all_take P (suc n) (p ∷ ps) h = (h.0, all_take P n ps h.1)

-- both lists are cut
pub allows_cut :
    (s : Sizes) (states : List SlabState) (ring : List Request) (l : Lender) (table : lender.Lender) (n : Link) (come : List Parcel) (ended : Bool)
    (out : List Parcel) (a b : ℕ)
    → Allows s states ring l table n come ended out → Allows s states ring l table n (take b come) true (take a out)
allows_cut s states ring l table n come ended out a b h = record {
  told = λ k e. h.told k (any-take (λ (q : Parcel). is_evict k q.msg) b come e);
  drains = h.drains;
  done = λ k e. h.done k (any-take (λ (q : Parcel). is_done k q.msg) a out e);
  done_once = once_take is_done a out h.done_once;
  evict_once = once_take is_evict b come h.evict_once;
  apart = λ k e. none-take (λ (q : Parcel). is_done k q.msg) a out (h.apart k (any-take (λ (q : Parcel). is_evict k q.msg) b come e));
  before = λ t k f e. h.before t k f (any-take (λ (q : Parcel). is_evict k q.msg) b come e);
  asks = λ k e. h.asks k (any-take (λ (q : Parcel). is_ask k q.msg) b come e);
  rates = λ k e. h.rates k (any-take (λ (q : Parcel). is_rate k q.msg) a out e);
  ask_once = once_take is_ask b come h.ask_once;
  rate_once = once_take is_rate a out h.rate_once;
  one = λ k e. none-take (λ (q : Parcel). is_rate k q.msg) a out (h.one k (any-take (λ (q : Parcel). is_ask k q.msg) b come e));
  home = λ i m t k e held. inr (inr (inr refl));
  refused = λ i m t k e come_now held. h.refused i m t k e (any-take (λ (q : Parcel). is_refusal t q.msg) b come come_now) held;
  free = free_take table.slots (λ k. ⊥) a out h.free;
  greets = greets_take s (has_greeted table n) ended a out h.greets;
  kinds = all_take (λ (q : Parcel). IsToLender q.msg) a out h.kinds;
}

-- a list is itself where it is cut to its length, and a list without its last message
take_all : (ps : List Parcel) → take (length ps) ps ≡ ps
take_all [] = refl
take_all (p ∷ ps) = ap (λ qs. p ∷ qs) (take_all ps)

take_front : (ps : List Parcel) (q : Parcel) → take (length ps) (ps ++ q ∷ []) ≡ ps
take_front [] q = refl
take_front (p ∷ ps) q = ap (λ qs. p ∷ qs) (take_front ps q)

-- what the device was about to say is under way, or lost where the list has ended
pub allows_said :
    (s : Sizes) (states : List SlabState) (ring : List Request) (l : Lender) (table : lender.Lender) (n : Link) (come : List Parcel) (b : Lane) (q : Parcel)
    → Allows s states ring l table n come b.ended (b.parcels ++ q ∷ [])
    → Allows s states ring l table n come (append_after b q).ended (append_after b q).parcels
allows_said s states ring l table n come b q h =
    let lost : Allows s states ring l table n come true b.parcels =
    subst (λ ps. Allows s states ring l table n come true ps) (take_front b.parcels q)
    (subst (λ ps. Allows s states ring l table n ps true (take (length b.parcels) (b.parcels ++ q ∷ []))) (take_all come)
    (allows_cut s states ring l table n come b.ended (b.parcels ++ q ∷ []) (length b.parcels) (length come) h))
    in
    by_append (λ z. Allows s states ring l table n come z.ended z.parcels) b q (λ e. subst (λ x. Allows s states ring l table n come x b.parcels) (sym e) lost)
    (λ e. h) (λ _. lost)
