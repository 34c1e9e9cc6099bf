-- What a link finds at a place of a lease, through what its lender does.
use Rattle.std.proofs.Common.{◌≡◌, ◌≢◌, ℕ, ◌+◌, ◌<◌, ◌≤◌, ◌⊎◌, inl, inr, Bool, true, false, cond, ◌&&◌, List, [], ◌∷◌, length, set, get_or, replicate, refl, sym, ap, ◌∙◌, subst, arith, Option, None, Some, eq-eqb, get_or-set_same, get_or-set_other}
use Rattle.std.specs.Prelude.{nat_lt, ◌==◌, option_map}
use Rattle.std.proofs.lemmas.Bool.{cond_both, cond-true, cond-false, and_parts, and_from, ltb-true, eqb-true, cases_eq, cases_lt, cases_Bool, both_ways}
use Rattle.std.proofs.lemmas.List.{length-set, get_or_past, get_or-replicate}
use Rattle.std.proofs.lemmas.List.Elements.{All-get_or}
use Rattle.std.proofs.lemmas.List.Folds.{position_or_len-set}
use Rattle.std.proofs.lemmas.List.Sums.{passes_at_first}
use Rattle.swap_base.specs.declared.Link.{Link}
use Rattle.swap_base.specs.declared.Slab.{Slab}
use Rattle.swap_base.specs.declared.Lease.{Lease}
use Rattle.swap_wire.specs.declared.Msg.{Msg}
use Rattle.swap_wire.specs.declared.Msg.TheVariants as msg
use Rattle.swap_wire.specs.Fabric.{Parcel}
use Rattle.swap_choice.specs.Slots.{has}
use Rattle.swap_evict.specs.Rounds.{answer}
use Rattle.swap_lender.specs.declared.SlotState.{SlotState}
use Rattle.swap_lender.specs.declared.SlotState.TheVariants.{Free, Held}
use Rattle.swap_lender.specs.Lender.{Lender, blank_slab, is_free, has_lease, first_where, lends, holds, slot_of, page_in, with_page}
use Rattle.swap_lender.specs.Table.{Turn, mark_slots, mark_slot, settle_with, slots_due, lend, write, may_reach, may_send, serve, done_after, host, measure_after, opens}
use Rattle.swap_link.specs.Fits.{IsSound, lease_of, lease_at}
use Rattle.swap_link.specs.Keeping.{slot_page, left_by, left_after}
use Rattle.swap_link.specs.lemmas.Sound.{length-marked, some-same, fewer-free, lease-set, reached}

-- what is known of a place stays so; where nothing is, there may be zeros, of a lease that was still to be given
abbrev pub IsLater : ℕ → ℕ → List ℕ → Option (List ℕ) → Option (List ℕ) → Type 0
IsLater k next zero (Some b) now = now ≡ Some b
IsLater k next zero None now = (now ≡ None) ⊎ ((next ≤ k) × (now ≡ Some zero))

pub later-same : (k next : ℕ) (zero : List ℕ) (was now : Option (List ℕ)) → now ≡ was → IsLater k next zero was now
later-same k next zero (Some b) now e = e
later-same k next zero None now e = inl e

later-cond :
    (k next : ℕ) (zero : List ℕ) (b : Bool) (x was now : Option (List ℕ)) → IsLater k next zero was now
    → IsLater k next zero (cond b x was) (cond b x now)
later-cond k next zero true x was now h = later-same k next zero x x refl
later-cond k next zero false x was now h = h

pub later-left :
    (k : Lease) (i next : ℕ) (zero : List ℕ) (m : Msg) (page : List ℕ) (was now : Option (List ℕ))
    → IsLater k.0 next zero was now → IsLater k.0 next zero (left_by k i m page was) (left_by k i m page now)
later-left k i next zero (msg.Write lease place) page was now h =
    later-cond k.0 next zero ((lease.0 == k.0) && (place == i)) (Some page) was now h
later-left k i next zero (msg.Done lease) page was now h = later-cond k.0 next zero (lease.0 == k.0) None was now h
later-left k i next zero _ page was now h = h

pub later-after :
    (k : Lease) (i next : ℕ) (zero : List ℕ) (ps : List Parcel) (was now : Option (List ℕ))
    → IsLater k.0 next zero was now → IsLater k.0 next zero (left_after k i ps was) (left_after k i ps now)
later-after k i next zero [] was now h = h
later-after k i next zero (p ∷ ps) was now h =
    later-after k i next zero ps (left_by k i p.msg p.page was) (left_by k i p.msg p.page now)
    (later-left k i next zero p.msg p.page was now h)

pub none-some : {X : Type 0} {a : X} → None ≡ Some a → ⊥
none-some e = cc

-- leases of slots

pub lease-has : (n : Link) (k : Lease) (s : SlotState) → has_lease n k s ≡ true → lease_of s ≡ Some k.0
lease-has n k Free e = cc
lease-has n k (Held other slab lease evicting) e =
    ap (λ x. Some x) (eqb-true lease.0 k.0 (and_parts (other.0 == n.0) (lease.0 == k.0) e).1)

pub lacks :
    (n : Link) (k : Lease) (s : SlotState) (a : ℕ) → lease_of s ≡ Some a → (a ≡ k.0 → ⊥) → has_lease n k s ≡ false
lacks n k s a e ne =
    elim (cases_Bool (has_lease n k s)) [ inl h ↦ absurd (ne (some-same (sym e ∙ lease-has n k s h))) | inr h ↦ h ]

-- the slot that a link has by a lease has that lease
pub found :
    (l : Lender) (n : Link) (k : Lease) → slot_of l n k < length l.slots
    → has_lease n k (get_or l.slots (slot_of l n k) Free) ≡ true
found l n k lt = passes_at_first (has_lease n k) l.slots Free lt

pub found-lease :
    (l : Lender) (n : Link) (k : Lease) → slot_of l n k < length l.slots → lease_at l.slots (slot_of l n k) ≡ Some k.0
found-lease l n k lt = lease-has n k (get_or l.slots (slot_of l n k) Free) (found l n k lt)

pub reach-slot : (l : Lender) (n : Link) (k : Lease) (i : ℕ) → may_reach l n k i ≡ true → slot_of l n k < length l.slots
reach-slot l n k i may =
    ltb-true (slot_of l n k) (length l.slots) (and_parts (holds l n k) (nat_lt i l.lending.pages_per_slab) may).0

-- a lender with the same slots by this lease, and the same pages there
pub slot_page-same :
    (l m : Lender) (n : Link) (k : Lease) (i : ℕ) → slot_of m n k ≡ slot_of l n k → length m.slots ≡ length l.slots
    → m.lending ≡ l.lending
    → (may_reach l n k i ≡ true → page_in m.contents (slot_of l n k) i ≡ page_in l.contents (slot_of l n k) i)
    → slot_page m n k i ≡ slot_page l n k i
slot_page-same l m n k i slot size lending page =
    let may : may_reach m n k i ≡ may_reach l n k i = rw (slot, size, lending) refl in
    elim (cases_Bool (may_reach l n k i)) [
      | inl h ↦
          cond-true (may_reach m n k i) _ _ (may ∙ h) ∙ ap (λ s. Some (page_in m.contents s i)) slot
          ∙ ap (λ x. Some x) (page h) ∙ sym (cond-true (may_reach l n k i) _ _ h)
      | inr h ↦ cond-false (may_reach m n k i) _ _ (may ∙ h) ∙ sym (cond-false (may_reach l n k i) _ _ h)
    ]

-- slots that are told to go

marked-has : (n : Link) (k : Lease) (b : Bool) (s : SlotState) → has_lease n k (mark_slot b s) ≡ has_lease n k s
marked-has n k false s = refl
marked-has n k true Free = refl
marked-has n k true (Held link slab lease evicting) = refl

pub marked-first :
    (n : Link) (k : Lease) (set from : ℕ) (slots : List SlotState)
    → first_where (has_lease n k) (mark_slots set from slots) ≡ first_where (has_lease n k) slots
marked-first n k set from [] = refl
marked-first n k set from (s ∷ ss) = rw (marked-has n k (has set from) s, marked-first n k set (from + 1) ss) refl

pub slot_page-settle :
    (l : Lender) (o : Option ℕ) (n : Link) (k : Lease) (i : ℕ)
    → slot_page (settle_with l o).lender n k i ≡ slot_page l n k i
slot_page-settle l None n k i = refl
slot_page-settle l (Some set) n k i =
    slot_page-same l (settle_with l (Some set)).lender n k i (marked-first n k set 0 l.slots)
    (length-marked set 0 l.slots) refl (λ _. refl)

pub next-settle : (l : Lender) (o : Option ℕ) → (settle_with l o).lender.next_lease ≡ l.next_lease
next-settle l None = refl
next-settle l (Some set) = refl

-- a slot that is lent

free-has : (n : Link) (k : Lease) (s : SlotState) → is_free s ≡ true → has_lease n k s ≡ false
free-has n k Free e = refl
free-has n k (Held other slab lease evicting) e = cc

pub lowest-has :
    (slots : List SlotState) (n : Link) (k : Lease)
    → has_lease n k (get_or slots (first_where is_free slots) Free) ≡ false
lowest-has slots n k = elim (cases_lt (first_where is_free slots) (length slots)) [
  | inl lt ↦ free-has n k _ (passes_at_first is_free slots Free lt)
  | inr ge ↦ ap (has_lease n k) (get_or_past slots (first_where is_free slots) Free ge)
]

abbrev pub lent_lender : Lender → Link → Slab → Lender
lent_lender l n slab = (lend l n slab (first_where is_free l.slots)).lender

abbrev pub lent_slot : Lender → Link → Slab → SlotState
lent_slot l n slab = Held n slab (record { 0 = l.next_lease }) false

-- another lease than the one that is given
lend-other :
    (l : Lender) (n : Link) (slab : Slab) (k : Lease) (i : ℕ) → (l.next_lease ≡ k.0 → ⊥)
    → slot_page (lent_lender l n slab) n k i ≡ slot_page l n k i
lend-other l n slab k i ne =
    let j : ℕ = first_where is_free l.slots in
    let new : has_lease n k (lent_slot l n slab) ≡ has_lease n k (get_or l.slots (first_where is_free l.slots) Free) =
    lacks n k (lent_slot l n slab) l.next_lease refl ne ∙ sym (lowest-has l.slots n k) in
    slot_page-same l (lent_lender l n slab) n k i
    (position_or_len-set (has_lease n k) l.slots (first_where is_free l.slots) (lent_slot l n slab) Free new)
    (length-set l.slots (first_where is_free l.slots) (lent_slot l n slab)) refl
    (λ may.
    ap (λ slab. get_or slab i [])
    (get_or-set_other l.contents (first_where is_free l.slots) (slot_of l n k) (blank_slab l.lending) []
    (λ e.
    both_ways (has_lease n k (get_or l.slots (slot_of l n k) Free))
    (subst (λ s. has_lease n k (get_or l.slots s Free) ≡ false) (sym e) (lowest-has l.slots n k))
    (found l n k (reach-slot l n k i may)))))

-- the lease that is given is found in the slot that was free, and all its pages are zeros
lent-place :
    (l : Lender) (n : Link) (slab : Slab) (k : Lease) (i : ℕ) → IsSound l → l.next_lease ≡ k.0
    → may_reach (lent_lender l n slab) n k i ≡ true → slot_of (lent_lender l n slab) n k ≡ first_where is_free l.slots
lent-place l n slab k i s e may =
    elim (lease-set l.slots (first_where is_free l.slots) (lent_slot l n slab) (slot_of (lent_lender l n slab) n k) k.0
    (found-lease (lent_lender l n slab) n k (reach-slot (lent_lender l n slab) n k i may))) [
      | inl h ↦ h.0
      | inr h ↦
          (let lt : k.0 < l.next_lease = s.given (slot_of (lent_lender l n slab) n k) k.0 h in absurd (omega arith))
    ]

lent-zeros :
    (l : Lender) (n : Link) (slab : Slab) (k : Lease) (i : ℕ) → IsSound l → l.next_lease ≡ k.0
    → may_reach (lent_lender l n slab) n k i ≡ true
    → page_in (lent_lender l n slab).contents (slot_of (lent_lender l n slab) n k) i ≡ replicate l.lending.page_bytes 0
lent-zeros l n slab k i s e may =
    let at : slot_of (lent_lender l n slab) n k ≡ first_where is_free l.slots = lent-place l n slab k i s e may in
    let small : slot_of (lent_lender l n slab) n k < length l.slots =
    subst (λ m. slot_of (lent_lender l n slab) n k < m)
    (length-set l.slots (first_where is_free l.slots) (lent_slot l n slab))
    (reach-slot (lent_lender l n slab) n k i may) in
    let lt : first_where is_free l.slots < length l.contents =
    subst (λ m. first_where is_free l.slots < m) (sym s.slots) (subst (λ x. x < length l.slots) at small) in
    let place : i < l.lending.pages_per_slab =
    ltb-true i l.lending.pages_per_slab
    (and_parts (holds (lent_lender l n slab) n k) (nat_lt i l.lending.pages_per_slab) may).1 in
    ap (λ x. page_in (lent_lender l n slab).contents x i) at
    ∙ ap (λ slab. get_or slab i []) (get_or-set_same l.contents (first_where is_free l.slots) (blank_slab l.lending) []
    lt)
    ∙ get_or-replicate l.lending.pages_per_slab i (replicate l.lending.page_bytes 0) [] place

-- the lease that is given
lend-this :
    (l : Lender) (n : Link) (slab : Slab) (k : Lease) (i : ℕ) → IsSound l → l.next_lease ≡ k.0
    → IsLater k.0 l.next_lease (replicate l.lending.page_bytes 0) (slot_page l n k i)
    (slot_page (lent_lender l n slab) n k i)
lend-this l n slab k i s e =
    let none : slot_page l n k i ≡ None = elim (cases_Bool (may_reach l n k i)) [
      | inl may ↦
          (let lt : k.0 < l.next_lease = s.given (slot_of l n k) k.0 (found-lease l n k (reach-slot l n k i may)) in
          absurd (omega arith))
      | inr h ↦ cond-false (may_reach l n k i) _ _ h
    ] in
    subst (λ was.
    IsLater k.0 l.next_lease (replicate l.lending.page_bytes 0) was (slot_page (lent_lender l n slab) n k i))
    (sym none) (elim (cases_Bool (may_reach (lent_lender l n slab) n k i)) [
      | inl may ↦
          inr (
            omega arith,
            cond-true (may_reach (lent_lender l n slab) n k i) _ _ may
                ∙ ap (λ x. Some x) (lent-zeros l n slab k i s e may),
          )
      | inr h ↦ inl (cond-false (may_reach (lent_lender l n slab) n k i) _ _ h)
    ])

pub later-lend :
    (l : Lender) (n : Link) (slab : Slab) (k : Lease) (i : ℕ) → IsSound l
    → IsLater k.0 l.next_lease (replicate l.lending.page_bytes 0) (slot_page l n k i)
    (slot_page (lent_lender l n slab) n k i)
later-lend l n slab k i s =
    elim (cases_eq l.next_lease k.0)
    [ inl e ↦ lend-this l n slab k i s e | inr ne ↦ later-same k.0 l.next_lease _ _ _ (lend-other l n slab k i ne) ]

-- a page that is written

write-this :
    (l : Lender) (n : Link) (k : Lease) (i : ℕ) (page : List ℕ) → IsSound l → may_reach l n k i ≡ true
    → slot_page (write l n k i page).lender n k i ≡ Some page
write-this l n k i page s may =
    let lt = reached l n k i s may in
    let size : length (get_or l.contents (slot_of l n k) []) ≡ l.lending.pages_per_slab =
    All-get_or (λ slab. length slab ≡ l.lending.pages_per_slab) l.contents (slot_of l n k) [] lt.0 s.places in
    let place : i < length (get_or l.contents (slot_of l n k) []) = subst (λ m. i < m) (sym size) lt.1 in
    cond-true (may_reach l n k i) _ _ may
    ∙ ap (λ x. Some x)
    (ap (λ slab. get_or slab i [])
    (get_or-set_same l.contents (slot_of l n k) (set (get_or l.contents (slot_of l n k) []) i page) [] lt.0)
    ∙ get_or-set_same (get_or l.contents (slot_of l n k) []) i page [] place)

same-slot :
    (l : Lender) (n : Link) (k lease : Lease) → slot_of l n k < length l.slots → slot_of l n lease < length l.slots
    → slot_of l n k ≡ slot_of l n lease → lease.0 ≡ k.0
same-slot l n k lease lk ll e =
    some-same (sym (found-lease l n lease ll) ∙ ap (λ x. lease_at l.slots x) (sym e) ∙ found-lease l n k lk)

write-page :
    (C : List (List (List ℕ))) (s t i place : ℕ) (page : List ℕ) → t < length C → (s ≡ t → place ≡ i → ⊥)
    → page_in (with_page C t place page) s i ≡ page_in C s i
write-page C s t i place page lt ne = elim (cases_eq s t) [
  | inl e ↦ (
      let other : i ≢ place = λ h. ne e (sym h) in
      ap (λ slab. get_or slab i [])
      (subst (λ x. get_or (set C t (set (get_or C t []) place page)) x [] ≡ set (get_or C t []) place page) (sym e)
      (get_or-set_same C t (set (get_or C t []) place page) [] lt))
      ∙ get_or-set_other (get_or C t []) place i page [] other
      ∙ ap (λ x. get_or (get_or C x []) i []) (sym e)
      )
  | inr h ↦ ap (λ slab. get_or slab i []) (get_or-set_other C t s (set (get_or C t []) place page) [] h)
]

write-other :
    (l : Lender) (n : Link) (k lease : Lease) (i place : ℕ) (page : List ℕ) → IsSound l
    → may_reach l n lease place ≡ true
    → ((lease.0 == k.0) && (place == i)) ≡ false
    → slot_page (write l n lease place page).lender n k i ≡ slot_page l n k i
write-other l n k lease i place page s may other =
    slot_page-same l (write l n lease place page).lender n k i refl refl refl
    (λ here.
    write-page l.contents (slot_of l n k) (slot_of l n lease) i place page (reached l n lease place s may).0 (λ e h.
    both_ways ((lease.0 == k.0) && (place == i)) other
    (and_from (lease.0 == k.0) (place == i)
    (eq-eqb lease.0 k.0 (same-slot l n k lease (reach-slot l n k i here) (reach-slot l n lease place may) e))
    (eq-eqb place i h))))

later-write :
    (l : Lender) (n : Link) (k lease : Lease) (i place : ℕ) (page : List ℕ) → IsSound l
    → may_reach l n lease place ≡ true
    → IsLater k.0 l.next_lease (replicate l.lending.page_bytes 0)
    (left_by k i (msg.Write lease place) page (slot_page l n k i))
    (slot_page (write l n lease place page).lender n k i)
later-write l n k lease i place page s may =
    let Q : Option (List ℕ) → Type 0 =
    λ was.
    IsLater k.0 l.next_lease (replicate l.lending.page_bytes 0) was
    (slot_page (write l n lease place page).lender n k i) in
    cond_both ((lease.0 == k.0) && (place == i)) (Some page) (slot_page l n k i) Q
    (λ h.
    let parts = and_parts (lease.0 == k.0) (place == i) h in
    let same : lease ≡ k = ap (λ (x : ℕ). record { 0 = x }) (eqb-true lease.0 k.0 parts.0) in
    let here : place ≡ i = eqb-true place i parts.1 in
    let may' : may_reach l n k i ≡ true =
    subst (λ x. may_reach l n x i ≡ true) same (subst (λ p. may_reach l n lease p ≡ true) here may) in
    subst (λ x. slot_page (write l n x place page).lender n k i ≡ Some page) (sym same)
    (subst (λ p. slot_page (write l n k p page).lender n k i ≡ Some page) (sym here)
    (write-this l n k i page s may')))
    (λ h. later-same k.0 l.next_lease _ _ _ (write-other l n k lease i place page s may h))

-- a slot that is given back

abbrev pub done_lender : Lender → Link → Lease → Lender
done_lender l n lease = (done_after l n lease).lender

done-this :
    (l : Lender) (n : Link) (k lease : Lease) (i : ℕ) → IsSound l → slot_of l n lease < length l.slots → lease.0 ≡ k.0
    → slot_page (done_lender l n lease) n k i ≡ None
done-this l n k lease i s lt e = elim (cases_Bool (may_reach (done_lender l n lease) n k i)) [
  | inl may ↦ (
      let m : Lender = done_lender l n lease in
      let now : lease_at (done_lender l n lease).slots (slot_of (done_lender l n lease) n k) ≡ Some k.0 =
      found-lease (done_lender l n lease) n k (reach-slot (done_lender l n lease) n k i may) in
      let same : slot_of (done_lender l n lease) n k ≡ slot_of l n lease =
      s.differ (slot_of (done_lender l n lease) n k) (slot_of l n lease) k.0
      (fewer-free l.slots (slot_of l n lease) (slot_of (done_lender l n lease) n k) k.0 now)
      (found-lease l n lease lt ∙ ap (λ x. Some x) e) in
      let free : lease_at (done_lender l n lease).slots (slot_of l n lease) ≡ None =
      ap lease_of (get_or-set_same l.slots (slot_of l n lease) Free Free lt) in
      absurd (none-some (sym free ∙ ap (λ x. lease_at (done_lender l n lease).slots x) (sym same) ∙ now))
      )
  | inr h ↦ cond-false (may_reach (done_lender l n lease) n k i) _ _ h
]

done-other :
    (l : Lender) (n : Link) (k lease : Lease) (i : ℕ) → slot_of l n lease < length l.slots → (lease.0 ≡ k.0 → ⊥)
    → slot_page (done_lender l n lease) n k i ≡ slot_page l n k i
done-other l n k lease i lt ne =
    slot_page-same l (done_lender l n lease) n k i
    (position_or_len-set (has_lease n k) l.slots (slot_of l n lease) Free Free
    (sym (lacks n k (get_or l.slots (slot_of l n lease) Free) lease.0 (found-lease l n lease lt) ne)))
    (length-set l.slots (slot_of l n lease) Free) refl (λ _. refl)

later-done :
    (l : Lender) (n : Link) (k lease : Lease) (i : ℕ) (page : List ℕ) → IsSound l → slot_of l n lease < length l.slots
    → IsLater k.0 l.next_lease (replicate l.lending.page_bytes 0)
    (left_by k i (msg.Done lease) page (slot_page l n k i)) (slot_page (done_lender l n lease) n k i)
later-done l n k lease i page s lt =
    let Q : Option (List ℕ) → Type 0 =
    λ was.
    IsLater k.0 l.next_lease (replicate l.lending.page_bytes 0) was (slot_page (done_lender l n lease) n k i) in
    cond_both (lease.0 == k.0) None (slot_page l n k i) Q
    (λ h. inl (done-this l n k lease i s lt (eqb-true lease.0 k.0 h)))
    (λ h.
    later-same k.0 l.next_lease _ _ _
    (done-other l n k lease i lt (λ e. both_ways (lease.0 == k.0) h (eq-eqb lease.0 k.0 e))))

-- a message that is served

pub later-serve :
    (l : Lender) (n : Link) (m : Msg) (page : List ℕ) (k : Lease) (i : ℕ) → IsSound l → may_send l n m ≡ true
    → IsLater k.0 l.next_lease (replicate l.lending.page_bytes 0) (left_by k i m page (slot_page l n k i))
    (slot_page (serve l n m page).lender n k i)
later-serve l n (msg.Borrow slab) page k i s may =
    cond_both (lends l) _ _
    (λ (t : Turn).
    IsLater k.0 l.next_lease (replicate l.lending.page_bytes 0) (slot_page l n k i) (slot_page t.lender n k i))
    (λ _. later-lend l n slab k i s) (λ _. later-same k.0 l.next_lease _ _ _ refl)
later-serve l n (msg.Write lease place) page k i s may = later-write l n k lease i place page s may
later-serve l n (msg.Rates lease value) page k i s may =
    later-same k.0 l.next_lease _ _ _
    (slot_page-settle (record l { round = option_map (answer (slot_of l n lease) value) l.round })
    (slots_due (option_map (answer (slot_of l n lease) value) l.round)) n k i)
later-serve l n (msg.Done lease) page k i s may =
    later-done l n k lease i page s
    (ltb-true (slot_of l n lease) (length l.slots) (and_parts (holds l n lease) _ may).0)
later-serve l n _ page k i s may = later-same k.0 l.next_lease _ _ _ refl

pub next-serve : (l : Lender) (n : Link) (m : Msg) (page : List ℕ) → l.next_lease ≤ (serve l n m page).lender.next_lease
next-serve l n (msg.Borrow slab) page =
    cond_both (lends l) _ _ (λ (t : Turn). l.next_lease ≤ t.lender.next_lease) (λ _. omega arith) (λ _. omega arith)
next-serve l n (msg.Rates lease value) page =
    let e : (settle_with (record l { round = option_map (answer (slot_of l n lease) value) l.round })
    (slots_due (option_map (answer (slot_of l n lease) value) l.round))).lender.next_lease
    ≡ l.next_lease =
    next-settle (record l { round = option_map (answer (slot_of l n lease) value) l.round })
    (slots_due (option_map (answer (slot_of l n lease) value) l.round)) in
    subst (λ x. l.next_lease ≤ x) (sym e) (omega arith)
next-serve l n _ page = omega arith

pub slot_page-host :
    (l : Lender) (usage word : ℕ) (n : Link) (k : Lease) (i : ℕ)
    → slot_page (host l usage word).lender n k i ≡ slot_page l n k i
slot_page-host l usage word n k i =
    cond_both (opens (measure_after l usage)) _ _ (λ (t : Turn). slot_page t.lender n k i
    ≡ slot_page l n k i) (λ _. refl)
    (λ _. refl)

pub next-host : (l : Lender) (usage word : ℕ) → (host l usage word).lender.next_lease ≡ l.next_lease
next-host l usage word =
    cond_both (opens (measure_after l usage)) _ _ (λ (t : Turn). t.lender.next_lease
    ≡ l.next_lease) (λ _. refl) (λ _. refl)
