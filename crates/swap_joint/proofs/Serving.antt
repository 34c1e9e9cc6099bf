-- A lender serves what it may be sent, and what may be sent stays so.
use Rattle.std.proofs.Common.{◌≡◌, ℕ, ◌+◌, ◌<◌, ◌^◌, inl, inr, Bool, true, false, ◌==◌, ◌||◌, ◌&&◌, not, nat_lt, lt-ltb, zero, suc, List, [], ◌∷◌, length, get_or, refl, sym, ap, ◌∙◌, subst, arith, eq-eqb, bit_or, None, Some}
use Rattle.std.specs.List.{list_any}
use Rattle.std.proofs.lemmas.Bool.{cond-false, both_ways, false_from_ne_true, cases_lt, and_parts, and_from, eqb-true}
use Rattle.std.proofs.lemmas.List.{get_or_past}
use Rattle.std.proofs.lemmas.List.Sums.{position_or_len_is}
use Rattle.std.proofs.lemmas.Nat.Bits.{bit_at_or, bit_at-lt, bit_at-pow_other}
use Rattle.swap_base.specs.declared.Slab.{Slab}
use Rattle.swap_base.specs.declared.Link.{Link}
use Rattle.swap_base.specs.declared.Lease.{Lease}
use Rattle.swap_choice.specs.Slots.{has}
use Rattle.swap_evict.specs.Rounds.{Round, answer, waits_for, waiting_slots, slots_to_evict}
use Rattle.swap_evict.proofs.Bits.{has-waiting, no_slot}
use Rattle.swap_lender.specs.declared.SlotState.{SlotState}
use Rattle.swap_lender.specs.declared.SlotState.TheVariants.{Free, Held}
use Rattle.swap_lender.specs.Lender.{Lender, slot_in, slot_of, holds, has_lease, is_for, is_evicting}
use Rattle.swap_lender.specs.Table.{mark_slots, mark_slot, may_rates, may_done, is_awaited}
use Rattle.swap_link.specs.Fits.{IsSound, lease_of, lease_at}
use Rattle.swap_link.specs.lemmas.Slots.{lease-has}
use Rattle.swap_joint.specs.Allowed.{HasSlot, Waits}

-- a lender whose held slots are all of one link
abbrev pub HeldOf : Lender → Link → Type 0
HeldOf l n = (i : ℕ) (m : Link) (t : Slab) (k : Lease) (e : Bool) → slot_in l.slots i ≡ Held m t k e → m.0 ≡ n.0

leased_at : (l : Lender) (i : ℕ) (m : Link) (t : Slab) (k : Lease) (e : Bool) → slot_in l.slots i ≡ Held m t k e → lease_at l.slots i ≡ Some k.0
leased_at l i m t k e is = ap lease_of is

-- slots that differ by their leases
pub same_slot :
    (l : Lender) → IsSound l → (i j : ℕ) (m n : Link) (t u : Slab) (k o : Lease) (e f : Bool) → slot_in l.slots i ≡ Held m t k e
    → slot_in l.slots j ≡ Held n u o f → k.0 ≡ o.0 → i ≡ j
same_slot l sound i j m n t u k o e f a b same = sound.differ i j k.0 (leased_at l i m t k e a) (leased_at l j n u o f b ∙ ap (λ x. Some x) (sym same))

-- a slot is found by its lease
pub record IsAt (l : Lender) (n : Link) (k : Lease) (i : ℕ) : Type 0 where
  pub within : i < length l.slots
  pub is : slot_of l n k ≡ i

within_slots : (slots : List SlotState) (i : ℕ) (m : Link) (t : Slab) (k : Lease) (e : Bool) → get_or slots i Free ≡ Held m t k e → i < length slots
within_slots slots i m t k e is =
    elim (cases_lt i (length slots)) [ inl within ↦ within | inr past ↦ absurd (free_held (sym (get_or_past slots i Free past) ∙ is)) ]
  where
    free_held : Free ≡ Held m t k e → ⊥
    free_held e = cc

pub slot_found :
    (l : Lender) (n : Link) (k : Lease) (i : ℕ) (m : Link) (t : Slab) (e : Bool) → IsSound l → slot_in l.slots i ≡ Held m t k e → m.0 ≡ n.0 → IsAt l n k i
slot_found l n k i m t e sound is same =
    let within : i < length l.slots = within_slots l.slots i m t k e is in
    let own : has_lease n k (slot_in l.slots i) ≡ true =
    ap (has_lease n k) is ∙ and_from (m.0 == n.0) (k.0 == k.0) (eq-eqb m.0 n.0 same) (eq-eqb k.0 k.0 refl) in
    record {
      within = within;
      is = position_or_len_is (has_lease n k) l.slots i Free (omega (arith, within))
          (λ j less.
          false_from_ne_true _
          (λ at. let one : j ≡ i = sound.differ j i k.0 (lease-has n k (slot_in l.slots j) at) (leased_at l i m t k e is) in
          absurd (omega (arith, less, one))))
          (λ _. own);
    }

holds_at : (l : Lender) (n : Link) (k : Lease) (i : ℕ) → IsAt l n k i → holds l n k ≡ true
holds_at l n k i at = lt_true (slot_of l n k) (length l.slots) (subst (λ m. m < length l.slots) (sym at.is) at.within)
  where
    lt_true : (a b : ℕ) → a < b → nat_lt a b ≡ true
    lt_true a b less = lt-ltb a b less

-- a lease that is given back may be, and a rate that is waited for may be told
pub done_allowed : (l : Lender) (n : Link) (k : Lease) → IsSound l → HeldOf l n → HasSlot l.slots k true → may_done l n k ≡ true
done_allowed l n k sound of (i, m, t, is) =
    let at : IsAt l n k i = slot_found l n k i m t true sound is (of i m t k true is) in
    and_from (holds l n k) _ (holds_at l n k i at) (ap (λ j. is_evicting (slot_in l.slots j)) at.is ∙ ap is_evicting is)

pub rates_allowed : (l : Lender) (n : Link) (k : Lease) → IsSound l → HeldOf l n → Waits l k → may_rates l n k ≡ true
rates_allowed l n k sound of w =
    let at : IsAt l n k w.at = slot_found l n k w.at w.link w.slab false sound w.held (of w.at w.link w.slab k false w.held) in
    and_from (holds l n k) _ (holds_at l n k w.at at) (ap (λ o. is_awaited o (slot_of l n k)) w.open_ ∙ ap (waits_for w.round) at.is ∙ w.waits)

-- no slot is held for this slab
pub none_for :
    (n : Link) (t : Slab) (slots : List SlotState) → ((i : ℕ) (m : Link) (k : Lease) (e : Bool) → slot_in slots i ≡ Held m t k e → ⊥)
    → list_any (is_for n t) slots ≡ false
none_for n t [] none = refl
none_for n t (s ∷ ss) none = or_false (is_for n t s) _ (false_from_ne_true _ (λ e. here s refl e)) (none_for n t ss (λ i m k e is. none (suc i) m k e is))
  where
    or_false : (a b : Bool) → a ≡ false → b ≡ false → (a || b) ≡ false
    or_false true b x y = cc
    or_false false b x y = y

    here : (x : SlotState) → s ≡ x → is_for n t x ≡ true → ⊥
    here Free is e = cc
    here (Held m u k told) is e = none 0 m k told (is ∙ ap (λ i. Held m (record { 0 = i }) k told) (eqb-true u.0 t.0 (and_parts (m.0 == n.0) (u.0 == t.0) e).1))

-- slots by their leases, as the slots change

-- a slot that was told to go is still held, and stays told
pub kept_marked :
    (set_ from : ℕ) (slots : List SlotState) (i : ℕ) (m : Link) (t : Slab) (k : Lease) → slot_in slots i ≡ Held m t k true
    → slot_in (mark_slots set_ from slots) i ≡ Held m t k true
kept_marked set_ from [] i m t k e = e
kept_marked set_ from (s ∷ ss) zero m t k e = ap (mark_slot (has set_ from)) e ∙ still (has set_ from)
  where
    still : (b : Bool) → mark_slot b (Held m t k true) ≡ Held m t k true
    still true = refl
    still false = refl
kept_marked set_ from (s ∷ ss) (suc i) m t k e = kept_marked set_ (from + 1) ss i m t k e

-- a slot that is held once some were marked was held before
pub was_marked :
    (set_ from : ℕ) (slots : List SlotState) (i : ℕ) (m : Link) (t : Slab) (k : Lease) (e : Bool) → slot_in (mark_slots set_ from slots) i ≡ Held m t k e
    → (f : Bool) × (slot_in slots i ≡ Held m t k f)
was_marked set_ from [] i m t k e is = (e, is)
was_marked set_ from (s ∷ ss) zero m t k e is = go (has set_ from) s is
  where
    held_is : (a b : Bool) (m' n' : Link) (u v : Slab) (j o : Lease) → Held m' u j a ≡ Held n' v o b → Held m' u j b ≡ Held n' v o b
    held_is a b m' n' u v j o e = cc

    go : (b : Bool) (x : SlotState) → mark_slot b x ≡ Held m t k e → (f : Bool) × (x ≡ Held m t k f)
    go false x is = (e, is)
    go true Free is = cc
    go true (Held n u j told) is = (told, retell n u j told is)
      where
        retell : (n : Link) (u : Slab) (j : Lease) (told : Bool) → Held n u j true ≡ Held m t k e → Held n u j told ≡ Held m t k told
        retell n u j told is = cc
was_marked set_ from (s ∷ ss) (suc i) m t k e is = was_marked set_ (from + 1) ss i m t k e is

-- a slot that was not of the set stays as it was
pub unmarked_stays : (set_ from : ℕ) (slots : List SlotState) (i : ℕ) → has set_ (from + i) ≡ false → slot_in (mark_slots set_ from slots) i ≡ slot_in slots i
unmarked_stays set_ from [] i out = refl
unmarked_stays set_ from (s ∷ ss) zero out = ap (λ b. mark_slot b s) (subst (λ m. has set_ m ≡ false) (omega arith) out)
unmarked_stays set_ from (s ∷ ss) (suc i) out = unmarked_stays set_ (from + 1) ss i (subst (λ m. has set_ m ≡ false) (omega arith) out)

-- a slot of the set is told
pub marked_told :
    (set_ from : ℕ) (slots : List SlotState) (i : ℕ) (m : Link) (t : Slab) (k : Lease) (e : Bool) → has set_ (from + i) ≡ true → slot_in slots i ≡ Held m t k e
    → slot_in (mark_slots set_ from slots) i ≡ Held m t k true
marked_told set_ from [] i m t k e inside is = cc
marked_told set_ from (s ∷ ss) zero m t k e inside is = ap (λ b. mark_slot b s) (subst (λ n. has set_ n ≡ true) (omega arith) inside) ∙ ap (mark_slot true) is
marked_told set_ from (s ∷ ss) (suc i) m t k e inside is = marked_told set_ (from + 1) ss i m t k e (subst (λ n. has set_ n ≡ true) (omega arith) inside) is

-- an answer is noted: the round goes on to wait for every other slot

or_pow : (s x i : ℕ) → (i ≡ x → ⊥) → has (bit_or s (2 ^ x)) i ≡ has s i
or_pow s x i other = ap (λ n. n == 1) (omega (arith, bit_at_or s (2 ^ x) i, bit_at-pow_other x i other, bit_at-lt s i))

pub still_waits : (r : Round) (slot value i : ℕ) → (i ≡ slot → ⊥) → waits_for r i ≡ true → waits_for (answer slot value r) i ≡ true
still_waits r slot value i other e = ap (λ b. (has r.asked i && not b) && not (has r.gone i)) (or_pow r.answered slot i other) ∙ e

-- as long as it waits for a slot it isn't ready
pub not_ready : (r : Round) (i : ℕ) → i < 64 → r.answered < 2 ^ 64 → r.gone < 2 ^ 64 → waits_for r i ≡ true → slots_to_evict r ≡ None
not_ready r i low answered gone waits =
    cond-false (waiting_slots r == 0) _ None
    (false_from_ne_true _
    (λ none.
    both_ways (has (waiting_slots r) i) (no_slot (waiting_slots r) i (eqb-true (waiting_slots r) 0 none))
    (has-waiting r.asked r.answered r.gone i answered gone low ∙ waits)))
