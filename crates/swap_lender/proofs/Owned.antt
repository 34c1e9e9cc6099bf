-- Each row of the table keeps its slots owned.
use Rattle.std.proofs.Common.{◌≡◌, ℕ, zero, suc, ◌+◌, ◌<◌, Bool, true, false, ◌&&◌, ◌==◌, if◌then◌else◌, List, [], ◌∷◌, map, get_or, set, Some, refl, sym, ap, ◌∙◌, arith, inl, inr, ⊎_elim, eq-eqb, replicate}
use Rattle.std.specs.Prelude.{◌⊎◌, ◌||◌}
use Rattle.std.specs.List.{list_any}
use Rattle.swap_base.specs.declared.Link.{Link}
use Rattle.swap_base.specs.declared.Slab.{Slab}
use Rattle.swap_choice.specs.Slots.{has}
use Rattle.swap_lender.specs.declared.SlotState.{SlotState}
use Rattle.swap_lender.specs.declared.SlotState.TheVariants.{Free, Held}
use Rattle.swap_lender.specs.Lender.{slot_in, is_for}
use Rattle.swap_lender.specs.Table.{mark_slot, mark_slots, free_slot}
use Rattle.swap_lender.specs.Calls.{Tenant, tenant, IsOwned}

-- who has a slot after a change had it before
pub record IsPart (new old : List SlotState) : Type 0 where
  pub kept : (i : ℕ) (a : Tenant) → tenant (slot_in new i) ≡ Some a → tenant (slot_in old i) ≡ Some a

pub owned_part : (new old : List SlotState) (n : ℕ) → IsPart new old → IsOwned old n → IsOwned new n
owned_part new old n part owned = record {
  leases = λ i j a b at bt same. owned.leases i j a b (part.kept i a at) (part.kept j b bt) same;
  slabs = λ i j a b at bt link slab. owned.slabs i j a b (part.kept i a at) (part.kept j b bt) link slab;
  given = λ i a at. owned.given i a (part.kept i a at);
}

nobody : (a : Tenant) → tenant Free ≡ Some a → ⊥
nobody a e = cc

-- a slot is free
kept_free : (slots : List SlotState) (k i : ℕ) (a : Tenant) → tenant (get_or (set slots k Free) i Free) ≡ Some a → tenant (get_or slots i Free) ≡ Some a
kept_free [] k i a e = e
kept_free (state ∷ slots) zero zero a e = absurd (nobody a e)
kept_free (state ∷ slots) zero (suc i) a e = e
kept_free (state ∷ slots) (suc k) zero a e = e
kept_free (state ∷ slots) (suc k) (suc i) a e = kept_free slots k i a e

pub part_free : (slots : List SlotState) (k : ℕ) → IsPart (set slots k Free) slots
part_free slots k = record { kept = λ i a e. kept_free slots k i a e }

-- slots of a link are free
freed_keeps : (link : Link) (state : SlotState) (a : Tenant) → tenant (free_slot link state) ≡ Some a → tenant state ≡ Some a
freed_keeps link Free a e = e
freed_keeps link (Held other slab lease evicting) a e =
    elim (other.0 == link.0) as
    (λ b. tenant (if b then Free else Held other slab lease evicting) ≡ Some a → tenant (Held other slab lease evicting) ≡ Some a)
    [ true ↦ λ h. absurd (nobody a h) | false ↦ λ h. h ] e

kept_freed :
    (link : Link) (slots : List SlotState) (i : ℕ) (a : Tenant) → tenant (get_or (map (free_slot link) slots) i Free) ≡ Some a
    → tenant (get_or slots i Free) ≡ Some a
kept_freed link [] i a e = e
kept_freed link (state ∷ slots) zero a e = freed_keeps link state a e
kept_freed link (state ∷ slots) (suc i) a e = kept_freed link slots i a e

pub part_freed : (link : Link) (slots : List SlotState) → IsPart (map (free_slot link) slots) slots
part_freed link slots = record { kept = λ i a e. kept_freed link slots i a e }

-- slots are marked
mark_keeps : (b : Bool) (state : SlotState) (a : Tenant) → tenant (mark_slot b state) ≡ Some a → tenant state ≡ Some a
mark_keeps false state a e = e
mark_keeps true Free a e = e
mark_keeps true (Held link slab lease evicting) a e = e

kept_marked :
    (told from : ℕ) (slots : List SlotState) (i : ℕ) (a : Tenant) → tenant (get_or (mark_slots told from slots) i Free) ≡ Some a
    → tenant (get_or slots i Free) ≡ Some a
kept_marked told from [] i a e = e
kept_marked told from (state ∷ slots) zero a e = mark_keeps (has told from) state a e
kept_marked told from (state ∷ slots) (suc i) a e = kept_marked told (from + 1) slots i a e

pub part_marked : (told : ℕ) (slots : List SlotState) → IsPart (mark_slots told 0 slots) slots
part_marked told slots = record { kept = λ i a e. kept_marked told 0 slots i a e }

-- a slot is lent

some_same : (a b : Tenant) → Some a ≡ Some b → a ≡ b
some_same a b e = cc

lent_case :
    (slots : List SlotState) (k : ℕ) (link : Link) (slab : Slab) (lease : ℕ) (i : ℕ) (a : Tenant)
    → tenant (get_or (set slots k (Held link slab (record { 0 = lease }) false)) i Free) ≡ Some a
    → ((i ≡ k) × (a ≡ record { link = link; slab = slab; lease = record { 0 = lease } })) ⊎ (tenant (get_or slots i Free) ≡ Some a)
lent_case [] k link slab lease i a e = inr e
lent_case (state ∷ slots) zero link slab lease zero a e = inl (refl, sym (some_same _ a e))
lent_case (state ∷ slots) zero link slab lease (suc i) a e = inr e
lent_case (state ∷ slots) (suc k) link slab lease zero a e = inr e
lent_case (state ∷ slots) (suc k) link slab lease (suc i) a e =
    ⊎_elim (λ (h : (i ≡ k) × (a ≡ record { link = link; slab = slab; lease = record { 0 = lease } })). inl (ap (λ n. suc n) h.0, h.1))
    (λ (h : tenant (get_or slots i Free) ≡ Some a). inr h) (lent_case slots k link slab lease i a e)

-- no slot is held for this link and slab
both_true : (a b : Bool) → a ≡ true → b ≡ true → (a && b) ≡ true
both_true a b e f = cc

here_for :
    (link : Link) (slab : Slab) (state : SlotState) (a : Tenant) → tenant state ≡ Some a → a.link.0 ≡ link.0 → a.slab.0 ≡ slab.0 → is_for link slab state ≡ true
here_for link slab Free a e l s = absurd (nobody a e)
here_for link slab (Held other held lease evicting) a e l s =
    let same : record { link = other; slab = held; lease = lease } ≡ a = some_same _ a e in
    both_true (other.0 == link.0) (held.0 == slab.0) (eq-eqb other.0 link.0 (ap (λ (t : Tenant). t.link.0) same ∙ l))
    (eq-eqb held.0 slab.0 (ap (λ (t : Tenant). t.slab.0) same ∙ s))

any_first : (b c : Bool) → (b || c) ≡ false → b ≡ true → ⊥
any_first b c e t = cc

any_rest : (b c : Bool) → (b || c) ≡ false → c ≡ false
any_rest true c e = absurd (cc)
any_rest false c e = e

none_for :
    (link : Link) (slab : Slab) (slots : List SlotState) (i : ℕ) (a : Tenant) → list_any (is_for link slab) slots ≡ false
    → tenant (get_or slots i Free) ≡ Some a
    → a.link.0 ≡ link.0 → a.slab.0 ≡ slab.0 → ⊥
none_for link slab [] i a none e l s = nobody a e
none_for link slab (state ∷ slots) zero a none e l s =
    any_first (is_for link slab state) (list_any (is_for link slab) slots) none (here_for link slab state a e l s)
none_for link slab (state ∷ slots) (suc i) a none e l s =
    none_for link slab slots i a (any_rest (is_for link slab state) (list_any (is_for link slab) slots) none) e l s

pub owned_lent :
    (slots : List SlotState) (k : ℕ) (link : Link) (slab : Slab) (n : ℕ) → list_any (is_for link slab) slots ≡ false → IsOwned slots n
    → IsOwned (set slots k (Held link slab (record { 0 = n }) false)) (n + 1)
owned_lent slots k link slab n none owned =
    let new : Tenant = record { link = link; slab = slab; lease = record { 0 = n } } in
    record {
      leases = λ i j a b at bt same.
          ⊎_elim
          (λ (p : (i ≡ k) × (a ≡ new)).
          ⊎_elim (λ (q : (j ≡ k) × (b ≡ new)). p.0 ∙ sym q.0)
          (λ (q : tenant (slot_in slots j) ≡ Some b). let low : b.lease.0 < n = owned.given j b q in
          let e : a.lease.0 ≡ n = ap (λ (t : Tenant). t.lease.0) p.1 in absurd (omega arith))
          (lent_case slots k link slab n j b bt))
          (λ (p : tenant (slot_in slots i) ≡ Some a).
          ⊎_elim
          (λ (q : (j ≡ k) × (b ≡ new)). let low : a.lease.0 < n = owned.given i a p in let e : b.lease.0 ≡ n = ap (λ (t : Tenant). t.lease.0) q.1 in
          absurd (omega arith))
          (λ (q : tenant (slot_in slots j) ≡ Some b). owned.leases i j a b p q same)
          (lent_case slots k link slab n j b bt))
          (lent_case slots k link slab n i a at);
      slabs = λ i j a b at bt l s.
          ⊎_elim
          (λ (p : (i ≡ k) × (a ≡ new)).
          ⊎_elim (λ (q : (j ≡ k) × (b ≡ new)). p.0 ∙ sym q.0)
          (λ (q : tenant (slot_in slots j) ≡ Some b).
          absurd (none_for link slab slots j b none q (sym l ∙ ap (λ (t : Tenant). t.link.0) p.1) (sym s ∙ ap (λ (t : Tenant). t.slab.0) p.1)))
          (lent_case slots k link slab n j b bt))
          (λ (p : tenant (slot_in slots i) ≡ Some a).
          ⊎_elim
          (λ (q : (j ≡ k) × (b ≡ new)).
          absurd (none_for link slab slots i a none p (l ∙ ap (λ (t : Tenant). t.link.0) q.1) (s ∙ ap (λ (t : Tenant). t.slab.0) q.1)))
          (λ (q : tenant (slot_in slots j) ≡ Some b). owned.slabs i j a b p q l s)
          (lent_case slots k link slab n j b bt))
          (lent_case slots k link slab n i a at);
      given = λ i a at.
          ⊎_elim (λ (p : (i ≡ k) × (a ≡ new)). let e : a.lease.0 ≡ n = ap (λ (t : Tenant). t.lease.0) p.1 in omega arith)
          (λ (p : tenant (slot_in slots i) ≡ Some a). let low : a.lease.0 < n = owned.given i a p in omega arith)
          (lent_case slots k link slab n i a at);
    }

-- a lender as it was made
nobody_there : (k i : ℕ) (a : Tenant) → tenant (get_or (replicate k Free) i Free) ≡ Some a → ⊥
nobody_there zero i a e = nobody a e
nobody_there (suc k) zero a e = nobody a e
nobody_there (suc k) (suc i) a e = nobody_there k i a e

pub owned_fresh : (k n : ℕ) → IsOwned (replicate k Free) n
owned_fresh k n = record {
  leases = λ i j a b at bt same. absurd (nobody_there k i a at);
  slabs = λ i j a b at bt l s. absurd (nobody_there k i a at);
  given = λ i a at. absurd (nobody_there k i a at);
}
