-- The waiting and the standing slots of a round, slot by slot.
use Rattle.std.proofs.Common.{◌≡◌, ℕ, zero, suc, ◌-◌, ◌^◌, ◌<◌, min, None, Some, cond, true, false, eqb, not, ◌&&◌, bit_and, refl, sym, ap, ap₂, subst, ◌∙◌, arith}
use Rattle.std.specs.Int.{bit_at, bit_not, w64, trailing_zeros}
use Rattle.std.proofs.lemmas.Nat.Bits.{bit_at_and, bit_at_not, bit_at-lt, bit_at-zero, bit_at-trailing_zeros}
use Rattle.std.proofs.lemmas.Nat.{and_le_l}
use Rattle.std.proofs.lemmas.Bool.{ne_eqb, eq-eqb}
use Rattle.swap_choice.specs.Slots.{has, size}
use Rattle.swap_choice.specs.Least.{IsLeast, least_of}
use Rattle.swap_evict.specs.Rounds.{Round, standing_slots, IsOpen, IsEvicted, waiting_slots, slots_to_evict}

both_bits : (x y : ℕ) → x < 2 → y < 2 → eqb (min x y) 1 ≡ (eqb x 1 && eqb y 1)
both_bits zero y p q = ap (λ b. eqb b 1) (let e : min 0 y ≡ 0 = omega arith in e)
both_bits (suc zero) zero p q = refl
both_bits (suc zero) (suc zero) p q = refl
both_bits (suc zero) (suc (suc y)) p q = absurd (omega arith)
both_bits (suc (suc x)) y p q = absurd (omega arith)

other_bit : (x : ℕ) → x < 2 → eqb (1 - x) 1 ≡ not (eqb x 1)
other_bit zero p = refl
other_bit (suc zero) p = refl
other_bit (suc (suc x)) p = absurd (omega arith)

pub has-and : (a b i : ℕ) → has (bit_and a b) i ≡ (has a i && has b i)
has-and a b i = ap (λ x. eqb x 1) (bit_at_and a b i) ∙ both_bits (bit_at a i) (bit_at b i) (bit_at-lt a i) (bit_at-lt b i)

pub has-not : (a i : ℕ) → a < 2 ^ 64 → i < 64 → has (bit_not w64 a) i ≡ not (has a i)
has-not a i small within = ap (λ x. eqb x 1) (bit_at_not w64 a i small within) ∙ other_bit (bit_at a i) (bit_at-lt a i)

-- the word of the slots that are waited for
pub has-waiting :
    (asked answered gone i : ℕ) → answered < 2 ^ 64 → gone < 2 ^ 64 → i < 64
    → has (bit_and (bit_and asked (bit_not w64 answered)) (bit_not w64 gone)) i ≡ (has asked i && not (has answered i) && not (has gone i))
has-waiting asked answered gone i p q within =
    has-and (bit_and asked (bit_not w64 answered)) (bit_not w64 gone) i
    ∙ ap₂ (λ a b. a && b) (has-and asked (bit_not w64 answered) i ∙ ap (λ b. has asked i && b) (has-not answered i p within)) (has-not gone i q within)

-- a word that isn't 0 has a slot
pub some_slot : (set : ℕ) → set < 2 ^ 64 → (set ≡ 0 → ⊥) → (slot : ℕ) × (slot < 64) × (has set slot ≡ true)
some_slot set small some =
    let lowest = bit_at-trailing_zeros w64 set (omega arith) small in
    (trailing_zeros w64 set, lowest.0, eq-eqb _ 1 lowest.1)

pub no_slot : (set slot : ℕ) → set ≡ 0 → has set slot ≡ false
no_slot set slot none = ap (λ s. has s slot) none ∙ ap (λ b. eqb b 1) (bit_at-zero slot)

pub open_from :
    (r : Round) → r.asked < 2 ^ 64 → r.answered < 2 ^ 64 → r.gone < 2 ^ 64 → (bit_and (bit_and r.asked (bit_not w64 r.answered)) (bit_not w64 r.gone) ≡ 0 → ⊥)
    → IsOpen r
open_from r a p q some =
    let found =
    some_slot (bit_and (bit_and r.asked (bit_not w64 r.answered)) (bit_not w64 r.gone))
    (omega (arith, and_le_l (bit_and r.asked (bit_not w64 r.answered)) (bit_not w64 r.gone), and_le_l r.asked (bit_not w64 r.answered))) some in
    (found.0, found.1, sym (has-waiting r.asked r.answered r.gone found.0 p q found.1) ∙ found.2)

pub evicted_from :
    (r : Round) (evicted count : ℕ) → r.answered < 2 ^ 64 → r.gone < 2 ^ 64 → bit_and (bit_and r.asked (bit_not w64 r.answered)) (bit_not w64 r.gone) ≡ 0
    → count ≡ min r.count (size (standing_slots r)) → IsLeast r.values (standing_slots r) count evicted → IsEvicted r evicted
evicted_from r evicted count p q none is least = record {
  closed = λ slot within. sym (has-waiting r.asked r.answered r.gone slot p q within) ∙ no_slot _ slot none;
  least = subst (λ n. IsLeast r.values (standing_slots r) n evicted) is least;
}

pub none_ready : (r : Round) → (waiting_slots r ≡ 0 → ⊥) → None ≡ slots_to_evict r
none_ready r some =
    sym (ap (λ b. cond b (Some (least_of r.values (standing_slots r) (min r.count (size (standing_slots r))))) None) (ne_eqb (waiting_slots r) 0 some))

pub some_ready :
    (r : Round) (evicted count : ℕ) → waiting_slots r ≡ 0 → count ≡ min r.count (size (standing_slots r)) → evicted ≡ least_of r.values (standing_slots r) count
    → Some evicted ≡ slots_to_evict r
some_ready r evicted count none is least =
    ap Some (least ∙ ap (λ n. least_of r.values (standing_slots r) n) is)
    ∙ sym (ap (λ b. cond b (Some (least_of r.values (standing_slots r) (min r.count (size (standing_slots r))))) None) (eq-eqb (waiting_slots r) 0 none))
