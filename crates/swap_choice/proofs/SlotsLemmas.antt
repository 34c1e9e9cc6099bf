-- Sets of slots, slot by slot, and as lists.
use Rattle.std.proofs.Common.{◌≡◌, ℕ, zero, suc, ◌+◌, ◌*◌, ◌/◌, ◌%◌, ◌^◌, ◌<◌, ◌≤◌, Bool, true, false, cond, eqb, not, ◌&&◌, ◌||◌, List, ◌∷◌, length, bit_or, bit_and, refl, sym, ap, ap₂, add-one, ◌∙◌, arith, inl, inr, Option, None, Some}
use Rattle.std.specs.Int.{bit_at, bit_not, w64}
use Rattle.std.specs.Int.Count.{ones, ones_step, ones-le}
use Rattle.std.specs.Option.{option_map}
use Rattle.std.specs.List.{range_with_len, filter, slice_get}
use Rattle.std.proofs.lemmas.Bool.{cases_eq, eq-eqb, ne_eqb}
use Rattle.std.proofs.lemmas.Nat.Bits.{bit_at_above, bit_at_set_same, bit_at_set_other, bit_at_clear_same, bit_at_clear_other, bit_at-lt, bit_at-suc, bit_at_lowest}
use Rattle.std.proofs.Math.Nat.{pow-succ'}
use Rattle.swap_choice.specs.Slots.{has, slots, size}

-- no set has a slot from 64 on
pub has-beyond : (set slot : ℕ) → set < 2 ^ 64 → 64 ≤ slot → has set slot ≡ false
has-beyond set slot small beyond = ap (λ b. eqb b 1) (bit_at_above set 64 slot small beyond)

pub has-with : (set slot i : ℕ) → slot < 64 → has (bit_or set (1 * 2 ^ slot % 2 ^ 64)) i ≡ (eqb i slot || has set i)
has-with set slot i within =
    elim (cases_eq i slot) [
      | inl same ↦
          ap (λ k. has (bit_or set (1 * 2 ^ slot % 2 ^ 64)) k) same ∙ ap (λ b. eqb b 1) (bit_at_set_same w64 set slot within)
          ∙ ap (λ b. b || has set i) (sym (eq-eqb i slot same))
      | inr other ↦ ap (λ b. eqb b 1) (bit_at_set_other w64 set slot within i other) ∙ ap (λ b. b || has set i) (sym (ne_eqb i slot other))
    ]

pub has-without : (set slot i : ℕ) → slot < 64 → i < 64 → has (bit_and set (bit_not w64 (1 * 2 ^ slot % 2 ^ 64))) i ≡ (not (eqb i slot) && has set i)
has-without set slot i within inside =
    elim (cases_eq i slot) [
      | inl same ↦
          ap (λ k. has (bit_and set (bit_not w64 (1 * 2 ^ slot % 2 ^ 64))) k) same ∙ ap (λ b. eqb b 1) (bit_at_clear_same w64 set slot within)
          ∙ ap (λ b. not b && has set i) (sym (eq-eqb i slot same))
      | inr other ↦ ap (λ b. eqb b 1) (bit_at_clear_other w64 set slot within i inside other) ∙ ap (λ b. not b && has set i) (sym (ne_eqb i slot other))
    ]

-- ones one by one
pub length-cond : {X : Type 0} (b : Bool) (x : X) (xs : List X) → length (cond b (x ∷ xs) xs) ≡ cond b 1 0 + length xs
length-cond true x xs = omega arith
length-cond false x xs = omega arith

has-half : (n a : ℕ) → has n (a + 1) ≡ has (n / 2) a
has-half n a = ap (has n) (add-one a) ∙ ap (λ b. eqb b 1) (bit_at-suc n a)

halved : (n a d : ℕ) → length (filter (has n) (range_with_len (a + 1) d)) ≡ length (filter (has (n / 2)) (range_with_len a d))
halved n a zero = refl
halved n a (suc d) =
    length-cond (has n (a + 1)) (a + 1) (filter (has n) (range_with_len (a + 1 + 1) d))
    ∙ ap₂ (λ b k. cond b 1 0 + k) (has-half n a) (halved n (a + 1) d)
    ∙ sym (length-cond (has (n / 2) a) a (filter (has (n / 2)) (range_with_len (a + 1) d)))

low_bit : (b : ℕ) → b < 2 → b ≡ cond (eqb b 1) 1 0
low_bit zero h = refl
low_bit (suc zero) h = refl
low_bit (suc (suc b)) h = absurd (omega arith)

pub ones-length : (d n : ℕ) → n < 2 ^ d → ones n ≡ length (filter (has n) (range_with_len 0 d))
ones-length zero n small = omega (arith, ones-le 0 n small)
ones-length (suc d) n small =
    ones_step n
    ∙ ap₂ (λ b k. b + k) (sym (bit_at_lowest n) ∙ low_bit (bit_at n 0) (bit_at-lt n 0))
    (ones-length d (n / 2) (omega (arith, pow-succ' 2 d)) ∙ sym (halved n 0 d))
    ∙ sym (length-cond (has n 0) 0 (filter (has n) (range_with_len 1 d)))

pub ones-size : (set : ℕ) → set < 2 ^ 64 → ones set ≡ size set
unfolding slots
ones-size set small = ones-length 64 set small

pub slot_at_is :
    (set place : ℕ) (r : Option ℕ) → option_map (λ x. x) r ≡ slice_get (filter (has set) (range_with_len 0 64)) place → r ≡ slice_get (slots set) place
unfolding slots
slot_at_is set place None h = h
slot_at_is set place (Some x) h = h
