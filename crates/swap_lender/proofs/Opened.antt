-- A round that asks some slot waits for one.
use Rattle.std.proofs.Common.{◌≡◌, ℕ, zero, suc, ◌+◌, ◌<◌, Bool, true, false, ◌&&◌, not, eqb, cond, List, ◌∷◌, length, refl, ap, subst, arith}
use Rattle.std.specs.List.{filter, range_with_len}
use Rattle.std.proofs.lemmas.Nat.Bits.{bit_at-zero}
use Rattle.swap_choice.specs.Slots.{has, slots, size}
use Rattle.swap_evict.specs.Rounds.{round_at_start, IsOpen}
use Rattle.swap_choice.proofs.Chosen.{has-zero}
use Rattle.swap_lender.proofs.Live.{all_three}

-- a number below the end of which the test holds
pub record IsSomewhere (test : ℕ → Bool) (high : ℕ) : Type 0 where
  pub number : ℕ
  pub low : number < high
  pub holds : test number ≡ true

somewhere_case :
    (test : ℕ → Bool) (b : Bool) (from n : ℕ) (rest : List ℕ) → test from ≡ b → 0 < length (cond b (from ∷ rest) rest)
    → (0 < length rest → IsSomewhere test (from + 1 + n)) → IsSomewhere test (from + 1 + n)
somewhere_case test true from n rest e some later = record { number = from; low = omega arith; holds = e }
somewhere_case test false from n rest e some later = later some

somewhere : (test : ℕ → Bool) (from n : ℕ) → 0 < length (filter test (range_with_len from n)) → IsSomewhere test (from + n)
somewhere test from zero some = absurd (omega arith)
somewhere test from (suc n) some =
    let later : IsSomewhere test (from + 1 + n) =
    somewhere_case test (test from) from n (filter test (range_with_len (from + 1) n)) refl some (λ more. somewhere test (from + 1) n more) in
    let size : from + 1 + n ≡ from + suc n = omega arith in
    subst (λ high. IsSomewhere test high) size later

sized : (set : ℕ) → size set ≡ length (filter (has set) (range_with_len 0 64))
unfolding slots
sized set = refl

pub opened_waits : (asked count : ℕ) → 0 < size asked → IsOpen (round_at_start asked count)
opened_waits asked count some =
    let there = somewhere (has asked) 0 64 (omega (arith, some, sized asked)) in (
      there.number,
      omega (arith, there.low),
      all_three (has asked there.number) (has 0 there.number) (has 0 there.number) there.holds (has-zero there.number) (has-zero there.number),
    )
