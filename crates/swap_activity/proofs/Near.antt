-- Rounding down once in each period keeps the value within 5 units of the exact average.
use Rattle.std.proofs.Common.{◌≡◌, ℕ, zero, suc, ◌+◌, ◌*◌, ◌/◌, ◌^◌, ◌<◌, ◌≤◌, List, [], ◌∷◌, length, refl, sym, ap₂, subst, arith}
use Rattle.std.proofs.Math.Nat.{mul-le-mul_left, pow-succ'}
use Rattle.swap_activity.specs.Rates.{one_hit, average, count_hits, hit_times, run, exact_average, IsNearExact, Activity}

value_kept : (n : ℕ) (a : Activity) → (hit_times n a).value ≡ a.value
value_kept zero a = refl
value_kept (suc n) a = value_kept n a

hits_counted : (n : ℕ) (a : Activity) → a.hits ≡ 0 → (hit_times n a).hits ≡ count_hits n
hits_counted zero a none = omega arith
hits_counted (suc n) a none = omega (arith, hits_counted n a none)

no_hits : (periods : List ℕ) → (run periods).hits ≡ 0
no_hits [] = refl
no_hits (hits ∷ earlier) = refl

run-value : (hits : ℕ) (earlier : List ℕ) → (run (hits ∷ earlier)).value ≡ average (run earlier).value (count_hits hits)
run-value hits earlier =
    ap₂ average (value_kept hits (run earlier)) (hits_counted hits (run earlier) (no_hits earlier))

-- one period more, where w is 5 ^ n
one_more :
    (w value next hits exact : ℕ) → 5 * next ≤ one_hit * hits + 4 * value → one_hit * hits + 4 * value ≤ 5 * next + 4 → w * value ≤ exact
    → exact < w * (value + 5)
    → (5 * w * next ≤ w * one_hit * hits + 4 * exact) × (w * one_hit * hits + 4 * exact < 5 * w * (next + 5))
one_more w value next hits exact_average down up low high =
    (omega (arith, mul-le-mul_left w down), omega (arith, mul-le-mul_left w up))

rounded_down : (x : ℕ) → 5 * (x / 5) ≤ x
rounded_down x = omega arith

by_less_than_five : (x : ℕ) → x ≤ 5 * (x / 5) + 4
by_less_than_five x = omega arith

pub near : (periods : List ℕ) → IsNearExact periods
near [] = (omega arith, omega arith)
near (hits ∷ earlier) =
    let before = near earlier in
    let weight : 5 ^ length (hits ∷ earlier) ≡ 5 * 5 ^ length earlier = pow-succ' 5 (length earlier) in
    let after =
    one_more (5 ^ length earlier) (run earlier).value (average (run earlier).value (count_hits hits)) (count_hits hits) (exact_average earlier) (rounded_down _)
    (by_less_than_five _) before.0 before.1 in
    subst (λ v. (5 ^ length (hits ∷ earlier) * v ≤ exact_average (hits ∷ earlier)) × (exact_average (hits ∷ earlier) < 5 ^ length (hits ∷ earlier) * (v + 5)))
    (sym (run-value hits earlier))
    (subst
    (λ k. (k * average (run earlier).value (count_hits hits) ≤ exact_average (hits ∷ earlier))
    × (exact_average (hits ∷ earlier) < k * (average (run earlier).value (count_hits hits) + 5)))
    (sym weight) after)
