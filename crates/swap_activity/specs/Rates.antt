-- A rate is a moving average of the hits in each period, in units of 1 / 65,536.
use Rattle.std.specs.Prelude.{ℕ, zero, suc, ◌+◌, ◌-◌, ◌*◌, ◌/◌, ◌^◌, ◌<◌, ◌≤◌, min, List, [], ◌∷◌, length}

-- one hit in each period, as a value
abbrev pub one_hit : ℕ
one_hit = 65_536

-- the greatest value: that of 2 ^ 32 - 1 hits in each period
abbrev pub greatest : ℕ
greatest = one_hit * (2 ^ 32 - 1)

-- a fifth of the hits and four fifths of the value, rounded down
abbrev pub average : ℕ → ℕ → ℕ
average value hits = (one_hit * hits + 4 * value) / 5

-- a value as whole hits, rounded up
abbrev pub ceiling : ℕ → ℕ
ceiling value = (value + (one_hit - 1)) / one_hit

-- the average so far, and the hits of the period under way, which stop at 2 ^ 32 - 1
pub record Activity : Type 0 where
  pub value : ℕ
  pub hits : ℕ

abbrev pub activity_at_start : Activity
activity_at_start = record { value = 0; hits = 0 }

abbrev pub count_hits : ℕ → ℕ
count_hits hits = min hits (2 ^ 32 - 1)

abbrev pub hit : Activity → Activity
hit a = record a { hits = count_hits (a.hits + 1) }

abbrev pub end_period : Activity → Activity
end_period a = record { value = average a.value a.hits; hits = 0 }

-- a rate after so many hits
abbrev pub hit_times : ℕ → Activity → Activity
hit_times zero a = a
hit_times (suc n) a = hit (hit_times n a)

-- a new rate after periods with so many hits each, the newest first
abbrev pub run : List ℕ → Activity
run [] = activity_at_start
run (hits ∷ earlier) = end_period (hit_times hits (run earlier))

-- the exact average after n periods, times 5 ^ n
abbrev pub exact_average : List ℕ → ℕ
exact_average [] = 0
exact_average (hits ∷ earlier) = 5 ^ length earlier * one_hit * count_hits hits + 4 * exact_average earlier

-- the value is the exact average but for less than 5 units
abbrev pub IsNearExact : List ℕ → Type 0
IsNearExact periods =
    (5 ^ length periods * (run periods).value ≤ exact_average periods)
    × (exact_average periods < 5 ^ length periods * ((run periods).value + 5))
