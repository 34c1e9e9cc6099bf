-- How active each slab is, and the local slab that is hottest.
use Rattle.std.specs.Prelude.{ℕ, ◌+◌, ◌*◌, Bool, true, ◌&&◌, nat_le, nat_lt, if◌then◌else◌, List, [], ◌∷◌, map, replicate, option_map, slice_index_or, slice_set, Option, None, Some}
use Rattle.swap_base.specs.declared.Slab.{Slab}
use Rattle.swap_activity.specs.Rates as activity
use Rattle.swap_activity.specs.Rates.{Activity, activity_at_start, end_period}
use Rattle.swap_slabs.specs.declared.SlabState.{SlabState}
use Rattle.swap_slabs.specs.Slabs.{is_local}
use Rattle.swap_rates.specs.declared.rates.Candidate.{Candidate}

-- no slab was hit
abbrev pub all_still : ℕ → List Activity
all_still slabs = replicate slabs activity_at_start

abbrev pub rate_of : List Activity → Slab → Activity
rate_of rates slab = slice_index_or rates slab.0 activity_at_start

-- the value of a slab's rate
abbrev pub value_of : List Activity → Slab → ℕ
value_of rates slab = (rate_of rates slab).value

-- a slab is hit, and each slab's period ends
abbrev pub hit : List Activity → Slab → List Activity
hit rates slab = slice_set rates slab.0 (activity.hit (rate_of rates slab))

abbrev pub periods_ended : List Activity → List Activity
periods_ended rates = map end_period rates

-- a slab is a candidate while it's local and its value is at least so many hits in each period
abbrev pub is_candidate : ℕ → SlabState → ℕ → Bool
is_candidate hot state value = is_local state && nat_le (hot * activity.one_hit) value

-- the value is above that of the best so far
abbrev pub is_above : Option Candidate → ℕ → Bool
is_above None value = true
is_above (Some best) value = nat_lt best.value value

abbrev pub better : ℕ → Option Candidate → ℕ → SlabState → ℕ → Option Candidate
better hot best n state value =
    if is_candidate hot state value && is_above best value then Some (record { slab = record { 0 = n }; value = value })
    else best

-- the best of the slabs from n on and of one before them: the one of greatest value, the lowest number on a tie
abbrev pub best_from : ℕ → List Activity → List SlabState → ℕ → Option Candidate → Option Candidate
best_from hot rates [] n best = best
best_from hot rates (state ∷ states) n best =
    best_from hot rates states (n + 1) (better hot best n state (value_of rates (record { 0 = n })))

-- of the local slabs that are hot the one of greatest value, the lowest number on a tie
abbrev pub hottest : ℕ → List SlabState → List Activity → Option Slab
hottest hot states rates = option_map (λ (best : Candidate). best.slab) (best_from hot rates states 0 None)
