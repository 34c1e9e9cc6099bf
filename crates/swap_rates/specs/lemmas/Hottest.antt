-- The hottest slab is one of the slabs.
use Rattle.std.specs.Prelude.{◌≡◌, ℕ, ◌+◌, ◌<◌, suc, Bool, true, false, ◌&&◌, if◌then◌else◌, List, [], ◌∷◌, length, option_map, Option, None, Some}
use Rattle.std.proofs.Common.{sym, ap, ◌∙◌, subst, zero-add}
use Rattle.std.proofs.Math.Nat.{add-suc, suc-add, le-add_right, lt-suc_self, lt_of_le_of_lt}
use Rattle.std.proofs.Math.Numerals.{add-one}
use Rattle.std.specs.Option.{unwrap_or}
use Rattle.std.proofs.lemmas.Option.{none-some}
use Rattle.swap_base.specs.declared.Slab.{Slab}
use Rattle.swap_activity.specs.Rates.{Activity}
use Rattle.swap_slabs.specs.declared.SlabState.{SlabState}
use Rattle.swap_rates.specs.declared.rates.Candidate.{Candidate}
use Rattle.swap_rates.specs.Table.{value_of, is_candidate, is_above, better, best_from, hottest}

-- a candidate's number is below a bound
abbrev IsBelow : ℕ → Option Candidate → Type 0
IsBelow bound None = Unit {0}
IsBelow bound (Some best) = best.slab.0 < bound

better_below :
    (bound hot : ℕ) (best : Option Candidate) (n : ℕ) (state : SlabState) (value : ℕ) → n < bound
    → IsBelow bound best → IsBelow bound (better hot best n state value)
better_below bound hot best n state value within before = go (is_candidate hot state value && is_above best value)
  where
    go :
        (b : Bool)
        → IsBelow bound (if b then Some (record { slab = record { 0 = n }; value = value }) else best)
    go true = within
    go false = before

best_below :
    (bound hot : ℕ) (rates : List Activity) (states : List SlabState) (n : ℕ) (best : Option Candidate)
    → n + length states ≡ bound → IsBelow bound best → IsBelow bound (best_from hot rates states n best)
best_below bound hot rates [] n best len before = before
best_below bound hot rates (state ∷ states) n best len before =
    let more : n < n + suc (length states) =
    subst (λ k. n < k) (sym (add-suc n (length states)))
    (lt_of_le_of_lt (le-add_right n (length states)) (lt-suc_self (n + length states))) in
    let within : n < bound = subst (λ k. n < k) len more in
    best_below bound hot rates states (n + 1) (better hot best n state (value_of rates (record { 0 = n })))
    (ap (λ k. k + length states) (add-one n) ∙ suc-add n (length states) ∙ sym (add-suc n (length states)) ∙ len)
    (better_below bound hot best n state (value_of rates (record { 0 = n })) within before)

slab_below :
    (bound : ℕ) (slab : Slab) (best : Option Candidate) → IsBelow bound best
    → option_map (λ (c : Candidate). c.slab) best ≡ Some slab → slab.0 < bound
slab_below bound slab None below is = absurd (none-some slab is)
slab_below bound slab (Some best) below is =
    subst (λ (s : Slab). s.0 < bound) (ap (λ (o : Option Slab). unwrap_or o slab) is) below

pub hottest_within :
    (hot : ℕ) (states : List SlabState) (rates : List Activity) (slab : Slab) → hottest hot states rates ≡ Some slab
    → slab.0 < length states
hottest_within hot states rates slab is =
    slab_below (length states) slab (best_from hot rates states 0 None)
    (best_below (length states) hot rates states 0 None (zero-add (length states)) tt) is
