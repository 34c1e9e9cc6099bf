-- A round of batch eviction: slots are asked for their values, and the least of those that answered are evicted.
use Rattle.std.specs.Prelude.{◌≡◌, ℕ, ◌<◌, Bool, false, ◌&&◌, not, min, List, IsTrue, replicate, slice_set, ◌==◌, if◌then◌else◌, Option, None, Some, bit_or, bit_and, ◌^◌}
use Rattle.std.specs.Int.{bit_not, w64}
use Rattle.swap_choice.specs.Slots.{has, size}
use Rattle.swap_choice.specs.Least.{IsLeast, least_of}

-- the asked slots, how many are wanted, those that answered, those that are gone, and the answers by slot
pub record Round : Type 0 where
  pub asked : ℕ
  pub count : ℕ
  pub answered : ℕ
  pub gone : ℕ
  pub values : List ℕ

abbrev pub round_at_start : ℕ → ℕ → Round
round_at_start asked count = record { asked = asked; count = count; answered = 0; gone = 0; values = replicate 64 0 }

abbrev pub answer : ℕ → ℕ → Round → Round
answer slot value r = record r { answered = bit_or r.answered (2 ^ slot); values = slice_set r.values slot value }

abbrev pub leave : ℕ → Round → Round
leave slot r = record r { gone = bit_or r.gone (2 ^ slot) }

-- whether the answer of a slot is waited for: it was asked, hasn't answered and isn't gone
abbrev pub waits_for : Round → ℕ → Bool
waits_for r slot = has r.asked slot && not (has r.answered slot) && not (has r.gone slot)

-- the asked slots that answered and aren't gone
abbrev pub standing_slots : Round → ℕ
standing_slots r = bit_and (bit_and r.asked r.answered) (bit_not w64 r.gone)

-- the slots whose answers are waited for
abbrev pub waiting_slots : Round → ℕ
waiting_slots r = bit_and (bit_and r.asked (bit_not w64 r.answered)) (bit_not w64 r.gone)

-- the slots to evict, or none while an answer is waited for
abbrev pub slots_to_evict : Round → Option ℕ
slots_to_evict r = if waiting_slots r == 0 then Some (least_of r.values (standing_slots r)
    (min r.count (size (standing_slots r)))) else None

-- the answer of some slot is waited for
abbrev pub IsOpen : Round → Type 0
IsOpen r = (slot : ℕ) × (slot < 64) × IsTrue (waits_for r slot)

-- no answer is waited for, and these are the least by (value, slot) of the slots that stand, as many as are wanted
pub record IsEvicted (r : Round) (evicted : ℕ) : Type 0 where
  pub closed : (slot : ℕ) → slot < 64 → waits_for r slot ≡ false
  pub least : IsLeast r.values (standing_slots r) (min r.count (size (standing_slots r))) evicted
