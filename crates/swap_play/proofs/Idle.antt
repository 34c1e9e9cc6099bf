-- In a device as it is made every caller is idle.
use Rattle.std.proofs.Common.{◌≡◌, ℕ, zero, suc, count_by, replicate, refl, arith}
use Rattle.swap_base.specs.Sizes.{Sizes}
use Rattle.swap_calls.specs.Calls.{idle_call}
use Rattle.swap_table.specs.Device.{device_at_start}
use Rattle.swap_base.proofs.Lists.{count_by-cons}
use Rattle.swap_world.specs.Runs.{busy_callers, is_busy_call}

none_busy : (n : ℕ) → count_by is_busy_call (replicate n idle_call) ≡ 0
none_busy zero = refl
none_busy (suc n) = let more = count_by-cons is_busy_call idle_call (replicate n idle_call) in let later = none_busy n in omega (arith, more, later)

pub new_idle : (s : Sizes) (lenders : ℕ) → busy_callers (device_at_start s lenders) ≡ 0
new_idle s lenders = none_busy s.callers
