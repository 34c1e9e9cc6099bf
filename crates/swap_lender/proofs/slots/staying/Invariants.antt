use Rattle.std.proofs.Common.{◌≡◌, ◌^◌, drop, bit_or}
use Rattle.std.specs.List.{fold}
use Rattle.swap_choice.specs.Slots.{set_of}
use Rattle.swap_lender.specs.Lender.{is_staying, numbers_where}
use Rattle.swap_lender.proofs.slots.staying.Given as goal

abbrev pub invariant-loop-slot : goal.invariant-loop-slot
invariant-loop-slot l =
    fold (λ set slot. bit_or set (2 ^ slot)) l.set (numbers_where is_staying l.slot (drop l.slot l.slots)) ≡ set_of (numbers_where is_staying 0 l.slots)
