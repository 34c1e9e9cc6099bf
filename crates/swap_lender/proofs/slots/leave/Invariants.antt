use Rattle.std.proofs.Common.{◌≡◌, drop}
use Rattle.std.specs.List.{fold}
use Rattle.swap_evict.specs.Rounds.{leave}
use Rattle.swap_lender.specs.Lender.{is_of, numbers_where}
use Rattle.swap_lender.specs.Table.{round_left}
use Rattle.swap_lender.proofs.slots.leave.Given as goal

abbrev pub invariant-loop-slot : goal.invariant-loop-slot
invariant-loop-slot l = fold (λ r slot. leave slot r) l.round (numbers_where (is_of l.link) l.slot (drop l.slot l.slots)) ≡ round_left l.link l.slots l.fn.round
