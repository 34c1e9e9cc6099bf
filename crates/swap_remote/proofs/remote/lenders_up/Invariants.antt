use Rattle.std.proofs.Common.{◌≡◌, ◌≤◌, ◌++◌, drop, not}
use Rattle.arrayvec.specs.ArrayVec.{array_vec_len}
use Rattle.swap_slabs.specs.Slabs as slabs
use Rattle.swap_remote.specs.Remote.{up_from}
use Rattle.swap_remote.proofs.remote.lenders_up.Given as goal

abbrev pub invariant-loop-lender : goal.invariant-loop-lender
invariant-loop-lender l =
    (array_vec_len l.fresh ≤ l.lender) × (array_vec_len l.others ≤ l.lender)
    × (l.fresh.items
    ++ up_from (λ m. not (slabs.holds l.states m)) (drop l.lender l.rings.links) l.lender ≡ up_from (λ m. not (slabs.holds l.states m)) l.rings.links 0)
    × (l.others.items ++ up_from (λ m. slabs.holds l.states m) (drop l.lender l.rings.links) l.lender ≡ up_from (λ m. slabs.holds l.states m) l.rings.links 0)
