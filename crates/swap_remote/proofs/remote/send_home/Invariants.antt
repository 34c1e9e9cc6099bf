use Rattle.std.proofs.Common.{count_by}
use Rattle.swap_slabs.specs.Slabs.{is_at}
use Rattle.swap_remote.proofs.Left.{IsLeaving}
use Rattle.swap_remote.proofs.remote.send_home.Given as goal

abbrev pub invariant-loop-slab : goal.invariant-loop-slab
invariant-loop-slab l = IsLeaving l.geometry l.lender l.initial.states l.initial.bits l.states l.bits

abbrev pub decreases-loop-slab : goal.decreases-loop-slab
decreases-loop-slab l = count_by (λ state. is_at l.lender state) l.states
