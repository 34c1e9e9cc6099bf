use Rattle.std.proofs.Common.{◌≡◌, ◌++◌, take, drop, map}
use Rattle.swap_lender.specs.Table.{greet_peer}
use Rattle.swap_lender.proofs.peers.greet.Given as goal

abbrev pub invariant-loop-peer : goal.invariant-loop-peer
invariant-loop-peer l = l.peers ≡ map (λ peer. greet_peer l.link peer) (take l.peer-index l.initial.peers) ++ drop l.peer-index l.initial.peers
