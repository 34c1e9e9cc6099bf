use Rattle.std.proofs.Common.{arith, get_or, false}
use Rattle.std.proofs.lemmas.List.{get_or_default}
use Rattle.std.proofs.lemmas.List.Edits.{map_over_more}
use Rattle.swap_lender.specs.declared.Peer.{Peer}
use Rattle.swap_lender.specs.Table.{greet_peer}
use Rattle.swap_lender.proofs.peers.greet.Goals as goal

pub loop-peer-preserved : goal.loop-peer-preserved
loop-peer-preserved c =
    let fallback : Peer = record { link = record { 0 = 0 }; greeted = false } in
    rw c.greeted.ensures
    (map_over_more (λ peer. greet_peer c.args.link peer) c.args.peers.now c.loop-peer.peers c.loop-peer.peer-index
    (get_or c.loop-peer.peers c.loop-peer.peer-index fallback)
    (omega arith) c.loop-peer.invariant (get_or_default c.loop-peer.peers c.loop-peer.peer-index fallback _ (omega arith)))
