use Rattle.std.proofs.Common.{◌≡◌, length}
use Rattle.swap_lender.specs.Outbox.{outbox_with}
use Rattle.swap_link.specs.Channel.{forward_after}
use Rattle.swap_link.proofs.channel.post_all.Given as goal

abbrev pub invariant-loop-link : goal.invariant-loop-link
invariant-loop-link l =
    (l.outbox ≡ outbox_with l.initial.outbox l.outbox.parcels l.initial.outbox.evicted)
    × (forward_after l.number l.lane l.outbox.parcels ≡ forward_after l.number l.initial.lane l.initial.outbox.parcels)
    × (l.lane.page_bytes ≡ l.initial.lane.page_bytes)

abbrev pub decreases-loop-link : goal.decreases-loop-link
decreases-loop-link l = length l.outbox.parcels
