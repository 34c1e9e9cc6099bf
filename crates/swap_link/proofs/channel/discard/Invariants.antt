use Rattle.std.proofs.Common.{◌≡◌, length}
use Rattle.swap_lender.specs.Outbox.{outbox_with}
use Rattle.swap_link.proofs.channel.discard.Given as goal

abbrev pub invariant-loop : goal.invariant-loop
invariant-loop l = l.outbox ≡ outbox_with l.initial.outbox l.outbox.parcels l.initial.outbox.evicted

abbrev pub decreases-loop : goal.decreases-loop
decreases-loop l = length l.outbox.parcels
