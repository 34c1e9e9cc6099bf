use Rattle.std.proofs.Common.{◌≡◌, ◌≤◌, ◌++◌, length, drop}
use Rattle.swap_lender.specs.Outbox.{outbox_with}
use Rattle.swap_lender.specs.Table.{parcels_told}
use Rattle.swap_lender.proofs.outbox.Outbox.tell.Given as goal

abbrev pub invariant-loop-slot : goal.invariant-loop-slot
invariant-loop-slot l = record {
  told : l.self.parcels ++ parcels_told l.notice l.set l.slot (drop l.slot l.slots) ≡ parcels_told l.notice l.set 0 l.slots;
  few : length l.self.parcels ≤ l.slot;
  same : l.self ≡ outbox_with l.fn.self l.self.parcels l.fn.self.evicted;
}
