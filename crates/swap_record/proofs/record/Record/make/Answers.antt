use Rattle.std.proofs.Common.{arith}
use Rattle.swap_record.proofs.Stored.{no_counts}
use Rattle.swap_record.proofs.record.Record.make.Goals as goal

pub invariant_of-result : goal.invariant_of-result
invariant_of-result c = record {
  page = c.requires;
  block = rw (c.new.ensures.items, c.new-2.ensures.items) (omega arith);
  few = omega arith;
  entries_room = omega arith;
  bytes_room = omega arith;
  counted = rw (c.new.ensures.items) (no_counts c.args.page_bytes c.new-2.result.items);
  numbers = rw (c.new.ensures.items) tt;
  marked = tt;
}
