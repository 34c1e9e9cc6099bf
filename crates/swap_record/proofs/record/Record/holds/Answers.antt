use Rattle.std.proofs.Common.{arith}
use Rattle.swap_record.proofs.Stored.{history_pages, length_history}
use Rattle.swap_record.proofs.record.Record.holds.Goals as goal

pub returns : goal.returns
returns c = rw (← c.self.view_is) (record {
  page = c.self.invariant.page;
  pages = history_pages c.self.inside.page_bytes c.self.inside.entries.items c.self.inside.bytes.items c.self.invariant.block;
  few = omega (arith, length_history c.self.inside.page_bytes c.self.inside.entries.items c.self.inside.bytes.items, c.self.inside.entries.ok.0);
  numbers = c.self.invariant.numbers;
  marked = rw (length_history c.self.inside.page_bytes c.self.inside.entries.items c.self.inside.bytes.items) c.self.invariant.marked;
})
