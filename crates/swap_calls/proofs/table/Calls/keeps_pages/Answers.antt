use Rattle.swap_calls.proofs.InMemory.{table_in}
use Rattle.swap_calls.proofs.table.Calls.keeps_pages.Goals as goal

pub returns : goal.returns
returns c = rw (← c.self.view_is) (table_in c.self.inside.page_bytes c.self.inside.calls.items c.self.invariant)
