use Rattle.std.proofs.Common.{◌<◌, length, arith, refl}
use Rattle.swap_record.proofs.Stored.{named_at, length_history}
use Rattle.swap_record.proofs.record.Record.entry.Goals as goal

pub returns : goal.returns
returns c =
    let within : c.args.no.0 < length c.self.inside.entries.items =
    omega (arith, length_history c.self.inside.page_bytes c.self.inside.entries.items c.self.inside.bytes.items, rw (← c.self.view_is) at c.requires) in
    rw (
      ← c.self.view_is,
      named_at c.self.inside.page_bytes c.self.inside.entries.items c.self.inside.bytes.items c.args.no.0 c.index.result.now within,
      ← c.index.ensures,
    )
    refl
