use Rattle.std.proofs.Common.{◌≡◌, ◌<◌, ◌+◌, ◌-◌, ◌*◌, length, arith, refl}
use Rattle.swap_record.specs.declared.Entry.{Entry}
use Rattle.swap_record.specs.declared.Op.TheVariants.{PageOut}
use Rattle.swap_record.proofs.Stored.{named_at, length_history}
use Rattle.swap_record.proofs.record.Record.bytes.Goals as goal

none : Entry
none = record { caller = record { 0 = 0 }; number = 0; page = record { 0 = 0 }; op = PageOut }

pub returns-clause-bytes : goal.returns-clause-bytes
returns-clause-bytes c =
    let within : c.args.no.0 < length c.self.inside.entries.items =
    omega (arith, length_history c.self.inside.page_bytes c.self.inside.entries.items c.self.inside.bytes.items, rw (← c.self.view_is) at c.requires) in
    let size : c.args.no.0 * c.self.inside.page_bytes + c.self.inside.page_bytes - c.args.no.0 * c.self.inside.page_bytes ≡ c.self.inside.page_bytes =
    omega arith in
    rw (
      ← c.self.view_is,
      named_at c.self.inside.page_bytes c.self.inside.entries.items c.self.inside.bytes.items c.args.no.0 none within,
      c.deref.ensures.value,
      size,
    )
    refl
