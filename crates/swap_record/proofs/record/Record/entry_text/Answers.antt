use Rattle.std.proofs.Common.{arith, codes, decimal}
use Rattle.swap_record.specs.History.{row_named}
use Rattle.swap_record.specs.Text.{op_words}
use Rattle.swap_record.proofs.Spelled.{entry_line, row_by_parts}
use Rattle.swap_record.proofs.record.Record.entry_text.Goals as goal

pub put_op-requires-clause-page : goal.put_op-requires-clause-page
put_op-requires-clause-page c = omega (arith, c.bytes-bytes.ensures.len, c.bytes-bytes.ensures.within)

pub returns-clause-text : goal.returns-clause-text
returns-clause-text c =
    rw (
      row_by_parts (row_named c.args.self.now.history c.args.no.0) c.entry-entry.result c.bytes-bytes.result.now c.entry-entry.ensures
          c.bytes-bytes.ensures.bytes,
      c.put_op.ensures.text,
      c.put_number.ensures.text,
      c.from.ensures,
      c.text.ensures,
    )
    (entry_line c.args.out.now (codes "entry") (decimal c.args.no.0) (op_words c.entry-entry.result.page.0 c.bytes-bytes.result.now c.entry-entry.result.op))
