use Rattle.std.proofs.Common.{append_assoc}
use Rattle.swap_script.proofs.print.header_line.Goals as goal

pub returns : goal.returns
returns c =
    simp (
      c.text-2.ensures,
      c.number-7.ensures.text,
      c.number-6.ensures.text,
      c.number-5.ensures.text,
      c.number-4.ensures.text,
      c.number-3.ensures.text,
      c.number-2.ensures.text,
      c.number.ensures.text,
      c.text.ensures,
      c.clear.ensures,
      append_assoc,
    )
    cc
