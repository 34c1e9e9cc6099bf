use Rattle.std.proofs.Common.{ap, length, decimal, arith, length-append}
use Rattle.swap_record.proofs.Spelled.{digits_within}
use Rattle.swap_run.proofs.check.put_line.Goals as goal

pub decimal-requires : goal.decimal-requires
decimal-requires c =
    omega (
      arith,
      digits_within c.from.result (omega (arith, c.from.ensures, c.ranges.n.fits)),
      ap length c.text.ensures,
      ap length c.clear.ensures,
      length-append c.clear.new.self c.args.front.now,
      c.requires.front,
    )

pub text-requires-2 : goal.text-requires-2
text-requires-2 c =
    omega (
      arith,
      digits_within c.from.result (omega (arith, c.from.ensures, c.ranges.n.fits)),
      ap length c.text.ensures,
      ap length c.clear.ensures,
      length-append c.clear.new.self c.args.front.now,
      c.requires.front,
      ap length c.decimal.ensures,
      length-append c.text.new.self (decimal c.from.result),
      c.requires.back,
    )
