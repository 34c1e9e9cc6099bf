use Rattle.std.proofs.Common.{ap, length, decimal, codes, arith, length-append}
use Rattle.std.proofs.lemmas.Fmt.{length-decimal-le}
use Rattle.swap_live.proofs.put_line.Goals as goal

pub decimal-requires : goal.decimal-requires
decimal-requires c =
    omega (
      arith,
      length-decimal-le 20 c.args.number (omega arith) (omega (arith, c.ranges.number.fits)) (omega (arith, c.ranges.number.fits)),
      ap length c.text.ensures,
      ap length c.clear.ensures,
      length-append c.clear.new.self (codes "served "),
    )

pub text-requires-2 : goal.text-requires-2
text-requires-2 c =
    omega (
      arith,
      length-decimal-le 20 c.args.number (omega arith) (omega (arith, c.ranges.number.fits)) (omega (arith, c.ranges.number.fits)),
      ap length c.text.ensures,
      ap length c.clear.ensures,
      length-append c.clear.new.self (codes "served "),
      ap length c.decimal.ensures,
      length-append c.text.new.self (decimal c.args.number),
    )
