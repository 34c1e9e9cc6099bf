use Rattle.std.proofs.Common.{ap, length, decimal, arith, length-append}
use Rattle.swap_record.proofs.Spelled.{digits_within}
use Rattle.swap_drill.proofs.text.put.Goals as goal

pub decimal-requires : goal.decimal-requires
decimal-requires c =
    omega
    (arith, digits_within c.args.n c.ranges.n.fits, ap length c.text.ensures, length-append c.args.line.now c.args.front.now, c.requires.front, c.requires.room)

pub returns-clause-len : goal.returns-clause-len
returns-clause-len c =
    omega (
      arith,
      digits_within c.args.n c.ranges.n.fits,
      ap length c.text.ensures,
      length-append c.args.line.now c.args.front.now,
      ap length c.decimal.ensures,
      length-append c.text.new.self (decimal c.args.n),
      c.requires.front,
    )
