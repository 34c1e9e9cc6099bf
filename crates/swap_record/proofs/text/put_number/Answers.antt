use Rattle.std.proofs.Common.{ap, length, ◌∷◌, [], decimal, arith, length-append}
use Rattle.swap_record.proofs.Spelled.{digits_within}
use Rattle.swap_record.proofs.text.put_number.Goals as goal

pub decimal-requires : goal.decimal-requires
decimal-requires c = omega (arith, digits_within c.args.n c.ranges.n.fits, ap length c.text.ensures, length-append c.args.out.now (32 ∷ []))

pub returns-clause-len : goal.returns-clause-len
returns-clause-len c =
    omega (
      arith,
      digits_within c.args.n c.ranges.n.fits,
      ap length c.text.ensures,
      length-append c.args.out.now (32 ∷ []),
      ap length c.decimal.ensures,
      length-append c.text.new.self (decimal c.args.n),
    )
