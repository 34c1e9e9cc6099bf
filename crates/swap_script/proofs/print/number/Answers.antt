-- A number below 2 ^ 64 has at most twenty digits.
use Rattle.std.proofs.Common.{arith, length, length-append, [], ◌∷◌, ap, decimal}
use Rattle.std.proofs.lemmas.Fmt.{length-decimal-le}
use Rattle.swap_script.proofs.print.number.Goals as goal

pub decimal-requires : goal.decimal-requires
decimal-requires c =
    let short = length-decimal-le 20 c.args.n (omega arith) (omega arith) (omega arith) in
    omega (arith, short, ap length c.text.ensures, length-append c.args.out.now (32 ∷ []))

pub returns-clause-length : goal.returns-clause-length
returns-clause-length c =
    let short = length-decimal-le 20 c.args.n (omega arith) (omega arith) (omega arith) in
    omega (
      arith,
      short,
      ap length c.text.ensures,
      length-append c.args.out.now (32 ∷ []),
      ap length c.decimal.ensures,
      length-append c.text.new.self (decimal c.args.n),
    )
