use Rattle.std.proofs.Common.{ap, length, ◌∷◌, [], arith, length-append, append_assoc}
use Rattle.swap_io.specs.Words.{shortest}
use Rattle.swap_record.proofs.Spelled.{shortest_within}
use Rattle.swap_record.proofs.text.put_page.Goals as goal

pub shortest-requires : goal.shortest-requires
shortest-requires c = omega (arith, shortest_within c.args.bytes.now, ap length c.text.ensures, length-append c.args.out.now (32 ∷ []))

pub returns-clause-text : goal.returns-clause-text
returns-clause-text c = rw (c.shortest.ensures, c.text.ensures) (append_assoc c.args.out.now (32 ∷ []) (shortest c.args.bytes.now))

pub returns-clause-len : goal.returns-clause-len
returns-clause-len c =
    omega (
      arith,
      shortest_within c.args.bytes.now,
      ap length c.text.ensures,
      length-append c.args.out.now (32 ∷ []),
      ap length c.shortest.ensures,
      length-append c.text.new.self (shortest c.args.bytes.now),
    )
