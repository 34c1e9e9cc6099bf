use Rattle.std.proofs.Common.{ap, sym, ◌∙◌, length, arith}
use Rattle.std.proofs.lemmas.List.{length-take-le}
use Rattle.swap_script.proofs.lending.Lenders.count.Goals as goal

pub returns-clause-count : goal.returns-clause-count
returns-clause-count c =
    sym (ap length (sym c.self.view_is) ∙ length-take-le c.self.inside.count c.self.inside.specs (omega (arith, c.self.invariant.0, c.self.invariant.1)))
