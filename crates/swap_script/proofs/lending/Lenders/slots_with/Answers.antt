use Rattle.std.proofs.Common.{ap, sym, ◌∙◌, length, arith}
use Rattle.std.proofs.lemmas.List.{length-take-le}
use Rattle.swap_script.proofs.Scripts.{few_slots}
use Rattle.swap_script.proofs.lending.Lenders.slots_with.Goals as goal

pub returns-clause-within : goal.returns-clause-within
returns-clause-within c =
    let count = ap length (sym c.self.view_is)
    ∙ length-take-le c.self.inside.count c.self.inside.specs (omega (arith, c.self.invariant.0, c.self.invariant.1)) in
    omega (arith, count, c.self.invariant.3, c.from.ensures, few_slots c.args.spec.now c.requires)
