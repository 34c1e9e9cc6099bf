use Rattle.std.proofs.Common.{◌<◌, sym, subst, arith}
use Rattle.swap_choice.specs.Slots.{size}
use Rattle.swap_evict.specs.Rounds.{Round, IsOpen}
use Rattle.swap_lender.proofs.Opened.{opened_waits}
use Rattle.swap_lender.proofs.lender.LenderCore.ask.Goals as goal

pub returns-clause-waits : goal.returns-clause-waits
returns-clause-waits c =
    let some : 0 < size c.picked-asked.result = omega (arith, c.picked-asked.ensures.size) in
    λ before. subst (λ (r : Round). IsOpen r) (sym c.make.ensures) (opened_waits c.picked-asked.result c.to_evict-evict.result some)
