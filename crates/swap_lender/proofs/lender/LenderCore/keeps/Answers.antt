use Rattle.std.proofs.Common.{subst, arith}
use Rattle.swap_lender.specs.Lender.{Lender}
use Rattle.swap_lender.specs.Core.{IsLender}
use Rattle.swap_lender.proofs.lender.LenderCore.keeps.Goals as goal

pub returns : goal.returns
returns c =
    let fits = c.self.invariant in
    subst (λ (l : Lender). IsLender l) c.self.view_is
    (record { slots = fits.0; contents = fits.1.number; peers = fits.2.few; usage = fits.3; leases = omega arith })
