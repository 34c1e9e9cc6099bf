use Rattle.std.proofs.Common.{◌∙◌}
use Rattle.swap_run.proofs.Printed.{any_err}
use Rattle.swap_run.proofs.Taken.{broke_at}
use Rattle.swap_run.proofs.print.print_lenders.Goals as goal

pub returns-in_err-write_line-clause-err : goal.returns-in_err-write_line-clause-err
returns-in_err-write_line-clause-err g c =
    any_err _ _
    (broke_at _ _ _ c.args.lenders.now c.lenders.lender-index _ c.bytes.result.now c.lenders-test.true
    (c.bytes.ensures.bytes ∙ c.lender_line.ensures) c.lenders.invariant.taken c.in_err-write_line.ensures.err)
