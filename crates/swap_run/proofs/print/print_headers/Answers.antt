use Rattle.std.proofs.Common.{◌∙◌, flat_map}
use Rattle.swap_script.specs.Transcript.{header, lender_header}
use Rattle.swap_run.proofs.Printed.{appends_after, front_after, front_more, any_err, err_by, ok_by, taken_as, front_as}
use Rattle.swap_run.proofs.print.print_headers.Goals as goal

pub returns-in_err-write_line-clause-err : goal.returns-in_err-write_line-clause-err
returns-in_err-write_line-clause-err g c =
    let head = c.bytes.ensures.bytes ∙ c.header_line.ensures in
    any_err _ _
    (front_more _ _ (header c.args.geometry.now) (flat_map lender_header c.args.lenders.now) (front_as _ _ _ _ head c.in_err-write_line.ensures.err))

pub returns-clause-ok : goal.returns-clause-ok
returns-clause-ok g c =
    let head = c.bytes.ensures.bytes ∙ c.header_line.ensures in
    ok_by _ _ _
    (appends_after _ _ _ (header c.args.geometry.now) (flat_map lender_header c.args.lenders.now) (taken_as _ _ _ _ head c.in_ok-write_line.ensures.ok))
    c.print_lenders.ensures.ok

pub returns-clause-err : goal.returns-clause-err
returns-clause-err g c =
    let head = c.bytes.ensures.bytes ∙ c.header_line.ensures in
    err_by _ _ _
    (front_after _ _ _ (header c.args.geometry.now) (flat_map lender_header c.args.lenders.now) (taken_as _ _ _ _ head c.in_ok-write_line.ensures.ok))
    c.print_lenders.ensures.err
