use Rattle.swap_run.proofs.Printed.{appends_after, front_after, front_more, any_err, err_by, ok_by}
use Rattle.swap_run.proofs.tell.write_both.Goals as goal

pub returns-in_err-write_line-clause-err : goal.returns-in_err-write_line-clause-err
returns-in_err-write_line-clause-err g c = any_err _ _ (front_more _ _ c.args.first.now c.args.second.now c.in_err-write_line.ensures.err)

pub returns-clause-ok : goal.returns-clause-ok
returns-clause-ok g c = ok_by _ _ _ (appends_after _ _ _ c.args.first.now c.args.second.now c.in_ok-write_line.ensures.ok) c.write_line-2.ensures.ok

pub returns-clause-err : goal.returns-clause-err
returns-clause-err g c = err_by _ _ _ (front_after _ _ _ c.args.first.now c.args.second.now c.in_ok-write_line.ensures.ok) c.write_line-2.ensures.err
