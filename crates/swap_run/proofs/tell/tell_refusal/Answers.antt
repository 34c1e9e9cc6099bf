use Rattle.std.proofs.Common.{◌∙◌}
use Rattle.swap_run.proofs.Printed.{any_err, err_by}
use Rattle.swap_run.proofs.Refused.{broke_in_line, broke_in_reason, broke_at_end}
use Rattle.swap_run.proofs.tell.tell_refusal.Goals as goal

pub returns-in_err-write_both-clause-err : goal.returns-in_err-write_both-clause-err
returns-in_err-write_both-clause-err g c =
    any_err _ _ (broke_in_line _ _ c.args.refused.now c.as_bytes.result.now (c.as_bytes.ensures.value ∙ c.format.ensures.text) c.in_err-write_both.ensures.err)

pub returns-in_err-write_both-2-clause-err : goal.returns-in_err-write_both-2-clause-err
returns-in_err-write_both-2-clause-err g c =
    any_err _ _
    (broke_in_reason _ _ _ c.args.refused.now c.as_bytes.result.now c.why_word.result.now
    (c.as_bytes.ensures.value ∙ c.format.ensures.text) c.why_word.ensures.word c.in_ok-write_both.ensures.ok c.in_err-write_both-2.ensures.err)

pub returns-clause-err : goal.returns-clause-err
returns-clause-err g c =
    err_by _ _ _
    (broke_at_end _ _ _ _ c.args.refused.now c.as_bytes.result.now c.why_word.result.now
    (c.as_bytes.ensures.value ∙ c.format.ensures.text) c.why_word.ensures.word c.in_ok-write_both.ensures.ok c.in_ok-write_both-2.ensures.ok)
    c.write_line.ensures.err
