use Rattle.swap_run.proofs.CheckSteps.{judged_text}
use Rattle.swap_run.proofs.check.judge_source.Goals as goal

pub returns-in-Ok : goal.returns-in-Ok
returns-in-Ok g c =
    judged_text _ c.in-Ok.text.items c.judge_text.result c.in-Ok.ensures.whole c.in-Ok.ensures.within (rw c.deref.ensures.value at c.judge_text.ensures)
