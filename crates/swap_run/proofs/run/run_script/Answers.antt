use Rattle.swap_run.proofs.Ends.{script_ends}
use Rattle.swap_run.proofs.run.run_script.Goals as goal

pub returns-in-Ok-clause-ends : goal.returns-in-Ok-clause-ends
returns-in-Ok-clause-ends g c =
    script_ends c.scripts_keep_the_headline.ensures c.scripts_are_read_back.ensures _ _ c.in-Ok.text.items _ c.in-Ok.ensures.whole c.in-Ok.ensures.within
    (rw c.deref.ensures.value at c.run_text.ensures.ends)
