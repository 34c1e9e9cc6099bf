use Rattle.swap_run.proofs.CheckSteps.{verdict_in_blocks}
use Rattle.swap_run.proofs.check.tell_verdict_in_blocks.Goals as goal

pub returns : goal.returns
returns g c =
    verdict_in_blocks c.args.judgement c.args.out.now c.tell_verdict-told.new.out c.hand_on_rest.new.out c.tell_verdict-told.result c.hand_on_rest.result
    c.requires.held c.requires.fresh c.tell_verdict-told.ensures.later c.hand_on_rest.ensures c.tell_verdict-told.ensures.ends
