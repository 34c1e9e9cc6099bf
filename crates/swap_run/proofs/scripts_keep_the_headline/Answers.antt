use Rattle.swap_run.proofs.Ends.{headline}
use Rattle.swap_run.proofs.scripts_keep_the_headline.Goals as goal

pub returns : goal.returns
returns c =
    headline c.always_legal.ensures c.each_call_once.ensures c.entries_are_seen.ensures c.always_lent.ensures
    (record { range = c.events_in_range.ensures; lenders = c.lenders_may_lend.ensures; pages = c.pages_are_whole.ensures })
