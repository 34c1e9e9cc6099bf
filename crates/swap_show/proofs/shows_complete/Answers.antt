use Rattle.swap_show.proofs.Shows.{completes, refuses}
use Rattle.swap_show.proofs.shows_complete.Goals as goal

pub returns-clause-traces : goal.returns-clause-traces
returns-clause-traces c = completes

pub returns-clause-refuse : goal.returns-clause-refuse
returns-clause-refuse c = refuses
