use Rattle.swap_run.proofs.DrillEnds.{drills_complete}
use Rattle.swap_run.proofs.drills_complete.Goals as goal

pub returns : goal.returns
returns c = drills_complete
