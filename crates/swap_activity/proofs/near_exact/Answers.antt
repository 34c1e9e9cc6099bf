use Rattle.swap_activity.proofs.Near.{near}
use Rattle.swap_activity.proofs.near_exact.Goals as goal

pub returns : goal.returns
returns c = near
