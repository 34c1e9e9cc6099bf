use Rattle.swap_world.proofs.HoldsAfterRuns.{entries_are_seen}
use Rattle.swap_world.proofs.entries_are_seen.Goals as goal

pub returns : goal.returns
returns c = entries_are_seen
