use Rattle.swap_world.proofs.WorldStaysWithoutEffect.{nothing_changes}
use Rattle.swap_world.proofs.nothing_changes.Goals as goal

pub returns : goal.returns
returns c = nothing_changes
