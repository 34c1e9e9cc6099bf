use Rattle.swap_world.proofs.HoldsAfterRuns.{each_call_once}
use Rattle.swap_world.proofs.each_call_once.Goals as goal

pub returns : goal.returns
returns c = each_call_once
