use Rattle.swap_joint.proofs.Lenders.{lenders_keep, turns_keep_seats}
use Rattle.swap_joint.proofs.lenders_keep.Goals as goal

pub returns-clause-harbor : goal.returns-clause-harbor
returns-clause-harbor c = lenders_keep

pub returns-clause-turns : goal.returns-clause-turns
returns-clause-turns c = turns_keep_seats
