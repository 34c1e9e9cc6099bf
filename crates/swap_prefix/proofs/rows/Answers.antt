-- By computation.
use Rattle.std.proofs.Common.{refl}
use Rattle.swap_choice.specs.Slots.{slots}
use Rattle.swap_choice.specs.Least.{least_of, rank}
use Rattle.swap_prefix.proofs.rows.Goals as goal

pub returns-clause-in_order : goal.returns-clause-in_order
returns-clause-in_order c = refl

pub returns-clause-asks : goal.returns-clause-asks
unfolding slots least_of rank
returns-clause-asks c = refl

pub returns-clause-cut_again : goal.returns-clause-cut_again
returns-clause-cut_again c = (refl, refl, refl)

pub returns-clause-reply_cut : goal.returns-clause-reply_cut
returns-clause-reply_cut c = (refl, refl)

pub returns-clause-full : goal.returns-clause-full
returns-clause-full c = (refl, refl)

pub returns-clause-crashed : goal.returns-clause-crashed
returns-clause-crashed c = (refl, refl)

pub returns-clause-connected : goal.returns-clause-connected
returns-clause-connected c = refl

pub returns-clause-gone : goal.returns-clause-gone
unfolding slots least_of rank
returns-clause-gone c = (refl, refl, refl, refl)
