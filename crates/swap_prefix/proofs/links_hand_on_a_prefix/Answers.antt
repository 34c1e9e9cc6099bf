use Rattle.swap_prefix.proofs.Calls.{links_hand_on_a_prefix, only_an_end_is_lost, what_is_taken_is_served}
use Rattle.swap_prefix.proofs.links_hand_on_a_prefix.Goals as goal

pub returns-clause-prefix : goal.returns-clause-prefix
returns-clause-prefix c = links_hand_on_a_prefix

pub returns-clause-end : goal.returns-clause-end
returns-clause-end c = only_an_end_is_lost

pub returns-clause-served : goal.returns-clause-served
returns-clause-served c = what_is_taken_is_served
