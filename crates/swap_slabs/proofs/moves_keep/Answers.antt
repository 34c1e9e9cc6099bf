use Rattle.swap_slabs.proofs.Keeps.{sets_state, all_local_keeps, ask_keeps, answer_keeps, borrow_keeps, lent_keeps, refused_keeps, begin_keeps, settled_keeps, evict_keeps, lost_keeps}
use Rattle.swap_slabs.proofs.moves_keep.Goals as goal

pub returns-clause-sets : goal.returns-clause-sets
returns-clause-sets c = sets_state

pub returns-clause-all_local : goal.returns-clause-all_local
returns-clause-all_local c = all_local_keeps

pub returns-clause-ask : goal.returns-clause-ask
returns-clause-ask c = ask_keeps

pub returns-clause-answer : goal.returns-clause-answer
returns-clause-answer c = answer_keeps

pub returns-clause-borrow_from : goal.returns-clause-borrow_from
returns-clause-borrow_from c = borrow_keeps

pub returns-clause-lent : goal.returns-clause-lent
returns-clause-lent c = lent_keeps

pub returns-clause-refused : goal.returns-clause-refused
returns-clause-refused c = refused_keeps

pub returns-clause-begin : goal.returns-clause-begin
returns-clause-begin c = begin_keeps

pub returns-clause-settled : goal.returns-clause-settled
returns-clause-settled c = settled_keeps

pub returns-clause-evict : goal.returns-clause-evict
returns-clause-evict c = evict_keeps

pub returns-clause-lost : goal.returns-clause-lost
returns-clause-lost c = lost_keeps
