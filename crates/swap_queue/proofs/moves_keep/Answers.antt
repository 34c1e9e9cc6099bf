use Rattle.swap_queue.proofs.Keeps.{empty_keeps, put_keeps, start_keeps, start_sets, done_keeps, failed_keeps, copies_in_range}
use Rattle.swap_queue.proofs.moves_keep.Goals as goal

pub returns-clause-empty : goal.returns-clause-empty
returns-clause-empty c = empty_keeps

pub returns-clause-put : goal.returns-clause-put
returns-clause-put c = put_keeps

pub returns-clause-start : goal.returns-clause-start
returns-clause-start c = start_keeps

pub returns-clause-front : goal.returns-clause-front
returns-clause-front c = start_sets

pub returns-clause-done : goal.returns-clause-done
returns-clause-done c = done_keeps

pub returns-clause-failed : goal.returns-clause-failed
returns-clause-failed c = failed_keeps

pub returns-clause-in_range : goal.returns-clause-in_range
returns-clause-in_range c = copies_in_range
