use Rattle.swap_record.proofs.text.put_op.Goals as goal

pub returns-in-PageOut-clause-text : goal.returns-in-PageOut-clause-text
returns-in-PageOut-clause-text c = rw c.in-PageOut.is c.put_out.ensures.text

pub returns-in-PageIn-clause-text : goal.returns-in-PageIn-clause-text
returns-in-PageIn-clause-text c = rw c.in-PageIn.is c.put_in.ensures.text
