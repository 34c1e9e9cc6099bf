use Rattle.swap_record.proofs.Spelled.{three}
use Rattle.swap_record.proofs.text.put_counts.Goals as goal

pub returns-clause-text : goal.returns-clause-text
returns-clause-text c = rw (c.put_number-3.ensures.text, c.put_number-2.ensures.text, c.put_number.ensures.text, c.from.ensures) (three _ _ _ _)
