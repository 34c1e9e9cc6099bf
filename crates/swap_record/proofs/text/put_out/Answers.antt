use Rattle.swap_record.proofs.Spelled.{three}
use Rattle.swap_record.proofs.text.put_out.Goals as goal

pub returns-clause-text : goal.returns-clause-text
returns-clause-text c = rw (c.put_page.ensures.text, c.put_number.ensures.text, c.from.ensures, c.put_word.ensures.text) (three _ _ _ _)
