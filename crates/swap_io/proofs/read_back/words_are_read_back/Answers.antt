use Rattle.swap_io.proofs.Back.{number_again, number_one, page_again}
use Rattle.swap_io.proofs.read_back.words_are_read_back.Goals as goal

pub returns-clause-numbers : goal.returns-clause-numbers
returns-clause-numbers c = number_again

pub returns-clause-one_word : goal.returns-clause-one_word
returns-clause-one_word c = number_one

pub returns-clause-pages : goal.returns-clause-pages
returns-clause-pages c = page_again
