use Rattle.swap_bits.specs.lemmas.Taken.{takes_range}
use Rattle.swap_bits.proofs.Numbers.{adds_one, takes_one, counts_parts, counts_one, keeps_bound}
use Rattle.swap_bits.proofs.is_a_set.Goals as goal

pub returns-clause-set : goal.returns-clause-set
returns-clause-set c = adds_one

pub returns-clause-clear : goal.returns-clause-clear
returns-clause-clear c = takes_one

pub returns-clause-clear_range : goal.returns-clause-clear_range
returns-clause-clear_range c = takes_range

pub returns-clause-parts : goal.returns-clause-parts
returns-clause-parts c = counts_parts

pub returns-clause-one : goal.returns-clause-one
returns-clause-one c = counts_one

pub returns-clause-bound : goal.returns-clause-bound
returns-clause-bound c = keeps_bound
