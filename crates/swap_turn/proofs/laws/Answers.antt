use Rattle.swap_turn.proofs.Earlier.{earlier_trans}
use Rattle.swap_turn.proofs.Growing.{extends_none, extends_one, extends_more}
use Rattle.swap_turn.proofs.laws.Goals as goal

pub returns-clause-nothing : goal.returns-clause-nothing
returns-clause-nothing c = extends_none

pub returns-clause-one : goal.returns-clause-one
returns-clause-one c = extends_one

pub returns-clause-more : goal.returns-clause-more
returns-clause-more c = extends_more

pub returns-clause-earlier : goal.returns-clause-earlier
returns-clause-earlier c = earlier_trans
