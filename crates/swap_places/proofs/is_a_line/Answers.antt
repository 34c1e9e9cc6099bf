use Rattle.swap_places.proofs.Lines.{enters_one, leaves_one, keeps_once}
use Rattle.swap_places.proofs.is_a_line.Goals as goal

pub returns-clause-enter : goal.returns-clause-enter
returns-clause-enter c = enters_one

pub returns-clause-leave : goal.returns-clause-leave
returns-clause-leave c = leaves_one

pub returns-clause-once : goal.returns-clause-once
returns-clause-once c = keeps_once
