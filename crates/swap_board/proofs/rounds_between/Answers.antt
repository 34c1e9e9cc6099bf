use Rattle.swap_board.proofs.Pace as pace
use Rattle.swap_board.proofs.rounds_between.Goals as goal

pub returns : goal.returns
returns c = pace.rounds_between
