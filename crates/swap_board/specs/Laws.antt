-- What follows for every list of acts.
use Rattle.std.specs.Prelude.{◌≤◌, List, ◌++◌}
use Rattle.rand_pcg.specs.Lcg.{Lcg}
use Rattle.swap_board.specs.Acts.{Act, AreMade, AreNoRounds, calls_in, PACE}

-- where no Round stands, at most so many calls stand
abbrev pub RoundsBetween : Type 0
RoundsBetween =
    (seed : Lcg) (before between after : List Act) → AreMade seed (after ++ (between ++ before)) → AreNoRounds between
    → calls_in between ≤ PACE
