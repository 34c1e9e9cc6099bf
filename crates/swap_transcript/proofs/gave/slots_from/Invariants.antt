use Rattle.std.proofs.Common.{◌≡◌, ◌≤◌, length}
use Rattle.swap_transcript.specs.Gave.{slots_from}
use Rattle.swap_transcript.proofs.gave.slots_from.Given as goal

abbrev pub invariant-slots : goal.invariant-slots
invariant-slots l = record {
  within : l.least ≤ 64;
  same : slots_from l.least l.set l.words ≡ slots_from l.fn.least l.fn.set l.fn.words;
}

abbrev pub decreases-slots : goal.decreases-slots
decreases-slots l = length l.words
