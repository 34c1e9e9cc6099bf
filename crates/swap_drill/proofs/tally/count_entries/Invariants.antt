use Rattle.std.proofs.Common.{◌≡◌}
use Rattle.swap_record.specs.Judging.{oldest}
use Rattle.swap_drill.specs.Summary.{tally_of}
use Rattle.swap_drill.proofs.tally.count_entries.Given as goal

abbrev pub invariant-entries : goal.invariant-entries
invariant-entries l = l.tally ≡ tally_of (oldest l.number l.history.history)
