use Rattle.std.proofs.Common.{◌≡◌, take, false}
use Rattle.std.specs.List.{list_any}
use Rattle.swap_run.specs.Run.{is_failed_row}
use Rattle.swap_run.proofs.run.has_failed.Given as goal

abbrev pub invariant-entries : goal.invariant-entries
invariant-entries l = list_any is_failed_row (take l.i l.history.history) ≡ false
