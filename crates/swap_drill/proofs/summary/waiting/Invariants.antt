use Rattle.std.proofs.Common.{◌≡◌, ◌≤◌, take, count_by}
use Rattle.swap_world.specs.Runs.{is_busy_call}
use Rattle.swap_drill.proofs.summary.waiting.Given as goal

abbrev pub invariant-callers : goal.invariant-callers
invariant-callers l = record {
  waiting : l.waiting ≡ count_by is_busy_call (take l.number l.world.core.device.calls);
  few : l.waiting ≤ l.number;
}
