use Rattle.std.proofs.Common.{◌≡◌, ◌*◌, ◌-◌, ◌≤◌, length}
use Rattle.swap_trace.specs.Draws.{draws}
use Rattle.swap_drill.specs.Summary.{IsUnderWay}
use Rattle.swap_drill.specs.Steps.{world_in, IsReady}
use Rattle.swap_drill.proofs.run.make_events.Given as goal

abbrev pub invariant-steps : goal.invariant-steps
invariant-steps l = record {
  under_way : IsUnderWay l.number l.calls l.i (draws (l.calls - l.i) l.draws) (world_in l.world) l.busy l.rounds;
  ready : IsReady (l.calls - l.i) (45 * (l.calls - l.i)) l.world;
  page : length l.page ≡ 64;
  few_busy : l.busy ≤ l.i;
  few_rounds : l.rounds ≤ l.i;
}
