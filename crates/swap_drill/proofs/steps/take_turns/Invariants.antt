use Rattle.std.proofs.Common.{◌≡◌, ◌*◌, ◌-◌, ◌≤◌, length}
use Rattle.swap_drill.specs.Drill.{after, turns}
use Rattle.swap_drill.specs.Steps.{world_in, Spends}
use Rattle.swap_drill.proofs.steps.take_turns.Given as goal

abbrev pub invariant-turns : goal.invariant-turns
invariant-turns l = record {
  rest : after (world_in l.world) (turns (4 - l.taken) l.caller (world_in l.world)) ≡ after (world_in l.fn.world) (turns 4 l.caller (world_in l.fn.world));
  spends : Spends 0 (8 * l.taken) l.fn.world l.world;
  page : length l.page ≡ 64;
  few : l.taken ≤ 4;
}

abbrev pub decreases-turns : goal.decreases-turns
decreases-turns l = 4 - l.taken
