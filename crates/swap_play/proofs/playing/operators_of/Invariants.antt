use Rattle.std.proofs.Common.{◌≡◌, ◌++◌, length}
use Rattle.swap_trace.specs.Traces.{operators_in}
use Rattle.swap_play.specs.Callers.{events_of}
use Rattle.swap_play.proofs.playing.operators_of.Given as goal

abbrev pub invariant-events : goal.invariant-events
invariant-events l = record {
  sizes : l.walk.sizes ≡ l.fn.trace.sizes;
  page : length l.page ≡ l.fn.trace.sizes.page_bytes;
  events : l.events.items ++ events_of l.walk.inputs ≡ events_of (operators_in l.fn.trace).inputs;
}

abbrev pub decreases-events : goal.decreases-events
decreases-events l = length l.walk.inputs
