use Rattle.std.proofs.Common.{◌≡◌, ◌+◌, ◌≤◌, length}
use Rattle.swap_script.specs.Reading.{first_fault, nothing_above, inputs_of, calls_of, end_of}
use Rattle.swap_script.specs.Spelled.{above_of}
use Rattle.swap_script.proofs.script.checked_lines.Given as goal
use Rattle.swap_script.specs.declared.TheConstants.{EVENT_LIMIT}

abbrev pub invariant-reading : goal.invariant-reading
invariant-reading l = record {
  fault : first_fault l.grammar (end_of l.text) l.geometry l.lenders l.fn.place nothing_above ≡ first_fault l.grammar
      (end_of l.text) l.geometry l.lenders l.place (above_of l.counts);
  events : l.counts.events + length (inputs_of l.grammar l.geometry l.place) ≡ length (inputs_of l.grammar l.geometry l.fn.place);
  calls : l.counts.calls + calls_of (inputs_of l.grammar l.geometry l.place) ≡ calls_of (inputs_of l.grammar l.geometry l.fn.place);
  fewer : l.counts.calls ≤ l.counts.events;
  within : l.counts.events ≤ EVENT_LIMIT;
}

abbrev pub decreases-reading : goal.decreases-reading
decreases-reading l = length l.place
