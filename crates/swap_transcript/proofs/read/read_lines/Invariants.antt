use Rattle.std.proofs.Common.{◌≡◌, ◌≤◌, length}
use Rattle.swap_script.specs.Reading.{end_of}
use Rattle.swap_transcript.specs.Steps.{above_of}
use Rattle.swap_transcript.specs.Transcripts.{judging, judged_in, pairs_from, nothing_above}
use Rattle.swap_transcript.proofs.read.read_lines.Given as goal
use Rattle.swap_script.specs.declared.TheConstants.{EVENT_LIMIT}

abbrev pub invariant-lines : goal.invariant-lines
invariant-lines l = record {
  size : length l.bytes ≡ l.geometry.page_bytes;
  same : l.history.page_bytes ≡ l.geometry.page_bytes;
  fewer : l.counts.entries ≤ l.counts.events;
  within : l.counts.events ≤ EVENT_LIMIT;
  left : judging (judged_in l.fn.history) (pairs_from l.geometry (end_of l.whole) nothing_above l.fn.place)
      ≡ judging (judged_in l.history) (pairs_from l.geometry (end_of l.whole) (above_of l.counts) l.place);
}

abbrev pub decreases-lines : goal.decreases-lines
decreases-lines l = length l.place
