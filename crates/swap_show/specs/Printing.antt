-- What a world's log is as a transcript.
use Rattle.std.specs.Prelude.{◌≡◌, ℕ, List, flat_map, take, slice_get, Some}
use Rattle.swap_base.specs.declared.geometry.LenderSpec.{LenderSpec}
use Rattle.swap_wire.specs.declared.Event.{Event}
use Rattle.swap_wire.specs.declared.Seen.{Seen}
use Rattle.swap_record.specs.History.{History}
use Rattle.swap_script.specs.Transcript.{HasEntry, transcript, line}
use Rattle.swap_world.specs.Runs.{WorldView}

-- each entry that a log names stands in the history
abbrev pub EntriesStand : List (Event × Seen) → History → Type 0
EntriesStand log H = (i : ℕ) (e : Event) (s : Seen) → slice_get log i ≡ Some (e, s) → HasEntry H s

-- the lines of a world's log
abbrev pub log_lines : {D F : Type 0} → WorldView D F → List ℕ
log_lines w = flat_map (line w.core.device.history) w.log

-- so of its first so many events
abbrev pub first_lines : {D F : Type 0} → WorldView D F → ℕ → List ℕ
first_lines w n = flat_map (line w.core.device.history) (take n w.log)

-- the transcript of a world's log, where it has these lenders
abbrev pub world_transcript : {D F : Type 0} → List LenderSpec → WorldView D F → List ℕ
world_transcript lenders w = transcript w.core.device.sizes lenders w.log w.core.device.history
