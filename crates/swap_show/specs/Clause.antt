-- What a call of the command play promises: how it ends, and what it then read and wrote.
use Rattle.std.specs.Prelude.{◌≡◌, ◌≤◌, ◌⊎◌, ℕ, Bool, true, false, List, length, Some, None, Result, Ok, Err}
use Rattle.std.specs.Io.KnownBytes.{Appends}
use Rattle.swap_io.specs.Causes.{WasReadWhole, AppendsFront}
use Rattle.swap_io.specs.declared.sources.Source.{Ghosts as SourceMeaning}
use Rattle.swap_io.specs.declared.sinks.Sink.{Ghosts as SinkMeaning}
use Rattle.swap_base.specs.declared.geometry.LenderSpec.{LenderSpec}
use Rattle.swap_disk.specs.MemDiskView.{MemDiskView}
use Rattle.swap_link.specs.Harbor.{Harbor}
use Rattle.swap_script.specs.declared.ScriptRefused.{ScriptRefused}
use Rattle.swap_script.specs.declared.TheConstants.{TEXT_LIMIT}
use Rattle.swap_script.specs.Reading.{Script}
use Rattle.swap_script.specs.Transcript.{transcript}
use Rattle.swap_trace.specs.Traces.{trace}
use Rattle.swap_world.specs.Runs.{WorldView}
use Rattle.swap_run.specs.declared.Ending.{Ending}
use Rattle.swap_run.specs.declared.Ending.TheVariants as ending
use Rattle.swap_run.specs.Clause.{Stream, stream, Failed, TookNothing, ReadBrokeOff, ReadTooMuch}
use Rattle.swap_run.specs.Run.{has_failed}
use Rattle.swap_show.specs.Printing.{world_transcript}
use Rattle.swap_show.specs.Shown.{WasShown, IsHeadline}

-- a source over a call
abbrev pub read_of : {S : Type 0} → SourceMeaning S → S → S → Stream
read_of source before now = stream (source.left before) (source.left now) (source.faults before) (source.faults now)

-- a sink over a call
abbrev pub written_to : {K : Type 0} → SinkMeaning K → K → K → Stream
written_to sink before now = stream (sink.taken before) (sink.taken now) (sink.faults before) (sink.faults now)

-- what is written of a played trace: the transcript of the world's log
abbrev pub transcript_of : Script → WorldView MemDiskView Harbor → List ℕ
transcript_of t w = transcript t.sizes t.lenders w.log w.core.device.history

-- a trace was played and out took its transcript, and nothing else; a call failed or none did
pub record PlayedIn (t : Script) (number : ℕ) (out : Stream) (with_fault : Bool) : Type 0 where
  pub world : WorldView MemDiskView Harbor
  pub shown : WasShown t number world
  pub wrote : Appends out.before out.now (transcript_of t world)
  pub fault : has_failed world.core.device.history ≡ with_fault

-- a trace was played and a write failed: out took a front of its transcript
pub record BrokeOffIn (t : Script) (number : ℕ) (out : Stream) : Type 0 where
  pub world : WorldView MemDiskView Harbor
  pub shown : WasShown t number world
  pub wrote : AppendsFront out.before out.now (transcript_of t world)
  pub failed : Failed out

-- what writing a world's transcript leaves, by how it ends
abbrev pub WrittenBy : List LenderSpec → WorldView MemDiskView Harbor → Stream → Ending → Type 0
WrittenBy lenders w out ending.Done =
    Appends out.before out.now (world_transcript lenders w) × (has_failed w.core.device.history ≡ false)
WrittenBy lenders w out ending.Faulted =
    Appends out.before out.now (world_transcript lenders w) × (has_failed w.core.device.history ≡ true)
WrittenBy lenders w out ending.WriteFailed = AppendsFront out.before out.now (world_transcript lenders w) × Failed out
WrittenBy lenders w out _ = ⊥

-- what playing a trace leaves, by how it ends
abbrev pub TraceEnds : Script → ℕ → Stream → Ending → Type 0
TraceEnds t number out ending.Done = PlayedIn t number out false
TraceEnds t number out ending.Faulted = PlayedIn t number out true
TraceEnds t number out ending.WriteFailed = BrokeOffIn t number out
TraceEnds t number out ending.NoMemory = TookNothing out
TraceEnds t number out _ = ⊥

-- what playing a text leaves
abbrev pub TextEnds : Result Script ScriptRefused → ℕ → Stream → Ending → Type 0
TextEnds (Ok t) number out end = TraceEnds t number out end
TextEnds (Err refused) number out (ending.Refused r) = (r ≡ refused) × TookNothing out
TextEnds (Err refused) number out _ = ⊥

-- the source was read to its end, and its text is a trace
pub record ReadTrace (source : Stream) (t : Script) : Type 0 where
  pub text : List ℕ
  pub was_read : WasReadWhole source.before source.now text
  pub within : length text ≤ TEXT_LIMIT
  pub is_trace : trace None text ≡ Ok t

-- a trace was read and played, out took its transcript, and the headline holds of it
pub record Showed (number : ℕ) (source out : Stream) (with_fault : Bool) : Type 0 where
  pub trace : Script
  pub read : ReadTrace source trace
  pub plays : PlayedIn trace number out with_fault
  pub headline : IsHeadline trace number plays.shown.first plays.world plays.shown.played

-- a trace was read and played, and a write failed
pub record BrokeOff (number : ℕ) (source out : Stream) : Type 0 where
  pub trace : Script
  pub read : ReadTrace source trace
  pub plays : BrokeOffIn trace number out

-- a text that is no trace, whose first line at fault is this one
pub record ReadNoTrace (source : Stream) (refused : ScriptRefused) : Type 0 where
  pub text : List ℕ
  pub was_read : WasReadWhole source.before source.now text
  pub within : length text ≤ TEXT_LIMIT
  pub is_refused : trace None text ≡ Err refused

-- what holds where a call of play ends so; the Rounds that pace the calls are drawn from the number
abbrev pub ShowEnds : ℕ → Stream → Stream → Ending → Type 0
ShowEnds number source out ending.Done = Showed number source out false
ShowEnds number source out ending.Faulted = Showed number source out true
ShowEnds number source out ending.Usage = ⊥
ShowEnds number source out ending.ReadFailed = ReadBrokeOff source × TookNothing out
ShowEnds number source out ending.WriteFailed = BrokeOff number source out
ShowEnds number source out (ending.Refused refused) = ReadNoTrace source refused × TookNothing out
ShowEnds number source out ending.NoMemory = TookNothing out
ShowEnds number source out ending.NotLegal = ⊥
ShowEnds number source out ending.HostFailed = ⊥
ShowEnds number source out ending.TooLong = ReadTooMuch source × TookNothing out

-- Where a trace is told and keeps the limit, and nothing fails, the call ends with a played trace's transcript, or for
-- want
-- of memory.
abbrev pub ShowsComplete : Type 0
ShowsComplete =
    (number : ℕ) (source out : Stream) (end : Ending) (text : List ℕ) (t : Script) → ShowEnds number source out end
    → source.before ≡ Some text → length text ≤ TEXT_LIMIT → trace None text ≡ Ok t → ¬ Failed source → ¬ Failed out
    → (end ≡ ending.Done) ⊎ ((end ≡ ending.Faulted) ⊎ (end ≡ ending.NoMemory))

-- and where it isn't a trace, its first line at fault is told
abbrev pub ShowsRefuse : Type 0
ShowsRefuse =
    (number : ℕ) (source out : Stream) (end : Ending) (text : List ℕ) (refused : ScriptRefused)
    → ShowEnds number source out end → source.before ≡ Some text → length text ≤ TEXT_LIMIT
    → trace None text ≡ Err refused → ¬ Failed source → ¬ Failed out
    → (end ≡ ending.Refused refused) ⊎ (end ≡ ending.NoMemory)
