-- What a call of the program promises: how it ends, and what it then read and wrote.
use Rattle.std.specs.Prelude.{◌≡◌, ℕ, ◌<◌, ◌≤◌, ◌⊎◌, Bool, true, false, nat_le, if◌then◌else◌, List, [], ◌∷◌, length, Option, None, Some, Result, Ok, Err, codes}
use Rattle.std.specs.Io.KnownBytes.{Appends, Keeps}
use Rattle.swap_io.specs.Causes.{Rose, WasRead, WasReadWhole, AppendsFront}
use Rattle.swap_script.specs.declared.ScriptRefused.{ScriptRefused}
use Rattle.swap_script.specs.Lines.{is_word, with_line_end}
use Rattle.swap_script.specs.Reading as reading
use Rattle.swap_script.specs.Transcript.{refusal}
use Rattle.swap_script.specs.declared.TheConstants.{TEXT_LIMIT}
use Rattle.swap_base.specs.declared.EntryNo.{EntryNo}
use Rattle.swap_record.specs.declared.Verdict.{Verdict}
use Rattle.swap_record.specs.declared.Verdict.TheVariants as verdict
use Rattle.swap_transcript.specs.declared.Judgement.{Judgement}
use Rattle.swap_transcript.specs.Transcripts.{Transcript}
use Rattle.swap_transcript.specs.Transcripts as transcripts
use Rattle.swap_transcript.specs.Verdicts.{IsJudged}
use Rattle.swap_roundtrip.specs.Numbers.{NumbersFit}
use Rattle.swap_roundtrip.specs.Back.{start_of, IsReadBack}
use Rattle.swap_io.specs.Words.{number as number_of}
use Rattle.swap_world.specs.World.{history}
use Rattle.swap_drill.specs.Drill.{drill_world}
use Rattle.swap_drill.specs.Laws.{KeepsHeadline}
use Rattle.swap_drill.specs.Text.{drill_text}
use Rattle.swap_drill.specs.declared.TheConstants.{MOST_CALLS}
use Rattle.swap_run.specs.Judging.{verdict_line}
use Rattle.swap_run.specs.declared.Command.{Command}
use Rattle.swap_run.specs.declared.Command.TheVariants.{RunScript, CheckTranscript, RunDrill}
use Rattle.swap_run.specs.declared.Ending.{Ending}
use Rattle.swap_run.specs.declared.Ending.TheVariants as ending
use Rattle.swap_run.specs.Run.{history_of, transcript_of, has_failed, IsHeadline}

-- a drill has as many calls as it may
abbrev pub drill_of : Option ℕ → Option ℕ → Option Command
drill_of (Some number) (Some calls) = if nat_le calls MOST_CALLS then Some (RunDrill number calls) else None
drill_of _ _ = None

abbrev pub text_command : List ℕ → Option Command
text_command word =
    if is_word (codes "script") word then Some RunScript
    else (if is_word (codes "check") word then Some CheckTranscript else None)

abbrev pub drill_command : List ℕ → List ℕ → List ℕ → Option Command
drill_command word number calls =
    if is_word (codes "drill") word then drill_of (number_of number) (number_of calls) else None

abbrev pub command_of : List (List ℕ) → Option Command
command_of (word ∷ []) = text_command word
command_of (word ∷ number ∷ calls ∷ []) = drill_command word number calls
command_of _ = None

-- a source, or a sink, over a call: the bytes left or taken, where they are told, and its count of faults
pub record Stream : Type 0 where
  pub before : Option (List ℕ)
  pub now : Option (List ℕ)
  pub faults_before : ℕ
  pub faults_now : ℕ

abbrev pub stream : Option (List ℕ) → Option (List ℕ) → ℕ → ℕ → Stream
stream before now faults_before faults_now =
    record { before = before; now = now; faults_before = faults_before; faults_now = faults_now }

abbrev pub Failed : Stream → Type 0
Failed s = Rose s.faults_before s.faults_now

abbrev pub TookNothing : Stream → Type 0
TookNothing s = Keeps s.before s.now

-- the source was read to its end, and its text is a script
pub record ReadScript (source : Stream) (s : reading.Script) : Type 0 where
  pub text : List ℕ
  pub was_read : WasReadWhole source.before source.now text
  pub within : length text ≤ TEXT_LIMIT
  pub is_script : reading.script text ≡ Ok s

-- a script ran: out took its transcript, and nothing else; a call failed or none did; the headline holds of it; and
-- reading what out took gives its history back
pub record RanScript (source out : Stream) (with_fault : Bool) : Type 0 where
  pub script : reading.Script
  pub read : ReadScript source script
  pub wrote : Appends out.before out.now (transcript_of script)
  pub fault : has_failed (history_of script) ≡ with_fault
  pub headline : IsHeadline script
  pub read_back : IsReadBack script (transcript_of script)

-- a write failed in a script's run: out took a front of the transcript
pub record BrokeOff (source out : Stream) : Type 0 where
  pub script : reading.Script
  pub read : ReadScript source script
  pub wrote : AppendsFront out.before out.now (transcript_of script)
  pub failed : Failed out

-- a text whose first line at fault is this one
pub record ReadFault (source : Stream) (refused : ScriptRefused) : Type 0 where
  pub text : List ℕ
  pub was_read : WasReadWhole source.before source.now text
  pub within : length text ≤ TEXT_LIMIT
  pub is_refused : reading.script text ≡ Err refused

-- a read failed, and no more was read before than a text may have
pub record ReadBrokeOff (source : Stream) : Type 0 where
  pub bytes : List ℕ
  pub was_read : WasRead source.before source.now bytes
  pub within : length bytes ≤ TEXT_LIMIT
  pub failed : Failed source

-- more was read than a text may have
pub record ReadTooMuch (source : Stream) : Type 0 where
  pub bytes : List ℕ
  pub was_read : WasRead source.before source.now bytes
  pub too_long : TEXT_LIMIT < length bytes

-- what a script's run leaves, by how it ends; the numbers of its lines fit their types
pub record RanIn (s : reading.Script) (out : Stream) (with_fault : Bool) : Type 0 where
  pub wrote : Appends out.before out.now (transcript_of s)
  pub fault : has_failed (history_of s) ≡ with_fault
  pub fits : NumbersFit (start_of s) s.inputs

abbrev pub LabEnds : reading.Script → Stream → Ending → Type 0
LabEnds s out ending.Done = RanIn s out false
LabEnds s out ending.Faulted = RanIn s out true
LabEnds s out ending.WriteFailed = AppendsFront out.before out.now (transcript_of s) × Failed out
LabEnds s out ending.NoMemory = TookNothing out
LabEnds s out _ = ⊥

-- what the run of a text leaves, by how it ends
abbrev pub TextEnds : Result reading.Script ScriptRefused → Stream → Ending → Type 0
TextEnds (Ok s) out end = LabEnds s out end
TextEnds (Err refused) out (ending.Refused r) = (r ≡ refused) × TookNothing out
TextEnds (Err refused) out _ = ⊥

-- what holds where a call ends so
abbrev pub ScriptEnds : Stream → Stream → Ending → Type 0
ScriptEnds source out ending.Done = RanScript source out false
ScriptEnds source out ending.Faulted = RanScript source out true
ScriptEnds source out ending.Usage = ⊥
ScriptEnds source out ending.ReadFailed = ReadBrokeOff source × TookNothing out
ScriptEnds source out ending.WriteFailed = BrokeOff source out
ScriptEnds source out (ending.Refused refused) = ReadFault source refused × TookNothing out
ScriptEnds source out ending.NoMemory = TookNothing out
ScriptEnds source out ending.NotLegal = ⊥
ScriptEnds source out ending.HostFailed = ⊥
ScriptEnds source out ending.TooLong = ReadTooMuch source × TookNothing out

-- the source was read to its end, and its text is a transcript that is judged so
pub record Judged (source : Stream) (j : Judgement) : Type 0 where
  pub text : List ℕ
  pub was_read : WasReadWhole source.before source.now text
  pub within : length text ≤ TEXT_LIMIT
  pub transcript : Transcript
  pub is_transcript : transcripts.transcript text ≡ Ok transcript
  pub judges : IsJudged transcript j

-- out took the line of this verdict, and nothing else
pub record Checked (source out : Stream) (verdict : Verdict) : Type 0 where
  pub judgement : Judgement
  pub judged : Judged source judgement
  pub is : judgement.verdict ≡ verdict
  pub wrote : Appends out.before out.now (verdict_line judgement)

-- a write failed: out took a front of the verdict's line
pub record CheckBrokeOff (source out : Stream) : Type 0 where
  pub judgement : Judgement
  pub judged : Judged source judgement
  pub wrote : AppendsFront out.before out.now (verdict_line judgement)
  pub failed : Failed out

-- a text that is no transcript, whose first line at fault is this one
pub record ReadNoTranscript (source : Stream) (refused : ScriptRefused) : Type 0 where
  pub text : List ℕ
  pub was_read : WasReadWhole source.before source.now text
  pub within : length text ≤ TEXT_LIMIT
  pub is_refused : transcripts.transcript text ≡ Err refused

-- what holds where a check ends so
abbrev pub CheckEnds : Stream → Stream → Ending → Type 0
CheckEnds source out ending.Done = Checked source out verdict.Legal
CheckEnds source out ending.NotLegal = (at : EntryNo) × Checked source out (verdict.NotLegal at)
CheckEnds source out ending.Faulted = ⊥
CheckEnds source out ending.Usage = ⊥
CheckEnds source out ending.ReadFailed = ReadBrokeOff source × TookNothing out
CheckEnds source out ending.WriteFailed = CheckBrokeOff source out
CheckEnds source out (ending.Refused refused) = ReadNoTranscript source refused × TookNothing out
CheckEnds source out ending.NoMemory = TookNothing out
CheckEnds source out ending.HostFailed = ⊥
CheckEnds source out ending.TooLong = ReadTooMuch source × TookNothing out

-- a drill ran: out took its summary, and nothing else; a call failed or none did; and the headline holds of it
pub record RanDrill (number calls : ℕ) (out : Stream) (with_fault : Bool) : Type 0 where
  pub wrote : Appends out.before out.now (drill_text number calls)
  pub fault : has_failed (history (drill_world number calls)) ≡ with_fault
  pub headline : KeepsHeadline number calls

-- what holds where a drill ends so
abbrev pub DrillEnds : ℕ → ℕ → Stream → Ending → Type 0
DrillEnds number calls out ending.Done = RanDrill number calls out false
DrillEnds number calls out ending.Faulted = RanDrill number calls out true
DrillEnds number calls out ending.WriteFailed = AppendsFront out.before out.now (drill_text number calls) × Failed out
DrillEnds number calls out ending.NoMemory = TookNothing out
DrillEnds number calls out _ = ⊥

-- words that are no form are answered by Usage, and by nothing else
abbrev pub Ends : Option Command → Stream → Stream → Ending → Type 0
Ends None source out ending.Usage = TookNothing source × TookNothing out
Ends None source out _ = ⊥
Ends (Some RunScript) source out end = ScriptEnds source out end
Ends (Some CheckTranscript) source out end = CheckEnds source out end
Ends (Some (RunDrill number calls)) source out end = TookNothing source × DrillEnds number calls out end

-- a drill has no more calls than it may
abbrev pub MayRun : Option Command → Type 0
MayRun (Some (RunDrill number calls)) = calls ≤ MOST_CALLS
MayRun _ = Unit {0}

-- the status and the words on err
abbrev pub status_of : Ending → ℕ
status_of ending.Done = 0
status_of ending.Faulted = 1
status_of ending.Usage = 2
status_of ending.ReadFailed = 3
status_of ending.WriteFailed = 4
status_of (ending.Refused refused) = 5
status_of ending.NoMemory = 6
status_of ending.NotLegal = 7
status_of ending.HostFailed = 8
status_of ending.TooLong = 9

abbrev pub err_text : Ending → List ℕ
err_text ending.Usage = with_line_end (codes "usage: remswap script|check|drill|play|lend")
err_text ending.ReadFailed = with_line_end (codes "read failed")
err_text ending.WriteFailed = with_line_end (codes "write failed")
err_text (ending.Refused refused) = refusal refused
err_text ending.NoMemory = with_line_end (codes "no memory")
err_text ending.HostFailed = with_line_end (codes "host failed")
err_text ending.TooLong = with_line_end (codes "input too long")
err_text _ = []

abbrev pub IsNoRefusal : Ending → Type 0
IsNoRefusal (ending.Refused refused) = ⊥
IsNoRefusal _ = Unit {0}

-- a sink took these bytes, or a front of them where it failed
abbrev pub Told : Stream → List ℕ → Type 0
Told s bytes = Appends s.before s.now bytes ⊎ (Failed s × AppendsFront s.before s.now bytes)

pub record EndsWith (command : Option Command) (source out err : Stream) (status : ℕ) : Type 0 where
  pub end : Ending
  pub holds : Ends command source out end
  pub code : status ≡ status_of end
  pub told : Told err (err_text end)

-- Where a script is told and keeps the limit, and nothing fails, the call ends with what a script gives, or for want of
-- memory.
abbrev pub Completes : Type 0
Completes =
    (source out : Stream) (end : Ending) (text : List ℕ) (s : reading.Script) → Ends (Some RunScript) source out end
    → source.before ≡ Some text → length text ≤ TEXT_LIMIT → reading.script text ≡ Ok s → ¬ Failed source → ¬ Failed out
    → (end ≡ ending.Done) ⊎ ((end ≡ ending.Faulted) ⊎ (end ≡ ending.NoMemory))

-- Where its output doesn't fail, a drill ends with its summary, or for want of memory.
abbrev pub DrillsComplete : Type 0
DrillsComplete =
    (source out : Stream) (end : Ending) (number calls : ℕ) → Ends (Some (RunDrill number calls)) source out end
    → ¬ Failed out → (end ≡ ending.Done) ⊎ ((end ≡ ending.Faulted) ⊎ (end ≡ ending.NoMemory))
