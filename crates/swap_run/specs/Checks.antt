-- A check, step by step: what is read of a source, and what is written of a verdict.
use Rattle.std.specs.Prelude.{◌≡◌, ℕ, ◌≤◌, ◌⊎◌, List, length, Some, Result, Ok, Err}
use Rattle.std.specs.Io.KnownBytes.{Appends}
use Rattle.swap_base.specs.declared.EntryNo.{EntryNo}
use Rattle.swap_io.specs.Causes.{AppendsFront}
use Rattle.swap_record.specs.declared.Verdict.{Verdict}
use Rattle.swap_record.specs.declared.Verdict.TheVariants as verdict
use Rattle.swap_record.specs.Judging.{Judges}
use Rattle.swap_transcript.specs.declared.Judgement.{Judgement}
use Rattle.swap_script.specs.declared.ScriptRefused.{ScriptRefused}
use Rattle.swap_script.specs.declared.TheConstants.{TEXT_LIMIT}
use Rattle.swap_transcript.specs.Transcripts.{Transcript, transcript}
use Rattle.swap_transcript.specs.Verdicts.{IsJudged, book_of}
use Rattle.swap_run.specs.Judging.{verdict_line}
use Rattle.swap_run.specs.declared.Ending.{Ending}
use Rattle.swap_run.specs.declared.Ending.TheVariants as ending
use Rattle.swap_run.specs.Clause.{Stream, Failed, TookNothing, Judged, CheckEnds, ReadNoTranscript, ReadBrokeOff, ReadTooMuch}

-- what is judged of a text: as a transcript, or how the call ends without a verdict
abbrev pub TextJudged : Result Transcript ScriptRefused → Result Judgement Ending → Type 0
TextJudged (Ok t) (Ok j) = IsJudged t j
TextJudged (Err at) (Err (ending.Refused refused)) = refused ≡ at
TextJudged read (Err ending.NoMemory) = Unit {0}
TextJudged _ _ = ⊥

-- what is judged of a source, or how the call ends without a verdict
abbrev pub SourceJudged : Stream → Result Judgement Ending → Type 0
SourceJudged source (Ok j) = Judged source j
SourceJudged source (Err ending.ReadFailed) = ReadBrokeOff source
SourceJudged source (Err (ending.Refused refused)) = ReadNoTranscript source refused
SourceJudged source (Err ending.NoMemory) = Unit {0}
SourceJudged source (Err ending.TooLong) = ReadTooMuch source
SourceJudged source (Err _) = ⊥

-- how a call ends that told this verdict
abbrev pub ending_of : Verdict → Ending
ending_of verdict.Legal = ending.Done
ending_of (verdict.NotLegal at) = ending.NotLegal

-- how the writing of a verdict ends
abbrev pub VerdictEnds : Judgement → Stream → Ending → Type 0
VerdictEnds j out ending.Done = (j.verdict ≡ verdict.Legal) × Appends out.before out.now (verdict_line j)
VerdictEnds j out ending.NotLegal =
    (at : EntryNo) × (j.verdict ≡ verdict.NotLegal at) × Appends out.before out.now (verdict_line j)
VerdictEnds j out ending.WriteFailed = AppendsFront out.before out.now (verdict_line j) × Failed out
VerdictEnds j out ending.NoMemory = TookNothing out
VerdictEnds j out _ = ⊥

-- the transcript's history is one of an array of pages, and each printed number was its place
abbrev pub IsLegalTranscript : Transcript → Type 0
IsLegalTranscript t = Judges (book_of t) verdict.Legal

-- Where a transcript is told and keeps the limit, and nothing fails, a check ends as legal exactly where it is, and
-- else
-- as not legal, or for want of memory.
abbrev pub ChecksTranscripts : Type 0
ChecksTranscripts =
    (source out : Stream) (end : Ending) (text : List ℕ) (t : Transcript) → CheckEnds source out end
    → source.before ≡ Some text → length text ≤ TEXT_LIMIT → transcript text ≡ Ok t → ¬ Failed source → ¬ Failed out
    → ((end ≡ ending.Done) × IsLegalTranscript t)
    ⊎ (((end ≡ ending.NotLegal) × ¬ IsLegalTranscript t) ⊎ (end ≡ ending.NoMemory))

-- Where the text is none, it is refused, or memory is wanting.
abbrev pub ChecksRefuse : Type 0
ChecksRefuse =
    (source out : Stream) (end : Ending) (text : List ℕ) (at : ScriptRefused) → CheckEnds source out end
    → source.before ≡ Some text → length text ≤ TEXT_LIMIT → transcript text ≡ Err at → ¬ Failed source → ¬ Failed out
    → (end ≡ ending.Refused at) ⊎ (end ≡ ending.NoMemory)
