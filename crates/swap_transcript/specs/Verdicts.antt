-- What a check of a transcript answers: how many entries it has, and whether their history is legal.
use Rattle.std.specs.Prelude.{◌≡◌, ℕ, length, Result, Ok, Err}
use Rattle.swap_record.specs.RecordView.{RecordView}
use Rattle.swap_record.specs.Judging.{Judges}
use Rattle.swap_script.specs.declared.ScriptRefused.{ScriptRefused}
use Rattle.swap_transcript.specs.declared.Judgement.{Judgement}
use Rattle.swap_transcript.specs.declared.TranscriptRefused.{TranscriptRefused}
use Rattle.swap_transcript.specs.declared.TranscriptRefused.TheVariants as refused
use Rattle.swap_transcript.specs.Transcripts.{Transcript, judge}

-- the entries of a transcript as a record has them
abbrev pub book_of : Transcript → RecordView
book_of t =
    record { page_bytes = t.sizes.page_bytes; history = (judge t).history; spare = 0; noted = (judge t).noted }

abbrev pub entries_of : Transcript → ℕ
entries_of t = length (judge t).history

-- all entries are right, or this one is the first that is wrong
abbrev pub IsJudged : Transcript → Judgement → Type 0
IsJudged t j = (j.entries ≡ entries_of t) × Judges (book_of t) j.verdict

-- what the check of a text answers: of a transcript what it is judged, else its first line at fault; want of memory
-- tells
-- nothing
abbrev pub Answers : Result Transcript ScriptRefused → Result Judgement TranscriptRefused → Type 0
Answers (Ok t) (Ok j) = IsJudged t j
Answers (Err at) (Err (refused.Line line)) = line ≡ at
Answers read (Err refused.NoMemory) = Unit {0}
Answers _ _ = ⊥
