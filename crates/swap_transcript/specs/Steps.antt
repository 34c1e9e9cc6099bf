-- What the code's steps give, line by line.
use Rattle.std.specs.Prelude.{◌≡◌, ℕ, List, [], Result, Ok, Err}
use Rattle.swap_record.specs.RecordView.{RecordView}
use Rattle.swap_script.specs.declared.Why.{Why}
use Rattle.swap_script.specs.declared.ScriptRefused.{ScriptRefused}
use Rattle.swap_transcript.specs.declared.TranscriptRefused.{TranscriptRefused}
use Rattle.swap_transcript.specs.declared.TranscriptRefused.TheVariants as refused
use Rattle.swap_transcript.specs.declared.read.Counts.{Counts}
use Rattle.swap_transcript.specs.declared.read.Pair.{Pair as CodePair}
use Rattle.swap_transcript.specs.Spelled.{told_with}
use Rattle.swap_transcript.specs.Transcripts.{Pair, Above, Judged, judged_in, count_pair, with_pair}

abbrev pub above_of : Counts → Above
above_of counts = record { events = counts.events; entries = counts.entries }

abbrev pub pair_with : List ℕ → CodePair → Pair
pair_with bytes pair = record { event = pair.event; told = told_with bytes pair.told }

-- a line was read: it is this pair's, which counts now and is judged
pub record WasRead (read : Result Pair Why) (above_before above_now : Above) (before now : Judged) : Type 0 where
  pub pair : Pair
  pub is : read ≡ Ok pair
  pub counts : above_now ≡ count_pair above_before pair
  pub judges : now ≡ with_pair before pair

-- a line is refused: for its own fault, or for want of memory
abbrev pub IsRefused : ℕ → Result Pair Why → TranscriptRefused → Type 0
IsRefused n read (refused.Line at) = (line : Why) × (read ≡ Err line) × (at ≡ record { line = n; why = line })
IsRefused n read refused.NoMemory = Unit {0}

abbrev pub StepGives : ℕ → Result Pair Why → Above → Judged → Judged → Result Counts TranscriptRefused → Type 0
StepGives n read above before now (Ok counts) = WasRead read above (above_of counts) before now
StepGives n read above before now (Err e) = IsRefused n read e

-- what all lines give: what is judged of them, or the line at fault
abbrev pub LinesGive : Result Judged ScriptRefused → Judged → Result (Unit {0}) TranscriptRefused → Type 0
LinesGive read now (Ok u) = read ≡ Ok now
LinesGive read now (Err (refused.Line at)) = read ≡ Err at
LinesGive read now (Err refused.NoMemory) = Unit {0}

-- a last line, and those behind it, give this
abbrev pub EndGives : Result (List Pair) ScriptRefused → Result (Unit {0}) ScriptRefused → Type 0
EndGives read (Ok u) = read ≡ Ok []
EndGives read (Err at) = read ≡ Err at

-- a record of what the lines give, in pages of this size
abbrev pub RecordGives : ℕ → Result Judged ScriptRefused → Result RecordView TranscriptRefused → Type 0
RecordGives size read (Ok book) = (book.page_bytes ≡ size) × (read ≡ Ok (judged_in book))
RecordGives size read (Err (refused.Line at)) = read ≡ Err at
RecordGives size read (Err refused.NoMemory) = Unit {0}
