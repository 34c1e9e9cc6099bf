-- What a record is judged doesn't depend on its room.
use Rattle.std.proofs.Common.{◌≡◌, ℕ, length, Result, Ok, Err, ap, subst, ◌∙◌}
use Rattle.swap_record.specs.RecordView.{RecordView}
use Rattle.swap_record.specs.Judging.{Judges}
use Rattle.swap_record.specs.declared.Verdict.{Verdict}
use Rattle.swap_record.specs.declared.Verdict.TheVariants.{Legal, NotLegal}
use Rattle.swap_script.specs.declared.ScriptRefused.{ScriptRefused}
use Rattle.swap_transcript.specs.declared.Judgement.{Judgement}
use Rattle.swap_transcript.specs.declared.TranscriptRefused.{TranscriptRefused}
use Rattle.swap_transcript.specs.declared.TranscriptRefused.TheVariants as refused
use Rattle.swap_transcript.specs.Transcripts.{Transcript, Judged, judged_in, Gives}
use Rattle.swap_transcript.specs.Verdicts.{book_of, Answers}

abbrev booked : ℕ → ℕ → Judged → RecordView
booked size spare j = record { page_bytes = size; history = j.history; spare = spare; noted = j.noted }

judges_spare : (size spare other : ℕ) (j : Judged) (v : Verdict) → Judges (booked size spare j) v → Judges (booked size other j) v
judges_spare size spare other j Legal h = h
judges_spare size spare other j (NotLegal at) h = record { within = h.within; unmarked = h.unmarked; legal = h.legal; wrong = h.wrong }

pub judges_same : (b c : RecordView) (v : Verdict) → b.page_bytes ≡ c.page_bytes → judged_in b ≡ judged_in c → Judges b v → Judges c v
judges_same b c v size same h =
    let first = judges_spare b.page_bytes b.spare c.spare (judged_in b) v h in
    let second = subst (λ j. Judges (booked b.page_bytes c.spare j) v) same first in
    subst (λ n. Judges (booked n c.spare (judged_in c)) v) size second

-- what a text gives as a record, and what is answered of it
pub answers_err : (read : Result Transcript ScriptRefused) (e : TranscriptRefused) → Gives read (Err e) → Answers read (Err e)
answers_err (Ok t) (refused.Line at) h = h
answers_err (Ok t) refused.NoMemory h = h
answers_err (Err at) (refused.Line line) h = h
answers_err (Err at) refused.NoMemory h = h

pub answers_ok :
    (read : Result Transcript ScriptRefused) (book : RecordView) (j : Judgement) → Gives read (Ok book) → j.entries ≡ length book.history
    → Judges book j.verdict
    → Answers read (Ok j)
answers_ok (Ok t) book j h entries judges = (entries ∙ ap (λ x. length x.history) h.1, judges_same book (book_of t) j.verdict h.0 h.1 judges)
answers_ok (Err at) book j h entries judges = h
