use Rattle.std.proofs.Common.{Result, Ok, Err}
use Rattle.swap_script.specs.declared.ScriptRefused.{ScriptRefused}
use Rattle.swap_transcript.specs.declared.TranscriptRefused.TheVariants as refused
use Rattle.swap_transcript.specs.Transcripts.{Transcript, transcript}
use Rattle.swap_transcript.specs.Verdicts.{Answers}
use Rattle.swap_transcript.proofs.Judges.{answers_err, answers_ok}
use Rattle.swap_transcript.proofs.check.check_transcript.Goals as goal

pub returns-in-Err : goal.returns-in-Err
returns-in-Err c = answers_err (transcript c.args.text.now) c.in-Err.refused c.in-Err.ensures

pub returns-in-Ok-check : goal.returns-in-Ok-check
returns-in-Ok-check c =
    answers_ok (transcript c.args.text.now) c.in-Ok.history
    (record { entries = c.len-entries.result; verdict = c.in-Ok-check.verdict }) c.in-Ok.ensures c.len-entries.ensures c.in-Ok-check.ensures

no_memory : (read : Result Transcript ScriptRefused) → Answers read (Err refused.NoMemory)
no_memory (Ok t) = tt
no_memory (Err at) = tt

pub returns : goal.returns
returns c = no_memory (transcript c.args.text.now)
