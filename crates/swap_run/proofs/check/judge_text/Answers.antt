use Rattle.swap_transcript.specs.Transcripts.{transcript}
use Rattle.swap_run.proofs.CheckSteps.{text_judged, text_refused, text_unread}
use Rattle.swap_run.proofs.check.judge_text.Goals as goal

pub returns-in-Ok : goal.returns-in-Ok
returns-in-Ok c = text_judged (transcript c.args.text.now) c.in-Ok.judgement c.in-Ok.ensures

pub returns-in-Err-Line : goal.returns-in-Err-Line
returns-in-Err-Line c = text_refused (transcript c.args.text.now) c.in-Err-Line.refused (rw c.in-Err-Line.field-0-is at c.in-Err-Line.ensures)

pub returns-in-Err-NoMemory : goal.returns-in-Err-NoMemory
returns-in-Err-NoMemory c = text_unread (transcript c.args.text.now)
