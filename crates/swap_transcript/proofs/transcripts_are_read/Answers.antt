use Rattle.swap_transcript.proofs.ResultWords.{pair_of-only}
use Rattle.std.proofs.Common.{ap, ◌∙◌}
use Rattle.swap_transcript.specs.Transcripts.{pair_of}
use Rattle.swap_transcript.proofs.ResultBack.{pair_of-back}
use Rattle.swap_transcript.proofs.WholeBack.{transcript-only, transcript-back, one_reading}
use Rattle.swap_transcript.proofs.PrintedLines.{bytes_are_printed, lines_are_printed}
use Rattle.swap_transcript.proofs.PrintedBack.{printed_is_read}
use Rattle.swap_transcript.proofs.transcripts_are_read.Goals as goal

pub returns-clause-lines : goal.returns-clause-lines
returns-clause-lines c = λ s words pair. (pair_of-only s words pair, λ h. ap (pair_of s) h.1 ∙ pair_of-back s pair h.0)

pub returns-clause-texts : goal.returns-clause-texts
returns-clause-texts c = λ text t. (transcript-only text t, transcript-back text t)

pub returns-clause-one : goal.returns-clause-one
returns-clause-one c = one_reading

pub returns-clause-bytes : goal.returns-clause-bytes
returns-clause-bytes c = bytes_are_printed

pub returns-clause-printed : goal.returns-clause-printed
returns-clause-printed c = lines_are_printed

pub returns-clause-back : goal.returns-clause-back
returns-clause-back c = printed_is_read
