use Rattle.swap_roundtrip.proofs.Runs.{back}
use Rattle.swap_roundtrip.proofs.scripts_are_read_back.Goals as goal

pub returns : goal.returns
returns c =
    back c.always_legal.ensures c.histories_go_on.ensures c.transcripts_are_read.ensures.printed c.transcripts_are_read.ensures.back c.events_in_range.ensures
    c.pages_are_whole.ensures
