use Rattle.swap_run.proofs.CheckCompletes.{checks_transcripts, checks_refuse}
use Rattle.swap_run.proofs.checks_complete.Goals as goal

pub returns-clause-transcripts : goal.returns-clause-transcripts
returns-clause-transcripts c = checks_transcripts c.passes_to_prefixes.ensures.ordered c.passes_to_prefixes.ensures.faithful

pub returns-clause-refuse : goal.returns-clause-refuse
returns-clause-refuse c = checks_refuse
