use Rattle.std.proofs.Common.{sym, ap}
use Rattle.swap_run.specs.Clause.{err_text}
use Rattle.swap_run.proofs.Ends.{told}
use Rattle.swap_run.proofs.tell.tell.Goals as goal

pub returns-in-Refused : goal.returns-in-Refused
returns-in-Refused g c =
    told _ _ _ c.tell_refusal.result (ap err_text (sym c.in-Refused.is)) c.tell_refusal.ensures.ok c.tell_refusal.ensures.err c.tell_refusal.ensures.cause

pub returns-in_default : goal.returns-in_default
returns-in_default g c = told _ _ _ c.write_line.result c.text_of.ensures.text c.write_line.ensures.ok c.write_line.ensures.err c.write_line.ensures.cause
