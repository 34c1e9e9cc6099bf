use Rattle.std.proofs.Common.{◌-◌, ◌∙◌, sym, arith}
use Rattle.swap_run.proofs.Failed.{failed_here, none_here, none_at_all}
use Rattle.swap_run.proofs.run.has_failed.Goals as goal

pub entries-preserved : goal.entries-preserved
entries-preserved c =
    none_here c.args.history.now.history c.entries.i (c.len-len.result - 1 - c.entries.i) c.entry.result
    (omega (arith, c.entries-test.true, c.len-len.ensures)) c.entry.ensures (sym c.is_failed.ensures ∙ c.if-is_failed.false) c.entries.invariant

pub returns-then-is_failed : goal.returns-then-is_failed
returns-then-is_failed c =
    sym
    (failed_here c.args.history.now.history c.entries.i (c.len-len.result - 1 - c.entries.i) c.entry.result
    (omega (arith, c.entries-test.true, c.len-len.ensures)) c.entry.ensures (sym c.is_failed.ensures ∙ c.if-is_failed.true))

pub returns : goal.returns
returns c =
    sym (none_at_all c.args.history.now.history c.entries.i (omega (arith, c.entries-test.false, c.entries.auto.i-end, c.len-len.ensures)) c.entries.invariant)
