use Rattle.std.proofs.Common.{arith, ap, sym, ◌∙◌}
use Rattle.swap_drill.specs.declared.tally.Tally.{Tally}
use Rattle.swap_drill.specs.Summary.{count_op}
use Rattle.swap_drill.proofs.Tallies.{tally_more}
use Rattle.swap_drill.proofs.tally.count_entries.Goals as goal

pub entries-preserved : goal.entries-preserved
entries-preserved c =
    c.counted-tally.ensures ∙ ap (λ (t : Tally). count_op t c.entry-entry.result.op) c.entries.invariant
    ∙ sym
    (tally_more c.args.history.now.history c.entries.number c.entry-entry.result
    (omega (arith, c.entries-test.true, c.len-number-end.ensures)) c.entry-entry.ensures)
