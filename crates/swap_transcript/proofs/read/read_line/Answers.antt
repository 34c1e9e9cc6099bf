use Rattle.std.proofs.Common.{[], sym, arith}
use Rattle.swap_transcript.specs.Steps.{above_of, pair_with}
use Rattle.swap_transcript.proofs.Lines.{owes_nothing, caller_few}
use Rattle.swap_transcript.proofs.read.read_line.Goals as goal

pub put-requires-clause-caller : goal.put-requires-clause-caller
put-requires-clause-caller c =
    let passed = owes_nothing c.args.geometry.now (above_of c.args.above) (pair_with [] c.in-Some.pair) (sym (c.in_default-fault_of.ensures [])) in
    caller_few c.args.geometry.now c.in-Some.pair.event c.limits.ensures.within.callers.1 passed.0

pub returns-clause-counts : goal.returns-clause-counts
returns-clause-counts c =
    let passed = owes_nothing c.args.geometry.now (above_of c.args.above) (pair_with [] c.in-Some.pair) (sym (c.in_default-fault_of.ensures [])) in
    (omega (arith, c.entries_in.ensures.few, c.requires.counts), omega (arith, passed.1))
