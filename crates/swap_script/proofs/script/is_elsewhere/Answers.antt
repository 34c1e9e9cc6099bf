-- The first word of a trace's line shows whose it is.
use Rattle.swap_script.specs.Lines.{words_of}
use Rattle.swap_script.proofs.Parts.{elsewhere_calls}
use Rattle.swap_script.proofs.script.is_elsewhere.Goals as goal

pub returns-in-Trace-CallsOf : goal.returns-in-Trace-CallsOf
returns-in-Trace-CallsOf c =
    elsewhere_calls c.args.grammar c.in-Trace-CallsOf.tcp-0 c.args.part c.in-Trace-CallsOf.caller
    (words_of c.args.line.now) c.begins_with.result c.in-Trace-CallsOf.is-1 c.in-Trace-CallsOf.is-0 c.begins_with.ensures
