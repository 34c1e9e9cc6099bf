-- One more line is an event's, and owes nothing.
use Rattle.std.proofs.Common.{◌≡◌, ◌∙◌, ap, sym, length, arith, Some}
use Rattle.swap_script.specs.Reading.{first_fault, inputs_of, calls_of, count_line, input_of, end_of}
use Rattle.swap_script.specs.Spelled.{spelled_line, above_of}
use Rattle.swap_script.proofs.Read.{first_fault-on, inputs_of-on, calls_of-cons, owes_nothing, calls_in-le}
use Rattle.swap_script.proofs.script.checked_lines.Goals as goal

pub with-counts-requires-clause-within : goal.with-counts-requires-clause-within
with-counts-requires-clause-within c =
    (owes_nothing c.args.grammar c.args.geometry.now c.args.lenders (above_of c.reading.counts) (spelled_line c.in-Some-line_of.spelled)
    (sym c.in_default-fault_of.ensures)).1

pub reading-preserved : goal.reading-preserved
reading-preserved c =
    let g = c.args.grammar in
    let end = end_of c.args.text.now in
    let s = c.args.geometry.now in
    let lenders = c.args.lenders in
    let line = spelled_line c.in-Some-line_of.spelled in
    let passed = owes_nothing g s lenders (above_of c.reading.counts) line (sym c.in_default-fault_of.ensures) in
    let inputs = ap (inputs_of g s) c.in-Some.ensures
    ∙ inputs_of-on g s c.in-Some.kept.line c.in-Some.kept.text.now c.next.new.self line c.in-Some-line_of.ensures.line in
    let calls = ap calls_of inputs ∙ calls_of-cons (input_of s line) (inputs_of g s c.next.new.self) in
    let counts : count_line (above_of c.reading.counts) (Some line) ≡ above_of c.with-counts.result =
    cc (c.with-counts.ensures.events, c.with-counts.ensures.calls) in
    record {
      fault = c.reading.invariant.fault ∙ ap (λ p. first_fault g end s lenders p (above_of c.reading.counts)) c.in-Some.ensures
          ∙ first_fault-on g end s lenders
          (above_of c.reading.counts) c.in-Some.kept.line c.in-Some.kept.text.now c.next.new.self line c.in-Some-line_of.ensures.line
          c.in_default-fault_of.ensures
          ∙ ap (first_fault g end s lenders c.next.new.self) counts;
      events = omega (arith, ap length inputs, c.with-counts.ensures.events);
      calls = omega (arith, calls, c.with-counts.ensures.calls);
      fewer = omega (arith, calls_in-le c.in-Some-line_of.spelled.event, c.with-counts.ensures.events, c.with-counts.ensures.calls);
      within = omega (arith, passed.1, c.with-counts.ensures.events);
    }
