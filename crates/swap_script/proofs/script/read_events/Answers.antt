-- Lines without a fault all read.
use Rattle.std.proofs.Common.{ap, sym, ◌∙◌}
use Rattle.swap_script.specs.Reading.{first_fault, nothing_above, inputs_of, calls_of, end_of}
use Rattle.std.specs.Prelude.{length}
use Rattle.swap_script.proofs.Read.{all_read}
use Rattle.swap_script.proofs.script.read_events.Goals as goal

pub invariant_of-result : goal.invariant_of-result
invariant_of-result c =
    let g = c.args.grammar in
    let s = c.args.geometry in
    let n = length c.args.lenders in
    let end = end_of c.args.text.now in
    let none = ap (λ p. first_fault g end s n p nothing_above) (sym c.again.ensures)
    ∙ ap (λ k. first_fault g end s k c.again.result nothing_above) (sym c.count.ensures.count) ∙ c.in-Ok.ensures.fault in (
      all_read g end s n c.args.place nothing_above none,
      c.requires.lenders,
      c.in-Ok.ensures.calls
          ∙ ap (λ p. calls_of (inputs_of g s p)) c.again.ensures,
      c.in-Ok.ensures.events
          ∙ ap (λ p. length (inputs_of g s p)) c.again.ensures,
      c.in-Ok.ensures.within.0,
      c.in-Ok.ensures.within.1,
    )
