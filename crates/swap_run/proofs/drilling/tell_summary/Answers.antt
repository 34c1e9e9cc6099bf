use Rattle.std.proofs.Common.{◌<◌, sym, ap, ◌∙◌, subst, arith}
use Rattle.swap_world.specs.World.{history}
use Rattle.swap_drill.specs.declared.summary.DrillSummary.{DrillSummary}
use Rattle.swap_drill.specs.Drill.{drill_world}
use Rattle.swap_drill.specs.Text.{summary_text}
use Rattle.swap_run.proofs.Ends.{ok_of}
use Rattle.swap_run.proofs.Printed.{taken_as}
use Rattle.swap_run.proofs.DrillEnds.{none_counted, some_counted}
use Rattle.swap_run.proofs.drilling.tell_summary.Goals as goal

pub returns-then-summary-gt0-clause-ends : goal.returns-then-summary-gt0-clause-ends
returns-then-summary-gt0-clause-ends g c =
    let fine = sym c.is_err.ensures.value ∙ c.if-is_err.false in
    record {
      wrote =
          taken_as _ _ _ _ (c.bytes.ensures.bytes ∙ c.put_summary.ensures ∙ ap (λ (s : DrillSummary). summary_text c.args.number c.args.calls s) c.requires)
          (ok_of _ _ fine c.write_line.ensures.ok);
      fault = some_counted (history (drill_world c.args.number c.args.calls)) (subst (λ (s : DrillSummary). 0 < s.faults) c.requires c.if-summary-gt0.true);
      headline = c.drills_keep_the_headline.ensures c.args.number c.args.calls;
    }

pub returns-else-summary-gt0-clause-ends : goal.returns-else-summary-gt0-clause-ends
returns-else-summary-gt0-clause-ends g c =
    let fine = sym c.is_err.ensures.value ∙ c.if-is_err.false in
    record {
      wrote =
          taken_as _ _ _ _ (c.bytes.ensures.bytes ∙ c.put_summary.ensures ∙ ap (λ (s : DrillSummary). summary_text c.args.number c.args.calls s) c.requires)
          (ok_of _ _ fine c.write_line.ensures.ok);
      fault =
          none_counted (history (drill_world c.args.number c.args.calls))
          (ap (λ (s : DrillSummary). s.faults) (sym c.requires) ∙ omega (arith, c.if-summary-gt0.false));
      headline = c.drills_keep_the_headline.ensures c.args.number c.args.calls;
    }
