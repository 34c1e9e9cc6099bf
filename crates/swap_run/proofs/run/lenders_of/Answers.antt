use Rattle.std.proofs.Common.{List, [], ◌∷◌, ◌++◌, ◌∙◌, ap, sym, subst}
use Rattle.std.specs.List.{All}
use Rattle.swap_base.specs.declared.geometry.LenderSpec.{LenderSpec}
use Rattle.swap_script.specs.Reading.{IsWithinLimits}
use Rattle.swap_run.proofs.Taken.{take_given, pushed_all, pushed_ok}
use Rattle.swap_run.proofs.run.lenders_of.Goals as goal

pub lenders-preserved : goal.lenders-preserved
lenders-preserved c =
    let fine = sym c.is_err.ensures.value ∙ c.if-is_err.false in
    let items =
    pushed_ok c.push.result (c.lenders.lenders.items ++ c.lender.result ∷ []) c.lenders.lenders.items c.push.new.self.items fine c.push.ensures.items in
    record {
      taken =
          items ∙ ap (λ l. l ++ c.lender.result ∷ []) c.lenders.invariant.taken
          ∙ sym (take_given c.args.script.now.lenders c.lenders.i c.lender.result c.lender.ensures.spec);
      limits =
          let P : List LenderSpec → Type 0 = λ l. All IsWithinLimits l in
          subst P (sym items) (pushed_all IsWithinLimits c.lenders.lenders.items c.lender.result c.lenders.invariant.limits c.lender.ensures.limits);
    }
