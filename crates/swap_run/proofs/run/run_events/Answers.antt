use Rattle.std.proofs.Common.{ap, ◌∙◌, sym}
use Rattle.swap_run.specs.Printing.{world_in}
use Rattle.swap_run.specs.Run.{has_failed}
use Rattle.swap_run.proofs.Ends.{err_of, ok_of, wrote, broke, history_is, fits_of}
use Rattle.swap_run.proofs.run.run_events.Goals as goal

pub returns-then-is_err-clause-ends : goal.returns-then-is_err-clause-ends
returns-then-is_err-clause-ends g c =
    let failed = sym c.is_err.ensures.value ∙ c.if-is_err.true in (
      broke c.args.script.now c.walk-walk.result (world_in c.in-Ok-world_for.world) _ _ c.walk-walk.ensures c.in-Ok-world_for.ensures.world
          (err_of _ _ failed c.print_run.ensures.err),
      err_of _ _ failed c.print_run.ensures.cause.failed,
    )

pub returns-then-has_failed-clause-ends : goal.returns-then-has_failed-clause-ends
returns-then-has_failed-clause-ends g c =
    let fine = sym c.is_err.ensures.value ∙ c.if-is_err.false in
    record {
      wrote =
          wrote c.args.script.now c.walk-walk.result (world_in c.in-Ok-world_for.world) _ _ c.walk-walk.ensures c.in-Ok-world_for.ensures.world
          (ok_of _ _ fine c.print_run.ensures.ok);
      fault =
          ap has_failed
          (sym
          (history_is c.args.script.now c.walk-walk.result (world_in c.in-Ok-world_for.world)
          (world_in c.print_run.new.world) c.walk-walk.ensures c.in-Ok-world_for.ensures.world (ok_of _ _ fine c.print_run.ensures.world)))
          ∙ ap has_failed (ap (λ d. d.device.history) (sym c.device.ensures) ∙ sym c.history.ensures.history) ∙ sym c.has_failed.ensures ∙ c.if-has_failed.true;
      fits =
          fits_of c.args.script.now c.walk-walk.result (world_in c.in-Ok-world_for.world) c.walk-walk.ensures c.in-Ok-world_for.ensures.world
          (ok_of _ _ fine c.print_run.ensures.fits);
    }

pub returns-clause-ends : goal.returns-clause-ends
returns-clause-ends g c =
    let fine = sym c.is_err.ensures.value ∙ c.if-is_err.false in
    record {
      wrote =
          wrote c.args.script.now c.walk-walk.result (world_in c.in-Ok-world_for.world) _ _ c.walk-walk.ensures c.in-Ok-world_for.ensures.world
          (ok_of _ _ fine c.print_run.ensures.ok);
      fault =
          ap has_failed
          (sym
          (history_is c.args.script.now c.walk-walk.result (world_in c.in-Ok-world_for.world)
          (world_in c.print_run.new.world) c.walk-walk.ensures c.in-Ok-world_for.ensures.world (ok_of _ _ fine c.print_run.ensures.world)))
          ∙ ap has_failed (ap (λ d. d.device.history) (sym c.device.ensures) ∙ sym c.history.ensures.history) ∙ sym c.has_failed.ensures
          ∙ c.if-has_failed.false;
      fits =
          fits_of c.args.script.now c.walk-walk.result (world_in c.in-Ok-world_for.world) c.walk-walk.ensures c.in-Ok-world_for.ensures.world
          (ok_of _ _ fine c.print_run.ensures.fits);
    }
