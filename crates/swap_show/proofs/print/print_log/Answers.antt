use Rattle.std.proofs.Common.{ap, ◌∙◌, sym, subst, arith}
use Rattle.swap_record.specs.History.{History}
use Rattle.swap_run.proofs.Printed.{any_err}
use Rattle.swap_script.specs.Transcript.{HasEntry, line}
use Rattle.swap_show.proofs.Lines.{line_taken, line_broke, all_taken}
use Rattle.swap_show.proofs.print.print_log.Goals as goal

pub event_line-requires : goal.event_line-requires
event_line-requires g c =
    let P : History → Type 0 = λ h. HasEntry h c.logged-event.result.1 in
    subst P (sym (c.history-history.ensures.history ∙ ap (λ d. d.device.history) c.device.ensures))
    (c.entries_stand.ensures c.lines.i _ _ c.logged-event.ensures)

pub lines-preserved : goal.lines-preserved
lines-preserved g c = record {
  taken =
      line_taken
      (line c.args.world.now.core.device.history) _ _ _ c.args.world.now.log c.lines.i c.logged-event.result c.bytes.result.now c.logged-event.ensures
      (c.bytes.ensures.bytes ∙ c.event_line.ensures
      ∙ ap (λ h. line h c.logged-event.result) (c.history-history.ensures.history ∙ ap (λ d. d.device.history) c.device.ensures))
      c.lines.invariant.taken c.in_ok-write_line.ensures.ok;
  faults = omega (arith, c.lines.invariant.faults, c.write_line.ensures.cause.later);
}

pub returns-in_err-write_line-clause-err : goal.returns-in_err-write_line-clause-err
returns-in_err-write_line-clause-err g c =
    any_err _ _
    (line_broke (line c.args.world.now.core.device.history) _ _ _ c.args.world.now.log c.lines.i c.logged-event.result c.bytes.result.now c.logged-event.ensures
    (c.bytes.ensures.bytes ∙ c.event_line.ensures
    ∙ ap (λ h. line h c.logged-event.result) (c.history-history.ensures.history ∙ ap (λ d. d.device.history) c.device.ensures))
    c.lines.invariant.taken c.in_err-write_line.ensures.err)

pub returns-clause-ok : goal.returns-clause-ok
returns-clause-ok g c =
    all_taken (line c.args.world.now.core.device.history) _ _ c.args.world.now.log c.lines.i
    (omega (arith, c.lines-test.false, c.lines.auto.i-end, c.log_len-i-end.ensures)) c.lines.invariant.taken
