use Rattle.std.proofs.Common.{arith, ap, sym, ◌∙◌}
use Rattle.swap_script.specs.Transcript.{line}
use Rattle.swap_run.proofs.Printed.{printed_more, printed_broke, line_fits_at, any_err}
use Rattle.swap_wire.specs.Fabric.{FabricOf}
use Rattle.swap_run.proofs.print.print_events.Goals as goal

pub events-preserved : goal.events-preserved
events-preserved g c = record {
  printing =
      printed_more c.steps_are_next.ensures c.lines_stay.ensures _ _ _ _ _ _ c.in-Some.event c.next.new.page c.events.page c.step-seen.result c.bytes.result.now
      _ _ _ c.events.invariant.printing
      (sym c.in-Some.is ∙ c.next.ensures.event) c.next.ensures.left c.next.ensures.page
      (record {
        step = c.step-seen.ensures.step;
        of = c.step-seen.ensures.of;
        keeps = c.step-seen.ensures.room;
        grows = c.step-seen.ensures.grows;
        log = c.step-seen.ensures.log;
        adds = c.step-seen.ensures.adds;
        fits =
            line_fits_at c.line_fits.ensures
            (c.history-history.ensures.page ∙ ap (λ d. d.device.sizes.page_bytes) c.device.ensures
            ∙ ap (λ (o : FabricOf). o.sizes.page_bytes) c.step-seen.ensures.of)
            (c.history-history.ensures.history ∙ ap (λ d. d.device.history) c.device.ensures);
        is_line =
            c.bytes.ensures.bytes ∙ c.event_line.ensures
            ∙ ap (λ h. line h (c.in-Some.event, c.step-seen.result)) (c.history-history.ensures.history ∙ ap (λ d. d.device.history) c.device.ensures);
      })
      c.in_ok-write_line.ensures.ok;
  faults = omega (arith, c.events.invariant.faults, c.write_line.ensures.cause.later);
  page = c.step-seen.auto.page ∙ c.next.auto.page ∙ c.events.invariant.page ∙ ap (λ s. s.sizes.page_bytes) (sym c.next.ensures.left);
}

pub returns-in_err-write_line-clause-err : goal.returns-in_err-write_line-clause-err
returns-in_err-write_line-clause-err g c =
    any_err _ _
    (printed_broke c.steps_are_next.ensures c.lines_stay.ensures c.histories_go_on.ensures _ _ c.events.world c.step-seen.new.self c.events.walk c.in-Some.event
    c.next.new.page c.events.page c.step-seen.result c.bytes.result.now _ _ _ c.events.invariant.printing
    (sym c.in-Some.is ∙ c.next.ensures.event) c.next.ensures.page
    (record {
      step = c.step-seen.ensures.step;
      of = c.step-seen.ensures.of;
      keeps = c.step-seen.ensures.room;
      grows = c.step-seen.ensures.grows;
      log = c.step-seen.ensures.log;
      adds = c.step-seen.ensures.adds;
      fits =
          line_fits_at c.line_fits.ensures
          (c.history-history.ensures.page ∙ ap (λ d. d.device.sizes.page_bytes) c.device.ensures
          ∙ ap (λ (o : FabricOf). o.sizes.page_bytes) c.step-seen.ensures.of)
          (c.history-history.ensures.history ∙ ap (λ d. d.device.history) c.device.ensures);
      is_line =
          c.bytes.ensures.bytes ∙ c.event_line.ensures
          ∙ ap (λ h. line h (c.in-Some.event, c.step-seen.result)) (c.history-history.ensures.history ∙ ap (λ d. d.device.history) c.device.ensures);
    })
    c.in_err-write_line.ensures.err)
