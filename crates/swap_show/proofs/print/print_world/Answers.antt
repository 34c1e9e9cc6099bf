use Rattle.std.proofs.Common.{ap, ◌∙◌, length}
use Rattle.swap_script.specs.Transcript.{end_line}
use Rattle.swap_run.specs.Printing.{headers}
use Rattle.swap_run.proofs.Printed.{first_broke, second_broke, third_broke, all_taken, any_err, err_by, ok_by}
use Rattle.swap_show.specs.Printing.{log_lines}
use Rattle.swap_show.proofs.print.print_world.Goals as goal

pub returns-in_err-print_headers-clause-err : goal.returns-in_err-print_headers-clause-err
returns-in_err-print_headers-clause-err g c =
    let head = ap (λ s. headers s c.args.lenders.now) (c.geometry-geometry.ensures ∙ ap (λ d. d.device.sizes) c.device.ensures) in
    any_err _ _
    (first_broke _ _ _ (headers c.args.world.now.core.device.sizes c.args.lenders.now) (log_lines c.args.world.now)
    (end_line (length c.args.world.now.core.device.history)) head c.in_err-print_headers.ensures.err)

pub returns-in_err-print_log-clause-err : goal.returns-in_err-print_log-clause-err
returns-in_err-print_log-clause-err g c =
    let head = ap (λ s. headers s c.args.lenders.now) (c.geometry-geometry.ensures ∙ ap (λ d. d.device.sizes) c.device.ensures) in
    any_err _ _
    (second_broke _ _ _ _ (headers c.args.world.now.core.device.sizes c.args.lenders.now) (log_lines c.args.world.now)
    (end_line (length c.args.world.now.core.device.history)) head c.in_ok-print_headers.ensures.ok c.in_err-print_log.ensures.err)

pub returns-clause-ok : goal.returns-clause-ok
returns-clause-ok g c =
    let head = ap (λ s. headers s c.args.lenders.now) (c.geometry-geometry.ensures ∙ ap (λ d. d.device.sizes) c.device.ensures) in
    let end =
    c.bytes.ensures.bytes ∙ c.end_line.ensures
    ∙ ap end_line (c.len.ensures ∙ ap length (c.history.ensures.history ∙ ap (λ d. d.device.history) c.device-2.ensures)) in
    ok_by _ _ _
    (all_taken _ _ _ _ _ (headers c.args.world.now.core.device.sizes c.args.lenders.now) (log_lines c.args.world.now) c.bytes.result.now
    (end_line (length c.args.world.now.core.device.history)) head end c.in_ok-print_headers.ensures.ok c.in_ok-print_log.ensures.ok)
    c.write_line.ensures.ok

pub returns-clause-err : goal.returns-clause-err
returns-clause-err g c =
    let head = ap (λ s. headers s c.args.lenders.now) (c.geometry-geometry.ensures ∙ ap (λ d. d.device.sizes) c.device.ensures) in
    let end =
    c.bytes.ensures.bytes ∙ c.end_line.ensures
    ∙ ap end_line (c.len.ensures ∙ ap length (c.history.ensures.history ∙ ap (λ d. d.device.history) c.device-2.ensures)) in
    err_by _ _ _
    (third_broke _ _ _ _ _ (headers c.args.world.now.core.device.sizes c.args.lenders.now) (log_lines c.args.world.now) c.bytes.result.now
    (end_line (length c.args.world.now.core.device.history)) head end c.in_ok-print_headers.ensures.ok c.in_ok-print_log.ensures.ok)
    c.write_line.ensures.err
