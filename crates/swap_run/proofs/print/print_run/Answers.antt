use Rattle.std.proofs.Common.{ap, ◌∙◌, sym, length}
use Rattle.swap_world.specs.World.{reach, history}
use Rattle.swap_script.specs.Transcript.{end_line}
use Rattle.swap_run.specs.Printing.{world_in, headers, lines_from}
use Rattle.swap_run.proofs.Printed.{first_broke, second_broke, third_broke, all_taken, any_err, err_by, ok_by}
use Rattle.swap_run.proofs.print.print_run.Goals as goal

pub returns-in_err-print_headers-clause-err : goal.returns-in_err-print_headers-clause-err
returns-in_err-print_headers-clause-err g c =
    let head =
    ap (λ s. headers s c.args.lenders.now) (c.geometry-geometry.ensures ∙ ap (λ d. d.device.sizes) c.device.ensures ∙ sym c.requires.room.sizes)
    ∙ ap (λ l. headers c.args.walk.now.sizes l) c.requires.lenders in
    any_err _ _
    (first_broke _ _ _ (headers c.args.walk.now.sizes c.args.walk.now.lenders) (lines_from (world_in c.args.world.now) c.args.walk.now.inputs)
    (end_line (length (history (reach (world_in c.args.world.now) c.args.walk.now.inputs)))) head c.in_err-print_headers.ensures.err)

pub returns-in_err-print_events-clause-err : goal.returns-in_err-print_events-clause-err
returns-in_err-print_events-clause-err g c =
    let head =
    ap (λ s. headers s c.args.lenders.now) (c.geometry-geometry.ensures ∙ ap (λ d. d.device.sizes) c.device.ensures ∙ sym c.requires.room.sizes)
    ∙ ap (λ l. headers c.args.walk.now.sizes l) c.requires.lenders in
    any_err _ _
    (second_broke _ _ _ _ (headers c.args.walk.now.sizes c.args.walk.now.lenders) (lines_from (world_in c.args.world.now) c.args.walk.now.inputs)
    (end_line (length (history (reach (world_in c.args.world.now) c.args.walk.now.inputs)))) head c.in_ok-print_headers.ensures.ok
    c.in_err-print_events.ensures.err)

pub returns-clause-ok : goal.returns-clause-ok
returns-clause-ok g c =
    let head =
    ap (λ s. headers s c.args.lenders.now) (c.geometry-geometry.ensures ∙ ap (λ d. d.device.sizes) c.device.ensures ∙ sym c.requires.room.sizes)
    ∙ ap (λ l. headers c.args.walk.now.sizes l) c.requires.lenders in
    let end =
    c.bytes.ensures.bytes ∙ c.end_line.ensures
    ∙ ap end_line
    (c.len.ensures ∙ ap length (c.history.ensures.history ∙ ap (λ d. d.device.history) c.device-2.ensures)
    ∙ ap (λ w. length w.device.history) c.in_ok-print_events.ensures.world) in
    ok_by _ _ _
    (all_taken _ _ _ _ _ (headers c.args.walk.now.sizes c.args.walk.now.lenders)
    (lines_from (world_in c.args.world.now) c.args.walk.now.inputs) c.bytes.result.now
    (end_line (length (history (reach (world_in c.args.world.now) c.args.walk.now.inputs)))) head end c.in_ok-print_headers.ensures.ok
    c.in_ok-print_events.ensures.ok)
    c.write_line.ensures.ok

pub returns-clause-err : goal.returns-clause-err
returns-clause-err g c =
    let head =
    ap (λ s. headers s c.args.lenders.now) (c.geometry-geometry.ensures ∙ ap (λ d. d.device.sizes) c.device.ensures ∙ sym c.requires.room.sizes)
    ∙ ap (λ l. headers c.args.walk.now.sizes l) c.requires.lenders in
    let end =
    c.bytes.ensures.bytes ∙ c.end_line.ensures
    ∙ ap end_line
    (c.len.ensures ∙ ap length (c.history.ensures.history ∙ ap (λ d. d.device.history) c.device-2.ensures)
    ∙ ap (λ w. length w.device.history) c.in_ok-print_events.ensures.world) in
    err_by _ _ _
    (third_broke _ _ _ _ _ (headers c.args.walk.now.sizes c.args.walk.now.lenders)
    (lines_from (world_in c.args.world.now) c.args.walk.now.inputs) c.bytes.result.now
    (end_line (length (history (reach (world_in c.args.world.now) c.args.walk.now.inputs)))) head end c.in_ok-print_headers.ensures.ok
    c.in_ok-print_events.ensures.ok)
    c.write_line.ensures.err
