use Rattle.std.proofs.Common.{ap, ◌∙◌, Some}
use Rattle.swap_run.specs.declared.Command.{Command}
use Rattle.swap_run.proofs.DrillEnds.{drill_holds}
use Rattle.swap_run.proofs.run.run_command_in_blocks.Goals as goal

pub returns-in-Some-RunDrill : goal.returns-in-Some-RunDrill
returns-in-Some-RunDrill g c =
    let known = rw c.in-Some-RunDrill.is at c.in-Some-RunDrill.field-0-is in
    drill_holds c.args.command c.in-Some-RunDrill.number c.in-Some-RunDrill.calls _ _ _ _
    (c.in-Some-RunDrill.is ∙ ap (λ (x : Command). Some x) known) c.run_drill_in_blocks.ensures
