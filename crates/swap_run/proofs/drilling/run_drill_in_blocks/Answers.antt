use Rattle.swap_run.proofs.DrillEnds.{drill_in_blocks}
use Rattle.swap_run.proofs.drilling.run_drill_in_blocks.Goals as goal

pub returns : goal.returns
returns g c =
    drill_in_blocks c.args.number c.args.calls c.args.out.now c.run_drill-ran.new.out c.hand_on_rest.new.out c.run_drill-ran.result c.hand_on_rest.result
    c.requires.held c.requires.fresh c.run_drill-ran.ensures.later c.hand_on_rest.ensures c.run_drill-ran.ensures.ends
