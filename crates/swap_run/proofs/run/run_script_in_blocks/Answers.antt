use Rattle.swap_run.proofs.BlockEnds.{ends_in_blocks}
use Rattle.swap_run.proofs.run.run_script_in_blocks.Goals as goal

pub returns : goal.returns
returns g c =
    ends_in_blocks _ c.args.out.now c.run_script-ran.new.out c.hand_on_rest.new.out c.run_script-ran.result c.hand_on_rest.result c.requires.held
    c.requires.fresh c.run_script-ran.ensures.later c.hand_on_rest.ensures c.run_script-ran.ensures.ends
