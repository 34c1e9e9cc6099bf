use Rattle.std.proofs.Common.{[], ◌∷◌, ◌++◌}
use Rattle.swap_wire.specs.declared.Event.TheVariants as event
use Rattle.swap_drill.specs.Drill.{plain_input, lender}
use Rattle.swap_drill.specs.Steps.{world_in}
use Rattle.swap_drill.proofs.Afters.{and_then}
use Rattle.swap_drill.proofs.steps.connect_all.Goals as goal

pub returns-clause-reach : goal.returns-clause-reach
returns-clause-reach c =
    let w = world_in c.args.world.now in
    let first = plain_input (event.Connect (lender 0)) ∷ [] in
    let second = plain_input (event.Connect (lender 1)) ∷ [] in
    let third = plain_input (event.Connect (lender 2)) ∷ [] in
    and_then w _ _ (first ++ second) third (and_then w _ _ first second c.make.ensures.reach c.make-2.ensures.reach) c.make-3.ensures.reach
