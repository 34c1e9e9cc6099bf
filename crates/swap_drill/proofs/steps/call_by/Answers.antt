use Rattle.std.proofs.Common.{ap, sym, ◌∙◌, [], ◌∷◌}
use Rattle.swap_wire.specs.declared.Event.TheVariants as event
use Rattle.swap_world.specs.World.{Next}
use Rattle.swap_drill.specs.Drill.{plain_input, turns, call, calling}
use Rattle.swap_drill.specs.Steps.{world_in}
use Rattle.swap_drill.proofs.Afters.{and_then, after-one}
use Rattle.swap_drill.proofs.steps.call_by.Goals as goal

pub returns-clause-reach : goal.returns-clause-reach
unfolding calling
returns-clause-reach c =
    let w = world_in c.args.world.now in
    and_then w _ _ (turns 4 c.args.draw.caller w) (call c.args.draw ∷ plain_input event.Start ∷ []) c.take_turns.ensures.reach
    (and_then (world_in c.take_turns.new.world) _ _ (call c.args.draw ∷ []) (plain_input event.Start ∷ [])
    (sym (ap (λ (n : Next). n.world) c.make_call-seen.ensures.next) ∙ sym (after-one (world_in c.take_turns.new.world) (call c.args.draw)))
    c.make.ensures.reach)
