use Rattle.std.proofs.Common.{◌%◌, ◌/◌, ◌==◌, [], ◌∷◌}
use Rattle.std.proofs.lemmas.Bool.{eq-eqb}
use Rattle.swap_wire.specs.declared.Event.TheVariants as event
use Rattle.swap_base.proofs.Lists.{not_eqb}
use Rattle.swap_drill.specs.Drill.{plain_input, lender}
use Rattle.swap_drill.specs.Steps.{world_in}
use Rattle.swap_drill.proofs.Afters.{and_then, after_if, after_unless}
use Rattle.swap_drill.proofs.steps.crash.Goals as goal

pub returns-then-i-eq9999-clause-reach : goal.returns-then-i-eq9999-clause-reach
returns-then-i-eq9999-clause-reach c =
    after_if (c.args.i % 10_000 == 9_999) (world_in c.args.world.now) _ _ (eq-eqb (c.args.i % 10_000) 9_999 c.if-i-eq9999.true)
    (and_then (world_in c.args.world.now) _ _ (plain_input (event.Crash (lender (c.args.i / 10_000 % 3))) ∷ [])
    (plain_input (event.Connect (lender (c.args.i / 10_000 % 3))) ∷ []) c.make.ensures.reach c.make-then-i-eq9999.ensures.reach)

pub returns-else-i-eq9999-clause-reach : goal.returns-else-i-eq9999-clause-reach
returns-else-i-eq9999-clause-reach c =
    after_unless (c.args.i % 10_000 == 9_999) (world_in c.args.world.now) _ (not_eqb (c.args.i % 10_000) 9_999 c.if-i-eq9999.false)
