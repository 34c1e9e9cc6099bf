use Rattle.std.proofs.Common.{◌≡◌, ap, sym, ◌∙◌, replicate}
use Rattle.swap_base.specs.declared.CallKind.{CallKind}
use Rattle.swap_wire.specs.declared.Event.TheVariants as event
use Rattle.swap_world.specs.World.{next}
use Rattle.swap_drill.specs.Drill.{call_event, call_page}
use Rattle.swap_drill.specs.Steps.{world_in}
use Rattle.swap_drill.proofs.steps.make_call.Goals as goal

pub returns-in-PageOut-clause-next : goal.returns-in-PageOut-clause-next
returns-in-PageOut-clause-next c =
    let filled : c.fill.new.self ≡ replicate 64 c.args.draw.byte = c.fill.ensures.after (λ y e. e) ∙ ap (λ k. replicate k c.args.draw.byte) c.requires.page in
    ap
    (λ (k : CallKind).
    next (world_in c.args.world.now) (record { event = call_event k c.args.draw.caller c.args.draw.page; page = call_page k c.args.draw.byte }))
    c.in-PageOut.is
    ∙ ap (λ p. next (world_in c.args.world.now) (record { event = event.PageOut c.args.draw.caller c.args.draw.page; page = p })) (sym filled)
    ∙ c.happen.ensures.next
