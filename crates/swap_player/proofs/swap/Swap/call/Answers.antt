use Rattle.std.proofs.Common.{◌≡◌, ◌∙◌, subst, ℕ, List, Some}
use Rattle.swap_player.specs.Turns.{Pages}
use Rattle.swap_player.proofs.Turns.{looked_still, turns_after}
use Rattle.swap_player.proofs.swap.Swap.call.Goals as goal

pub returns-in-Some-turned-clause-pages : goal.returns-in-Some-turned-clause-pages
returns-in-Some-turned-clause-pages g c =
    let n = g.N.Naming.named in
    let inv = c.steps.invariant in
    let P : List ℕ → Type 0 = λ page. Pages n.calls n.sizes.callers c.args.event.now page c.in-Some-turned.ended c.steps.pass c.turn-turned.new.pass in
    turns_after n.calls n.sizes.callers c.args.event.now c.args.page.now (Some c.in-Some-turned.ended) c.args.pass.now c.steps.pass c.turn-turned.new.pass inv.2
    (subst P inv.3 c.in-Some-turned.ensures.turns)

pub steps-preserved : goal.steps-preserved
steps-preserved g c =
    let inv = c.steps.invariant in (
      (c.turn-turned.ensures.pass.0.0 ∙ c.self.view_is, c.turn-turned.ensures.pass.0.1),
      c.turn-turned.ensures.pass.1 ∙ inv.1,
      looked_still c.args.pass.now c.steps.pass c.turn-turned.new.pass inv.2 c.in_default.ensures.turns,
      c.in_default.ensures.gives ∙ inv.3,
    )
