use Rattle.std.proofs.Common.{◌≡◌, ◌∙◌, ap}
use Rattle.swap_script.specs.Reading.{Script}
use Rattle.swap_world.specs.World.{new_harbor}
use Rattle.swap_hosted.proofs.Sides.{over_memory_links}
use Rattle.swap_hosted.proofs.links.over_harbor.Goals as goal

pub returns-clause-ends : goal.returns-clause-ends
returns-clause-ends g c =
    let t : Script = c.args.trace.now in
    let script = c.script-script.ensures in
    let is : c.in-Ok-make.harbor ≡ new_harbor t.sizes t.lenders =
    c.in-Ok-make.ensures.harbor ∙ ap (λ s. new_harbor s c.deref.result.now) (c.geometry.ensures ∙ ap (λ (x : Script). x.sizes) script)
    ∙ ap (λ l. new_harbor t.sizes l) (c.deref.ensures.value ∙ c.in-Ok.ensures.lenders ∙ ap (λ (x : Script). x.lenders) script) in
    over_memory_links g.D.DiskPort t c.args.number c.args.disk c.in-Ok-make.harbor _ _ c.play_over-ending.result.1 c.first_of.result is
    c.play_over-ending.ensures.ends c.first_of.ensures
