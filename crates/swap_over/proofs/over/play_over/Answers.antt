use Rattle.std.proofs.Common.{◌≡◌, ◌∙◌, ◌≤◌, length, ap, arith}
use Rattle.swap_script.specs.Reading.{Script}
use Rattle.swap_world.specs.Laws.{Began}
use Rattle.swap_over.specs.Over.{IsFirstOver}
use Rattle.swap_over.proofs.Ends.{first_is, over_ends}
use Rattle.swap_over.proofs.over.play_over.Goals as goal

pub returns-in-Ok-play-clause-ends : goal.returns-in-Ok-play-clause-ends
returns-in-Ok-play-clause-ends g c =
    let t : Script = c.args.trace.now in
    let script : c.script-script.result.now ≡ t = c.script-script.ensures in
    let count : c.lenders.result ≡ length t.lenders = c.lenders.ensures.count ∙ ap (λ (s : Script). length s.lenders) script in
    let few : length t.lenders ≤ 8 = omega (arith, count, c.lenders.ensures.within) in
    let first : IsFirstOver t c.args.disk c.args.fabric c.in-Ok-made.world =
    first_is t c.geometry.result c.lenders.result c.args.disk c.args.fabric c.in-Ok-made.world
    (c.geometry.ensures ∙ ap (λ (s : Script). s.sizes) script) count c.in-Ok-made.ensures.core c.in-Ok-made.ensures.log in
    let began : Began g.D.DiskPort g.F.Fabric t.sizes (length t.lenders) c.args.disk c.args.fabric =
    record { blank = c.requires.disk; is_of = c.ports_promise.ensures.fabric.fresh_is_of c.args.fabric _ c.requires.fabric; few = few } in
    over_ends g.D.DiskPort g.F.Fabric t c.args.number c.deref.result.now c.args.disk c.args.fabric c.in-Ok-made.world c.in-Ok-play.world c.ports.result _
    c.show-ending.result
    (c.deref.ensures.value ∙ c.in-Ok-lenders_of.ensures.lenders ∙ ap (λ (s : Script). s.lenders) script) first c.in-Ok-play.ensures
    (c.plays_are_runs.ensures t c.args.number c.args.disk c.args.fabric c.in-Ok-made.world c.in-Ok-play.world began first c.in-Ok-play.ensures) c.ports.ensures
    c.show-ending.ensures.ends
