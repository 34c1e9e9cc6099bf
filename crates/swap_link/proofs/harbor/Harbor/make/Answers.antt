use Rattle.std.proofs.Common.{◌≡◌, length, rules, sym, ap, ◌∙◌, subst}
use Rattle.std.specs.Prelude.{All, map}
use Rattle.std.proofs.lemmas.List.{take_all}
use Rattle.swap_link.specs.Channel.{Channel}
use Rattle.swap_link.specs.Harbor.{new_channel, IsFresh}
use Rattle.swap_link.proofs.MakeLaws.{new-sizes, new-fresh}
use Rattle.swap_link.proofs.harbor.Harbor.make.Goals as goal

pub invariant_of-result : goal.invariant_of-result
invariant_of-result c =
    let all : c.loop-spec.channels.items ≡ map (new_channel c.args.geometry.now) c.args.specs.now =
    c.loop-spec.invariant
    ∙ ap (λ specs. map (new_channel c.args.geometry.now) specs) (take_all c.loop-spec.spec-index c.args.specs.now c.loop-spec-test.false) in
    let page : length c.in-Ok.page.items ≡ c.args.geometry.now.page_bytes = search rules in
    (subst (λ cs. All (λ (ch : Channel). ch.sizes ≡ c.args.geometry.now) cs) (sym all) (new-sizes c.args.geometry.now c.args.specs.now), page)

pub returns-clause-fresh : goal.returns-clause-fresh
returns-clause-fresh c =
    let all : c.loop-spec.channels.items ≡ map (new_channel c.args.geometry.now) c.args.specs.now =
    c.loop-spec.invariant
    ∙ ap (λ specs. map (new_channel c.args.geometry.now) specs) (take_all c.loop-spec.spec-index c.args.specs.now c.loop-spec-test.false) in
    subst (λ cs. IsFresh (record { sizes = c.args.geometry.now; channels = cs }) (record { sizes = c.args.geometry.now; lenders = length c.args.specs.now }))
    (sym all) (new-fresh c.args.geometry.now c.args.specs.now)
