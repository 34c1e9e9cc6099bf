use Rattle.std.proofs.Common.{◌≡◌, ◌<◌, length, sym, ap, ◌∙◌, subst}
use Rattle.std.proofs.lemmas.List.Elements.{All-set, All-get_or}
use Rattle.swap_wire.specs.Fabric.{Handed}
use Rattle.swap_link.specs.Channel.{Channel}
use Rattle.swap_link.specs.Harbor.{Harbor}
use Rattle.swap_link.specs.lemmas.Sound.{sizes-taken}
use Rattle.swap_link.proofs.harbor.HarborFabric.take.Goals as goal

pub invariant_of-self : goal.invariant_of-self
invariant_of-self c =
    let P : Channel → Type 0 = λ ch. ch.sizes ≡ c.self.inside.geometry in
    let lt : c.args.lender.0 < length c.self.inside.channels.items =
    subst (λ (h : Harbor). c.args.lender.0 < length h.channels) (sym c.self.view_is) c.requires.lender in
    let was : P c.index_mut-channel.result.now =
    subst P (sym c.index_mut-channel.ensures.value)
    (All-get_or P c.self.inside.channels.items c.args.lender.0 c.index_mut-channel.result.now lt c.self.invariant.0) in (
      All-set P c.self.inside.channels.items c.args.lender.0 c.take.new.self
          (ap (λ (x : Handed × Channel). x.1.sizes) c.take.ensures ∙ sizes-taken c.index_mut-channel.result.now ∙ was) c.self.invariant.0,
      c.self.invariant.1,
    )
