use Rattle.std.proofs.Common.{◌≡◌, true, ap, ◌∙◌, subst}
use Rattle.swap_link.specs.Lane.{Lane}
use Rattle.swap_link.specs.Channel.{Channel}
use Rattle.swap_link.specs.Fits.{ChannelFits}
use Rattle.swap_link.specs.lemmas.Sound.{fits-connect}
use Rattle.swap_link.proofs.channel.Channel.connect.Goals as goal

pub invariant_of-self : goal.invariant_of-self
invariant_of-self c =
    let left : c.self.inside.lender_gone ≡ true = ap (λ (ch : Channel). ch.lender_gone) (c.self.view_is ∙ c.let_go.ensures) in
    fits-connect c.self.inside.geometry c.self.inside.lender c.self.inside.number c.args.number c.self.inside.to_lender c.self.inside.to_device
    c.self.inside.outbox
    (subst
    (λ g.
    ChannelFits c.self.inside.geometry c.self.inside.lender c.self.inside.number c.self.inside.to_lender c.self.inside.to_device g c.self.inside.outbox)
    left c.self.invariant)
    c.arrive.new.self c.arrive.ensures.state
    c.open.new.self c.open-2.new.self (ap (λ (l : Lane). l.page_bytes) c.open.ensures) (ap (λ (l : Lane). l.page_bytes) c.open-2.ensures)
