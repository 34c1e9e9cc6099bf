use Rattle.std.proofs.Common.{refl}
use Rattle.swap_link.specs.lemmas.Sound.{fits-gone, ready-again}
use Rattle.swap_link.proofs.channel.Channel.let_go.Goals as goal

pub invariant_of-self : goal.invariant_of-self
invariant_of-self c =
    fits-gone c.self.inside.geometry c.self.inside.lender c.self.inside.number c.self.inside.to_lender c.self.inside.to_device c.self.inside.lender_gone
    c.self.inside.outbox c.self.invariant c.if-self.false c.gone.new.self c.gone.ensures.state c.discard.new.outbox
    (ready-again c.self.inside.lender.lending c.self.inside.outbox c.gone.new.out c.discard.new.outbox _ _ c.self.invariant.ready c.gone.ensures.outbox
    c.discard.ensures)
    c.self.inside.to_lender c.self.inside.to_device refl refl
