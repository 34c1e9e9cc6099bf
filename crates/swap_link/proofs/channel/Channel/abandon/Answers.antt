use Rattle.std.proofs.Common.{ap, ◌∙◌}
use Rattle.swap_link.specs.Lane.{Lane}
use Rattle.swap_link.specs.Channel.{Channel}
use Rattle.swap_link.specs.lemmas.Sound.{fits-gone, ready-again}
use Rattle.swap_link.proofs.channel.Channel.abandon.Goals as goal

pub invariant_of-self : goal.invariant_of-self
invariant_of-self c =
    fits-gone c.self.inside.geometry c.self.inside.lender c.self.inside.number c.self.inside.to_lender c.self.inside.to_device c.self.inside.lender_gone
    c.self.inside.outbox c.self.invariant
    (ap (λ (ch : Channel). ch.lender_gone) c.self.view_is ∙ c.requires.stands) c.gone.new.self c.gone.ensures.state c.discard.new.outbox
    (ready-again c.self.inside.lender.lending c.self.inside.outbox c.gone.new.out c.discard.new.outbox _ _ c.self.invariant.ready c.gone.ensures.outbox
    c.discard.ensures)
    c.cut.new.self c.end.new.self (ap (λ (l : Lane). l.page_bytes) c.cut.ensures) (ap (λ (l : Lane). l.page_bytes) c.end.ensures)
