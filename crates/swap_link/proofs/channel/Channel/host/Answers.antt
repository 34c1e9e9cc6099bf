use Rattle.swap_link.specs.lemmas.Sound.{fits-host, ready-again}
use Rattle.swap_link.proofs.channel.Channel.host.Goals as goal

pub invariant_of-self : goal.invariant_of-self
invariant_of-self c =
    fits-host c.self.inside.geometry c.self.inside.lender c.self.inside.number c.self.inside.to_lender c.self.inside.to_device c.self.inside.lender_gone
    c.self.inside.outbox c.args.used c.args.word c.self.invariant c.host-hosted.new.self c.host-hosted.ensures.state c.post_all.new.outbox
    (ready-again c.self.inside.lender.lending c.self.inside.outbox c.host-hosted.new.out c.post_all.new.outbox _ _ c.self.invariant.ready
    c.host-hosted.ensures.outbox c.post_all.ensures.outbox)
    c.post_all.new.lane c.post_all.ensures.page
