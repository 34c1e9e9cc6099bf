use Rattle.std.proofs.Common.{◌≡◌, true, sym, ap, ◌∙◌}
use Rattle.swap_wire.specs.Fabric.{parcel_of}
use Rattle.swap_lender.specs.Outbox.{OutboxView}
use Rattle.swap_lender.specs.Table.{may_send}
use Rattle.swap_link.specs.Channel.{Channel, channel_in, serve_after, reply_of, forward_after}
use Rattle.swap_link.specs.lemmas.Sound.{fits-serve, ready-again, fine, not_fine, fits-refused, served-by_parts}
use Rattle.swap_link.proofs.channel.Channel.serve.Goals as goal

pub invariant_of-self : goal.invariant_of-self
invariant_of-self c =
    let may : may_send c.self.inside.lender c.self.inside.number c.args.msg ≡ true = fine _ (sym c.took.ensures.served ∙ c.in-Fine.is) in
    fits-serve c.self.inside.geometry c.self.inside.lender c.self.inside.number c.self.inside.to_lender c.self.inside.to_device c.self.inside.lender_gone
    c.self.inside.outbox c.args.msg c.args.page.now c.self.invariant
    (ap (λ (ch : Channel). ch.lender_gone) c.self.view_is ∙ c.requires.stands) may c.took.new.self c.took.ensures.state c.reply-reply.new.outbox
    (ready-again c.self.inside.lender.lending c.self.inside.outbox c.took.new.out c.reply-reply.new.outbox _ _ c.self.invariant.ready c.took.ensures.outbox
    c.reply-reply.ensures.outbox)
    c.reply-reply.new.lane c.reply-reply.ensures.page

pub returns-in-Fine : goal.returns-in-Fine
returns-in-Fine c =
    let may : may_send c.self.inside.lender c.self.inside.number c.args.msg ≡ true = fine _ (sym c.took.ensures.served ∙ c.in-Fine.is) in
    served-by_parts
    (channel_in c.self.inside.geometry c.self.inside.lender c.self.inside.number c.self.inside.to_lender c.self.inside.to_device c.self.inside.device_gone
    c.self.inside.lender_gone)
    c.args.msg c.args.page.now may
    c.reply-reply.result c.evicted-evicted.result c.took.new.self c.reply-reply.new.lane
    (c.reply-reply.ensures.reply ∙ ap (λ (o : OutboxView). reply_of o.parcels) c.took.ensures.outbox)
    (c.evicted-evicted.ensures ∙ ap (λ (o : OutboxView). o.evicted) c.took.ensures.outbox)
    c.took.ensures.state
    (c.reply-reply.ensures.lane ∙ ap (λ (o : OutboxView). forward_after c.self.inside.number c.self.inside.to_device o.parcels) c.took.ensures.outbox)
    ∙ ap (λ ch. serve_after ch (parcel_of c.args.msg c.args.page.now)) c.self.view_is

pub invariant_of-self-in-End : goal.invariant_of-self-in-End
invariant_of-self-in-End c =
    fits-refused c.self.inside.geometry c.self.inside.lender c.self.inside.number c.self.inside.to_lender c.self.inside.to_device c.self.inside.lender_gone
    c.self.inside.outbox c.args.msg c.args.page.now c.self.invariant
    (not_fine _ (sym c.took.ensures.served ∙ c.in-End.is)) c.took.new.self c.took.ensures.state c.took.new.out c.took.ensures.outbox
