use Rattle.std.proofs.Common.{refl, ap}
use Rattle.swap_link.specs.Lane.{Lane}
use Rattle.swap_link.specs.lemmas.Sound.{fits-crash}
use Rattle.swap_link.proofs.channel.Channel.crash.Goals as goal

pub invariant_of-self : goal.invariant_of-self
invariant_of-self c =
    fits-crash c.self.inside.geometry c.self.inside.lender c.self.inside.number c.self.inside.to_lender c.self.inside.to_device c.self.inside.lender_gone
    c.self.inside.outbox c.self.invariant _ c.restart.ensures _ refl
    c.cut.new.self c.end.new.self (ap (λ (l : Lane). l.page_bytes) c.cut.ensures) (ap (λ (l : Lane). l.page_bytes) c.end.ensures)

pub invariant_of-self-else-not-self : goal.invariant_of-self-else-not-self
invariant_of-self-else-not-self c =
    fits-crash c.self.inside.geometry c.self.inside.lender c.self.inside.number c.self.inside.to_lender c.self.inside.to_device c.self.inside.lender_gone
    c.self.inside.outbox c.self.invariant _ c.restart.ensures _
    (cc) c.self.inside.to_lender c.self.inside.to_device refl refl
