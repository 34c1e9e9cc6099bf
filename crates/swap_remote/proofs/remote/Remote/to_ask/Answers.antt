use Rattle.std.proofs.Common.{length, subst, sym, ap, ap₂, ◌∙◌}
use Rattle.swap_choice.specs.Asked as choice
use Rattle.swap_remote.specs.Remote.{RemoteView, fresh_lenders, other_lenders}
use Rattle.swap_remote.specs.Kept.{AreAsked}
use Rattle.swap_remote.proofs.Asked.{asked_fit}
use Rattle.swap_remote.proofs.remote.Remote.to_ask.Goals as goal

pub returns-clause-asked : goal.returns-clause-asked
returns-clause-asked c =
    c.two_lenders.ensures.asked
    ∙ ap₂ (λ a b. choice.two_asked c.args.word a b) (c.as_slice.ensures.value ∙ c.lenders_up-askable.ensures.fresh)
    (c.as_slice-2.ensures.value ∙ c.lenders_up-askable.ensures.others)
    ∙ ap (λ (t : RemoteView). choice.two_asked c.args.word (fresh_lenders t.remote) (other_lenders t.remote)) c.self.view_is

pub returns-clause-lenders : goal.returns-clause-lenders
returns-clause-lenders c =
    subst AreAsked (sym (returns-clause-asked c))
    (asked_fit c.args.word c.args.self.now.remote (ap (λ (t : RemoteView). length t.remote.links) (sym c.self.view_is) ∙ c.self.invariant.links_len))
