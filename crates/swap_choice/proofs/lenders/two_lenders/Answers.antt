use Rattle.std.proofs.Common.{◌≡◌, ◌++◌, ap₂, subst, sym, ◌∙◌, nat_eq}
use Rattle.std.specs.List.{Contains, IsDistinct}
use Rattle.swap_choice.specs.Asked.{first_two, two_asked, lenders_asked}
use Rattle.swap_choice.proofs.PicksLemmas.{first_two-append, asked_members, asked_different}
use Rattle.swap_choice.proofs.lenders.two_lenders.Goals as goal
use Rattle.swap_choice.proofs.lenders.two_lenders.Goals.{After-joined}

is_asked : (c : After-joined) → c.joined.result ≡ two_asked c.args.word c.args.fresh.now c.args.other.now
is_asked c =
    c.joined.ensures ∙ ap₂ (λ a b. first_two (lenders_asked a ++ lenders_asked b)) c.two_of.ensures c.two_of-2.ensures ∙ first_two-append _ _

pub returns-clause-asked : goal.returns-clause-asked
returns-clause-asked c = is_asked c

pub returns-clause-members : goal.returns-clause-members
returns-clause-members c =
    λ lender is. asked_members c.args.word c.args.fresh.now c.args.other.now lender (subst (λ a. Contains (lenders_asked a) lender) (is_asked c) is)

pub returns-clause-different : goal.returns-clause-different
returns-clause-different c =
    λ apart. subst (λ a. IsDistinct nat_eq (lenders_asked a)) (sym (is_asked c)) (asked_different c.args.word c.args.fresh.now c.args.other.now apart)
