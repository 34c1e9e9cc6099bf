use Rattle.std.proofs.Common.{◌≤◌, length, subst}
use Rattle.swap_places.specs.Line.{Line}
use Rattle.swap_places.specs.Links.{numbers_in}
use Rattle.swap_places.proofs.Lines.{no_more}
use Rattle.swap_places.proofs.Line.keeps.Goals as goal

pub returns-clause-within : goal.returns-clause-within
returns-clause-within c =
    subst (λ (l : Line). length l.numbers ≤ l.bound) c.self.view_is
    (no_more c.self.inside.bound (numbers_in c.self.inside.after.items c.self.inside.bound c.self.inside.count) c.self.invariant.once c.self.invariant.below)
