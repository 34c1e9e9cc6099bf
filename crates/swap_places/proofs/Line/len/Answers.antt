use Rattle.std.proofs.Common.{length, sym, ap, ◌∙◌}
use Rattle.swap_places.specs.Line.{Line}
use Rattle.swap_places.proofs.Moves.{length-numbers}
use Rattle.swap_places.proofs.Line.len.Goals as goal

pub returns : goal.returns
returns c = sym (length-numbers c.self.inside.after.items c.self.inside.bound c.self.inside.count) ∙ ap (λ (l : Line). length l.numbers) c.self.view_is
