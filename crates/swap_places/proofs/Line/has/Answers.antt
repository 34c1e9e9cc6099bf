use Rattle.std.proofs.Common.{◌≡◌, ◌==◌, not, arith, ap, ◌∙◌}
use Rattle.std.proofs.lemmas.List.{get_or_default}
use Rattle.swap_places.specs.Line.{Line, stands}
use Rattle.swap_places.proofs.Moves.{at, stands_by}
use Rattle.swap_places.proofs.Line.has.Goals as goal

pub returns : goal.returns
returns c =
    let bound : c.self.inside.bound ≡ c.args.self.now.bound = ap (λ (l : Line). l.bound) c.self.view_is in
    let next : c.index.result.now ≡ at c.self.inside.after.items c.args.number =
    c.index.ensures ∙ get_or_default c.self.inside.after.items c.args.number c.index.result.now 0 (omega (arith, c.self.invariant.after_fits)) in
    ap (λ k. not (k == c.args.number)) next
    ∙ stands_by c.self.inside.after.items c.self.inside.before.items c.self.inside.bound c.self.inside.count c.args.number c.self.invariant (omega arith)
    ∙ ap (λ (l : Line). stands l.numbers c.args.number) c.self.view_is
