use Rattle.std.proofs.Common.{◌≡◌, ◌<◌, arith, sym, ap, ◌∙◌, Some}
use Rattle.swap_places.specs.Line.{Line, stands, number_behind}
use Rattle.swap_places.proofs.Lines.{next_stands}
use Rattle.swap_places.proofs.Moves.{at, link_read, within, none_next, some_next}
use Rattle.swap_places.proofs.Line.next.Goals as goal

pub index-next-requires : goal.index-next-requires
index-next-requires c =
    let lt : c.args.number < c.self.inside.bound =
    within c.self.inside.after.items c.self.inside.before.items c.self.inside.bound c.self.inside.count c.args.number c.args.self.now.numbers c.self.invariant
    (ap (λ (l : Line). l.numbers) c.self.view_is) c.requires in
    omega (arith, c.self.invariant.after_fits)

pub returns-then-next-self-clause-number : goal.returns-then-next-self-clause-number
returns-then-next-self-clause-number c =
    let lt : c.args.number < c.self.inside.bound =
    within c.self.inside.after.items c.self.inside.before.items c.self.inside.bound c.self.inside.count c.args.number c.args.self.now.numbers c.self.invariant
    (ap (λ (l : Line). l.numbers) c.self.view_is) c.requires in
    let next : c.index-next.result.now ≡ at c.self.inside.after.items c.args.number =
    link_read c.self.inside.after.items c.self.inside.bound c.args.number c.index-next.result.now c.self.invariant.after_fits
    (omega arith) c.index-next.ensures in
    sym
    (none_next c.self.inside.after.items c.self.inside.before.items c.self.inside.bound c.self.inside.count c.args.number c.self.invariant
    (ap (λ (l : Line). stands l.numbers c.args.number) c.self.view_is ∙ c.requires) (sym next ∙ c.if-next-self.true))
    ∙ ap (λ (l : Line). number_behind c.args.number l.numbers) c.self.view_is

pub returns-else-next-self-clause-number : goal.returns-else-next-self-clause-number
returns-else-next-self-clause-number c =
    let lt : c.args.number < c.self.inside.bound =
    within c.self.inside.after.items c.self.inside.before.items c.self.inside.bound c.self.inside.count c.args.number c.args.self.now.numbers c.self.invariant
    (ap (λ (l : Line). l.numbers) c.self.view_is) c.requires in
    let next : c.index-next.result.now ≡ at c.self.inside.after.items c.args.number =
    link_read c.self.inside.after.items c.self.inside.bound c.args.number c.index-next.result.now c.self.invariant.after_fits
    (omega arith) c.index-next.ensures in
    ap Some next
    ∙ sym
    (some_next c.self.inside.after.items c.self.inside.before.items c.self.inside.bound c.self.inside.count c.args.number c.self.invariant
    (ap (λ (l : Line). stands l.numbers c.args.number) c.self.view_is ∙ c.requires) (λ e. c.if-next-self.false (next ∙ e)))
    ∙ ap (λ (l : Line). number_behind c.args.number l.numbers) c.self.view_is

pub returns-else-next-self-clause-stands : goal.returns-else-next-self-clause-stands
returns-else-next-self-clause-stands c =
    next_stands c.args.self.now.numbers c.args.number c.index-next.result.now (sym (returns-else-next-self-clause-number c))
