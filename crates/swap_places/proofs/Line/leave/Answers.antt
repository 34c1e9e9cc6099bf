use Rattle.std.proofs.Common.{◌<◌, arith, ap}
use Rattle.swap_places.specs.Line.{Line}
use Rattle.swap_places.proofs.Moves.{within, links_fit, leaves}
use Rattle.swap_places.proofs.Line.leave.Goals as goal

pub index-after-requires : goal.index-after-requires
index-after-requires c =
    let lt : c.args.number < c.self.inside.bound =
    within c.self.inside.after.items c.self.inside.before.items c.self.inside.bound c.self.inside.count c.args.number c.args.self.now.numbers c.self.invariant
    (ap (λ (l : Line). l.numbers) c.self.view_is) c.requires in
    omega (arith, c.self.invariant.after_fits)

pub index-before-requires : goal.index-before-requires
index-before-requires c =
    let lt : c.args.number < c.self.inside.bound =
    within c.self.inside.after.items c.self.inside.before.items c.self.inside.bound c.self.inside.count c.args.number c.args.self.now.numbers c.self.invariant
    (ap (λ (l : Line). l.numbers) c.self.view_is) c.requires in
    omega (arith, c.self.invariant.before_fits)

pub index_mut-requires : goal.index_mut-requires
index_mut-requires c =
    omega (
      arith,
      (links_fit c.self.inside.after.items c.self.inside.before.items c.self.inside.bound c.self.inside.count c.args.number c.index-before.result.now
          c.index-after.result.now c.args.self.now.numbers c.self.invariant
          (ap (λ (l : Line). l.numbers) c.self.view_is)
          c.requires c.index-before.ensures c.index-after.ensures).0,
    )

pub index_mut-requires-2 : goal.index_mut-requires-2
index_mut-requires-2 c =
    let lt : c.args.number < c.self.inside.bound =
    within c.self.inside.after.items c.self.inside.before.items c.self.inside.bound c.self.inside.count c.args.number c.args.self.now.numbers c.self.invariant
    (ap (λ (l : Line). l.numbers) c.self.view_is) c.requires in
    omega (arith, c.self.invariant.after_fits)

pub index_mut-requires-3 : goal.index_mut-requires-3
index_mut-requires-3 c =
    omega (
      arith,
      (links_fit c.self.inside.after.items c.self.inside.before.items c.self.inside.bound c.self.inside.count c.args.number c.index-before.result.now
          c.index-after.result.now c.args.self.now.numbers c.self.invariant
          (ap (λ (l : Line). l.numbers) c.self.view_is)
          c.requires c.index-before.ensures c.index-after.ensures).1,
    )

pub invariant_of-self : goal.invariant_of-self
invariant_of-self c =
    (leaves c.self.inside.after.items c.self.inside.before.items c.self.inside.bound c.self.inside.count c.args.number c.index-before.result.now
    c.index-after.result.now c.args.self.now.numbers c.self.invariant
    (ap (λ (l : Line). l.numbers) c.self.view_is)
    c.requires c.index-before.ensures c.index-after.ensures).linked

pub returns-clause-numbers : goal.returns-clause-numbers
returns-clause-numbers c =
    (leaves c.self.inside.after.items c.self.inside.before.items c.self.inside.bound c.self.inside.count c.args.number c.index-before.result.now
    c.index-after.result.now c.args.self.now.numbers c.self.invariant
    (ap (λ (l : Line). l.numbers) c.self.view_is)
    c.requires c.index-before.ensures c.index-after.ensures).line
