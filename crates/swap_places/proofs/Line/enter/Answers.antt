use Rattle.std.proofs.Common.{◌≡◌, ◌+◌, ◌≤◌, arith, ap}
use Rattle.swap_places.specs.Line.{Line}
use Rattle.swap_places.proofs.Moves.{last_fits, one_fits, enters}
use Rattle.swap_places.proofs.Line.enter.Goals as goal

pub index_mut-requires : goal.index_mut-requires
index_mut-requires c =
    omega (
      arith,
      last_fits c.self.inside.after.items c.self.inside.before.items c.self.inside.bound c.self.inside.count c.index-last.result.now c.self.invariant
          c.index-last.ensures,
    )

pub overflow_add-self : goal.overflow_add-self
overflow_add-self c =
    let bound : c.self.inside.bound ≡ c.args.self.now.bound = ap (λ (l : Line). l.bound) c.self.view_is in
    let more : c.self.inside.count + 1 ≤ c.self.inside.bound =
    one_fits c.self.inside.after.items c.self.inside.before.items c.self.inside.bound c.self.inside.count c.args.number c.args.self.now.numbers c.self.invariant
    (ap (λ (l : Line). l.numbers) c.self.view_is) (omega arith) c.requires.out in
    record { fits = omega (arith, c.type_inv.end.fits) }

pub invariant_of-self : goal.invariant_of-self
invariant_of-self c =
    let bound : c.self.inside.bound ≡ c.args.self.now.bound = ap (λ (l : Line). l.bound) c.self.view_is in
    (enters c.self.inside.after.items c.self.inside.before.items c.self.inside.bound c.self.inside.count c.args.number c.index-last.result.now
    c.args.self.now.numbers c.self.invariant
    (ap (λ (l : Line). l.numbers) c.self.view_is) (omega arith) c.requires.out c.index-last.ensures).linked

pub returns-clause-numbers : goal.returns-clause-numbers
returns-clause-numbers c =
    let bound : c.self.inside.bound ≡ c.args.self.now.bound = ap (λ (l : Line). l.bound) c.self.view_is in
    (enters c.self.inside.after.items c.self.inside.before.items c.self.inside.bound c.self.inside.count c.args.number c.index-last.result.now
    c.args.self.now.numbers c.self.invariant
    (ap (λ (l : Line). l.numbers) c.self.view_is) (omega arith) c.requires.out c.index-last.ensures).line
