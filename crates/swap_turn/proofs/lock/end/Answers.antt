use Rattle.std.proofs.Common.{rules, ◌≡◌, ◌∷◌, ◌++◌, [], ap, sym, ◌∙◌, subst, Some}
use Rattle.std.specs.Prelude.{IsSome, All}
use mathlib.Core.Option.{some-injective}
use Rattle.swap_turn.specs.Turns.{entries_of}
use Rattle.swap_turn.specs.PassView.{IsFreeOf}
use Rattle.swap_turn.specs.Turns.{taken_in}
use Rattle.swap_turn.proofs.Seats.{joins, ends}
use Rattle.swap_turn.proofs.Ending.{gathers_next, gathered, of_pairs, all_front, all_last, emptied}
use Rattle.swap_turn.proofs.lock.end.Goals as goal

pub join_seat-requires : goal.join_seat-requires
join_seat-requires g c =
    let v = c.loop-pass.invariant.2 in
    let u = ap (λ m. m.0) c.into_seat.ensures.1 in
    let split : c.loop-pass.passes.items ≡ c.pop-in-loop-pass.new.self.items ++ c.in-Some-pop.pass ∷ [] = search rules in
    let P = IsFreeOf (record { table = c.args.table.shared.table_id; seats = c.args.seats }) in
    let free = all_last P c.pop-in-loop-pass.new.self.items c.in-Some-pop.pass (subst (All P) split c.loop-pass.invariant.3) in (
      c.loop-pass.invariant.0,
      c.into_seat.ensures.0 ∙ ap (λ i. i.table) free.0,
      ap (λ m. m.1) c.into_seat.ensures.1,
      search rules,
      joins g.T.Told.history _ _ _ _ v.standing (ap (λ x. x.spent) u) v.idle (ap (λ x. x.stage) u) v.given (ap (λ x. x.left) u),
    )

pub loop-pass-preserved : goal.loop-pass-preserved
loop-pass-preserved g c =
    let u = ap (λ m. m.0) c.into_seat.ensures.1 in
    let split : c.loop-pass.passes.items ≡ c.pop-in-loop-pass.new.self.items ++ c.in-Some-pop.pass ∷ [] = search rules in (
      search rules,
      search rules,
      gathers_next _ _ _ _ _ _ _ c.loop-pass.invariant.2 split (ap (λ m. m.0) c.join_seat.ensures.2 ∙ ap (taken_in c.loop-pass.seat.me.0) u),
      all_front (IsFreeOf (record { table = c.args.table.shared.table_id; seats = c.args.seats })) c.pop-in-loop-pass.new.self.items (c.in-Some-pop.pass ∷ [])
          (subst (All (IsFreeOf (record { table = c.args.table.shared.table_id; seats = c.args.seats }))) split c.loop-pass.invariant.3),
    )

pub unwrap-requires : goal.unwrap-requires
unwrap-requires g c =
    let none_left : c.loop-pass.passes.items ≡ [] = search rules in
    let all = emptied _ _ _ _ none_left c.loop-pass.invariant.2 in
    let e = ends g.T.Told.history _ _ _ c.loop-pass.seat.me.0 all.standing all.idle (gathered _ _ _ all c.requires.all) c.close_with-closed.ensures.values.2 in
    subst IsSome (some-injective _ _ (sym e.1 ∙ c.take-value.ensures.value)) (search rules)

pub returns : goal.returns
returns g c =
    let none_left : c.loop-pass.passes.items ≡ [] = search rules in
    let all = emptied _ _ _ _ none_left c.loop-pass.invariant.2 in
    let e = ends g.T.Told.history _ _ _ c.loop-pass.seat.me.0 all.standing all.idle (gathered _ _ _ all c.requires.all) c.close_with-closed.ensures.values.2 in
    let taken : Some e.0 ≡ c.take-value.result = some-injective _ _ (sym e.1 ∙ c.take-value.ensures.value) in
    let is : e.0 ≡ c.unwrap.result = search rules in
    subst (λ x. All (λ p. p.mine ≡ entries_of p.number (g.T.Told.history x)) c.args.passes.items) is
    (of_pairs (g.T.Told.history e.0) c.args.passes.items (subst (All (λ q. q.1 ≡ entries_of q.0 (g.T.Told.history e.0))) all.pairs e.3))
