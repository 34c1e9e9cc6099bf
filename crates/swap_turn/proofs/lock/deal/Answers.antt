use Rattle.std.proofs.Common.{rules, arith, ◌≡◌, ◌-◌, ◌+◌, ◌<◌, ℕ, [], ap, ◌∙◌, map}
use Rattle.swap_turn.specs.Turns.{entries_of}
use Rattle.swap_turn.specs.declared.view.View.{View}
use Rattle.swap_turn.specs.Turns.{fewer_left, next_given, numbers_from}
use Rattle.swap_turn.specs.PassView.{LockId, pass_at_start, standing_of}
use Rattle.swap_turn.proofs.Seats.{splits}
use Rattle.swap_turn.proofs.Dealing.{dealt-left, dealt-fewer, dealt-given, dealt-last, seated_is, standing_is, pushed, newcomers_free}
use Rattle.swap_turn.proofs.lock.deal.Goals as goal

pub split_seat-next-requires : goal.split_seat-next-requires
split_seat-next-requires g c =
    let k = c.args.seats in
    let log = c.args.seat.me.0.seen in
    let i = c.loop-number.number in
    let is = ap (λ m. m.0) c.loop-number.invariant.1 in
    let lt : i < k - 1 = omega arith in (
      search rules,
      search rules,
      splits g.T.Told.history _ i _ _ (ap (λ v. v.spent) is) (ap (λ v. v.stage) is) (ap (λ v. v.left) is ∙ dealt-left k log i lt),
    )

pub invariant_of-push_reserved : goal.invariant_of-push_reserved
invariant_of-push_reserved g c =
    let k = c.args.seats in
    let log = c.args.seat.me.0.seen in
    let i = c.loop-number.number in
    let is = ap (λ m. m.0) c.loop-number.invariant.1 in
    let lt : i < k - 1 = omega arith in
    seated_is i k log (entries_of i log) _ _ c.into_badge.ensures.2 (ap (λ m. m.0) c.split_seat-next.ensures.4 ∙ (ap next_given is ∙ dealt-given k log i lt))

pub loop-number-preserved : goal.loop-number-preserved
loop-number-preserved g c =
    let k = c.args.seats in
    let log = c.args.seat.me.0.seen in
    let i = c.loop-number.number in
    let inv = c.loop-number.invariant in
    let is = ap (λ m. m.0) inv.1 in
    let lt : i < k - 1 = omega arith in
    let z = c.args.seat.table_id in
    let id : LockId = record { table = z; seats = k } in
    let lock : c.into_badge.result.table_id ≡ z = search rules in (
      search rules,
      c.split_seat-next.ensures.2 ∙ (ap (λ m. (fewer_left m.0, m.1)) inv.1 ∙ ap (λ (v : View). (v, [])) (dealt-fewer k log i lt)),
      c.push_reserved.ensures.items ∙ pushed id log i _ _ inv.2
          (ap (λ t. standing_of t i c.into_badge.result.views) lock
          ∙ standing_is z i k log (entries_of i log) _ _ c.into_badge.ensures.2
          (ap (λ m. m.0) c.split_seat-next.ensures.4 ∙ (ap next_given is ∙ dealt-given k log i lt))),
      search rules,
      search rules,
    )

all_dealt : goal.returns-clause-passes
all_dealt g c =
    let k = c.args.seats in
    let log = c.args.seat.me.0.seen in
    let i = c.loop-number.number in
    let inv = c.loop-number.invariant in
    let is = ap (λ m. m.0) inv.1 in
    let last : i ≡ k - 1 = omega arith in
    let z = c.args.table.now.shared.table_id in
    let id : LockId = record { table = z; seats = k } in
    let old = c.args.seat.table_id in
    let lock : c.into_badge-2.result.table_id ≡ z = search rules in
    let same : old ≡ z = search rules in
    let whole : (k - 1) + 1 ≡ k = omega arith in
    c.push_reserved-2.ensures.items
    ∙ (pushed id log (k - 1) _ _ (inv.2 ∙ (λ j. map (pass_at_start (record { table = same j; seats = k }) log) (numbers_from 0 (last j))))
    (ap (λ t. standing_of t (k - 1) c.into_badge-2.result.views) lock
    ∙ standing_is z (k - 1) k log (entries_of (k - 1) log) _ _ c.into_badge-2.ensures.2 (is ∙ dealt-last k log i last))
    ∙ ap (λ (n : ℕ). map (pass_at_start id log) (numbers_from 0 n)) whole)

pub returns-clause-passes : goal.returns-clause-passes
returns-clause-passes g c = all_dealt g c

pub returns-clause-free : goal.returns-clause-free
returns-clause-free g c =
    newcomers_free (record { table = c.args.table.now.shared.table_id; seats = c.args.seats }) c.args.seat.me.0.seen (numbers_from 0 c.args.seats) _
    (all_dealt g c)
