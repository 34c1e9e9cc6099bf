use Rattle.std.proofs.Common.{rules, ◌≡◌, ◌<◌, ◌+◌, length, slice_index_or, sym, ap, subst, arith}
use Rattle.swap_turn.specs.declared.lock.Pass.{Pass}
use Rattle.swap_turn.specs.PassView.{IsFreeOf}
use Rattle.swap_play.specs.Callers.{IsOver}
use Rattle.swap_play.specs.declared.callers.Ticket.{Ticket}
use Rattle.swap_play.proofs.Ticketing.{as_long, mapped_at, mapped_all}
use Rattle.swap_play.proofs.callers.play_seats.Goals as goal

pub map_vec-requires-after_bounds : goal.map_vec-requires-after_bounds
map_vec-requires-after_bounds g c κs within = λ i x lt at.
    let P : Pass → Type 0 = λ p. IsFreeOf c.args.swap.now p × (p.number < g.N.Naming.named.sizes.callers + g.N.Naming.named.lenders + 2) in
    let own : P x.0 =
    mapped_all P (λ (s : Pass × Ticket). s.0) c.in-Ok.seats.items c.args.passes.items c.in-Ok.ensures c.requires.passes i x lt at in
    ((own.0, own.1, c.requires.sizes, c.requires.lenders), search rules)

pub returns-clause-each : goal.returns-clause-each
returns-clause-each g c = λ i d e lt.
    let first : Pass × Ticket → Pass = λ s. s.0 in
    let seats = c.in-Ok.seats.items in
    let within : i < length seats = omega (arith, lt, ap length c.in-Ok.ensures, as_long first seats) in
    let gives = c.in-Ok-map_vec.ensures.each i d within in
    let at : slice_index_or c.args.passes.items i e ≡ gives.1.job.0 =
    mapped_at first seats c.args.passes.items c.in-Ok.ensures i gives.1.job e within gives.1.job_read in
    subst (λ p. IsOver c.args.swap.now c.args.trace.now p (slice_index_or c.in-Ok-map_vec.overs.items i d)) (sym at) (search (rules, gives.1.call))
