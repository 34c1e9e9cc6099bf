use Rattle.std.proofs.Common.{◌≡◌, ◌∙◌, ◌+◌, ◌-◌, ◌<◌, ap, arith}
use Rattle.swap_base.specs.Sizes.{Sizes}
use Rattle.swap_script.specs.Reading.{Script}
use Rattle.swap_play.proofs.callers.play_seat.Goals as goal

pub pump_while_busy-requires-clause-points : goal.pump_while_busy-requires-clause-points
pump_while_busy-requires-clause-points g c κs within =
    let n = g.N.Naming.named in
    let callers : c.callers-callers.result ≡ n.sizes.callers =
    c.callers-callers.ensures ∙ ap (λ (s : Sizes). s.callers) (c.geometry.ensures ∙ ap (λ (t : Script). t.sizes) c.script.ensures ∙ c.requires.sizes) in
    let less : c.number-number.result - c.callers-callers.result - 1 < n.lenders + 1 =
    omega (arith, callers, c.requires.seat, c.number-number.ensures, c.if-number-callers.false, c.if-number-callers-2.false) in
    c.points_of.ensures n.lenders less
