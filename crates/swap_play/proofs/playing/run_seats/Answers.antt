use Rattle.std.proofs.Common.{◌≡◌, ◌<◌, ◌∙◌, sym, subst, List}
use Rattle.std.specs.Prelude.{All}
use Rattle.swap_turn.specs.PassView.{PassView, IsFreeOf}
use Rattle.swap_turn.specs.Turns.{entries_of}
use Rattle.swap_play.proofs.Seating.{seats_in, backs_free, have_played}
use Rattle.swap_play.proofs.playing.run_seats.Goals as goal

pub play_seats-requires-clause-passes : goal.play_seats-requires-clause-passes
play_seats-requires-clause-passes g c κs within = seats_in c.args.swap g.N.Naming.named.sizes g.N.Naming.named.lenders c.args.passes.items c.requires.passes

pub into_board-requires : goal.into_board-requires
into_board-requires g c =
    let P : List PassView → Type 0 = All (IsFreeOf c.args.swap) in
    subst P (sym c.in_ok-passes.ensures.passes)
    (backs_free c.args.swap c.args.trace.now c.args.passes.items c.in-Some.overs.items (sym c.in-Some.overs.ok.0 ∙ c.in-Some.ensures.len ∙ c.args.passes.ok.0)
    (λ i d e less. c.in-Some.ensures.each i d e (subst (λ m. i < m) (sym c.args.passes.ok.0) less)))

pub returns : goal.returns
returns g c =
    let n = g.N.Naming.named in
    let P : List PassView → Type 0 = All (λ (p : PassView). p.mine ≡ entries_of p.number c.in-Ok.board.world.core.device.history) in
    have_played c.args.swap n.sizes n.lenders c.args.trace.now c.args.passes.items c.in-Some.overs.items c.in-Ok.board.world.core.device.history
    c.requires.sizes c.requires.passes
    (sym c.in-Some.overs.ok.0 ∙ c.in-Some.ensures.len ∙ c.args.passes.ok.0)
    (λ i d e less. c.in-Some.ensures.each i d e (subst (λ m. i < m) (sym c.args.passes.ok.0) less))
    c.in_ok-passes.ensures.done (subst P c.in_ok-passes.ensures.passes c.in-Ok.ensures.mine)
