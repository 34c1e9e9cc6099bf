use Rattle.std.proofs.Common.{◌∙◌, ap}
use Rattle.swap_play.proofs.Ending.{carried_ok}
use Rattle.swap_play.proofs.playing.play_named.Goals as goal

pub returns : goal.returns
returns g c =
    let named = c.requires.named in
    carried_ok g.D.DiskPort.moves g.F.Fabric.moves c.end_board.result g.N.Naming.named c.args.trace.now c.args.number c.args.world
    c.in_ok-board.board.world.core.device.history
    (ap (λ n. n.opening) named) (ap (λ n. n.operator) named ∙ c.requires.events) (ap (λ n. n.number) named)
    (ap (λ n. n.sizes) named ∙ c.requires.sizes) (ap (λ n. n.lenders) named ∙ c.requires.lenders)
    c.end_board.ensures.ended c.end_board.ensures.tells c.end_board.ensures.history c.in_ok-board.ensures
