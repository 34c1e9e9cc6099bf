use Rattle.std.proofs.Common.{◌≡◌, ◌∙◌, ap, true, not, Ok}
use Rattle.swap_play.proofs.Settling.{quiet_one}
use Rattle.swap_play.proofs.settles.is_quiet_at.Goals as goal
use Rattle.swap_base.proofs.Bools.{not_true}

pub returns-then-not-gave-clause-quiet : goal.returns-then-not-gave-clause-quiet
returns-then-not-gave-clause-quiet g c = λ is.
    let none : not c.in_ok-took.took ≡ true = cc in
    quiet_one g.D.DiskPort.moves g.F.Fabric.moves g.D.DiskPort.means c.args.lender c.args.board.now.world c.work.new.board.world c.work-2.new.board.world
    (c.work.ensures.nothing (c.in_ok-gave.was ∙ ap Ok c.if-not-gave.true))
    (c.work-2.ensures.nothing (c.in_ok-took.was ∙ ap Ok (not_true c.in_ok-took.took none)))
