use Rattle.std.proofs.Common.{sym, subst}
use Rattle.swap_board.specs.Works.{PumpsAs}
use Rattle.swap_board.specs.declared.works.Point.{Point}
use Rattle.swap_board.proofs.Working.{give_pumps, take_pumps}
use Rattle.swap_board.proofs.works.pump.Goals as goal

pub returns-in-Give-clause-pumps : goal.returns-in-Give-clause-pumps
returns-in-Give-clause-pumps g c =
    let P : Point → Type 0 = λ p. PumpsAs g.D.DiskPort.moves g.F.Fabric.moves g.D.DiskPort.means p c.make.result c.args.world.now c.make.new.world in
    subst P (sym c.in-Give.is)
    (give_pumps g.D.DiskPort.moves g.F.Fabric.moves c.args.world.now c.make.new.world g.D.DiskPort.means c.in-Give.lender c.make.result c.make.ensures.made)

pub returns-in-Take-clause-pumps : goal.returns-in-Take-clause-pumps
returns-in-Take-clause-pumps g c =
    let P : Point → Type 0 =
    λ p. PumpsAs g.D.DiskPort.moves g.F.Fabric.moves g.D.DiskPort.means p c.make-in-Take.result c.args.world.now c.make-in-Take.new.world in
    subst P (sym c.in-Take.is)
    (take_pumps g.D.DiskPort.moves g.F.Fabric.moves c.args.world.now c.make-in-Take.new.world g.D.DiskPort.means c.in-Take.lender c.make-in-Take.result
    c.make-in-Take.ensures.made)
