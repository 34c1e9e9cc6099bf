use Rattle.std.proofs.Common.{◌<◌, ap, sym, subst}
use Rattle.swap_wire.specs.declared.Event.TheVariants as event
use Rattle.swap_wire.specs.declared.Seen.{Seen}
use Rattle.swap_table.specs.Device.{Device}
use Rattle.swap_world.specs.Runs.{has_effect}
use Rattle.swap_board.specs.Acts.{Operator}
use Rattle.swap_board.proofs.Working.{works_step}
use Rattle.swap_play.proofs.Connecting.{connected_one}
use Rattle.swap_play.proofs.connects.connect.Goals as goal

pub returns-in-Linked : goal.returns-in-Linked
returns-in-Linked g c =
    let r = c.reserve.ensures in
    let e = c.step.ensures in
    let P : Device → Type 0 = λ d. c.args.lender.0 < d.lenders in
    connected_one g.D.DiskPort.moves g.F.Fabric.moves c.args.lender.0 c.args.world.now c.reserve.new.self c.step.new.self c.args.page.now c.step.result
    (record { device = r.device; disk = r.disk; fabric = r.fabric; log = r.log; spare = r.no_less })
    (ap (λ (s : Seen). has_effect (event.Connect c.args.lender) s) c.in-Linked.is)
    (works_step g.D.DiskPort.moves g.F.Fabric.moves c.reserve.new.self c.step.new.self Operator
    (record { event = event.Connect c.args.lender; page = c.args.page.now }) c.step.result tt
    (subst P (sym r.device) c.requires.lender) e.step e.log.log e.of e.adds e.room e.grows)
