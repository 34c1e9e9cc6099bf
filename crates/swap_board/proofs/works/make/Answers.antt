use Rattle.std.proofs.Common.{rules, ◌≡◌, ◌∙◌, ap, sym, length}
use Rattle.swap_board.specs.Works.{moved_between}
use Rattle.swap_board.proofs.Working.{makes_as}
use Rattle.swap_board.proofs.works.make.Goals as goal

pub returns-clause-made : goal.returns-clause-made
returns-clause-made g c =
    let r = c.reserve.ensures in
    let says : c.what_moved.result ≡ moved_between (length c.args.world.now.log) (length c.step.new.world.log) = search rules in
    makes_as g.D.DiskPort.moves g.F.Fabric.moves c.args.world.now c.reserve.new.self c.step.new.world c.args.event.now
    (record { device = r.device; disk = r.disk; fabric = r.fabric; log = r.log; spare = r.no_less }) c.step.ensures.made c.what_moved.result says
