use Rattle.std.proofs.Common.{rules, ◌≡◌, ◌∙◌, ap, sym, None, Some}
use Rattle.swap_disk.specs.Port.{TellsOldest}
use Rattle.swap_board.specs.Works.{known_operation}
use Rattle.swap_board.proofs.Working.{ended_some, ended_none}
use Rattle.swap_board.proofs.works.end_oldest.Goals as goal

pub returns-in-Some-clause-ended : goal.returns-in-Some-clause-ended
returns-in-Some-clause-ended g c =
    let tells : TellsOldest (g.D.DiskPort.means c.args.world.now.core.disk).blocks
    (g.D.DiskPort.means c.args.world.now.core.disk).flights c.oldest-oldest.result =
    search rules in
    let is : known_operation c.args.world.now.core.device.sizes c.oldest-oldest.result ≡ Some c.in-Some.which = search rules in
    ended_some g.D.DiskPort.moves g.F.Fabric.moves g.D.DiskPort.means c.args.world.now c.step.new.world c.oldest-oldest.result c.in-Some.which tells is
    c.step.ensures.made

pub returns-in_default-clause-ended : goal.returns-in_default-clause-ended
returns-in_default-clause-ended g c =
    let tells : TellsOldest (g.D.DiskPort.means c.args.world.now.core.disk).blocks
    (g.D.DiskPort.means c.args.world.now.core.disk).flights c.oldest-oldest.result =
    search rules in
    let is : known_operation c.args.world.now.core.device.sizes c.oldest-oldest.result ≡ None = search rules in
    ended_none g.D.DiskPort.moves g.F.Fabric.moves g.D.DiskPort.means c.args.world.now c.oldest-oldest.result tells is
