use Rattle.std.proofs.Common.{rules, ◌≡◌, ◌∙◌, ap, sym, length}
use Rattle.swap_wire.specs.Fabric.{FabricOf}
use Rattle.swap_table.specs.Device.{Device}
use Rattle.swap_board.specs.Acts.{Player}
use Rattle.swap_board.specs.Works.{moved_between}
use Rattle.swap_board.proofs.Working.{worked_as}
use Rattle.swap_board.proofs.works.work_disk.Goals as goal

pub end_oldest-requires-clause-page : goal.end_oldest-requires-clause-page
end_oldest-requires-clause-page g c =
    c.step.ensures.page ∙ c.requires.page ∙ ap (λ (d : Device). d.sizes.page_bytes) (sym c.reserve.ensures.device)
    ∙ ap (λ (o : FabricOf). o.sizes.page_bytes) (sym (c.step.ensures.made.works Player).makes.of)

pub returns-clause-pumps : goal.returns-clause-pumps
returns-clause-pumps g c =
    let r = c.reserve.ensures in
    let says : c.what_moved.result ≡ moved_between (length c.args.world.now.log) (length c.poll.new.world.log) = search rules in
    worked_as g.D.DiskPort.moves g.F.Fabric.moves g.D.DiskPort.means c.args.world.now c.reserve.new.self c.step.new.world c.end_oldest.new.world
    c.poll.new.world
    (record { device = r.device; disk = r.disk; fabric = r.fabric; log = r.log; spare = r.no_less }) c.step.ensures.made c.end_oldest.ensures.ended
    c.poll.ensures c.what_moved.result says
