use Rattle.std.proofs.Common.{ap, ◌∙◌}
use Rattle.swap_table.specs.Device.{Core, may_map}
use Rattle.swap_device.proofs.Programs.{maps}
use Rattle.swap_device.proofs.machine.Machine.map.Goals as goal

pub returns-clause-moved : goal.returns-clause-moved
returns-clause-moved g c =
    let may = c.may_map-may.ensures ∙ ap (λ (x : Core g.row.D.Denot g.row.F.Denot). may_map x.device c.args.slab c.args.lender) c.self.view_is in
    maps g.D.DiskPort.moves g.F.Fabric.moves c.args.self.now.device c.choose.new.self.device c.args.slab c.args.lender c.may_map-may.result c.args.self.now.disk
    c.choose.new.self.disk c.args.self.now.fabric c.choose.new.self.fabric may c.choose.ensures.moved
