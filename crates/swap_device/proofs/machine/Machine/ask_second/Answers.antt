use Rattle.std.proofs.Common.{sym, ap}
use Rattle.swap_table.specs.Device.{placed_beside}
use Rattle.swap_device.proofs.Programs.{asks_beside}
use Rattle.swap_device.proofs.machine.Machine.ask_second.Goals as goal

pub returns-then-query-clause-moved : goal.returns-then-query-clause-moved
returns-then-query-clause-moved g c =
    asks_beside g.D.DiskPort.moves g.F.Fabric.moves c.args.self.now.device c.query.new.self.device c.args.slab c.args.first c.args.second c.args.sent
    c.query.result _ c.args.self.now.disk c.query.new.self.disk c.args.self.now.fabric c.query.new.self.fabric c.if-not-sent.false
    (ap (placed_beside c.args.slab c.args.first c.args.second) (sym c.if-query.true)) c.query.ensures.moved

pub returns-clause-moved : goal.returns-clause-moved
returns-clause-moved g c =
    asks_beside g.D.DiskPort.moves g.F.Fabric.moves c.args.self.now.device c.query.new.self.device c.args.slab c.args.first c.args.second c.args.sent
    c.query.result _ c.args.self.now.disk c.query.new.self.disk c.args.self.now.fabric c.query.new.self.fabric c.if-not-sent.false
    (ap (placed_beside c.args.slab c.args.first c.args.second) (sym c.if-query.false)) c.query.ensures.moved
