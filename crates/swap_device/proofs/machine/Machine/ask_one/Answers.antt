use Rattle.std.proofs.Common.{sym, ap}
use Rattle.swap_table.specs.Device.{placed_at}
use Rattle.swap_device.proofs.Programs.{asks_one}
use Rattle.swap_device.proofs.machine.Machine.ask_one.Goals as goal

pub returns-then-query-clause-moved : goal.returns-then-query-clause-moved
returns-then-query-clause-moved g c =
    asks_one g.D.DiskPort.moves g.F.Fabric.moves c.args.self.now.device c.query.new.self.device c.args.slab c.args.lender c.query.result _ c.args.self.now.disk
    c.query.new.self.disk c.args.self.now.fabric c.query.new.self.fabric
    (ap (placed_at c.args.slab c.args.lender) (sym c.if-query.true)) c.query.ensures.moved

pub returns-else-query-clause-moved : goal.returns-else-query-clause-moved
returns-else-query-clause-moved g c =
    asks_one g.D.DiskPort.moves g.F.Fabric.moves c.args.self.now.device c.query.new.self.device c.args.slab c.args.lender c.query.result _ c.args.self.now.disk
    c.query.new.self.disk c.args.self.now.fabric c.query.new.self.fabric
    (ap (placed_at c.args.slab c.args.lender) (sym c.if-query.false)) c.query.ensures.moved
