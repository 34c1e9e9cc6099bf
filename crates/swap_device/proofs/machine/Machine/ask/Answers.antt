use Rattle.std.proofs.Common.{sym, subst}
use Rattle.swap_table.specs.Device.{ask}
use Rattle.swap_device.specs.State.{Went}
use Rattle.swap_device.proofs.Programs.{asks_two}
use Rattle.swap_device.proofs.machine.Machine.ask.Goals as goal

pub returns-in-Two-clause-moved : goal.returns-in-Two-clause-moved
returns-in-Two-clause-moved g c =
    subst (λ a. Went g.D.DiskPort.moves g.F.Fabric.moves (λ d. ask d c.args.slab a) c.args.self.now c.ask_second.new.self c.ask_second.result) (sym c.in-Two.is)
    (asks_two g.D.DiskPort.moves g.F.Fabric.moves c.args.self.now.device c.query-sent.new.self.device c.ask_second.new.self.device c.args.slab c.in-Two.n
    c.in-Two.m c.query-sent.result c.ask_second.result c.args.self.now.disk c.query-sent.new.self.disk c.ask_second.new.self.disk c.args.self.now.fabric
    c.query-sent.new.self.fabric c.ask_second.new.self.fabric c.query-sent.ensures.moved c.ask_second.ensures.moved)
