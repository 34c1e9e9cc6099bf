use Rattle.swap_table.specs.Device.{route, routed_again}
use Rattle.swap_table.specs.declared.InStep.{InStep}
use Rattle.swap_table.proofs.Programs.{Along-answering}
use Rattle.swap_device.proofs.machine.Machine.route_again.Goals as goal

pub returns-in-Done-clause-moved : goal.returns-in-Done-clause-moved
returns-in-Done-clause-moved g c =
    Along-answering g.D.DiskPort.moves g.F.Fabric.moves routed_again
    (route c.args.self.now.device c.args.caller c.args.page) c.args.self.now.disk c.args.self.now.fabric c.route.new.self.disk c.route.new.self.fabric
    (c.route.new.self.device, InStep.Done c.in-Done.entry) c.in-Done.ensures.moved

pub returns-in-Wait-clause-moved : goal.returns-in-Wait-clause-moved
returns-in-Wait-clause-moved g c =
    Along-answering g.D.DiskPort.moves g.F.Fabric.moves routed_again
    (route c.args.self.now.device c.args.caller c.args.page) c.args.self.now.disk c.args.self.now.fabric c.route.new.self.disk c.route.new.self.fabric
    (c.route.new.self.device, InStep.Wait c.in-Wait.via) c.in-Wait.ensures.moved
