use Rattle.swap_device.specs.State.{heard_with}
use Rattle.swap_device.proofs.Programs.{follows}
use Rattle.swap_device.proofs.machine.Machine.follow.Goals as goal

pub returns-clause-moved : goal.returns-clause-moved
returns-clause-moved g c =
    follows g.D.DiskPort.moves g.F.Fabric.moves
    (heard_with c.args.self.now.device c.args.answer) c.args.lender c.args.self.now.disk c.say.new.self.disk c.choose.new.self.disk c.args.self.now.fabric
    c.say.new.self.fabric c.choose.new.self.fabric c.say.new.self.device c.choose.new.self.device c.say.ensures.moved c.choose.ensures.moved
