use Rattle.std.proofs.Common.{sym, ap, ◌∙◌}
use Rattle.swap_table.specs.Device.{Core}
use Rattle.swap_queue.specs.Queue.{has_room}
use Rattle.swap_device.proofs.Programs.{puts}
use Rattle.swap_device.proofs.machine.Machine.put.Goals as goal

pub returns-then-has_room-clause-moved : goal.returns-then-has_room-clause-moved
returns-then-has_room-clause-moved g c =
    let room =
    ap (λ (x : Core g.row.D.Denot g.row.F.Denot). has_room x.device.queue c.args.page) (sym c.self.view_is) ∙ sym c.has_room.ensures ∙ c.if-has_room.true in
    puts g.D.DiskPort.moves g.F.Fabric.moves c.args.self.now.device c.accept-sent.new.self.device c.args.caller c.args.page c.args.bytes.now
    c.accept-sent.result.0 c.accept-sent.result.1 c.args.self.now.disk c.accept-sent.new.self.disk c.args.self.now.fabric c.accept-sent.new.self.fabric room
    c.accept-sent.ensures.name c.accept-sent.ensures.moved
