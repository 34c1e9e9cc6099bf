use Rattle.std.proofs.Common.{sym, ap, ◌∙◌, subst}
use Rattle.swap_table.specs.Device.{Core, accept_program}
use Rattle.swap_queue.specs.Queue.{has_room}
use Rattle.swap_calls.specs.Calls.{call_of}
use Rattle.swap_table.specs.Ports.{Along}
use Rattle.swap_device.proofs.Programs.{puts_late}
use Rattle.swap_device.proofs.machine.Machine.finish_out.Goals as goal

pub returns-then-has_room-clause-moved : goal.returns-then-has_room-clause-moved
returns-then-has_room-clause-moved g c =
    let room =
    ap (λ (x : Core g.row.D.Denot g.row.F.Denot). has_room x.device.queue c.args.page) (sym c.self.view_is) ∙ sym c.has_room.ensures ∙ c.if-has_room.true in
    let kept =
    c.copy_from_slice.ensures.after ∙ c.kept.ensures.kept
    ∙ ap (λ (x : Core g.row.D.Denot g.row.F.Denot). (call_of x.device.calls c.args.caller).bytes) c.self.view_is in
    let moved =
    subst (λ b.
    Along g.D.DiskPort.moves g.F.Fabric.moves
    (accept_program c.args.self.now.device c.args.caller c.args.page b) c.args.self.now.disk c.args.self.now.fabric c.accept-sent.new.self.disk
    c.accept-sent.new.self.fabric
    (c.accept-sent.new.self.device, c.accept-sent.result.1))
    kept c.accept-sent.ensures.moved in
    puts_late g.D.DiskPort.moves g.F.Fabric.moves c.args.self.now.device c.accept-sent.new.self.device c.args.caller c.args.page c.args.since
    (call_of c.args.self.now.device.calls c.args.caller).bytes c.accept-sent.result.0 c.accept-sent.result.1 c.args.self.now.disk c.accept-sent.new.self.disk
    c.args.self.now.fabric c.accept-sent.new.self.fabric room c.accept-sent.ensures.name moved
