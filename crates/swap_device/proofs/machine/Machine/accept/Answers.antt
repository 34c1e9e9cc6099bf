use Rattle.std.proofs.Common.{sym, ◌∙◌}
use Rattle.swap_device.proofs.Goes.{may_go, still_goes}
use Rattle.swap_device.proofs.Ready.{agree_ready, entered_ready}
use Rattle.swap_device.proofs.machine.Machine.accept.Goals as goal

pub send_write-sent-requires-clause-target : goal.send_write-sent-requires-clause-target
send_write-sent-requires-clause-target g c =
    let agree = rw (← c.self.view_is) at c.requires.agree in
    let page = rw (← c.self.view_is) at c.requires.page in
    rw c.enter-entry.ensures.state
    (still_goes _ _ _ _ _ _ (may_go _ _ _ _ _ _ _ _ _ agree.0.serves c.keeps_remote.ensures.limits page (λ a is. sym c.target-target.ensures ∙ is)))

pub send_write-sent-requires-clause-ready : goal.send_write-sent-requires-clause-ready
send_write-sent-requires-clause-ready g c =
    let agree = rw (← c.self.view_is) at c.requires.agree in
    rw c.enter-entry.ensures.state
    (entered_ready g.F.Fabric
    (record { device = c.self.inside.state.device; disk = c.self.inside.disk; fabric = c.self.inside.fabric; spare = c.self.inside.state.spare })
    c.args.caller c.args.page c.args.bytes.now _
    (agree_ready g.D.DiskPort g.F.Fabric _ agree))
