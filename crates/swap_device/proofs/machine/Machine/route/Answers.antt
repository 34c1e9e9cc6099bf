use Rattle.std.proofs.Common.{sym, ◌∙◌}
use Rattle.swap_device.proofs.Goes.{may_go}
use Rattle.swap_device.proofs.Free.{read_free}
use Rattle.swap_device.proofs.Ready.{agree_ready}
use Rattle.swap_device.proofs.machine.Machine.route.Goals as goal
use Rattle.swap_table.proofs.EventsGoByMoves.{source_target}

pub read_at-requires-clause-free : goal.read_at-requires-clause-free
read_at-requires-clause-free g c = read_free _ _ _ _ _ c.requires.agree.0.disk c.requires.may_read

pub read_at-requires-clause-source : goal.read_at-requires-clause-source
read_at-requires-clause-source g c =
    let agree = rw (← c.self.view_is) at c.requires.agree in
    let page = rw (← c.self.view_is) at c.requires.page in
    rw (← c.self.view_is)
    (may_go _ _ _ _ _ _ _ _ _ agree.0.serves c.keeps_remote.ensures.limits page
    (λ a is. source_target c.self.inside.state.device c.args.page a (sym c.source-source.ensures ∙ is)))

pub read_at-requires-clause-ready : goal.read_at-requires-clause-ready
read_at-requires-clause-ready g c = agree_ready g.D.DiskPort g.F.Fabric _ c.requires.agree
