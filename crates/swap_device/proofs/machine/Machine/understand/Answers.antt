use Rattle.std.proofs.Common.{◌<◌, refl, sym, subst}
use Rattle.swap_table.specs.Device.{Core, lose}
use Rattle.swap_rings.specs.Rings as rings
use Rattle.swap_table.specs.Ports.{Along}
use Rattle.swap_table.specs.Device.{Device}
use Rattle.swap_device.specs.State.{heard_of, heard_with}
use Rattle.swap_device.proofs.Heard.{unheard, heard_along, ready_heard, lender_heard, heard_of_was}
use Rattle.swap_device.proofs.machine.Machine.understand.Goals as goal

pub returns-in_default-clause-moved : goal.returns-in_default-clause-moved
returns-in_default-clause-moved g c =
    let d = c.self.inside.state.device in
    let after =
    subst (λ (x : Core g.row.D.Denot g.row.F.Denot).
    Along g.D.DiskPort.moves g.F.Fabric.moves
    (lose x.device c.args.lender) x.disk c.end.new.self.fabric c.lose.new.self.disk c.lose.new.self.fabric c.lose.new.self.device)
    c.end.ensures.rest c.lose.ensures.moved in
    let lost =
    subst (λ (x : Device).
    Along g.D.DiskPort.moves g.F.Fabric.moves
    (lose x c.args.lender) c.self.inside.disk c.end.new.self.fabric c.lose.new.self.disk c.lose.new.self.fabric c.lose.new.self.device)
    (c.in_default.ensures.heard.1 refl) after in
    rw (← c.self.view_is)
    (unheard g.D.DiskPort.moves g.F.Fabric.moves c.self.inside.disk c.lose.new.self.disk c.self.inside.fabric c.end.new.self.fabric c.lose.new.self.fabric d
    c.lose.new.self.device c.args.lender c.args.msg
    (heard_of d c.args.lender c.args.msg c.args.bytes.now (rings.oldest (rings.ring_of c.self.inside.state.device.remote.links c.args.lender)))
    c.in_default.ensures.heard.0 c.end.ensures.moved lost)

pub follow-requires-clause-lender : goal.follow-requires-clause-lender
follow-requires-clause-lender g c =
    let d = c.self.inside.state.device in
    let within = subst (λ (x : Core g.row.D.Denot g.row.F.Denot). c.args.lender.0 < x.device.lenders) (sym c.self.view_is) c.requires.lender in
    lender_heard d c.hear.new.state.device c.args.lender
    (heard_of_was d c.hear.new.state.device c.args.lender c.args.msg c.args.bytes.now
    (rings.oldest (rings.ring_of c.self.inside.state.device.remote.links c.args.lender)) c.in-Some.answer c.in-Some.ensures.heard.0)
    within

pub follow-requires-clause-ready : goal.follow-requires-clause-ready
follow-requires-clause-ready g c =
    let ready = rw (← c.self.view_is) at c.requires.ready in
    ready_heard g.F.Fabric
    (record { device = c.self.inside.state.device; disk = c.self.inside.disk; fabric = c.self.inside.fabric; spare = c.self.inside.state.spare })
    c.hear.new.state.device c.args.lender c.args.msg c.args.bytes.now
    (rings.oldest (rings.ring_of c.self.inside.state.device.remote.links c.args.lender)) c.in-Some.answer c.hear.new.state.spare c.in-Some.ensures.heard.0
    ready

pub returns-clause-moved : goal.returns-clause-moved
returns-clause-moved g c =
    let d = c.self.inside.state.device in
    rw (← c.self.view_is)
    (heard_along g.D.DiskPort.moves g.F.Fabric.moves c.self.inside.disk c.follow.new.self.disk c.self.inside.fabric c.follow.new.self.fabric d
    c.follow.new.self.device c.args.lender c.args.msg
    (heard_of d c.args.lender c.args.msg c.args.bytes.now (rings.oldest (rings.ring_of c.self.inside.state.device.remote.links c.args.lender)))
    (heard_with c.hear.new.state.device c.in-Some.answer) c.in-Some.ensures.heard.0 c.follow.ensures.moved)
