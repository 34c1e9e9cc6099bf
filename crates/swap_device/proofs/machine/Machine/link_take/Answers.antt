use Rattle.std.proofs.Common.{sym, ap, ◌∙◌, subst}
use Rattle.swap_table.specs.Device.{Core}
use Rattle.swap_rings.specs.Rings.{is_up, oldest, ring_of}
use Rattle.swap_table.specs.Ports.{Along}
use Rattle.swap_table.specs.Device.{understand}
use Rattle.swap_device.specs.State.{IsServed, heard_of}
use Rattle.swap_device.proofs.Served.{served}
use Rattle.swap_device.proofs.Programs.{takes_lost, takes_message, lose_from}
use Rattle.swap_device.proofs.machine.Machine.link_take.Goals as goal

pub understand-requires-clause-front : goal.understand-requires-clause-front
understand-requires-clause-front g c =
    subst (λ (x : Core g.row.D.Denot g.row.F.Denot). IsServed x.device c.args.lender (oldest (ring_of x.device.remote.links c.args.lender)))
    (sym c.take.ensures.rest) (served _ _ _ c.args.self.now.device c.args.lender c.requires.agree.0.serves)

pub returns-in-Lost-clause-moved : goal.returns-in-Lost-clause-moved
returns-in-Lost-clause-moved g c =
    let up =
    ap (λ (x : Core g.row.D.Denot g.row.F.Denot). is_up x.device.remote.links c.args.lender) (sym c.self.view_is) ∙ sym c.is_up.ensures
    ∙ c.if-not-is_up.false in
    takes_lost g.D.DiskPort.moves g.F.Fabric.moves c.args.self.now.device c.lose.new.self.device c.args.lender c.args.self.now.disk c.lose.new.self.disk
    c.args.self.now.fabric c.take.new.self.fabric c.lose.new.self.fabric up c.in-Lost.ensures.moved
    (lose_from g.D.DiskPort.moves g.F.Fabric.moves c.args.self.now c.take.new.self c.lose.new.self c.args.lender c.take.ensures.rest c.lose.ensures.moved)

pub returns-in-Got-clause-moved : goal.returns-in-Got-clause-moved
returns-in-Got-clause-moved g c =
    let up =
    ap (λ (x : Core g.row.D.Denot g.row.F.Denot). is_up x.device.remote.links c.args.lender) (sym c.self.view_is) ∙ sym c.is_up.ensures
    ∙ c.if-not-is_up.false in
    let understood =
    subst (λ (x : Core g.row.D.Denot g.row.F.Denot).
    Along g.D.DiskPort.moves g.F.Fabric.moves
    (understand x.device c.args.lender c.in-Got.msg
    (heard_of x.device c.args.lender c.in-Got.msg c.take.new.page (oldest (ring_of x.device.remote.links c.args.lender))))
    x.disk c.take.new.self.fabric c.understand.new.self.disk c.understand.new.self.fabric
    (c.understand.new.self.device, c.understand.result))
    c.take.ensures.rest c.understand.ensures.moved in
    takes_message g.D.DiskPort.moves g.F.Fabric.moves c.args.self.now.device c.understand.new.self.device c.args.lender c.in-Got.msg c.take.new.page
    c.understand.result c.args.self.now.disk c.understand.new.self.disk c.args.self.now.fabric c.take.new.self.fabric c.understand.new.self.fabric up
    c.in-Got.ensures.moved understood
