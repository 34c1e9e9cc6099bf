use Rattle.std.proofs.Common.{◌<◌, sym, ap, ◌∙◌, subst}
use Rattle.swap_table.specs.Device.{Device, Core, may_ask}
use Rattle.swap_slabs.specs.Slabs.{state_of}
use Rattle.swap_device.specs.State.{StateView}
use Rattle.swap_device.proofs.Programs.{asked_alone, asks_down, lose_from}
use Rattle.swap_device.proofs.machine.Machine.query.Goals as goal

pub returns-in-Sent-clause-asking : goal.returns-in-Sent-clause-asking
returns-in-Sent-clause-asking g c = λ sent none.
    let d = c.self-in-Sent.inside.state.device in
    let same = ap (λ (x : Core g.row.D.Denot g.row.F.Denot). x.device) (c.self-in-Sent.view_is ∙ c.send.ensures.rest) in
    let slab = subst (λ (x : Device). c.args.slab.0 < x.sizes.slabs) (sym same) c.requires.slab in
    let within = subst (λ n. c.args.slab.0 < n) (sym c.keeps_remote.ensures.slabs_len) slab in
    ap (λ (x : StateView). state_of x.device.remote.slabs c.args.slab) c.query_sent.ensures
    ∙ asked_alone d.remote c.args.slab c.args.first c.args.lender within none

pub returns-in-Down-clause-moved : goal.returns-in-Down-clause-moved
returns-in-Down-clause-moved g c =
    let may =
    ap (λ (x : Core g.row.D.Denot g.row.F.Denot). may_ask x.device c.args.slab c.args.first c.args.lender) (sym c.self.view_is) ∙ sym c.may_ask.ensures
    ∙ c.if-not-may_ask.false in
    asks_down g.D.DiskPort.moves g.F.Fabric.moves c.args.self.now.device c.lose.new.self.device c.args.slab c.args.first c.args.lender c.args.self.now.disk
    c.lose.new.self.disk c.args.self.now.fabric c.send.new.self.fabric c.lose.new.self.fabric may c.in-Down.ensures.moved
    (lose_from g.D.DiskPort.moves g.F.Fabric.moves c.args.self.now c.send.new.self c.lose.new.self c.args.lender c.send.ensures.rest c.lose.ensures.moved)
