use Rattle.std.proofs.Common.{sym, ap, ◌∙◌, subst, None}
use Rattle.swap_table.specs.Device.{Core, write_to}
use Rattle.swap_base.specs.Sizes.{place_of}
use Rattle.swap_wire.specs.declared.Msg.TheVariants as msg
use Rattle.swap_wire.specs.declared.fabric.Sent.TheVariants as sent
use Rattle.swap_wire.specs.Fabric.{Send, parcel_of}
use Rattle.swap_device.specs.State.{Went}
use Rattle.swap_device.proofs.Programs.{writes_down, lose_from}
use Rattle.swap_device.proofs.machine.Machine.send_write.Goals as goal

pub returns-in-Down-clause-moved : goal.returns-in-Down-clause-moved
returns-in-Down-clause-moved g c =
    let place = c.place-place.ensures ∙ ap (λ (x : Core g.row.D.Denot g.row.F.Denot). place_of x.device.sizes c.args.page.0) c.self.view_is in
    let down =
    subst (λ i.
    g.F.Fabric.moves c.args.self.now.fabric
    (Send c.in_ok-lender.lender (parcel_of (msg.Write c.in_ok-lender.lease i) c.args.bytes.now)) sent.Down c.send.new.self.fabric)
    place c.in-Down.ensures.moved in
    subst (λ t. Went g.D.DiskPort.moves g.F.Fabric.moves (λ d. write_to d c.args.page c.args.entry c.args.bytes.now t) c.args.self.now c.lose.new.self None)
    (sym c.in_ok-lender.was)
    (writes_down g.D.DiskPort.moves g.F.Fabric.moves c.args.self.now.device c.lose.new.self.device c.args.page c.args.entry c.args.bytes.now
    (c.in_ok-lender.lender, c.in_ok-lender.lease) c.args.self.now.disk c.lose.new.self.disk c.args.self.now.fabric c.send.new.self.fabric
    c.lose.new.self.fabric down
    (lose_from g.D.DiskPort.moves g.F.Fabric.moves c.args.self.now c.send.new.self c.lose.new.self c.in_ok-lender.lender c.send.ensures.rest
    c.lose.ensures.moved))
