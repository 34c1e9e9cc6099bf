use Rattle.std.proofs.Common.{[], sym, ap, ◌∙◌, subst}
use Rattle.swap_table.specs.Device.{Core, read_at}
use Rattle.swap_base.specs.Sizes.{place_of}
use Rattle.swap_wire.specs.declared.Msg.TheVariants as msg
use Rattle.swap_wire.specs.declared.fabric.Sent.TheVariants as sent
use Rattle.swap_wire.specs.Fabric.{Send, parcel_of}
use Rattle.swap_device.specs.State.{Went}
use Rattle.swap_device.proofs.Programs.{reads_down, lose_from}
use Rattle.swap_device.proofs.machine.Machine.read_at.Goals as goal

pub returns-in-Down-clause-moved : goal.returns-in-Down-clause-moved
returns-in-Down-clause-moved g c =
    let place = c.place-place.ensures ∙ ap (λ (x : Core g.row.D.Denot g.row.F.Denot). place_of x.device.sizes c.args.page.0) c.self.view_is in
    let down =
    subst (λ i. g.F.Fabric.moves c.args.self.now.fabric (Send c.in-Some.lender (parcel_of (msg.Read c.in-Some.lease i) [])) sent.Down c.send.new.self.fabric)
    place c.in-Down.ensures.moved in
    subst (λ t.
    Went g.D.DiskPort.moves g.F.Fabric.moves
    (λ d. read_at d c.args.caller c.args.page c.args.newest t) c.args.self.now c.read_disk-in-Down.new.self c.read_disk-in-Down.result)
    (sym c.in-Some.is)
    (reads_down g.D.DiskPort.moves g.F.Fabric.moves c.args.self.now.device c.lose.new.self.device c.read_disk-in-Down.new.self.device c.args.caller c.args.page
    c.args.newest
    (c.in-Some.lender, c.in-Some.lease) c.read_disk-in-Down.result c.args.self.now.disk c.lose.new.self.disk c.read_disk-in-Down.new.self.disk
    c.args.self.now.fabric c.send.new.self.fabric c.lose.new.self.fabric c.read_disk-in-Down.new.self.fabric down
    (lose_from g.D.DiskPort.moves g.F.Fabric.moves c.args.self.now c.send.new.self c.lose.new.self c.in-Some.lender c.send.ensures.rest c.lose.ensures.moved)
    c.read_disk-in-Down.ensures.moved)
