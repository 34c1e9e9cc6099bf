use Rattle.std.proofs.Common.{◌<◌, sym, ap, ◌∙◌, subst, arith}
use Rattle.swap_base.specs.declared.DiskWhich.TheVariants as which
use Rattle.swap_disk.specs.MemDiskView.{MemDiskView, IsDrive}
use Rattle.swap_disk.specs.Port.{IsFree, writes_in, StartWrite}
use Rattle.swap_hostile.specs.Silent.{Silent, port_of, ask}
use Rattle.swap_hostile.specs.lemmas.SilentLaws.{free_behind, writes_hidden, drive_keeps}
use Rattle.swap_hostile.proofs.silent.SilentDiskDiskPort.start_write.Goals as goal

pub start_write-requires-clause-free : goal.start_write-requires-clause-free
start_write-requires-clause-free c =
    free_behind (which.Write c.args.page) c.self.inside.disk.disk.flights
    (subst (λ (d : Silent). IsFree (port_of d).flights (which.Write c.args.page)) (sym c.self.view_is) c.requires.free)

pub start_write-requires-clause-room : goal.start_write-requires-clause-room
start_write-requires-clause-room c =
    let room : writes_in (port_of c.args.self.now).flights < c.args.self.now.drive.sizes.queue = c.requires.room in
    let P : Silent → Type 0 = λ d. writes_in (port_of d).flights < d.drive.sizes.queue in
    omega (arith, subst P (sym c.self.view_is) room, writes_hidden c.self.inside.disk.disk.flights)

pub invariant_of-self : goal.invariant_of-self
invariant_of-self c = drive_keeps c.self.inside.disk c.start_write.new.self (StartWrite c.args.page c.args.bytes.now) tt c.start_write.ensures

pub returns : goal.returns
returns c =
    let S : MemDiskView → Silent = λ d. record { drive = d; failing = c.self.inside.failing.items; ended = c.self.inside.ended } in (
      subst (λ (d : Silent). IsDrive d.drive) c.self.view_is c.self.invariant,
      ap (λ d. ask d (StartWrite c.args.page c.args.bytes.now)) (sym c.self.view_is) ∙ ap (λ (r : Unit {0} × MemDiskView). (tt, S r.1)) c.start_write.ensures.1,
    )
