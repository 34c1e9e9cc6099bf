use Rattle.std.proofs.Common.{sym, ap, ◌∙◌, subst}
use Rattle.swap_base.specs.declared.DiskWhich.TheVariants as which
use Rattle.swap_disk.specs.MemDiskView.{MemDiskView, IsDrive}
use Rattle.swap_disk.specs.Port.{IsFree, StartRead}
use Rattle.swap_hostile.specs.Silent.{Silent, port_of, ask}
use Rattle.swap_hostile.specs.lemmas.SilentLaws.{free_behind, drive_keeps}
use Rattle.swap_hostile.proofs.silent.SilentDiskDiskPort.start_read.Goals as goal

pub start_read-requires-clause-free : goal.start_read-requires-clause-free
start_read-requires-clause-free c =
    free_behind (which.Read c.args.caller) c.self.inside.disk.disk.flights
    (subst (λ (d : Silent). IsFree (port_of d).flights (which.Read c.args.caller)) (sym c.self.view_is) c.requires.free)

pub invariant_of-self : goal.invariant_of-self
invariant_of-self c = drive_keeps c.self.inside.disk c.start_read.new.self (StartRead c.args.caller c.args.page) tt c.start_read.ensures

pub returns : goal.returns
returns c =
    let S : MemDiskView → Silent = λ d. record { drive = d; failing = c.self.inside.failing.items; ended = c.self.inside.ended } in (
      subst (λ (d : Silent). IsDrive d.drive) c.self.view_is c.self.invariant,
      ap (λ d. ask d (StartRead c.args.caller c.args.page)) (sym c.self.view_is) ∙ ap (λ (r : Unit {0} × MemDiskView). (tt, S r.1)) c.start_read.ensures.1,
    )
