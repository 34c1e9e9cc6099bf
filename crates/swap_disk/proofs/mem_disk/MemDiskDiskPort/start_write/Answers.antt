use Rattle.std.proofs.Common.{[], ◌∷◌, sym, ap, ◌∙◌, subst}
use Rattle.swap_disk.specs.Disk.{Write, start_after}
use Rattle.swap_disk.specs.MemDiskView.{MemDiskView, IsDrive}
use Rattle.swap_disk.proofs.DriveMoves.{is_drive, start_is, start_holds}
use Rattle.swap_disk.proofs.mem_disk.MemDiskDiskPort.start_write.Goals as goal

pub invariant_of-self : goal.invariant_of-self
invariant_of-self c =
    start_holds c.self.inside.blocks c.self.inside.flights c.start_write.new.self c.self.inside.ended c.self.inside.faults
    (Write c.args.page c.args.bytes.now ∷ []) c.self.invariant c.start_write.ensures

pub returns : goal.returns
returns c =
    let D : MemDiskView → MemDiskView = λ d. record { sizes = d.sizes; disk = start_after d.disk (Write c.args.page c.args.bytes.now ∷ []) } in (
      subst (λ (d : MemDiskView). IsDrive d) c.self.view_is
          (is_drive c.self.inside.blocks c.self.inside.flights c.self.inside.ended c.self.inside.faults c.self.invariant),
      ap (λ (d : MemDiskView). (tt, d))
          (ap D (sym c.self.view_is)
          ∙ start_is c.self.inside.blocks c.self.inside.flights c.start_write.new.self c.self.inside.ended c.self.inside.faults
          (Write c.args.page c.args.bytes.now ∷ []) c.self.invariant c.start_write.ensures),
    )
