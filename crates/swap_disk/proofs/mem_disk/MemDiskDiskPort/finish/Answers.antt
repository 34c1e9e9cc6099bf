use Rattle.std.proofs.Common.{◌≡◌, Bool, false, sym, ap, ◌∙◌, subst}
use Rattle.swap_disk.specs.Disk.{Disk, finish, can_finish}
use Rattle.swap_disk.specs.MemDiskView.{MemDiskView, IsDrive}
use Rattle.swap_disk.specs.Flights.{drive_in}
use Rattle.swap_disk.proofs.DriveMoves.{is_drive, stays, none_finishes}
use Rattle.swap_disk.proofs.mem_disk.MemDiskDiskPort.finish.Goals as goal
use Rattle.swap_disk.proofs.mem_disk.MemDiskDiskPort.finish.Goals.{then-is_some-via-then-is_some, then-is_some-via-else-is_some+then-not-has}

pub returns-then-is_some : goal.returns-then-is_some
returns-then-is_some c =
    let still : (can_finish (drive_in c.self.inside.blocks c.self.inside.flights c.self.inside.ended c.self.inside.faults).disk c.args.which ≡ false)
    × (finish (drive_in c.self.inside.blocks c.self.inside.flights c.self.inside.ended c.self.inside.faults).disk c.args.which c.args.ok
    ≡ (drive_in c.self.inside.blocks c.self.inside.flights c.self.inside.ended c.self.inside.faults).disk) =
    elim c.then-is_some.branch [
      | then-is_some-via-then-is_some w ↦
          stays c.self.inside.blocks c.self.inside.flights c.self.inside.ended c.self.inside.faults c.args.which c.args.ok c.self.invariant
          (sym c.is_some.ensures ∙ w.if-is_some.true)
      | then-is_some-via-else-is_some+then-not-has w ↦
          none_finishes c.self.inside.blocks c.self.inside.flights c.self.inside.ended c.self.inside.faults c.args.which c.args.ok
          (sym c.is_some.ensures ∙ w.if-is_some.false) (sym w.has.ensures ∙ w.if-not-has.true)
    ] in
    let P : Bool → MemDiskView → Bool × MemDiskView = λ b d. (b, d) in
    let A : MemDiskView → MemDiskView = λ d. record { sizes = d.sizes; disk = finish d.disk c.args.which c.args.ok } in
    let B : Disk → MemDiskView = λ k. record { sizes = c.self.inside.flights.sizes; disk = k } in (
      subst (λ (d : MemDiskView). IsDrive d) c.self.view_is
          (is_drive c.self.inside.blocks c.self.inside.flights c.self.inside.ended c.self.inside.faults c.self.invariant),
      ap (λ b. P b (A c.args.self.now)) (ap (λ (d : MemDiskView). can_finish d.disk c.args.which) (sym c.self.view_is) ∙ still.0)
          ∙ ap (λ d. P false d) (ap A (sym c.self.view_is) ∙ ap B still.1 ∙ c.self.view_is),
    )
