use Rattle.std.proofs.Common.{◌≡◌, sym, ap, ◌∙◌, subst, Option, Some}
use Rattle.swap_disk.specs.Disk.{Taken, bytes_given, after_take, take_from}
use Rattle.swap_disk.specs.MemDiskView.{MemDiskView, IsDrive}
use Rattle.swap_disk.specs.Flights.{drive_in}
use Rattle.swap_disk.proofs.DriveMoves.{is_drive, taken_is, after_is}
use Rattle.swap_disk.proofs.mem_disk.MemDiskDiskPort.take.Goals as goal

pub returns : goal.returns
returns c =
    let P : Option Taken → MemDiskView → Option Taken × MemDiskView = λ t d. (t, d) in
    let now : drive_in c.self.inside.blocks c.self.inside.flights (Some c.in_ok-ended.ended) c.self.inside.faults ≡ c.args.self.now =
    ap (λ o. drive_in c.self.inside.blocks c.self.inside.flights o c.self.inside.faults) (sym c.in_ok-ended.was) ∙ c.self.view_is in
    let A : MemDiskView → MemDiskView = λ d. record { sizes = d.sizes; disk = after_take d.disk } in (
      subst (λ (d : MemDiskView). IsDrive d) c.self.view_is
          (is_drive c.self.inside.blocks c.self.inside.flights c.self.inside.ended c.self.inside.faults c.self.invariant),
      ap (λ t. P t (A c.args.self.now))
          (ap (λ (d : MemDiskView). take_from d.disk) (sym now)
          ∙ taken_is c.self.inside.blocks c.self.inside.flights c.land.new.self c.in_ok-ended.ended c.self.inside.faults c.counted-self-inside.result
          c.page-page.result c.args.buf.now c.hand_over.new.buf c.page-page.ensures.page c.hand_over.ensures c.land.ensures c.counted-self-inside.ensures)
          ∙ ap
          (λ d.
          P
          (Some
          (record {
            done = record { which = c.in_ok-ended.ended.which; page = c.page-page.result; ok = c.in_ok-ended.ended.ok };
            bytes = bytes_given c.in_ok-ended.ended.which c.in_ok-ended.ended.ok c.hand_over.new.buf;
          }))
          d)
          (ap A (sym now)
          ∙ after_is c.self.inside.blocks c.self.inside.flights c.land.new.self c.in_ok-ended.ended c.self.inside.faults c.counted-self-inside.result
          c.page-page.result c.args.buf.now c.hand_over.new.buf c.page-page.ensures.page c.hand_over.ensures c.land.ensures c.counted-self-inside.ensures),
    )
