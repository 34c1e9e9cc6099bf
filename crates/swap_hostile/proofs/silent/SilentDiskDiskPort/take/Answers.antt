use Rattle.std.proofs.Common.{◌≡◌, ℕ, Bool, not, sym, ap, ◌∙◌, subst, Option, None, Some}
use Rattle.swap_io.specs.Memory.{is_listed}
use Rattle.swap_disk.specs.Disk.{Taken, one_more}
use Rattle.swap_disk.specs.MemDiskView as drive
use Rattle.swap_disk.specs.MemDiskView.{MemDiskView, IsDrive}
use Rattle.swap_disk.specs.Port.{TakeDone, LetFinish, oldest_in, taken_by}
use Rattle.swap_hostile.specs.Silent.{Silent, is_well, ended_drive, take_oldest, ask}
use Rattle.swap_hostile.proofs.silent.SilentDiskDiskPort.take.Goals as goal

pub returns-in_err-which : goal.returns-in_err-which
returns-in_err-which c =
    let V : Silent = record { drive = c.self.inside.disk; failing = c.self.inside.failing.items; ended = c.self.inside.ended } in
    let none : oldest_in c.self.inside.disk.disk.flights ≡ None = sym c.oldest.ensures ∙ c.in_err-which.was in (
      subst (λ (d : Silent). IsDrive d.drive) c.self.view_is c.self.invariant,
      ap (λ d. ask d TakeDone) (sym c.self.view_is) ∙ ap (take_oldest V) none ∙ ap (λ (d : Silent). (None, d)) c.self.view_is
          ∙ ap (λ o. (taken_by o c.args.buf.now, c.args.self.now)) (sym c.from_residual.ensures),
    )

pub returns : goal.returns
returns c =
    let V : Silent = record { drive = c.self.inside.disk; failing = c.self.inside.failing.items; ended = c.self.inside.ended } in
    let T : MemDiskView → ℕ → Option Taken × Silent =
    λ e n. ((drive.ask e TakeDone).0, record { drive = (drive.ask e TakeDone).1; failing = c.self.inside.failing.items; ended = n }) in
    let S : ℕ → Option Taken × MemDiskView → Option Taken × Silent = λ n r. (r.0, record { drive = r.1; failing = c.self.inside.failing.items; ended = n }) in
    let oldest : oldest_in c.self.inside.disk.disk.flights ≡ Some c.in_ok-which.which = sym c.oldest.ensures ∙ c.in_ok-which.was in
    let well : is_well V ≡ not c.is_listed-ok.result =
    ap not (ap (λ failing. is_listed failing c.self.inside.ended) (sym c.deref.ensures.value) ∙ sym c.is_listed-ok.ensures) in
    let ended : ended_drive V c.in_ok-which.which ≡ c.finish.new.self =
    ap (λ ok. (drive.ask c.self.inside.disk (LetFinish c.in_ok-which.which ok)).1) well ∙ ap (λ (r : Bool × MemDiskView). r.1) c.finish.ensures.1 in (
      subst (λ (d : Silent). IsDrive d.drive) c.self.view_is c.self.invariant,
      ap (λ d. ask d TakeDone) (sym c.self.view_is) ∙ ap (take_oldest V) oldest ∙ ap (λ e. T e (one_more c.self.inside.ended)) ended
          ∙ ap (T c.finish.new.self) (sym c.saturating_add-self-inside.ensures) ∙ ap (S c.saturating_add-self-inside.result) c.take.ensures.1,
    )
