use Rattle.std.proofs.Common.{ℕ, false, List, refl, sym, ap, ◌∙◌, subst, Option, Some}
use Rattle.swap_base.specs.declared.Page.{Page}
use Rattle.swap_disk.specs.declared.DiskDone.{DiskDone}
use Rattle.swap_disk.specs.Disk.{Flight, without_flight}
use Rattle.swap_disk.specs.Port.{TakeDone, taken_by}
use Rattle.swap_file.specs.declared.flights.Flying.{Flying}
use Rattle.swap_file.specs.Flights.{FlightsView, Leaves}
use Rattle.swap_file.specs.Files.{FilePort, file_port, Moves}
use Rattle.swap_file.proofs.Moves.{unsent}
use Rattle.swap_file.proofs.file_disk.FileDisk.take_unsent.Goals as goal

pub returns : goal.returns
returns g c buf =
    let which = c.in_ok-which.which in
    let left : Leaves which c.self.inside.flights (Some c.in_ok-flying.flying) c.end.new.self =
    subst (λ (o : Option Flying). Leaves which c.self.inside.flights o c.end.new.self) c.in_ok-flying.was c.end.ensures in
    let n : ℕ = c.ended.new.self.port.faults in
    let F : List Flight → FilePort = λ fs. file_port c.self.inside.geometry fs n c.self.inside.dones in
    let D : Page → DiskDone = λ p. record { which = which; page = p; ok = false } in
    subst (λ (d : FilePort). Moves c.args.self.now TakeDone (taken_by (Some c.ended.result) buf) d) (sym c.ended.ensures.port)
    (subst (λ fs. Moves c.args.self.now TakeDone (taken_by (Some c.ended.result) buf) (F fs)) (sym (ap (λ (r : FlightsView). r.flights) left.1))
    (subst (λ (d : FilePort). Moves d TakeDone (taken_by (Some c.ended.result) buf) (F (without_flight which c.self.inside.flights.flights))) c.self.view_is
    (unsent c.self.inside.geometry c.self.inside.flights.flights c.self.inside.faults c.self.inside.dones which c.in_ok-flying.flying c.ended.result n buf
    left.0
    (c.ended.ensures.done ∙ ap D c.page.ensures) c.ended.ensures.later (c.ended.ensures.cause refl))))
