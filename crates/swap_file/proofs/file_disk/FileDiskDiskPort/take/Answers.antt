use Rattle.std.proofs.Common.{◌≡◌, ℕ, List, [], ◌∷◌, ◌++◌, sym, ◌∙◌, subst, Option, None, Some, MatchOption}
use Rattle.swap_disk.specs.declared.DiskDone.{DiskDone}
use Rattle.swap_disk.specs.Disk.{Flight, without_flight}
use Rattle.swap_disk.specs.Port.{TakeDone, taken_by}
use Rattle.swap_file.specs.declared.worker.Done.{Done}
use Rattle.swap_file.specs.declared.flights.Flying.{Flying}
use Rattle.swap_file.specs.Flights.{FlightsView, Leaves}
use Rattle.swap_file.specs.Files.{FilePort, file_port, Moves}
use Rattle.swap_file.proofs.Moves.{empty, stranger, ends}
use Rattle.swap_file.proofs.file_disk.FileDiskDiskPort.take.Goals as goal

pub returns-in_err-done : goal.returns-in_err-done
returns-in_err-done g c =
    let same : c.pop.new.self ≡ c.self.inside.dones =
    subst (λ (o : Option Done). MatchOption o (c.pop.new.self ≡ c.self.inside.dones) (λ x. c.pop.new.self ≡ c.self.inside.dones ++ x ∷ [])) c.in_err-done.was
    c.pop.ensures in
    let F : List Done → FilePort = λ cs. file_port c.self.inside.geometry c.self.inside.flights.flights c.self.inside.faults cs in
    subst (λ (o : Option DiskDone). Moves c.args.self.now TakeDone (taken_by o c.args.buf.now) (F c.pop.new.self)) (sym c.from_residual.ensures)
    (subst (λ cs. Moves c.args.self.now TakeDone None (F cs)) (sym same)
    (subst (λ (d : FilePort). Moves d TakeDone None (F c.self.inside.dones)) (c.self.view_is ∙ c.in_default.ensures [])
    (empty c.self.inside.geometry c.self.inside.flights.flights c.self.inside.faults c.self.inside.dones)))

pub returns-in_err-flying : goal.returns-in_err-flying
returns-in_err-flying g c =
    let x = c.in_ok-done.done in
    let came : c.pop.new.self ≡ c.self.inside.dones ++ x ∷ [] =
    subst (λ (o : Option Done). MatchOption o (c.pop.new.self ≡ c.self.inside.dones) (λ x. c.pop.new.self ≡ c.self.inside.dones ++ x ∷ [])) c.in_ok-done.was
    c.pop.ensures in
    let left : Leaves x.which c.self.inside.flights None c.end.new.self =
    subst (λ (o : Option Flying). Leaves x.which c.self.inside.flights o c.end.new.self) c.in_err-flying.was c.end.ensures in
    let F : List Flight → List Done → FilePort = λ fs cs. file_port c.self.inside.geometry fs c.self.inside.faults cs in
    subst (λ (o : Option DiskDone). Moves c.args.self.now TakeDone (taken_by o c.args.buf.now) (F c.end.new.self.flights c.pop.new.self))
    (sym c.from_residual-in_err-flying.ensures)
    (subst (λ (r : FlightsView). Moves c.args.self.now TakeDone None (F r.flights c.pop.new.self)) (sym left.1)
    (subst (λ cs. Moves c.args.self.now TakeDone None (F c.self.inside.flights.flights cs)) (sym came)
    (subst (λ (d : FilePort). Moves d TakeDone None (F c.self.inside.flights.flights (c.self.inside.dones ++ x ∷ [])))
    (c.self.view_is ∙ c.in_default.ensures [])
    (stranger c.self.inside.geometry c.self.inside.flights.flights c.self.inside.faults c.self.inside.dones x left.0))))

pub returns : goal.returns
returns g c =
    let x = c.in_ok-done.done in
    let came : c.pop.new.self ≡ c.self.inside.dones ++ x ∷ [] =
    subst (λ (o : Option Done). MatchOption o (c.pop.new.self ≡ c.self.inside.dones) (λ x. c.pop.new.self ≡ c.self.inside.dones ++ x ∷ [])) c.in_ok-done.was
    c.pop.ensures in
    let left : Leaves x.which c.self.inside.flights (Some c.in_ok-flying.flying) c.end.new.self =
    subst (λ (o : Option Flying). Leaves x.which c.self.inside.flights o c.end.new.self) c.in_ok-flying.was c.end.ensures in
    let n : ℕ = c.hand_over.new.self.port.faults in
    let F : List Flight → List Done → FilePort = λ fs cs. file_port c.self.inside.geometry fs n cs in
    let T = taken_by (Some c.hand_over.result) c.hand_over.new.buf in
    subst (λ (d : FilePort). Moves c.args.self.now TakeDone T d) (sym c.hand_over.ensures.port)
    (subst (λ (r : FlightsView). Moves c.args.self.now TakeDone T (F r.flights c.pop.new.self)) (sym left.1)
    (subst (λ cs. Moves c.args.self.now TakeDone T (F (without_flight x.which c.self.inside.flights.flights) cs)) (sym came)
    (subst (λ (d : FilePort). Moves d TakeDone T (F (without_flight x.which c.self.inside.flights.flights) (c.self.inside.dones ++ x ∷ [])))
    (c.self.view_is ∙ c.in_default.ensures [])
    (ends c.self.inside.geometry c.self.inside.flights.flights c.self.inside.faults c.self.inside.dones x c.in_ok-flying.flying c.hand_over.result n
    c.hand_over.new.buf left.0 c.hand_over.ensures.done.0
    (c.hand_over.ensures.done.1 ∙ c.page.ensures) c.hand_over.ensures.later c.hand_over.ensures.cause c.hand_over.ensures.ok c.hand_over.ensures.filled))))
