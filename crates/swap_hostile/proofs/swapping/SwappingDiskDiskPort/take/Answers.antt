use Rattle.std.proofs.Common.{ℕ, List, sym, ap, ◌∙◌, subst, Option, Some}
use Rattle.swap_disk.specs.Disk.{Taken}
use Rattle.swap_disk.specs.Port.{TakeDone, taken_by}
use Rattle.swap_disk.specs.declared.DiskDone.{DiskDone}
use Rattle.swap_hostile.specs.Silent.{Silent, Moves}
use Rattle.swap_hostile.specs.Swapping.{swap_taken}
use Rattle.swap_hostile.specs.lemmas.SwappingLaws.{swapped_by}
use Rattle.swap_hostile.proofs.swapping.SwappingDiskDiskPort.take.Goals as goal

pub returns : goal.returns
returns c =
    let given : Option Taken = taken_by c.take.result c.take.new.buf in (
      given,
      subst (λ (d : Silent). Moves d TakeDone given c.take.new.self) c.self.view_is c.take.ensures,
      ap (λ (bytes : List ℕ). taken_by (Some c.in_ok-done.done) bytes) c.turn_over.ensures
          ∙ swapped_by c.in_ok-done.done c.take.new.buf ∙ ap (λ (o : Option DiskDone). swap_taken (taken_by o c.take.new.buf)) (sym c.in_ok-done.was),
    )
