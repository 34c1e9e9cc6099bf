-- The history of a world that was reached is ordered, and legal as far as its ports tell.
use Rattle.std.proofs.Common.{◌≡◌, ℕ, Bool, true, false, List, [], ◌∷◌, is_some, sym, ap, ◌∙◌, subst, Result, Ok, Err, Option}
use Rattle.swap_base.specs.Sizes.{Sizes, zeros}
use Rattle.swap_base.specs.declared.EntryNo.{EntryNo}
use Rattle.swap_base.specs.declared.Origin.TheVariants as origin
use Rattle.swap_base.specs.declared.Origin.{Origin}
use Rattle.swap_wire.specs.declared.Event.{Event}
use Rattle.swap_wire.specs.declared.Seen.{Seen}
use Rattle.swap_wire.specs.Fabric.{FabricOf}
use Rattle.swap_record.specs.History.{History, Row, array}
use Rattle.swap_record.specs.declared.Op.{Op}
use Rattle.swap_record.specs.declared.Op.TheVariants as op
use Rattle.swap_disk.specs.declared.port.DiskPort.{Ghosts as DiskMeaning}
use Rattle.swap_wire.specs.declared.fabric.Fabric.{Ghosts as FabricMeaning}
use Rattle.swap_table.specs.Device.{Core}
use Rattle.swap_table.specs.Fits.{IsFaithfulOver, GivesWhatItMay, MayGive}
use Rattle.swap_table.specs.Promises.{FollowsItsMoves, Promises}
use Rattle.swap_world.specs.Runs.{IsReached, made_of}
use Rattle.swap_world.specs.Laws.{Began, Holds, HoldsAfterEach}
use Rattle.swap_world.proofs.ReachedGoesOn.{reached_known}
use Rattle.swap_player.specs.Seen.{IsWell, IsWellBy}
use Rattle.swap_player.specs.declared.paging.SwapFault.{SwapFault}
use Rattle.swap_player.specs.declared.paging.SwapFault.TheVariants as fault

may_less :
    (told : Bool) (answers : List ℕ → List ℕ → Type 0) (from : Origin) (content bytes : List ℕ) → MayGive told answers from content bytes
    → MayGive false answers from content bytes
may_less told answers origin.Zero content bytes may = may
may_less told answers origin.Queue content bytes may = may
may_less told answers origin.Disk content bytes may = λ no. cc
may_less told answers (origin.Lender l) content bytes may = may

gives_less :
    (told : Bool) (answers : List ℕ → List ℕ → Type 0) (z : List ℕ) (H : History) (row : Row) (o : Op) → GivesWhatItMay told answers z H row o
    → GivesWhatItMay false answers z H row o
gives_less told answers z H row op.PageOut may = tt
gives_less told answers z H row (op.PageIn named from) may = may_less told answers from (array z H row.entry.page) row.bytes may
gives_less told answers z H row (op.Failed kind since at) may = tt

faithful_less :
    (told : Bool) (answers : List ℕ → List ℕ → Type 0) (z : List ℕ) (H : History) → IsFaithfulOver told answers z H → IsFaithfulOver false answers z H
faithful_less told answers z [] faithful = tt
faithful_less told answers z (row ∷ H) faithful = (gives_less told answers z H row row.entry.op faithful.0, faithful_less told answers z H faithful.1)

module _ {D F : Type 0} (disk : DiskMeaning D) (follows : FollowsItsMoves disk) (fabric : FabricMeaning F) (laws : Promises fabric) where
  pub reached_well :
      (core : Core D F) (log : List (Event × Seen)) (s : Sizes) → HoldsAfterEach disk fabric → core.device.sizes ≡ s → IsReached disk fabric core log
      → IsWell disk fabric s core.device.history
  reached_well core log s always is r =
      let began : Began disk fabric r.sizes r.lenders r.first r.first_fabric =
      record { blank = r.blank; is_of = laws.fresh_is_of r.first_fabric _ r.fresh; few = r.few } in
      let told : Bool = is_some (disk.means r.first).blocks in
      let holds : Holds told fabric.answers r.sizes (made_of r.written) core.device =
      always r.sizes r.lenders r.first r.first_fabric (made_of r.written) core.device core.disk core.fabric began r.run in
      let known = reached_known disk follows fabric laws core log r in
      let same : r.sizes ≡ s = sym (ap (λ (o : FabricOf). o.sizes) known.is) ∙ is in
      let P : Sizes → Type 0 = λ z. IsFaithfulOver told fabric.answers (zeros z) core.device.history in
      let faithful : P s = subst P same holds.faithful in
      record {
        ordered = holds.ordered;
        faithful = faithful_less told fabric.answers (zeros s) core.device.history faithful;
        told = λ each. let Q : Bool → Type 0 = λ b. IsFaithfulOver b fabric.answers (zeros s) core.device.history in subst Q (each r.first) faithful;
      }

  -- so of what a pass has seen
  pub well_by : (s : Sizes) (answer : Result EntryNo SwapFault) (H : History) → IsWell disk fabric s H → IsWellBy disk fabric s answer H
  well_by s (Ok k) H well = well
  well_by s (Err (fault.Disk k since at)) H well = well
  well_by s (Err fault.Spent) H well = tt
  well_by s (Err fault.NoMemory) H well = tt
