-- A fault that is seen is a failed entry.
use Rattle.std.proofs.Common.{◌≡◌, ℕ, Bool, true, false, List, [], ◌∷◌, refl, sym, ap, subst, Option}
use Rattle.swap_base.specs.declared.Via.{Via}
use Rattle.swap_base.specs.declared.Caller.{Caller}
use Rattle.swap_base.specs.declared.Page.{Page}
use Rattle.swap_wire.specs.Input.{Input}
use Rattle.swap_wire.specs.declared.Event.{Event}
use Rattle.swap_wire.specs.declared.Event.TheVariants as event
use Rattle.swap_wire.specs.declared.Seen.{Seen}
use Rattle.swap_wire.specs.declared.Seen.TheVariants as seen
use Rattle.swap_wire.specs.Fabric.{FabricCall, FabricAnswer}
use Rattle.swap_disk.specs.Port.{DiskCall, DiskAnswer}
use Rattle.swap_record.specs.History.{History, Row}
use Rattle.swap_record.specs.declared.Op.{Op}
use Rattle.swap_table.specs.Device.{Device, took_back}
use Rattle.swap_table.specs.Happens.{see_disk}
use Rattle.swap_table.specs.declared.DiskStep.{DiskStep}
use Rattle.swap_table.specs.declared.DiskStep.TheVariants as ends
use Rattle.swap_table.specs.Comes.{Comes, StepIn, begins_in, goes_on_in, wait_seen, is_rest, is_of_link, refuses, rests, accepts, gives_page, fails, keeps_page, reads, starts_write, takes_back, links, brings}
use Rattle.swap_world.specs.World.{IsEvent}
use Rattle.swap_world.specs.Rounds.{StepOf}
use Rattle.swap_world.proofs.EventsKeepWhatHolds.{step_comes}
use Rattle.swap_board.specs.Boards.{TellsFault, is_failed}

rest_told : (s : Seen) (o : Op) → is_rest s ≡ true → TellsFault s o
rest_told (seen.Fault e) o rest = cc
rest_told s o rest = tt

link_told : (s : Seen) (o : Op) → is_of_link s ≡ true → TellsFault s o
link_told (seen.Fault e) o rest = cc
link_told s o rest = tt

disk_told : (step : DiskStep) (o : Op) → TellsFault (see_disk step) o
disk_told ends.Nothing o = tt
disk_told (ends.Written p e) o = tt
disk_told (ends.Kept p e) o = tt
disk_told (ends.Dropped p e) o = tt
disk_told (ends.Came c p) o = tt
disk_told (ends.Failed c p) o = tt

wait_told : {d : Device} {e : Event} {c : Caller} {p : Page} (step : StepIn d e c p) (v : Via) (o : Op) → TellsFault (wait_seen step v) o
wait_told (begins_in idle) v o = tt
wait_told (goes_on_in state) v o = tt

abbrev first_fails : List Row → Bool
first_fails [] = true
first_fails (row ∷ H) = is_failed row.entry.op

comes_told :
    {d : Device} {page : List ℕ} {e : Event} {d' : Device} {s : Seen} (row : Row) (H : History) → Comes d page e d' s → d'.history ≡ row ∷ H
    → TellsFault s row.entry.op
comes_told row H (refuses new) is = tt
comes_told {s = s} row H (rests old rest) is = rest_told s row.entry.op rest
comes_told row H (accepts step linked) is = tt
comes_told row H (gives_page step) is = tt
comes_told row H (fails why) is = ap first_fails (sym is)
comes_told row H (keeps_page idle) is = tt
comes_told row H (reads v step last linked) is = wait_told step v row.entry.op
comes_told row H starts_write is = tt
comes_told {d = d} row H (takes_back taken) is = disk_told (took_back d taken).1 row.entry.op
comes_told {s = s} row H (links old of linked) is = link_told s row.entry.op of
comes_told row H (brings c bytes r linked) is = tt

module _ {D F : Type 0} (disk_moves : D → (c : DiskCall) → DiskAnswer c → D → Type 0) (moves : F → (c : FabricCall) → FabricAnswer c → F → Type 0) where
  pub event_told :
      (d d' : Device) (k k' : D) (f f' : F) (i : Input) (s : Seen) (row : Row) (H : History) → IsEvent disk_moves moves d k f i s d' k' f'
      → d'.history ≡ row ∷ H
      → TellsFault s row.entry.op
  event_told d d' k k' f f' i s row H step is = go i.event step
    where
      go : (e : Event) → StepOf disk_moves moves i.page e d k f s d' k' f' → TellsFault s row.entry.op
      go (event.Round word) step = subst (λ (x : Seen). TellsFault x row.entry.op) (sym step.2) tt
      go e step = comes_told row H (step_comes disk_moves moves d d' k k' f f' (record { event = e; page = i.page }) s step).2 is
