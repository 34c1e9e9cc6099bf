-- What an event does to the device, and what is seen of it.
use Rattle.std.specs.Prelude.{ℕ, Bool, true, false, if◌then◌else◌, List, Option, None, Some}
use Rattle.swap_base.specs.declared.Page.{Page}
use Rattle.swap_base.specs.declared.EntryNo.{EntryNo}
use Rattle.swap_base.specs.declared.Link.{Link}
use Rattle.swap_wire.specs.declared.Event.{Event}
use Rattle.swap_wire.specs.declared.Event.TheVariants as event
use Rattle.swap_wire.specs.declared.Seen.{Seen}
use Rattle.swap_wire.specs.declared.Seen.TheVariants as seen
use Rattle.swap_wire.specs.declared.fabric.Gave.{Gave}
use Rattle.swap_wire.specs.declared.fabric.Gave.TheVariants as gave
use Rattle.swap_wire.specs.declared.fabric.Hosted.{Hosted}
use Rattle.swap_disk.specs.Port.{LetFinish}
use Rattle.swap_calls.specs.Calls.{state_of, is_idle}
use Rattle.swap_table.specs.Ports.{Prog, Ret, AskDisk, answering}
use Rattle.swap_table.specs.Device as device
use Rattle.swap_table.specs.Device.{Device}
use Rattle.swap_table.specs.declared.OutStep.{OutStep}
use Rattle.swap_table.specs.declared.OutStep.TheVariants as outs
use Rattle.swap_table.specs.declared.InStep.{InStep}
use Rattle.swap_table.specs.declared.InStep.TheVariants as ins
use Rattle.swap_table.specs.declared.Step.{Step}
use Rattle.swap_table.specs.declared.Step.TheVariants as steps
use Rattle.swap_table.specs.declared.DiskStep.{DiskStep}
use Rattle.swap_table.specs.declared.DiskStep.TheVariants as ends
use Rattle.swap_table.specs.declared.Placed.{Placed}
use Rattle.swap_table.specs.declared.LinkStep.{LinkStep}
use Rattle.swap_table.specs.declared.LinkStep.TheVariants as link

-- what is seen of an answer
abbrev pub see_out : OutStep → Seen
see_out (outs.Done entry sent) = seen.Done entry sent
see_out outs.Room = seen.Room

abbrev pub see_in : InStep → Seen
see_in (ins.Done entry) = seen.Done entry None
see_in (ins.Wait via) = seen.Wait via

abbrev pub see_step : Step → Seen
see_step (steps.Done entry sent) = seen.Done entry sent
see_step steps.Room = seen.Room
see_step (steps.Wait via) = seen.Wait via
see_step (steps.Again via) = seen.Again via
see_step (steps.Fault entry since at) = seen.Fault entry

abbrev pub see_start : Option (Page × EntryNo) → Seen
see_start None = seen.Nothing
see_start (Some (page, entry)) = seen.Started page entry

abbrev pub see_disk : DiskStep → Seen
see_disk ends.Nothing = seen.Nothing
see_disk (ends.Written page entry) = seen.Written entry
see_disk (ends.Kept page entry) = seen.WriteKept entry
see_disk (ends.Dropped page entry) = seen.WriteDropped entry
see_disk (ends.Came caller page) = seen.ReadCame page
see_disk (ends.Failed caller page) = seen.ReadFailed page

abbrev pub see_tick : Option Placed → Seen
see_tick None = seen.Ticked
see_tick (Some placed) = seen.Asked placed.slab placed.first placed.second

abbrev pub see_map : Bool → Seen
see_map true = seen.Borrowing
see_map false = seen.Nothing

abbrev pub see_link : Option Link → Seen
see_link None = seen.Nothing
see_link (Some n) = seen.Linked n

abbrev pub see_gave : Gave → Seen
see_gave gave.Nothing = seen.Nothing
see_gave gave.End = seen.GaveEnd
see_gave (gave.Got msg reply evicted) = seen.Gave msg reply evicted
see_gave (gave.Ended msg) = seen.GaveEnded msg

abbrev pub see_cut : Bool → Seen
see_cut true = seen.Cut
see_cut false = seen.Nothing

abbrev pub see_crash : Bool → Seen
see_crash true = seen.Crashed
see_crash false = seen.Nothing

abbrev pub see_host : Option Hosted → Seen
see_host None = seen.Nothing
see_host (Some hosted) = seen.Hosted hosted.mean hosted.asked

abbrev pub see_take : LinkStep → Seen
see_take link.Nothing = seen.Nothing
see_take (link.Got msg) = seen.Took msg
see_take link.Lost = seen.Lost
see_take link.Lied = seen.Lied

-- a call of the device, by what is seen of its answer
abbrev pub seen_by : {R : Type 0} → (R → Seen) → Prog (Device × R) → Prog (Device × Seen)
seen_by see p = answering (λ r. (r.0, see r.1)) p

-- an operation that the disk let finish is taken
abbrev pub taken_if : Device → Bool → Prog (Device × Seen)
taken_if d true = seen_by see_disk (device.disk_take d)
taken_if d false = Ret (d, seen.Nothing)

-- what an event does to the device; a page-out's page stands beside it
abbrev pub happens : Device → List ℕ → Event → Prog (Device × Seen)
happens d page (event.PageOut c p) =
    if is_idle (state_of d.calls c) then seen_by see_out (device.out d c p page) else Ret (d, seen.Busy)
happens d page (event.PageIn c p) =
    if is_idle (state_of d.calls c) then seen_by see_in (device.read d c p) else Ret (d, seen.Busy)
happens d page (event.Finish c) =
    if is_idle (state_of d.calls c) then Ret (d, seen.Idle) else seen_by see_step (device.finish d c)
happens d page event.Start = seen_by see_start (device.disk_start d)
happens d page (event.Disk which ok) = AskDisk (LetFinish which ok) (taken_if d)
happens d page (event.Tick word) = seen_by see_tick (device.tick d word)
happens d page (event.Map slab l) = seen_by see_map (device.map d slab l)
happens d page (event.Connect l) = seen_by see_link (device.connect d l)
happens d page (event.Give l) = seen_by see_gave (device.give_to d l)
happens d page (event.Take l) = seen_by see_take (device.link_take d l)
happens d page (event.Cut l to_lender to_device) = seen_by see_cut (device.cut d l to_lender to_device)
happens d page (event.Crash l) = seen_by see_crash (device.crash d l)
happens d page (event.Host l used word) = seen_by see_host (device.host d l used word)
happens d page _ = Ret (d, seen.Nothing)
