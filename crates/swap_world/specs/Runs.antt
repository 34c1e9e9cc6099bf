-- Runs of events over any disk.
use Rattle.std.specs.Prelude.{◌≡◌, ◌+◌, ◌-◌, ◌<◌, ◌≤◌, ◌↔◌, Bool, true, false, not, ℕ, List, [], ◌∷◌, ◌++◌, length, count_by, MatchOption, Option, None, Some}
use Rattle.std.specs.List.{AllByRecursion}
use Rattle.swap_base.specs.declared.EntryNo.{EntryNo}
use Rattle.swap_base.specs.Sizes.{Sizes}
use Rattle.swap_wire.specs.Input.{Input, IsInRange}
use Rattle.swap_wire.specs.declared.Event.{Event}
use Rattle.swap_wire.specs.declared.Event.TheVariants as event
use Rattle.swap_wire.specs.declared.Seen.{Seen}
use Rattle.swap_wire.specs.declared.Seen.TheVariants as seen
use Rattle.swap_record.specs.History.{History, Row, next_name}
use Rattle.swap_base.specs.declared.DiskWhich.TheVariants as which
use Rattle.swap_disk.specs.Disk.{Taken}
use Rattle.swap_wire.specs.Fabric.{FabricCall, FabricAnswer}
use Rattle.swap_disk.specs.declared.port.DiskPort.{Ghosts as DiskMeaning}
use Rattle.swap_wire.specs.declared.fabric.Fabric.{Ghosts as FabricMeaning}
use Rattle.swap_base.specs.declared.TheConstants.{MOST_LENDERS}
use Rattle.swap_disk.specs.Port.{DiskCall, DiskAnswer, TakeDone}
use Rattle.swap_base.specs.declared.Caller.{Caller}
use Rattle.swap_calls.specs.Calls.{Call, is_idle, state_of, call_of}
use Rattle.swap_calls.specs.declared.CallState.{CallState}
use Rattle.swap_calls.specs.declared.CallState.TheVariants.{Idle, Room, Reading}
use Rattle.swap_table.specs.Ports.{Along}
use Rattle.swap_table.specs.declared.DiskStep.{DiskStep}
use Rattle.swap_table.specs.declared.DiskStep.TheVariants as ends
use Rattle.swap_table.specs.Device.{Device, Core, device_at_start, disk_take, took_back}
use Rattle.swap_table.specs.Fits.{IsBlank}
use Rattle.swap_device.specs.State.{GivesLast}
use Rattle.swap_table.specs.Happens.{see_disk}
use Rattle.swap_world.specs.Answered.{Answers, IsOutOrFault, IsInOrFault, is_call_of}
pub use Rattle.swap_world.specs.Rounds.{has_effect}
use Rattle.swap_world.specs.Rounds.{is_part}
use Rattle.swap_world.specs.World.{IsStep, IsEvent}

-- the event of an operation that the disk ended by itself, by what became of it
abbrev pub event_of : DiskStep → Option Event
event_of ends.Nothing = None
event_of (ends.Written page entry) = Some (event.Disk (which.Write page) true)
event_of (ends.Kept page entry) = Some (event.Disk (which.Write page) false)
event_of (ends.Dropped page entry) = Some (event.Disk (which.Write page) false)
event_of (ends.Came caller page) = Some (event.Disk (which.Read caller) true)
event_of (ends.Failed caller page) = Some (event.Disk (which.Read caller) false)

-- what was made, with such an event
abbrev pub made_with : Option Event → Seen → List (Input × Seen) → List (Input × Seen)
made_with None s made = made
made_with (Some e) s made = (record { event = e; page = [] }, s) ∷ made

abbrev pub with_polled : DiskStep → List (Input × Seen) → List (Input × Seen)
with_polled step made = made_with (event_of step) (see_disk step) made

-- the page that a page-out hands in has the length of a page
abbrev pub IsPaged : Sizes → Event → List ℕ → Type 0
IsPaged s (event.PageOut c p) page = length page ≡ s.page_bytes
IsPaged s e page = Unit {0}

-- an event names what there is, and hands in a page
abbrev pub IsInput : Sizes → ℕ → Input → Type 0
IsInput s lenders i = IsInRange s lenders i.event × IsPaged s i.event i.page

-- A run from a device, its disk and its fabric, with the events that had an effect and what was seen
-- of each, the newest first; a Round stands in it by its parts. Events without an effect leave the device as it was,
-- and disk and fabric where they are in
-- memory. A disk that ends its operations by itself is polled; what it ended counts as an event.
pub data IsRun {D F : Type 0} (disk_moves : D → (c : DiskCall) → DiskAnswer c → D → Type 0)
    (moves : F → (c : FabricCall) → FabricAnswer c → F → Type 0) (first : Device) (disk : D) (fabric : F) :
    List (Input × Seen) → Device → D → F → Type 0 where
  begin : IsRun disk_moves moves first disk fabric [] first disk fabric
  effect : {made : List (Input × Seen)} {d : Device} {k : D} {f : F} (i : Input) (s : Seen) (d' : Device) (k' : D)
      (f' : F)
      → IsRun disk_moves moves first disk fabric made d k f → IsInRange first.sizes first.lenders i.event
      → IsStep disk_moves moves d k f i s d' k' f' → has_effect i.event s ≡ true
      → IsRun disk_moves moves first disk fabric ((i, s) ∷ made) d' k' f'
  without : {made : List (Input × Seen)} {d : Device} {k : D} {f : F} (i : Input) (s : Seen) (k' : D) (f' : F)
      → IsRun disk_moves moves first disk fabric made d k f → IsInRange first.sizes first.lenders i.event
      → IsStep disk_moves moves d k f i s d k' f' → has_effect i.event s ≡ false
      → IsRun disk_moves moves first disk fabric made d k' f'
  polled : {made : List (Input × Seen)} {d : Device} {k : D} {f : F} (step : DiskStep) (d' : Device) (k' : D) (f' : F)
      → IsRun disk_moves moves first disk fabric made d k f → Along disk_moves moves (disk_take d) k f k' f' (d', step)
      → IsRun disk_moves moves first disk fabric (with_polled step made) d' k' f'

-- a device over its ports, its events that had an effect with what was seen of each, the oldest first, and for how
-- many more there is room
pub record WorldView (D F : Type 0) : Type 0 where
  pub core : Core D F
  pub log : List (Event × Seen)
  pub log_spare : ℕ

-- What stands in a log: an event with what was seen of it, or a Round with those of its parts that had an effect, the
-- newest first, and the slabs that were mapped after it.
pub data Written : Type 0 where
  Alone : Input → Seen → Written
  Together : (word mapped : ℕ) → List (Input × Seen) → Written

abbrev pub written_line : Written → Event × Seen
written_line (Alone i s) = (i.event, s)
written_line (Together word mapped parts) = (event.Round word, seen.Rounded (length parts) mapped)

abbrev pub logged_of : List Written → List (Event × Seen)
logged_of [] = []
logged_of (w ∷ written) = logged_of written ++ written_line w ∷ []

-- all that was made, each Round's parts in its place
abbrev pub made_in : Written → List (Input × Seen)
made_in (Alone i s) = (i, s) ∷ []
made_in (Together word mapped parts) = parts

abbrev pub made_of : List Written → List (Input × Seen)
made_of [] = []
made_of (w ∷ written) = made_in w ++ made_of written

abbrev pub HasParts : Written → Type 0
HasParts (Alone i s) = Unit {0}
HasParts (Together word mapped parts) = AllByRecursion (λ (m : Input × Seen). is_part m.0.event ≡ true) parts

-- A world's device, disk and fabric were reached by the events of its log, a Round by its parts, from a device that
-- nothing had happened to, over a disk that was blank and a fabric as it is made.
pub record IsReached {D F : Type 0} (disk : DiskMeaning D) (fabric : FabricMeaning F) (core : Core D F)
    (log : List (Event × Seen)) : Type 0 where
  pub sizes : Sizes
  pub lenders : ℕ
  pub few : lenders ≤ MOST_LENDERS
  pub first : D
  pub first_fabric : F
  pub written : List Written
  pub parts : AllByRecursion HasParts written
  pub blank : IsBlank sizes (disk.means first)
  pub fresh : fabric.fresh first_fabric (record { sizes = sizes; lenders = lenders })
  pub run : IsRun disk.moves fabric.moves (device_at_start sizes lenders) first first_fabric
      (made_of written) core.device core.disk core.fabric
  pub logged : log ≡ logged_of written

-- so of a world, which keeps the number of its lenders
pub record IsMachine {D F : Type 0} (disk : DiskMeaning D) (fabric : FabricMeaning F) (core : Core D F) (lenders : ℕ)
    (log : List (Event × Seen)) : Type 0 where
  pub reached : IsReached disk fabric core log
  pub has : lenders ≡ core.device.lenders
  pub most : lenders ≤ MOST_LENDERS

-- the log after a poll
abbrev pub logged_with : Option Event → Seen → List (Event × Seen) → List (Event × Seen)
logged_with None s log = log
logged_with (Some e) s log = log ++ (e, s) ∷ []

abbrev pub logged_polled : DiskStep → List (Event × Seen) → List (Event × Seen)
logged_polled step log = logged_with (event_of step) (see_disk step) log

-- a poll took what the disk gave; nothing is seen of it exactly where the disk gave nothing
pub record IsPolled {D : Type 0} (moves : D → (c : DiskCall) → DiskAnswer c → D → Type 0) (d : Device) (k : D)
    (log : List (Event × Seen)) (s : Seen) (d' : Device) (k' : D) (log' : List (Event × Seen)) : Type 0 where
  pub taken : Option Taken
  pub moved : moves k TakeDone taken k'
  pub device : d' ≡ (took_back d taken).0
  pub answer : s ≡ see_disk (took_back d taken).1
  pub logged : log' ≡ logged_polled (took_back d taken).1 log
  pub nothing : (s ≡ seen.Nothing) ↔ (taken ≡ None)

-- the log and its room after an event
abbrev pub logged_if : Bool → List (Event × Seen) → Event → Seen → List (Event × Seen)
logged_if true log e s = log ++ (e, s) ∷ []
logged_if false log e s = log

abbrev pub one_less_if : Bool → ℕ → ℕ
one_less_if true n = n - 1
one_less_if false n = n

-- a call that isn't answered yet may want room for its entry
abbrev pub HasSpare : Device → Event → ℕ → Type 0
HasSpare d (event.PageOut c p) spare = is_idle (state_of d.calls c) ≡ true → 0 < spare
HasSpare d (event.PageIn c p) spare = is_idle (state_of d.calls c) ≡ true → 0 < spare
HasSpare d (event.Finish c) spare = is_idle (state_of d.calls c) ≡ false → 0 < spare
HasSpare d e spare = Unit {0}

-- after a page-in was answered the buffer holds its page; else it is as it was
abbrev pub GivesPage : Event → Seen → History → List ℕ → List ℕ → Type 0
GivesPage (event.PageIn c p) (seen.Done entry sent) H before given = GivesLast H before given
GivesPage (event.Finish c) (seen.Done entry sent) H before given = GivesLast H before given
GivesPage e s H before given = given ≡ before

-- the entry that was seen, where there is one
abbrev pub entry_seen : Seen → Option EntryNo
entry_seen (seen.Done entry sent) = Some entry
entry_seen (seen.Fault entry) = Some entry
entry_seen s = None

-- an entry that was seen stands in the history
abbrev pub StandsIn : History → Seen → Type 0
StandsIn H s = MatchOption (entry_seen s) (Unit {0}) (λ (e : EntryNo). e.0 < length H)

-- a history goes on
abbrev pub GoesOn : History → History → Type 0
GoesOn before now = (later : History) × (now ≡ later ++ before)

abbrev pub AnswersState : CallState → List ℕ → Row → Type 0
AnswersState Idle bytes row = ⊥
AnswersState (Room page since) bytes row = (row.entry.page ≡ page) × IsOutOrFault row.entry.op × (row.bytes ≡ bytes)
AnswersState (Reading page newest via how newer since) bytes row = (row.entry.page ≡ page) × IsInOrFault row.entry.op

-- an entry answers the call that is under way
abbrev pub AnswersUnderWay : Call → Row → Type 0
AnswersUnderWay call row = AnswersState call.state call.bytes row

abbrev pub AnswersEvent : Device → List ℕ → Event → Row → Type 0
AnswersEvent d page (event.PageOut c p) row = (row.entry.caller ≡ c) × Answers page (event.PageOut c p) row
AnswersEvent d page (event.PageIn c p) row = (row.entry.caller ≡ c) × Answers page (event.PageIn c p) row
AnswersEvent d page (event.Finish c) row = (row.entry.caller ≡ c) × AnswersUnderWay (call_of d.calls c) row
AnswersEvent d page e row = ⊥

-- an entry answers the call of this event: the call that it makes, or the one under way that it goes on with
abbrev pub AnswersCall : Device → Input → Row → Type 0
AnswersCall d i row = AnswersEvent d i.page i.event row

-- an event adds nothing to the history, or the one entry that is seen, which answers the event's call
pub data Adds (d : Device) (i : Input) (s : Seen) (H : History) : Type 0 where
  nothing : entry_seen s ≡ None → H ≡ d.history → Adds d i s H
  one :
      (row : Row) → entry_seen s ≡ Some (next_name d.history) → H ≡ row ∷ d.history → AnswersCall d i row → Adds d i s H

-- a caller that is idle stays so, but by a call of its own
abbrev pub StaysIdle : Device → Event → Device → Type 0
StaysIdle d e d' =
    (c : Caller) → c.0 < d.sizes.callers → is_idle (state_of d.calls c) ≡ true → is_call_of c e ≡ false
    → is_idle (state_of d'.calls c) ≡ true

-- how many callers have a call that isn't answered
abbrev pub is_busy_call : Call → Bool
is_busy_call call = not (is_idle call.state)

abbrev pub busy_callers : Device → ℕ
busy_callers d = count_by is_busy_call d.calls

abbrev pub is_new_call : Event → ℕ
is_new_call (event.PageOut c p) = 1
is_new_call (event.PageIn c p) = 1
is_new_call e = 0

-- the entries and the calls under way grow by no more than the new calls
abbrev pub GrowsByCalls : Event → Device → Device → Type 0
GrowsByCalls e before now =
    length now.history + busy_callers now ≤ length before.history + busy_callers before + is_new_call e

-- an event with an effect takes one from the log's room, and stands there with what was seen of it
pub record IsLogged {D F : Type 0} (e : Event) (s : Seen) (before now : WorldView D F) : Type 0 where
  pub log : now.log ≡ logged_if (has_effect e s) before.log e s
  pub room : now.log_spare ≡ one_less_if (has_effect e s) before.log_spare

-- what an event that the disk ended by itself is written as
abbrev pub written_with : Option Event → Seen → List Written → List Written
written_with None s written = written
written_with (Some e) s written = Alone (record { event = e; page = [] }) s ∷ written

-- one event of a world: its device, disk and fabric went from one to the other
abbrev pub Steps :
    {D F : Type 0} → (D → (c : DiskCall) → DiskAnswer c → D → Type 0)
    → (F → (c : FabricCall) → FabricAnswer c → F → Type 0) → Input → Core D F → Core D F → Seen → Type 0
Steps disk_moves moves i before now s =
    IsEvent disk_moves moves before.device before.disk before.fabric i s now.device now.disk now.fabric
