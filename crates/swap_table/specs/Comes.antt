-- What an event comes to: what the device is after it, and what is seen, whatever disk and fabric answered.
use Rattle.std.specs.Prelude.{◌≡◌, ◌⊎◌, ℕ, Bool, true, false, List, Option, None, Some}
use Rattle.swap_base.specs.declared.Page.{Page}
use Rattle.swap_base.specs.declared.Caller.{Caller}
use Rattle.swap_base.specs.declared.EntryNo.{EntryNo}
use Rattle.swap_base.specs.declared.Lender.{Lender}
use Rattle.swap_base.specs.declared.Origin.{Origin}
use Rattle.swap_base.specs.declared.Via.{Via}
use Rattle.swap_base.specs.declared.CallKind.{CallKind}
use Rattle.swap_base.specs.declared.DiskWhich.{DiskWhich}
use Rattle.swap_wire.specs.declared.Event.{Event}
use Rattle.swap_wire.specs.declared.Event.TheVariants as event
use Rattle.swap_wire.specs.declared.Msg.{Msg}
use Rattle.swap_wire.specs.declared.Seen.{Seen}
use Rattle.swap_wire.specs.declared.Seen.TheVariants as seen
use Rattle.swap_record.specs.History.{next_name, last}
use Rattle.swap_queue.specs.Queue as queue
use Rattle.swap_disk.specs.Disk.{Taken}
use Rattle.swap_calls.specs.Calls as calls
use Rattle.swap_calls.specs.Calls.{state_of, call_of, is_idle}
use Rattle.swap_calls.specs.declared.Arrived.{Arrived}
use Rattle.swap_calls.specs.declared.CallState.TheVariants.{Room, Reading}
use Rattle.swap_activity.specs.Rates.{Activity}
use Rattle.swap_remote.specs.Remote.{Remote}
use Rattle.swap_table.specs.Device.{Device, enter_entry, give, fault, lost_after, wait_for_room, took_back}
use Rattle.swap_table.specs.Happens.{see_disk}
use Rattle.swap_table.specs.Moves.{Faults}

-- requests were sent, links were made and lost: of history, queue, calls and counts only the calls that waited through
-- a lost link have changed
pub data Linked (d : Device) : Device → Type 0 where
  as_was : Linked d d
  sent_on : {e : Device} → Linked d e → (r : Remote) (made : ℕ) → Linked d (record e { remote = r; links_made = made })
  let_go : {e : Device} → Linked d e → (l : Lender) → Linked d (lost_after e l)

-- an event that is a step of a page-out, and of a page-in
pub data StepOut (d : Device) (page : List ℕ) : Event → Caller → Page → List ℕ → Type 0 where
  begins_out :
      {c : Caller} {p : Page} → is_idle (state_of d.calls c) ≡ true → StepOut d page (event.PageOut c p) c p page
  goes_on_out :
      {c : Caller} {p : Page} {since : ℕ} → state_of d.calls c ≡ Room p since
      → StepOut d page (event.Finish c) c p (call_of d.calls c).bytes

pub data StepIn (d : Device) : Event → Caller → Page → Type 0 where
  begins_in : {c : Caller} {p : Page} → is_idle (state_of d.calls c) ≡ true → StepIn d (event.PageIn c p) c p
  goes_on_in :
      {c : Caller} {p : Page} {n : EntryNo} {v : Via} {how : Arrived} {newer : Bool} {since : ℕ}
      → state_of d.calls c ≡ Reading p n v how newer since → StepIn d (event.Finish c) c p

abbrev pub wait_seen : {d : Device} {e : Event} {c : Caller} {p : Page} → StepIn d e c p → Via → Seen
wait_seen (begins_in idle) v = seen.Wait v
wait_seen (goes_on_in state) v = seen.Again v

abbrev pub is_new : Event → Bool
is_new (event.PageOut c p) = true
is_new (event.PageIn c p) = true
is_new _ = false

-- what is seen where nothing happened to the device
abbrev pub is_rest : Seen → Bool
is_rest seen.Nothing = true
is_rest seen.Idle = true
is_rest seen.Room = true
is_rest (seen.Wait v) = true
is_rest (seen.Gave m r k) = true
is_rest seen.GaveEnd = true
is_rest (seen.GaveEnded m) = true
is_rest seen.Cut = true
is_rest seen.Crashed = true
is_rest (seen.Hosted mean asked) = true
is_rest _ = false

-- what is seen of a link that is used, made or lost, and of a period's end
abbrev pub is_of_link : Seen → Bool
is_of_link seen.Borrowing = true
is_of_link (seen.Linked n) = true
is_of_link (seen.Took m) = true
is_of_link seen.Lost = true
is_of_link seen.Lied = true
is_of_link seen.Ticked = true
is_of_link (seen.Asked slab first second) = true
is_of_link _ = false

pub data Comes : Device → List ℕ → Event → Device → Seen → Type 0 where
  refuses : {d : Device} {page : List ℕ} {e : Event} → is_new e ≡ true → Comes d page e d seen.Busy
  rests : {d : Device} {page : List ℕ} {e : Event} {s : Seen} → is_new e ≡ false → is_rest s ≡ true → Comes d page e d s
  accepts :
      {d : Device} {page : List ℕ} {e : Event} {c : Caller} {p : Page} {bytes : List ℕ} {d' : Device}
      {to : Option Lender}
      → StepOut d page e c p bytes → Linked (enter_entry d c p bytes) d'
      → Comes d page e d' (seen.Done (next_name d.history) to)
  gives_page :
      {d : Device} {page : List ℕ} {e : Event} {c : Caller} {p : Page} {named : Option EntryNo} {from : Origin}
      {bytes : List ℕ}
      → StepIn d e c p → Comes d page e (give d c p named from bytes) (seen.Done (next_name d.history) None)
  fails :
      {d : Device} {page : List ℕ} {c : Caller} {p : Page} {k : CallKind} {since at : ℕ} {bytes : List ℕ}
      → Faults d c p k since at bytes
      → Comes d page (event.Finish c) (fault d c p k since at bytes) (seen.Fault (next_name d.history))
  keeps_page :
      {d : Device} {page : List ℕ} {c : Caller} {p : Page} → is_idle (state_of d.calls c) ≡ true
      → Comes d page (event.PageOut c p) (wait_for_room d c p page) seen.Room
  reads :
      {d : Device} {page : List ℕ} {e : Event} {c : Caller} {p : Page} {n : EntryNo} {d' : Device} (v : Via)
      (step : StepIn d e c p)
      → last d.history p ≡ Some n → Linked d d'
      → Comes d page e (record d' { calls = calls.reads d'.calls c p n v d'.failed_reads }) (wait_seen step v)
  starts_write :
      {d : Device} {page : List ℕ} {p : Page} {n : EntryNo}
      → Comes d page event.Start (record d { queue = queue.start d.queue }) (seen.Started p n)
  takes_back :
      {d : Device} {page : List ℕ} {w : DiskWhich} {ok : Bool} (taken : Option Taken)
      → Comes d page (event.Disk w ok) (took_back d taken).0 (see_disk (took_back d taken).1)
  links :
      {d : Device} {page : List ℕ} {e : Event} {s : Seen} {d' : Device} → is_new e ≡ false → is_of_link s ≡ true
      → Linked d d' → Comes d page e d' s
  brings :
      {d : Device} {page : List ℕ} {l : Lender} {m : Msg} {d' : Device} (c : Caller) (bytes : List ℕ) (r : Remote)
      → Linked (record d { remote = r; calls = calls.came_after d.calls c bytes }) d'
      → Comes d page (event.Take l) d' (seen.Took m)

-- the events that hit a slab or end the periods of all, and what is seen where they do
abbrev pub rates_slabs : Event → Bool
rates_slabs (event.PageOut c p) = true
rates_slabs (event.PageIn c p) = true
rates_slabs (event.Tick word) = true
rates_slabs _ = false

abbrev pub is_of_rates : Seen → Bool
is_of_rates (seen.Done entry to) = true
is_of_rates seen.Room = true
is_of_rates (seen.Wait v) = true
is_of_rates seen.Ticked = true
is_of_rates (seen.Asked slab first second) = true
is_of_rates _ = false

-- rates are as they were, or the event may change them
abbrev pub MayRate : Device → List Activity → Event → Seen → Type 0
MayRate d rates e s = (rates ≡ d.rates) ⊎ ((rates_slabs e ≡ true) × (is_of_rates s ≡ true))

-- what an event comes to, with the rates that it leaves
abbrev pub ComesTo : Device → List ℕ → Event → Device → Seen → Type 0
ComesTo d page e d' s = (rates : List Activity) × MayRate d rates e s × Comes (record d { rates = rates }) page e d' s
