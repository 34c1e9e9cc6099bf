-- Branches of the device's table that no script reaches, over a fabric that is a list of answers.
use Rattle.std.specs.Prelude.{◌≡◌, ℕ, Bool, true, false, List, [], ◌∷◌, ◌++◌, map, replicate, None, Some}
use Rattle.swap_base.specs.declared.Page.{Page}
use Rattle.swap_base.specs.declared.Caller.{Caller}
use Rattle.swap_base.specs.declared.Slab.{Slab}
use Rattle.swap_base.specs.declared.Lender.{Lender}
use Rattle.swap_base.specs.declared.Lease.{Lease}
use Rattle.swap_base.specs.declared.Via.TheVariants as via
use Rattle.swap_base.specs.declared.DiskWhich.TheVariants as which
use Rattle.swap_base.specs.Sizes.{Sizes}
use Rattle.swap_disk.specs.Port.{DiskCall, DiskAnswer, StartWrite, StartRead, TakeDone, LetFinish}
use Rattle.swap_wire.specs.declared.Msg.{Msg}
use Rattle.swap_wire.specs.declared.Msg.TheVariants as msg
use Rattle.swap_wire.specs.declared.Event.{Event}
use Rattle.swap_wire.specs.declared.Event.TheVariants as event
use Rattle.swap_wire.specs.declared.Seen.{Seen}
use Rattle.swap_wire.specs.declared.Seen.TheVariants as seen
use Rattle.swap_wire.specs.declared.fabric.Sent.{Sent}
use Rattle.swap_wire.specs.declared.fabric.Sent.TheVariants as sent
use Rattle.swap_wire.specs.declared.fabric.Gave.TheVariants as gave
use Rattle.swap_wire.specs.Fabric.{parcel_of, Handed, Brought, NothingCame, LinkLost, FabricCall, FabricAnswer, Connect, Send, Take, End, Give, Cut, Crash, Host}
use Rattle.swap_slabs.specs.Slabs.{state_of}
use Rattle.swap_slabs.specs.declared.SlabState.{SlabState}
use Rattle.swap_slabs.specs.declared.SlabState.TheVariants.{Local, Borrowing, Mapped, Draining}
use Rattle.swap_rings.specs.Rings.{is_up}
use Rattle.swap_table.specs.Ports.{run}
use Rattle.swap_table.specs.Device.{Device, device_at_start}
use Rattle.swap_table.specs.Happens.{happens}

-- what sends and takes are answered, in order, and what was sent to whom, the newest first
pub record Told : Type 0 where
  pub sends : List Sent
  pub takes : List Handed
  pub heard : List (Lender × Msg)

abbrev pub sent_by : List Sent → Told → Sent × Told
sent_by [] told = (sent.Sent, told)
sent_by (s ∷ sends) told = (s, record told { sends = sends })

abbrev pub taken_by : List Handed → Told → Handed × Told
taken_by [] told = (NothingCame, told)
taken_by (h ∷ takes) told = (h, record told { takes = takes })

abbrev pub tell : Told → (c : FabricCall) → FabricAnswer c × Told
tell told (Connect l n) = (tt, told)
tell told (Send l q) = sent_by told.sends (record told { heard = (l, q.msg) ∷ told.heard })
tell told (Take l) = taken_by told.takes told
tell told (End l) = (tt, told)
tell told (Give l) = (gave.Nothing, told)
tell told (Cut l a b) = (false, told)
tell told (Crash l) = (false, told)
tell told (Host l used word) = (None, told)

-- a disk that has finished each write at once, and no read
abbrev pub at_once : List Page → (c : DiskCall) → DiskAnswer c × List Page
at_once pages (StartWrite p bytes) = (tt, p ∷ pages)
at_once pages (StartRead c p) = (tt, pages)
at_once [] TakeDone = (None, [])
at_once (p ∷ pages) TakeDone =
    (Some (record { done = record { which = which.Write p; page = p; ok = true }; bytes = [] }), pages)
at_once pages (LetFinish w ok) = (true, pages)

-- an event with a page that goes with it
pub record Step : Type 0 where
  pub event : Event
  pub page : List ℕ

abbrev pub step_by : Event → Step
step_by e = record { event = e; page = [] }

-- what is seen of events, and the device after them
abbrev pub go_on : List Page → Told → List Step → List Seen → Device → (List Seen × Device) × Told
go_on pages told [] seens d = ((seens, d), told)
go_on pages told (step ∷ steps) seens d =
    let r = run at_once tell (happens d step.page step.event) pages told in
    go_on r.1.0 r.1.1 steps (seens ++ r.0.1 ∷ []) r.0.0

abbrev pub sizes : Sizes
sizes = record { page_bytes = 8; pages_per_slab = 4; slabs = 2; queue = 4; callers = 2; window = 2; hot = 1 }

abbrev pub first_lender : Lender
first_lender = record { 0 = 0 }

abbrev pub second_lender : Lender
second_lender = record { 0 = 1 }

abbrev pub slab : ℕ → Slab
slab n = record { 0 = n }

abbrev pub lease : ℕ → Lease
lease n = record { 0 = n }

abbrev pub caller : Caller
caller = record { 0 = 0 }

abbrev pub page : ℕ → Page
page n = record { 0 = n }

abbrev pub out : ℕ → Step
out p = record { event = event.PageOut caller (page p); page = replicate 8 7 }

abbrev pub brought_plain : Msg → Handed
brought_plain m = Brought (parcel_of m (replicate 8 7))

abbrev pub make : List Sent → List Handed → List Step → (List Seen × Device) × Told
make sends takes steps =
    go_on [] (record { sends = sends; takes = takes; heard = [] }) steps [] (device_at_start sizes 2)

abbrev pub up_and_mapped : List Step
up_and_mapped =
    map step_by (event.Connect first_lender ∷ event.Map (slab 0) first_lender ∷ event.Take first_lender ∷ [])

abbrev pub brought_lent : Handed
brought_lent = brought_plain (msg.Lent (slab 0) (lease 5))

-- after the link was made, the slab mapped and this done, what was seen last, and the state of the slab
abbrev pub last_seen : List Seen → Seen
last_seen [] = seen.Nothing
last_seen (s ∷ []) = s
last_seen (s ∷ seens) = last_seen seens

abbrev pub Ends : (List Seen × Device) × Told → Seen → SlabState → Bool → Type 0
Ends r s state up =
    (last_seen r.0.0 ≡ s) × (state_of r.0.1.remote.slabs (slab 0) ≡ state)
    × (is_up r.0.1.remote.links first_lender ≡ up)

-- each message that isn't allowed there is a lie: the link is ended and lost
abbrev pub IsLie : Msg → Type 0
IsLie m =
    Ends (make [] (brought_lent ∷ brought_plain m ∷ []) (up_and_mapped
    ++ step_by (event.Take first_lender) ∷ [])) seen.Lied Local false

abbrev pub LiesEndTheLink : Type 0
LiesEndTheLink =
    IsLie (msg.Room (slab 0) 3) × IsLie (msg.Lent (slab 1) (lease 6)) × IsLie (msg.Refused (slab 0))
    × IsLie (msg.Wrote (lease 5) 0)
    × IsLie (msg.PageIs (lease 5) 0) × IsLie (msg.AskRates (lease 6)) × IsLie (msg.Evict (lease 6))
    × IsLie (msg.Hello 1 8 4)
    × IsLie (msg.Query (slab 0)) × IsLie (msg.Borrow (slab 0)) × IsLie (msg.Write (lease 5) 0)
    × IsLie (msg.Read (lease 5) 0)
    × IsLie (msg.Rates (lease 5) 1) × IsLie (msg.Done (lease 5))

-- a lease that a slab has already is a lie, and so is a reply of another place, or of another slab
abbrev pub LeaseInUse : Type 0
LeaseInUse =
    Ends
    (make [] (brought_lent ∷ brought_plain (msg.Lent (slab 1) (lease 5)) ∷ [])
    (up_and_mapped ++ map step_by (event.Map (slab 1) first_lender ∷ event.Take first_lender ∷ [])))
    seen.Lied Local false
    × Ends
    (make [] (brought_lent ∷ brought_plain (msg.Wrote (lease 5) 2) ∷ []) (up_and_mapped
    ++ out 1 ∷ step_by (event.Take first_lender) ∷ []))
    seen.Lied Local false

-- a send that finds the link down: a write's page-out is answered, a read goes to the disk, and a borrowed slab stays
-- local
abbrev pub Down : List Sent
Down = sent.Sent ∷ sent.Sent ∷ sent.Down ∷ []

abbrev pub WriteFindsTheLinkDown : Type 0
WriteFindsTheLinkDown =
    Ends (make Down (brought_lent ∷ []) (up_and_mapped ++ out 1 ∷ [])) (seen.Done (record { 0 = 0 }) None) Local false

abbrev pub written_away : List Step
written_away =
    up_and_mapped ++ out 1
    ∷ map step_by
    (event.Take first_lender ∷ event.Start ∷ event.Disk (which.Write (page 1)) true ∷ event.PageIn caller (page 1) ∷ [])

abbrev pub ReadFindsTheLinkDown : Type 0
ReadFindsTheLinkDown =
    Ends (make (replicate 3 sent.Sent ++ sent.Down ∷ []) (brought_lent ∷ brought_plain (msg.Wrote (lease 5) 1) ∷ [])
    written_away)
    (seen.Wait via.Disk) Local false
    × Ends (make [] (brought_lent ∷ brought_plain (msg.Wrote (lease 5) 1) ∷ []) written_away)
    (seen.Wait (via.Lender first_lender))
    (Mapped first_lender (lease 5) 1) true

abbrev pub BorrowFindsTheLinkDown : Type 0
BorrowFindsTheLinkDown =
    Ends
    (make (sent.Sent ∷ sent.Down ∷ []) [] (map step_by (event.Connect first_lender ∷ event.Map (slab 0) first_lender ∷
    []))) seen.Borrowing
    Local false

abbrev pub GreetingFindsTheLinkDown : Type 0
GreetingFindsTheLinkDown =
    Ends (make (sent.Down ∷ []) [] (step_by (event.Connect first_lender) ∷ [])) (seen.Linked (record { 0 = 0 })) Local
    false

-- a hot slab, its first lender down, and both; and a first lender that is lost while the slab asks both
abbrev pub hits : List Step
hits = map step_by (replicate 5 (event.PageIn caller (page 0)))

abbrev pub both_up : List Step
both_up = map step_by (event.Connect first_lender ∷ event.Connect second_lender ∷ []) ++ hits

abbrev pub QueryFindsTheLinkDown : Type 0
QueryFindsTheLinkDown =
    (last_seen (make (sent.Sent ∷ sent.Sent ∷ sent.Down ∷ []) [] (both_up ++ step_by (event.Tick 0) ∷ [])).0.0
    ≡ seen.Asked (slab 0) second_lender None)
    × (last_seen (make (sent.Sent ∷ sent.Sent ∷ sent.Sent ∷ sent.Down ∷ []) [] (both_up
    ++ step_by (event.Tick 0) ∷ [])).0.0
    ≡ seen.Asked (slab 0) first_lender None)
    × (last_seen (make (sent.Sent ∷ sent.Sent ∷ sent.Down ∷ sent.Down ∷ []) [] (both_up
    ++ step_by (event.Tick 0) ∷ [])).0.0
    ≡ seen.Ticked)

-- a slab is taken back: at once where nothing flies, and else once its write was answered, which sets no bit; a lease
-- that
-- can't be given back is given up with the link
abbrev pub taken_back : Handed
taken_back = brought_plain (msg.Evict (lease 5))

abbrev pub SlabsAreGivenBack : Type 0
SlabsAreGivenBack =
    Ends (make [] (brought_lent ∷ taken_back ∷ []) (up_and_mapped ++ step_by (event.Take first_lender) ∷ []))
    (seen.Took (msg.Evict (lease 5))) Local true
    × Ends (make [] (brought_lent ∷ taken_back ∷ []) (up_and_mapped ++ out 1 ∷ step_by (event.Take first_lender) ∷ []))
    (seen.Took (msg.Evict (lease 5))) (Draining first_lender (lease 5) 1) true
    × ((make [] (brought_lent ∷ taken_back ∷ brought_plain (msg.Wrote (lease 5) 1) ∷ [])
    (up_and_mapped ++ out 1 ∷ map step_by (event.Take first_lender ∷ event.Take first_lender ∷ []))).0.1.remote.bits
    ≡ replicate 8 false)
    × Ends
    (make (sent.Sent ∷ sent.Sent ∷ sent.Down ∷ []) (brought_lent ∷ taken_back ∷ [])
    (up_and_mapped ++ step_by (event.Take first_lender) ∷ []))
    (seen.Took (msg.Evict (lease 5))) Local false

-- the last reply of an asking slab is a loss: it borrows from the other; and where that link is down it's local
abbrev pub room_of_second : Handed
room_of_second = brought_plain (msg.Room (slab 0) 3)

abbrev pub loses_first : List Step
loses_first = both_up ++ map step_by (event.Tick 0 ∷ event.Take second_lender ∷ event.Take first_lender ∷ [])

abbrev pub LossMakesTheChoice : Type 0
LossMakesTheChoice =
    Ends (make [] (room_of_second ∷ LinkLost ∷ []) loses_first) seen.Lost (Borrowing second_lender) false
    × Ends
    (make (replicate 4 sent.Sent ++ sent.Down ∷ []) (room_of_second ∷ LinkLost ∷ []) loses_first) seen.Lost Local
    false
