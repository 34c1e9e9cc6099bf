-- Worlds by hand: with a page at a lender, and such in which the promise doesn't hold.
use Rattle.std.specs.Prelude.{◌≡◌, ℕ, ◌+◌, Bool, true, false, List, [], ◌∷◌, ◌++◌, length, map, take, replicate, Some}
use Rattle.std.specs.List.{range_with_len}
use Rattle.swap_base.specs.declared.Page.{Page}
use Rattle.swap_base.specs.declared.Lender.{Lender}
use Rattle.swap_base.specs.declared.Slab.{Slab}
use Rattle.swap_base.specs.declared.Lease.{Lease}
use Rattle.swap_base.specs.declared.Caller.{Caller}
use Rattle.swap_base.specs.declared.DiskWhich.TheVariants as which
use Rattle.swap_base.specs.declared.geometry.LenderSpec.{LenderSpec}
use Rattle.swap_base.specs.Sizes.{Sizes}
use Rattle.swap_record.specs.declared.Op.TheVariants as op
use Rattle.swap_record.specs.History.{with_row}
use Rattle.swap_wire.specs.declared.Event.{Event}
use Rattle.swap_wire.specs.declared.Event.TheVariants as event
use Rattle.swap_wire.specs.Input.{Input}
use Rattle.swap_wire.specs.Fabric.{write_parcel}
use Rattle.swap_slabs.specs.declared.SlabState.TheVariants.{Borrowing, Mapped}
use Rattle.swap_remote.specs.Remote.{has_page, state_for}
use Rattle.swap_table.specs.Device.{Device}
use Rattle.swap_lender.specs.declared.SlotState.{SlotState}
use Rattle.swap_lender.specs.declared.SlotState.TheVariants.{Free, Held}
use Rattle.swap_link.specs.Channel.{Channel}
use Rattle.swap_link.specs.Harbor.{Harbor, channel_of, with_channel}
use Rattle.swap_joint.specs.Brought.{page_found}
use Rattle.swap_joint.specs.Newest.{IsNewest}
use Rattle.swap_joint.specs.Owned.{IsOwned, IsLent}
use Rattle.swap_lender.specs.Lender.{slot_in}
use Rattle.swap_world.specs.Laws.{AreInputs}
use Rattle.swap_world.specs.World.{World, start, reach}

abbrev pub sizes : Sizes
sizes = record { page_bytes = 8; pages_per_slab = 4; slabs = 2; queue = 4; callers = 2; window = 4; hot = 20 }

abbrev pub page : Page
page = record { 0 = 3 }

abbrev pub slab : Slab
slab = record { 0 = 0 }

abbrev pub lender : Lender
lender = record { 0 = 0 }

abbrev lease : Lease
lease = record { 0 = 0 }

abbrev input_by : Event → Input
input_by e = record { event = e; page = [] }

abbrev out : ℕ → Input
out byte = record { event = event.PageOut (record { 0 = 0 }) page; page = replicate 8 byte }

abbrev first_world : World
first_world = start sizes (record { slots = 4; headroom = 1; extra = 1 } ∷ [])

-- a slab is borrowed, and a page goes out to its lender
abbrev lent_events : List Input
lent_events =
    input_by (event.Connect lender) ∷ input_by (event.Map slab lender) ∷ input_by (event.Give lender) ∷ input_by
    (event.Give lender)
    ∷ input_by (event.Take lender) ∷ out 170 ∷ input_by (event.Give lender) ∷ input_by (event.Take lender) ∷ []

abbrev lent_world : World
lent_world = reach first_world lent_events

abbrev bit_after : List Input → ℕ → Bool
bit_after is n = has_page (reach first_world (take n is)).device.remote page

abbrev pub PageAtALender : Type 0
PageAtALender =
    (has_page lent_world.device.remote page ≡ true)
    × (state_for lent_world.device.sizes lent_world.device.remote.slabs page ≡ Mapped lender lease 0)
    × (page_found lent_world.device.sizes (channel_of lent_world.harbor lender) lease page ≡ Some (replicate 8 170))

-- a newer page-out clears the bit, until its own write is answered
abbrev pub BitFollowsTheNewest : Type 0
BitFollowsTheNewest =
    map (bit_after (lent_events ++ out 187 ∷ input_by (event.Give lender) ∷ input_by (event.Take lender) ∷ []))
    (range_with_len 5 7)
    ≡ false ∷ false ∷ false ∷ true ∷ false ∷ false ∷ true ∷ []

-- the reply of a write is cut away with a read behind it: the slot holds the page though nothing comes back
abbrev cut_events : List Input
cut_events = lent_events ++ out 187 ∷ input_by (event.Give lender) ∷ input_by (event.Cut lender 0 0) ∷ []

abbrev pub SlotHoldsWhatWasCut : Type 0
SlotHoldsWhatWasCut =
    (has_page (reach first_world cut_events).device.remote page ≡ false)
    × (page_found sizes (channel_of (reach first_world cut_events).harbor lender) lease page ≡ Some (replicate 8 187))

-- a bit over an older page in the slot, and a write under way with the bit set
abbrev stale_device : Device
stale_device =
    record lent_world.device
    { history = with_row lent_world.device.history (record { 0 = 1 }) page op.PageOut (replicate 8 187) }

abbrev overwritten : Harbor
overwritten =
    let c : Channel = channel_of lent_world.harbor lender in
    with_channel lent_world.harbor lender
    (record c { to_lender = record c.to_lender { parcels = write_parcel lease 3 (replicate 8 187) ∷ [] } })

abbrev pub NewestCanFail : Type 0
NewestCanFail = (IsNewest stale_device lent_world.harbor → ⊥) × (IsNewest lent_world.device overwritten → ⊥)

-- two slots for one slab, and a mapped slab without a slot
abbrev with_slots : List SlotState → Harbor
with_slots slots =
    let c : Channel = channel_of lent_world.harbor lender in
    with_channel lent_world.harbor lender (record c { lender = record c.lender { slots = slots } })

abbrev held_slot : ℕ → SlotState
held_slot k = Held (record { 0 = 0 }) slab (record { 0 = k }) false

abbrev pub OwnedCanFail : Type 0
OwnedCanFail =
    (IsOwned lent_world.device (with_slots (held_slot 0 ∷ held_slot 1 ∷ [])) → ⊥)
    × (IsOwned lent_world.device (with_slots (Free ∷ [])) → ⊥)

-- events, after each of which a set bit means that the remote copy is the newest and a lent slab has one owner, with
-- the
-- bit of a page after each front of them
pub record IsRow (specs : List LenderSpec) (is : List Input) (p : Page) (bits : List Bool) : Type 0 where
  pub inputs : AreInputs sizes specs is
  pub lent : (n : ℕ) → let w : World = reach (start sizes specs) (take n is) in IsLent w.device w.harbor
  pub bit : map (λ n. has_page (reach (start sizes specs) (take n is)).device.remote p)
      (range_with_len 0 (length is + 1))
      ≡ bits

abbrev pub spec : ℕ → ℕ → ℕ → LenderSpec
spec slots headroom extra = record { slots = slots; headroom = headroom; extra = extra }

abbrev caller : ℕ → Caller
caller c = record { 0 = c }

abbrev page_out_event : ℕ → ℕ → ℕ → Input
page_out_event c p byte = record { event = event.PageOut (caller c) (record { 0 = p }); page = replicate 8 byte }

abbrev give : Input
give = input_by (event.Give lender)

abbrev get : Input
get = input_by (event.Take lender)

abbrev reads : ℕ → ℕ → Input
reads c p = input_by (event.PageIn (caller c) (record { 0 = p }))

abbrev ends : ℕ → Input
ends c = input_by (event.Finish (caller c))

abbrev read_ends : ℕ → Input
read_ends c = input_by (event.Disk (which.Read (caller c)) true)

abbrev hosts : ℕ → Input
hosts used = input_by (event.Host lender used 0)

abbrev cuts : ℕ → ℕ → Input
cuts to_lender to_device = input_by (event.Cut lender to_lender to_device)

-- a page goes out to its lender, and to the disk
abbrev store_events : ℕ → List Input
store_events p =
    input_by (event.Connect lender) ∷ input_by (event.Map slab lender) ∷ give ∷ give ∷ get ∷ page_out_event 0 p 170 ∷
    give ∷ get
    ∷ input_by event.Start ∷ input_by (event.Disk (which.Write (record { 0 = p })) true) ∷ []

-- the slab is taken back with a read and a write in flight
abbrev pub revoke_events : List Input
revoke_events =
    store_events 3 ++ hosts 10 ∷ get ∷ give ∷ reads 0 3 ∷ page_out_event 1 2 187 ∷ get ∷ give ∷ give ∷ give ∷ get ∷ give
    ∷ get ∷ give
    ∷ ends 0 ∷ reads 0 3 ∷ read_ends 0 ∷ ends 0 ∷ hosts 0 ∷ hosts 0 ∷ hosts 0 ∷ hosts 0 ∷ input_by
    (event.Map slab lender)
    ∷ give ∷ get ∷ []

abbrev pub RevocationInFlight : Type 0
RevocationInFlight =
    IsRow (spec 3 1 0 ∷ []) revoke_events page (replicate 8 false ++ replicate 8 true ++ replicate 19 false)

-- the reply to a read is cut away
abbrev pub lost_events : List Input
lost_events = store_events 3 ++ reads 0 3 ∷ give ∷ cuts 0 0 ∷ get ∷ ends 0 ∷ read_ends 0 ∷ ends 0 ∷ []

abbrev pub ReplyLost : Type 0
ReplyLost = IsRow (spec 4 1 1 ∷ []) lost_events page (replicate 8 false ++ replicate 6 true ++ replicate 4 false)

-- the lender crashes, and the device makes a new link before it has read the old one's end
abbrev pub unread_events : List Input
unread_events =
    store_events 3 ++ input_by (event.Crash lender) ∷ reads 0 3 ∷ input_by (event.Connect lender) ∷ ends 0 ∷ input_by
    (event.Map slab lender)
    ∷ give ∷ give ∷ get ∷ read_ends 0 ∷ ends 0 ∷ []

abbrev pub LossUnread : Type 0
LossUnread = IsRow (spec 4 1 1 ∷ []) unread_events page (replicate 8 false ++ replicate 5 true ++ replicate 8 false)

-- a write's reply is dropped with a read behind it, which the lender serves all the same
abbrev pub read_behind_events : List Input
read_behind_events = store_events 2 ++ page_out_event 0 3 187 ∷ reads 1 2 ∷ give ∷ cuts 1 0 ∷ give ∷ []

abbrev behind_world : World
behind_world = reach (start sizes (spec 4 1 1 ∷ [])) read_behind_events

abbrev pub ReadBehindADroppedReply : Type 0
ReadBehindADroppedReply =
    IsRow (spec 4 1 1 ∷ []) read_behind_events (record { 0 = 2 }) (replicate 8 false ++ replicate 8 true)
    × (page_found sizes (channel_of behind_world.harbor lender) lease page ≡ Some (replicate 8 187))
    × (page_found sizes (channel_of behind_world.harbor lender) lease (record { 0 = 2 }) ≡ Some (replicate 8 170))

-- a lease is given back into a list that has ended, and its slab is asked for anew: the slot is still held
abbrev pub given_up : List Input
given_up = store_events 3 ++ hosts 10 ∷ get ∷ give ∷ cuts 0 1 ∷ get ∷ input_by (event.Map slab lender) ∷ []

abbrev given_up_world : World
given_up_world = reach (start sizes (spec 3 1 0 ∷ [])) given_up

abbrev pub DoneIntoAnEndedList : Type 0
DoneIntoAnEndedList =
    IsRow (spec 3 1 0 ∷ []) given_up page (replicate 8 false ++ replicate 7 true ++ replicate 2 false)
    × (state_for sizes given_up_world.device.remote.slabs page ≡ Borrowing lender)
    × (slot_in (channel_of given_up_world.harbor lender).lender.slots 0 ≡ Held (record { 0 = 0 }) slab lease true)
