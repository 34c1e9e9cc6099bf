-- What a link has by a lease: the slab that it holds a slot for, and whether it was told to give it back.
use Rattle.std.specs.Prelude.{◌≡◌, Bool, false, ◌==◌, length, Option, None, Some}
use Rattle.swap_base.specs.declared.Slab.{Slab}
use Rattle.swap_base.specs.declared.Link.{Link}
use Rattle.swap_base.specs.declared.Lease.{Lease}
use Rattle.swap_wire.specs.declared.Msg.{Msg}
use Rattle.swap_wire.specs.declared.Msg.TheVariants as msg
use Rattle.swap_lender.specs.declared.SlotState.{SlotState}
use Rattle.swap_lender.specs.declared.SlotState.TheVariants.{Free, Held}
use Rattle.swap_lender.specs.Lender.{Lender, slot_in, slot_of}

abbrev pub seat_in : SlotState → Option (Slab × Bool)
seat_in Free = None
seat_in (Held link slab lease evicting) = Some (slab, evicting)

abbrev pub seat : Lender → Link → Lease → Option (Slab × Bool)
seat l n k = seat_in (slot_in l.slots (slot_of l n k))

-- a link has this lease for this slab, told to go or not
abbrev pub HasSeat : Lender → Link → Lease → Slab → Type 0
HasSeat l n k t = (told : Bool) × (seat l n k ≡ Some (t, told))

-- a lender has the slots of its spec
abbrev pub AreSlots : Lender → Type 0
AreSlots l = length l.slots ≡ l.lending.spec.slots

-- a message to the lender that gives this lease back
abbrev pub is_done : Lease → Msg → Bool
is_done k (msg.Done lease) = lease.0 == k.0
is_done k _ = false
