-- What is under way to a lender on a link that its device has lost: it may be sent all the same.
use Rattle.std.specs.Prelude.{◌≡◌, ◌⊎◌, ℕ, ◌<◌, Bool, true, false, ◌==◌, List, [], ◌∷◌}
use Rattle.std.specs.List.{list_any, AllByRecursion}
use Rattle.swap_base.specs.declared.Slab.{Slab}
use Rattle.swap_base.specs.declared.Lender.{Lender}
use Rattle.swap_base.specs.declared.Lease.{Lease}
use Rattle.swap_base.specs.Sizes.{Sizes}
use Rattle.swap_wire.specs.declared.Msg.{Msg}
use Rattle.swap_wire.specs.declared.Msg.TheVariants as msg
use Rattle.swap_wire.specs.Fabric.{Parcel}
use Rattle.swap_lender.specs.declared.SlotState.{SlotState}
use Rattle.swap_rings.specs.Rings.{is_up}
use Rattle.swap_table.specs.Device.{Device}
use Rattle.swap_table.specs.Moves.{Owed, Says, Ends}
use Rattle.swap_link.specs.Channel.{Channel}
use Rattle.swap_link.specs.Keeping.{Unless}
use Rattle.swap_link.specs.Harbor.{Harbor, channel_of}
use Rattle.swap_joint.specs.Seats.{is_done}
use Rattle.swap_joint.specs.Allowed.{HasSlot, Allows}

-- a message that reaches a place by a lease, and one that borrows a slab
abbrev pub uses : Lease → Msg → Bool
uses k (msg.Write lease place) = lease.0 == k.0
uses k (msg.Read lease place) = lease.0 == k.0
uses k _ = false

abbrev pub borrows : Slab → Msg → Bool
borrows t (msg.Borrow slab) = slab.0 == t.0
borrows t _ = false

-- a slot is held by this lease
abbrev pub HasHeld : List SlotState → Lease → Type 0
HasHeld slots k = (told : Bool) × HasSlot slots k told

-- what reaches a place does so by a lease that is held, at a place that there is
abbrev pub IsReach : List SlotState → ℕ → Msg → Type 0
IsReach slots places (msg.Write lease place) = HasHeld slots lease × (place < places)
IsReach slots places (msg.Read lease place) = HasHeld slots lease × (place < places)
IsReach slots places _ = Unit {0}

-- a lease that is given back is used no more
abbrev pub DoneLast : List Parcel → Type 0
DoneLast [] = Unit {0}
DoneLast (q ∷ qs) =
    ((k : Lease) → is_done k q.msg ≡ true → list_any (λ (p : Parcel). uses k p.msg) qs ≡ false) × DoneLast qs

-- a slab is borrowed once
abbrev pub BorrowOnce : List Parcel → Type 0
BorrowOnce [] = Unit {0}
BorrowOnce (q ∷ qs) =
    ((t : Slab) → borrows t q.msg ≡ true → list_any (λ (p : Parcel). borrows t p.msg) qs ≡ false) × BorrowOnce qs

pub record Orderly (slots : List SlotState) (places : ℕ) (out : List Parcel) : Type 0 where
  pub reach : AllByRecursion (λ (q : Parcel). IsReach slots places q.msg) out
  pub done_last : DoneLast out
  pub borrow_once : BorrowOnce out

-- a link that its device has lost, whatever the device keeps
abbrev pub Left : Sizes → Lender → Channel → Type 0
Left s l c =
    Unless c.lender_gone
    (Allows s [] [] l c.lender c.number [] true c.to_lender.parcels
    × Orderly c.lender.slots s.pages_per_slab c.to_lender.parcels)

-- so of each link that is down, or about to be ended
abbrev pub IsLeft : Device → List Owed → Lender → Type 0
IsLeft d [] l = is_up d.remote.links l ≡ false
IsLeft d (Says m q ∷ owed) l = is_up d.remote.links l ≡ false
IsLeft d (Ends m ∷ owed) l = (is_up d.remote.links l ≡ false) ⊎ (l.0 ≡ m.0)

abbrev pub AllLeft : Sizes → ℕ → Device → Harbor → List Owed → Type 0
AllLeft s n d h owed = (l : Lender) → l.0 < n → IsLeft d owed l → Left s l (channel_of h l)
