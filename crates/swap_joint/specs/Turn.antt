-- What is under way to a device may be taken, one message after another.
use Rattle.std.specs.Prelude.{◌≡◌, ◌⊎◌, ℕ, ◌<◌, false, true, List, [], ◌∷◌, Option, None, Some}
use Rattle.swap_base.specs.declared.Slab.{Slab}
use Rattle.swap_base.specs.declared.Link.{Link}
use Rattle.swap_base.specs.declared.Lender.{Lender}
use Rattle.swap_base.specs.declared.Lease.{Lease}
use Rattle.swap_wire.specs.declared.Msg.{Msg}
use Rattle.swap_wire.specs.declared.Msg.TheVariants as msg
use Rattle.swap_wire.specs.Fabric.{Parcel}
use Rattle.swap_slabs.specs.Slabs.{state_of}
use Rattle.swap_slabs.specs.declared.SlabState.{SlabState}
use Rattle.swap_slabs.specs.declared.SlabState.TheVariants.{Mapped}
use Rattle.swap_choice.specs.Slots.{has}
use Rattle.swap_evict.specs.Rounds.{Round}
use Rattle.swap_lender.specs.declared.SlotState.{SlotState}
use Rattle.swap_lender.specs.declared.SlotState.TheVariants.{Held}
use Rattle.swap_lender.specs.Lender.{slot_in, is_evicting}
use Rattle.swap_lender.specs.Calls.{Tenant, tenant}
use Rattle.swap_rings.specs.Rings.{is_up}
use Rattle.swap_table.specs.Device.{Device}
use Rattle.swap_table.specs.Moves.{Owed, Says, Ends}
use Rattle.swap_link.specs.Lane.{Lane}
use Rattle.swap_link.specs.Channel.{Channel}
use Rattle.swap_link.specs.Keeping.{Unless}
use Rattle.swap_link.specs.Harbor.{Harbor, channel_of}

-- a slab is mapped at the lender by this lease
abbrev pub IsMappedAt : List SlabState → Lender → Lease → Type 0
IsMappedAt states l k = (t : Slab) × (flying : ℕ) × (state_of states t ≡ Mapped l k flying)

-- a lender may ask for the rate of a lease by which a slab is mapped, and take it back
abbrev pub MayCome : (Lease → Type 0) → Msg → Type 0
MayCome M (msg.Room slab free) = Unit {0}
MayCome M (msg.Lent slab lease) = Unit {0}
MayCome M (msg.Refused slab) = Unit {0}
MayCome M (msg.Wrote lease place) = Unit {0}
MayCome M (msg.PageIs lease place) = Unit {0}
MayCome M (msg.AskRates lease) = M lease
MayCome M (msg.Evict lease) = M lease
MayCome M _ = ⊥

-- which leases map a slab once a message was taken, and once all were
abbrev pub Then : (Lease → Type 0) → Msg → Lease → Type 0
Then M (msg.Lent slab lease) k = M k ⊎ (lease.0 ≡ k.0)
Then M (msg.Evict lease) k = M k × (lease.0 ≡ k.0 → ⊥)
Then M _ k = M k

abbrev pub After : (Lease → Type 0) → List Parcel → Lease → Type 0
After M [] k = M k
After M (q ∷ qs) k = After (λ j. Then M q.msg j) qs k

abbrev pub InTurn : (Lease → Type 0) → List Parcel → Type 0
InTurn M [] = Unit {0}
InTurn M (q ∷ qs) = MayCome M q.msg × InTurn (λ j. Then M q.msg j) qs

-- a slot that was not told to go maps its slab once all is taken, as long as the list has not ended
abbrev pub Stays : (Lease → Type 0) → List SlotState → Lane → Type 0
Stays M slots b =
    b.ended ≡ false → (i : ℕ) (n : Link) (t : Slab) (k : Lease) → slot_in slots i ≡ Held n t k false
    → After M b.parcels k

-- no slot that the open round asks was told to go
abbrev pub AsksUntold : Option Round → List SlotState → Type 0
AsksUntold None slots = Unit {0}
AsksUntold (Some r) slots = (i : ℕ) → has r.asked i ≡ true → is_evicting (slot_in slots i) ≡ false

-- a lender holds slots for its present link alone, and none where its end is gone
abbrev pub Lodges : Channel → Type 0
Lodges c =
    (i : ℕ) (a : Tenant) → tenant (slot_in c.lender.slots i) ≡ Some a
    → (c.lender_gone ≡ false) × (a.link.0 ≡ c.number.0)

-- a link of a device whose slabs are in these states: what is under way to it may be taken in turn, and where the
-- lender's
-- end stands, each slot that was not told to go maps its slab then
pub record Turned (states : List SlabState) (l : Lender) (c : Channel) : Type 0 where
  pub turn : InTurn (λ k. IsMappedAt states l k) c.to_device.parcels
  pub stays : Unless c.lender_gone (Stays (λ k. IsMappedAt states l k) c.lender.slots c.to_device)

-- so of each link that is up, but for one that is about to be ended
abbrev pub AllTurned : ℕ → Device → Harbor → Type 0
AllTurned n d h = (l : Lender) → l.0 < n → is_up d.remote.links l ≡ true → Turned d.remote.slabs l (channel_of h l)

abbrev pub AllTurnedBut : Lender → ℕ → Device → Harbor → Type 0
AllTurnedBut m n d h =
    (l : Lender) → l.0 < n → (l.0 ≡ m.0 → ⊥) → is_up d.remote.links l ≡ true → Turned d.remote.slabs l (channel_of h l)

abbrev pub TurnedOwing : ℕ → Device → Harbor → List Owed → Type 0
TurnedOwing n d h [] = AllTurned n d h
TurnedOwing n d h (Says l q ∷ owed) = AllTurned n d h
TurnedOwing n d h (Ends l ∷ owed) = AllTurnedBut l n d h
