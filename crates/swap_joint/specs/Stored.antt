-- What a lender's slots hold now of the pages that a device has at it, where the lender's end of the link stands.
use Rattle.std.specs.Prelude.{◌≡◌, ℕ, ◌<◌, Bool, true, false, ◌==◌, ◌&&◌, List, [], ◌∷◌, Some}
use Rattle.std.specs.List.{list_any}
use Rattle.swap_base.specs.declared.Page.{Page}
use Rattle.swap_base.specs.declared.Slab.{Slab}
use Rattle.swap_base.specs.declared.Lender.{Lender}
use Rattle.swap_base.specs.declared.Lease.{Lease}
use Rattle.swap_base.specs.declared.EntryNo.{EntryNo}
use Rattle.swap_base.specs.Sizes.{Sizes, zeros}
use Rattle.swap_record.specs.History.{History, array}
use Rattle.swap_wire.specs.declared.Msg.{Msg}
use Rattle.swap_wire.specs.declared.Msg.TheVariants as msg
use Rattle.swap_wire.specs.Fabric.{Parcel, lends}
use Rattle.swap_bits.specs.Bits.{has}
use Rattle.swap_calls.specs.Calls.{Calls}
use Rattle.swap_slabs.specs.Slabs.{has_lease, state_of}
use Rattle.swap_slabs.specs.declared.SlabState.{SlabState}
use Rattle.swap_rings.specs.Rings.{ring_of, is_up}
use Rattle.swap_rings.specs.declared.Request.{Request}
use Rattle.swap_remote.specs.Remote.{state_for}
use Rattle.swap_table.specs.Device.{Device}
use Rattle.swap_table.specs.Moves.{Owed, Says, Ends}
use Rattle.swap_table.specs.Serves.{latest_write, IsOut, bytes_of}
use Rattle.swap_link.specs.Channel.{Channel}
use Rattle.swap_link.specs.Keeping.{Unless}
use Rattle.swap_link.specs.Harbor.{Harbor, channel_of}
use Rattle.swap_joint.specs.Order.{OrderOf, served_of}
use Rattle.swap_joint.specs.Seats.{HasSeat, is_done}
use Rattle.swap_joint.specs.Brought.{page_found, Replied, Asked}

-- whether a lease is being given back, and whether it is being lent
abbrev pub gives_back : Lease → List Parcel → Bool
gives_back k ps = list_any (λ q. is_done k q.msg) ps

abbrev pub lends_in : Lease → List Parcel → Bool
lends_in k ps = list_any (λ q. lends k q.msg) ps

-- a message to the device that lends this slab by this lease, and whether one is under way
abbrev pub lends_slab : Slab → Lease → Msg → Bool
lends_slab t k (msg.Lent slab lease) = (slab.0 == t.0) && (lease.0 == k.0)
lends_slab t k _ = false

abbrev pub lends_to : Slab → Lease → List Parcel → Bool
lends_to t k ps = list_any (λ q. lends_slab t k q.msg) ps

-- the leases that are being lent are no slab's, and each is lent once
abbrev pub LentOnce : List Parcel → Type 0
LentOnce [] = Unit {0}
LentOnce (q ∷ qs) = ((k : Lease) → lends k q.msg ≡ true → lends_in k qs ≡ false) × LentOnce qs

pub record AreNew (states : List SlabState) (l : Lender) (ps : List Parcel) : Type 0 where
  pub fresh : (k : Lease) (t : Slab) → lends_in k ps ≡ true → has_lease l k (state_of states t) ≡ false
  pub once : LentOnce ps

-- a lease that is given back was lent, is no slab's, and isn't being lent
pub record IsGivenBack (states : List SlabState) (l : Lender) (c : Channel) (k : Lease) : Type 0 where
  pub known : k.0 < c.lender.next_lease
  pub unleased : (t : Slab) → has_lease l k (state_of states t) ≡ false
  pub unlent : lends_in k c.to_device.parcels ≡ false

-- a slab with a lease has its slot, and so has one whose lease is under way; of a page with a write that was served the
-- slot holds what the last of them wrote, and of a page whose bit is set the page's content
pub record Stored (s : Sizes) (H : History) (states : List SlabState) (bits : List Bool) (l : Lender) (c : Channel)
    (served : List Request) : Type 0 where
  pub leased : (t : Slab) (k : Lease) → has_lease l k (state_of states t) ≡ true → HasSeat c.lender c.number k t
  pub lent : (t : Slab) (k : Lease) → lends_to t k c.to_device.parcels ≡ true → HasSeat c.lender c.number k t
  pub written :
      (p : Page) (k : Lease) (e : EntryNo) → has_lease l k (state_for s states p) ≡ true
      → latest_write p served ≡ Some e
      → IsOut H p e × (page_found s c k p ≡ Some (bytes_of H e))
  pub readable :
      (p : Page) (k : Lease) → has_lease l k (state_for s states p) ≡ true → has bits p.0 ≡ true
      → page_found s c k p ≡ Some (array (zeros s) H p)
  pub given : (k : Lease) → gives_back k c.to_lender.parcels ≡ true → IsGivenBack states l c k

-- a link that is up, with its lender
pub record JoinedOf (s : Sizes) (H : History) (calls : Calls) (states : List SlabState) (bits : List Bool)
    (ring : List Request) (l : Lender) (c : Channel) : Type 0 where
  pub present : c.device_gone ≡ false
  pub order : OrderOf (Replied s H calls states l) (Asked s H calls states l c) ring c.to_lender c.to_device
  pub stored : Unless c.lender_gone (Stored s H states bits l c (served_of order))
  pub loans : AreNew states l c.to_device.parcels

abbrev pub Joined : Device → Lender → Channel → Type 0
Joined d l c = JoinedOf d.sizes d.history d.calls d.remote.slabs d.remote.bits (ring_of d.remote.links l) l c

-- a device and the lenders in memory, but for a link that is about to be ended
abbrev pub AllJoined : ℕ → Device → Harbor → Type 0
AllJoined n d h = (l : Lender) → l.0 < n → is_up d.remote.links l ≡ true → Joined d l (channel_of h l)

abbrev pub AllJoinedBut : Lender → ℕ → Device → Harbor → Type 0
AllJoinedBut m n d h =
    (l : Lender) → l.0 < n → (l.0 ≡ m.0 → ⊥) → is_up d.remote.links l ≡ true → Joined d l (channel_of h l)

-- a lease that is about to be given back on a link
abbrev pub MayGiveBack : Device → Lender → Channel → Msg → Type 0
MayGiveBack d l c m = (k : Lease) → is_done k m ≡ true → Unless c.lender_gone (IsGivenBack d.remote.slabs l c k)

-- with what the device is about to do
abbrev pub JoinedOwing : ℕ → Device → Harbor → List Owed → Type 0
JoinedOwing n d h [] = AllJoined n d h
JoinedOwing n d h (Says l q ∷ owed) =
    AllJoined n d h × (is_up d.remote.links l ≡ true) × MayGiveBack d l (channel_of h l) q.msg
JoinedOwing n d h (Ends l ∷ owed) = AllJoinedBut l n d h
