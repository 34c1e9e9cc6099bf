-- What is under way on a link, against the requests that its device waits for.
use Rattle.std.specs.Prelude.{◌≡◌, ℕ, Bool, true, false, List, [], ◌++◌, filter, Option, None, Some}
use Rattle.swap_base.specs.declared.Page.{Page}
use Rattle.swap_base.specs.declared.Slab.{Slab}
use Rattle.swap_base.specs.declared.Lender.{Lender}
use Rattle.swap_base.specs.declared.Lease.{Lease}
use Rattle.swap_base.specs.Sizes.{Sizes, place_of}
use Rattle.swap_record.specs.History.{History}
use Rattle.swap_wire.specs.declared.Msg.{Msg}
use Rattle.swap_wire.specs.declared.Msg.TheVariants as msg
use Rattle.swap_wire.specs.Fabric.{Parcel, parcel_of, write_parcel, read_parcel}
use Rattle.swap_slabs.specs.Slabs.{has_lease}
use Rattle.swap_slabs.specs.declared.SlabState.{SlabState}
use Rattle.swap_rings.specs.Rings.{ring_of}
use Rattle.swap_rings.specs.declared.Request.{Request}
use Rattle.swap_rings.specs.declared.Request.TheVariants.{Query, Borrow, Write, Read}
use Rattle.swap_remote.specs.Remote.{state_for}
use Rattle.swap_table.specs.Device.{Device, query_reply, borrow_reply, write_reply, read_reply}
use Rattle.swap_table.specs.Serves.{IsOut, bytes_of}
use Rattle.swap_link.specs.Lane.{Lane}
use Rattle.swap_link.specs.Channel.{Channel}
use Rattle.swap_joint.specs.Pairs.{Pairwise}

-- a message to the lender that is a request, and one to the device that answers a request
abbrev pub is_request : Msg → Bool
is_request (msg.Query slab) = true
is_request (msg.Borrow slab) = true
is_request (msg.Write lease place) = true
is_request (msg.Read lease place) = true
is_request _ = false

abbrev pub is_reply : Msg → Bool
is_reply (msg.Room slab free) = true
is_reply (msg.Lent slab lease) = true
is_reply (msg.Refused slab) = true
is_reply (msg.Wrote lease place) = true
is_reply (msg.PageIs lease place) = true
is_reply _ = false

abbrev pub asks_by : Parcel → Bool
asks_by q = is_request q.msg

abbrev pub replies_by : Parcel → Bool
replies_by q = is_reply q.msg

-- what a lender tells of a slab
abbrev pub IsRoomFor : Slab → Option (Slab × ℕ) → Type 0
IsRoomFor t None = ⊥
IsRoomFor t (Some told) = told.0.0 ≡ t.0

abbrev pub IsReplyFor : Slab → Option (Slab × Option Lease) → Type 0
IsReplyFor t None = ⊥
IsReplyFor t (Some reply) = reply.0.0 ≡ t.0

-- a lease and a place name a page
abbrev pub Names : Sizes → List SlabState → Lender → Page → Option (Lease × ℕ) → Type 0
Names s states l p None = ⊥
Names s states l p (Some at) = (has_lease l at.0 (state_for s states p) ≡ true) × (place_of s p.0 ≡ at.1)

-- a reply answers a request, by what the device tests when it takes it
abbrev pub Answers : Sizes → List SlabState → Lender → Parcel → Request → Type 0
Answers s states l q (Query t) = IsRoomFor t (query_reply q.msg)
Answers s states l q (Borrow t) = IsReplyFor t (borrow_reply q.msg)
Answers s states l q (Write p e) = Names s states l p (write_reply q.msg)
Answers s states l q (Read c p) = Names s states l p (read_reply q.msg)

-- a message to the lender carries a request, and with a write its entry's bytes
abbrev pub Carries : Sizes → History → List SlabState → Lender → Parcel → Request → Type 0
Carries s H states l q (Query t) = q ≡ parcel_of (msg.Query t) []
Carries s H states l q (Borrow t) = q ≡ parcel_of (msg.Borrow t) []
Carries s H states l q (Write p e) =
    (k : Lease) × (q ≡ write_parcel k (place_of s p.0) (bytes_of H e)) × (has_lease l k (state_for s states p) ≡ true)
    × IsOut H p e
Carries s H states l q (Read c p) =
    (k : Lease) × (q ≡ read_parcel k (place_of s p.0)) × (has_lease l k (state_for s states p) ≡ true)

-- A ring is cut in four, the oldest first, where a test says which reply answers a request, and another which message
-- carries it: requests whose replies are under way, those that were served and whose
-- replies were lost, those under way to the lender, and those that were lost. Replies are lost only where the list to
-- the
-- device has ended, and requests where the list to the lender has.
pub record OrderOf (replies_to carries : Parcel → Request → Type 0) (ring : List Request)
    (to_lender to_device : Lane) : Type 0 where
  pub answered : List Request
  pub unheard : List Request
  pub under_way : List Request
  pub dropped : List Request
  pub in_four : ring ≡ (answered ++ unheard) ++ (under_way ++ dropped)
  pub replies : Pairwise replies_to (filter replies_by to_device.parcels) answered
  pub requests : Pairwise carries (filter asks_by to_lender.parcels) under_way
  pub heard : to_device.ended ≡ false → unheard ≡ []
  pub whole : to_lender.ended ≡ false → dropped ≡ []

-- what a reply answers and a message carries is told by the device's sizes, its history and the states of its slabs
abbrev pub InOrder : Sizes → History → List SlabState → List Request → Lender → Lane → Lane → Type 0
InOrder s H states ring l to_lender to_device =
    OrderOf (Answers s states l) (Carries s H states l) ring to_lender to_device

abbrev pub Order : Device → Lender → Channel → Type 0
Order d l c = InOrder d.sizes d.history d.remote.slabs (ring_of d.remote.links l) l c.to_lender c.to_device

-- what the lender has served of the ring
abbrev pub served_of :
    {R C : Parcel → Request → Type 0} {ring : List Request} {a b : Lane} → OrderOf R C ring a b → List Request
served_of o = o.answered ++ o.unheard
