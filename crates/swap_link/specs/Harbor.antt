-- A fabric in memory: a channel to each lender.
use Rattle.std.specs.Prelude.{◌≡◌, ℕ, ◌+◌, ◌<◌, List, length, All, slice_index_or, slice_set}
use Rattle.swap_base.specs.Sizes.{Sizes}
use Rattle.swap_base.specs.declared.Lender.{Lender}
use Rattle.swap_base.specs.declared.Lease.{Lease}
use Rattle.swap_base.specs.declared.geometry.LenderSpec.{LenderSpec}
use Rattle.swap_wire.specs.Fabric.{FabricCall, Connect, Send, Take, End, Give, Cut, Crash, Host, FabricAnswer, FabricOf}
use Rattle.swap_lender.specs.declared.Lending.{Lending}
use Rattle.swap_lender.specs.Lender.{lender_at_start}
use Rattle.swap_link.specs.Channel.{Channel, channel_at_start, on_channel}
use Rattle.swap_link.specs.Fits.{IsChannel}
use Rattle.swap_link.specs.Keeping.{Keeps, Owes}

pub record Harbor : Type 0 where
  pub sizes : Sizes
  pub channels : List Channel

-- a lender of a spec for a device, and its channel before the first connect
abbrev pub lending_for : Sizes → LenderSpec → Lending
lending_for s spec = record { spec = spec; page_bytes = s.page_bytes; pages_per_slab = s.pages_per_slab; links = 1 }

abbrev pub new_channel : Sizes → LenderSpec → Channel
new_channel s spec = channel_at_start s (lender_at_start (lending_for s spec)) (s.window + spec.slots + 1)

abbrev pub of_harbor : Harbor → FabricOf
of_harbor h = record { sizes = h.sizes; lenders = length h.channels }

-- the channel to a lender; out of range it is one without slots that was never connected
abbrev pub no_channel : Sizes → Channel
no_channel s = new_channel s (record { slots = 0; headroom = 0; extra = 0 })

abbrev pub channel_of : Harbor → Lender → Channel
channel_of h l = slice_index_or h.channels l.0 (no_channel h.sizes)

abbrev pub with_channel : Harbor → Lender → Channel → Harbor
with_channel h l c = record h { channels = slice_set h.channels l.0 c }

-- the lender that a call is for
abbrev pub lender_of : FabricCall → Lender
lender_of (Connect lender link) = lender
lender_of (Send lender parcel) = lender
lender_of (Take lender) = lender
lender_of (End lender) = lender
lender_of (Give lender) = lender
lender_of (Cut lender to_lender to_device) = lender
lender_of (Crash lender) = lender
lender_of (Host lender used word) = lender

-- what a harbor answers to a call, and the harbor after it: the call is its channel's
abbrev pub ask : Harbor → (c : FabricCall) → FabricAnswer c × Harbor
ask h c = (
  (on_channel (channel_of h (lender_of c)) c).0,
  with_channel h (lender_of c) (on_channel (channel_of h (lender_of c)) c).1,
)

-- a lender may be called: it is in range, and its channel is sound and of the harbor's sizes
pub record IsAsked (h : Harbor) (l : Lender) : Type 0 where
  pub range : l.0 < length h.channels
  pub channel : IsChannel (channel_of h l)
  pub sizes : (channel_of h l).sizes ≡ h.sizes

-- from a harbor, a call and its answer to the harbor after it
abbrev pub Moves : Harbor → (c : FabricCall) → FabricAnswer c → Harbor → Type 0
Moves h c answer g = IsAsked h (lender_of c) × (ask h c ≡ (answer, g))

-- as it is made: no channel was connected, and no lender has lent
pub record IsFresh (h : Harbor) (o : FabricOf) : Type 0 where
  pub is : of_harbor h ≡ o
  pub channels : All (λ c. c ≡ new_channel h.sizes c.lender.lending.spec) h.channels

abbrev pub KeepsAt : Harbor → Lender → Lease → ℕ → List ℕ → Type 0
KeepsAt h l k i bytes = Keeps (channel_of h l) k i bytes

abbrev pub OwesAt : Harbor → Lender → List (List ℕ) → Type 0
OwesAt h l pages = Owes (channel_of h l) pages
