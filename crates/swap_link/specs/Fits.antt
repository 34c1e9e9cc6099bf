-- What a lender and its link keep in memory.
use Rattle.std.specs.Prelude.{◌≡◌, ℕ, ◌<◌, Bool, true, false, List, [], ◌∷◌, length, All, slice_index_or, Option, None, Some}
use Rattle.swap_base.specs.Sizes.{Sizes}
use Rattle.swap_base.specs.declared.Link.{Link}
use Rattle.swap_lender.specs.declared.Peer.{Peer}
use Rattle.swap_lender.specs.declared.SlotState.{SlotState}
use Rattle.swap_lender.specs.declared.SlotState.TheVariants.{Free, Held}
use Rattle.swap_lender.specs.Lender.{Lender}
use Rattle.swap_lender.specs.Outbox.{OutboxView, IsReady}
use Rattle.swap_link.specs.Lane.{Lane, ParcelsFit}
use Rattle.swap_link.specs.Channel.{Channel}

-- the lender's only link is the present one, as long as the lender's end stands
abbrev pub IsAlone : Link → Bool → List Peer → Type 0
IsAlone number true peers = peers ≡ []
IsAlone number false peers = (greeted : Bool) × (peers ≡ record { link = number; greeted = greeted } ∷ [])

-- the lease of a held slot
abbrev pub lease_of : SlotState → Option ℕ
lease_of Free = None
lease_of (Held link slab lease evicting) = Some lease.0

abbrev pub lease_at : List SlotState → ℕ → Option ℕ
lease_at slots i = lease_of (slice_index_or slots i Free)

-- leases of held slots have been given and differ, and each slot has a page at each place
pub record IsSound (l : Lender) : Type 0 where
  pub given : (i k : ℕ) → lease_at l.slots i ≡ Some k → k < l.next_lease
  pub differ : (i j k : ℕ) → lease_at l.slots i ≡ Some k → lease_at l.slots j ≡ Some k → i ≡ j
  pub slots : length l.contents ≡ length l.slots
  pub places : All (λ slab. length slab ≡ l.lending.pages_per_slab) l.contents

pub record ChannelFits (sizes : Sizes) (lender : Lender) (number : Link) (to_lender to_device : Lane)
    (lender_gone : Bool) (outgoing : OutboxView) : Type 0 where
  pub sound : IsSound lender
  pub alone : IsAlone number lender_gone lender.peers
  pub one : lender.lending.links ≡ 1
  pub page : lender.lending.page_bytes ≡ sizes.page_bytes
  pub to_lender_page : to_lender.page_bytes ≡ sizes.page_bytes
  pub to_device_page : to_device.page_bytes ≡ sizes.page_bytes
  pub ready : IsReady outgoing lender.lending

-- and what they keep in themselves
pub record IsChannel (c : Channel) : Type 0 where
  pub sound : IsSound c.lender
  pub to_lender_page : c.to_lender.page_bytes ≡ c.sizes.page_bytes
  pub to_device_page : c.to_device.page_bytes ≡ c.sizes.page_bytes
  pub page : c.lender.lending.page_bytes ≡ c.sizes.page_bytes
  pub pages : ParcelsFit c.to_device
