-- What the fields of a lender keep beside what they mean: sizes, and room for every link.
use Rattle.std.specs.Prelude.{◌≡◌, ℕ, ◌≤◌, ◌<◌, ◌^◌, List, length, Option, None, Some}
use Rattle.swap_lender.specs.declared.Lending.{Lending}
use Rattle.swap_lender.specs.declared.SlotState.{SlotState}
use Rattle.swap_lender.specs.declared.Peer.{Peer}
use Rattle.swap_activity.specs.Rates.{greatest}
use Rattle.swap_evict.specs.Rounds.{Round, IsOpen, IsEvicted}
use Rattle.swap_store.specs.Slabs.{Slabs}
use Rattle.swap_lender.specs.Lender.{Lender}
use Rattle.swap_base.specs.declared.TheConstants.{MOST_SLOTS}

-- the limits of what a lender is made for
pub record IsLending (s : Lending) : Type 0 where
  pub some : 1 ≤ s.spec.slots
  pub few : s.spec.slots ≤ MOST_SLOTS
  pub headroom : s.spec.headroom ≤ MOST_SLOTS
  pub extra : s.spec.extra ≤ MOST_SLOTS

pub record SlotsFit (s : Lending) (slots : List SlotState) : Type 0 where
  pub limits : IsLending s
  pub number : length slots ≡ s.spec.slots

pub record ContentsFit (s : Lending) (contents : Slabs) : Type 0 where
  pub number : length contents.slabs ≡ s.spec.slots
  pub page_bytes : contents.page_bytes ≡ s.page_bytes
  pub pages_per_slab : contents.pages_per_slab ≡ s.pages_per_slab

pub record PeersFit (s : Lending) (peers : List Peer) (capacity : ℕ) : Type 0 where
  pub few : length peers ≤ s.links
  pub room : s.links ≤ capacity

-- what every lender keeps: its tables have their sizes
pub record IsLender (l : Lender) : Type 0 where
  pub slots : SlotsFit l.lending l.slots
  pub contents : length l.contents ≡ l.lending.spec.slots
  pub peers : length l.peers ≤ l.lending.links
  pub usage : l.usage ≤ greatest
  pub leases : l.next_lease < 2 ^ 32

-- of a closed round these slots go; where none was closed, none do
abbrev pub IsBatch : Option Round → ℕ → Type 0
IsBatch None evicted = evicted ≡ 0
IsBatch (Some r) evicted = IsEvicted r evicted

-- an open round waits for the rate of some slot
abbrev pub IsWaiting : Option Round → Type 0
IsWaiting None = Unit {0}
IsWaiting (Some r) = IsOpen r
