-- A lender: its slots with their contents, its links, the host's average, the next lease and the round under way.
use Rattle.std.specs.Prelude.{ℕ, ◌+◌, ◌-◌, Bool, true, false, ◌&&◌, not, ◌==◌, nat_lt, if◌then◌else◌, List, [], ◌∷◌, length, count_by, slice_index_or, slice_set, replicate, Option, None}
use Rattle.std.specs.List.{list_any, position_or_len}
use Rattle.swap_base.specs.declared.Link.{Link}
use Rattle.swap_base.specs.declared.Slab.{Slab}
use Rattle.swap_base.specs.declared.Lease.{Lease}
use Rattle.swap_activity.specs.Rates.{ceiling}
use Rattle.swap_evict.specs.Rounds.{Round}
use Rattle.swap_lender.specs.declared.Lending.{Lending}
use Rattle.swap_lender.specs.declared.SlotState.{SlotState}
use Rattle.swap_lender.specs.declared.SlotState.TheVariants.{Free, Held}
use Rattle.swap_lender.specs.declared.Peer.{Peer}
use Rattle.swap_lender.specs.declared.TheConstants.{LEASES}

-- the slots by their numbers, each slot's pages by their places, the links that stand in the order in which they came,
-- the host's average usage in units of 1 / 65,536, the next lease, and the round that is open
pub record Lender : Type 0 where
  pub lending : Lending
  pub slots : List SlotState
  pub contents : List (List (List ℕ))
  pub peers : List Peer
  pub usage : ℕ
  pub next_lease : ℕ
  pub round : Option Round

-- a slot's pages when it is lent
abbrev pub blank_slab : Lending → List (List ℕ)
blank_slab s = replicate s.pages_per_slab (replicate s.page_bytes 0)

abbrev pub lender_at_start : Lending → Lender
lender_at_start s =
    record {
      lending = s;
      slots = replicate s.spec.slots Free;
      contents = replicate s.spec.slots (blank_slab s);
      peers = [];
      usage = 0;
      next_lease = 0;
      round = None;
    }

-- slots

abbrev pub slot_in : List SlotState → ℕ → SlotState
slot_in slots slot = slice_index_or slots slot Free

abbrev pub is_free : SlotState → Bool
is_free Free = true
is_free (Held link slab lease evicting) = false

abbrev pub is_held : SlotState → Bool
is_held state = not (is_free state)

abbrev pub is_evicting : SlotState → Bool
is_evicting Free = false
is_evicting (Held link slab lease evicting) = evicting

-- held and not being evicted
abbrev pub is_staying : SlotState → Bool
is_staying Free = false
is_staying (Held link slab lease evicting) = not evicting

-- held for a link
abbrev pub is_of : Link → SlotState → Bool
is_of link Free = false
is_of link (Held other slab lease evicting) = other.0 == link.0

-- held for a link and a slab
abbrev pub is_for : Link → Slab → SlotState → Bool
is_for link slab Free = false
is_for link slab (Held other held lease evicting) = (other.0 == link.0) && (held.0 == slab.0)

-- held for a link by a lease
abbrev pub has_lease : Link → Lease → SlotState → Bool
has_lease link lease Free = false
has_lease link lease (Held other slab held evicting) = (other.0 == link.0) && (held.0 == lease.0)

-- the number of the first slot of which a test holds, or how many slots there are
abbrev pub first_where : (SlotState → Bool) → List SlotState → ℕ
first_where test states = position_or_len test states

-- the numbers of the slots of which a test holds, ascending; the first slot is numbered `from`
abbrev pub numbers_where : (SlotState → Bool) → ℕ → List SlotState → List ℕ
numbers_where test from [] = []
numbers_where test from (state ∷ states) =
    if test state then from ∷ numbers_where test (from + 1) states else numbers_where test (from + 1) states

-- the slot that a link has by a lease, if it has one
abbrev pub slot_of : Lender → Link → Lease → ℕ
slot_of l link lease = first_where (has_lease link lease) l.slots

abbrev pub holds : Lender → Link → Lease → Bool
holds l link lease = nat_lt (slot_of l link lease) (length l.slots)

-- contents: the page at a place of a slot, and the contents with another page there

abbrev pub page_in : List (List (List ℕ)) → ℕ → ℕ → List ℕ
page_in contents slot place = slice_index_or (slice_index_or contents slot []) place []

abbrev pub with_page : List (List (List ℕ)) → ℕ → ℕ → List ℕ → List (List (List ℕ))
with_page contents slot place page = slice_set contents slot (slice_set (slice_index_or contents slot []) place page)

-- links

abbrev pub is_peer : Link → Peer → Bool
is_peer link peer = peer.link.0 == link.0

abbrev pub stands : Lender → Link → Bool
stands l link = list_any (is_peer link) l.peers

abbrev pub is_greeted : Link → Peer → Bool
is_greeted link peer = (peer.link.0 == link.0) && peer.greeted

abbrev pub has_greeted : Lender → Link → Bool
has_greeted l link = list_any (is_greeted link) l.peers

-- the host's use in slots, and how many slots are held, those being evicted too
abbrev pub used_slots : Lender → ℕ
used_slots l = ceiling l.usage

abbrev pub held_slots : Lender → ℕ
held_slots l = count_by is_held l.slots

-- whether a slot may be lent, and how many are free to be
abbrev pub lends : Lender → Bool
lends l =
    nat_lt (used_slots l + held_slots l + l.lending.spec.headroom) l.lending.spec.slots && nat_lt l.next_lease LEASES

abbrev pub slots_free : Lender → ℕ
slots_free l = if nat_lt l.next_lease LEASES then l.lending.spec.slots - (used_slots l + held_slots l
    + l.lending.spec.headroom) else 0
