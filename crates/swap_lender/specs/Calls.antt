-- Lists of calls, and what holds of every lender that they make of a fresh one.
use Rattle.std.specs.Prelude.{◌≡◌, ℕ, ◌+◌, ◌<◌, Bool, true, false, List, [], ◌∷◌, ◌++◌, length, Option, None, Some}
use Rattle.std.specs.List.{range_with_len, list_any}
use Rattle.swap_base.specs.Sizes.{first_beyond}
use Rattle.swap_base.specs.Lending.{lender_limits}
use Rattle.swap_base.specs.declared.Link.{Link}
use Rattle.swap_base.specs.declared.Slab.{Slab}
use Rattle.swap_base.specs.declared.Lease.{Lease}
use Rattle.swap_wire.specs.declared.Msg.{Msg}
use Rattle.swap_wire.specs.declared.Msg.TheVariants as msg
use Rattle.swap_wire.specs.Fabric.{Parcel}
use Rattle.swap_evict.specs.Rounds.{Round, waits_for}
use Rattle.swap_lender.specs.declared.Lending.{Lending}
use Rattle.swap_lender.specs.declared.SlotState.{SlotState}
use Rattle.swap_lender.specs.declared.SlotState.TheVariants.{Free, Held}
use Rattle.swap_lender.specs.Core.{IsLending}
use Rattle.swap_lender.specs.Lender.{Lender, lender_at_start, slot_in, is_free, is_staying, first_where, lends}
use Rattle.swap_lender.specs.Table.{Turn, quiet_turn, took_after, host, arrive, gone_after, restart, may_reach, settle}

-- whom a slot is held for, and by which lease
pub record Tenant : Type 0 where
  pub link : Link
  pub slab : Slab
  pub lease : Lease

abbrev pub tenant : SlotState → Option Tenant
tenant Free = None
tenant (Held link slab lease evicting) = Some (record { link = link; slab = slab; lease = lease })

-- no two held slots have one lease, or one link and slab, and no held slot has a lease that is still to come
pub record IsOwned (slots : List SlotState) (next_lease : ℕ) : Type 0 where
  pub leases :
      (i j : ℕ) (a b : Tenant) → tenant (slot_in slots i) ≡ Some a → tenant (slot_in slots j) ≡ Some b
      → a.lease.0 ≡ b.lease.0 → i ≡ j
  pub slabs :
      (i j : ℕ) (a b : Tenant) → tenant (slot_in slots i) ≡ Some a → tenant (slot_in slots j) ≡ Some b
      → a.link.0 ≡ b.link.0 → a.slab.0 ≡ b.slab.0 → i ≡ j
  pub given : (i : ℕ) (a : Tenant) → tenant (slot_in slots i) ≡ Some a → a.lease.0 < next_lease

-- a round waits only for slots that are held and not being evicted
pub record IsLive (r : Round) (slots : List SlotState) : Type 0 where
  pub waits : (slot : ℕ) → waits_for r slot ≡ true → is_staying (slot_in slots slot) ≡ true

abbrev pub AsksStaying : Option Round → List SlotState → Type 0
AsksStaying None slots = Unit {0}
AsksStaying (Some r) slots = IsLive r slots

-- what is called of a lender
pub data Call : Type 0 where
  Arrive : (link : Link) → Call
  Took : (link : Link) (msg : Msg) (page : List ℕ) → Call
  Host : (usage word : ℕ) → Call
  Gone : (link : Link) → Call
  Restart : Call

abbrev pub step : Lender → Call → Turn
step l (Arrive link) = quiet_turn (arrive l link)
step l (Took link m page) = took_after l link m page
step l (Host usage word) = host l usage word
step l (Gone link) = gone_after l link
step l Restart = quiet_turn (restart l)

-- the lender after a list of calls, the first call first
abbrev pub run : Lender → List Call → Lender
run l [] = l
run l (call ∷ calls) = run (step l call).lender calls

-- the leases that are lent in a list of messages, and in a list of calls
abbrev pub lent_by : Msg → List ℕ
lent_by (msg.Lent slab lease) = lease.0 ∷ []
lent_by _ = []

abbrev pub lent_in : List (Link × Parcel) → List ℕ
lent_in [] = []
lent_in (parcel ∷ parcels) = lent_by parcel.1.msg ++ lent_in parcels

abbrev pub leases_lent : Lender → List Call → List ℕ
leases_lent l [] = []
leases_lent l (call ∷ calls) = lent_in (step l call).parcels ++ leases_lent (step l call).lender calls

abbrev pub is_restart : Call → Bool
is_restart Restart = true
is_restart (Arrive link) = false
is_restart (Took link m page) = false
is_restart (Host usage word) = false
is_restart (Gone link) = false

-- whatever is called of a lender as it was made, its slots are owned
abbrev pub AlwaysOwned : Type 0
AlwaysOwned =
    (s : Lending) (calls : List Call) → IsOwned (run (lender_at_start s) calls).slots
    (run (lender_at_start s) calls).next_lease

-- leases never repeat until a restart: those that are lent are the numbers from the next lease on, each once
abbrev pub LeasesInOrder : Type 0
LeasesInOrder =
    (l : Lender) (calls : List Call) → list_any is_restart calls ≡ false
    → (leases_lent l calls ≡ range_with_len l.next_lease (length (leases_lent l calls)))
    × ((run l calls).next_lease ≡ l.next_lease + length (leases_lent l calls))

-- no call changes what a lender is made for
abbrev pub SizesStay : Type 0
SizesStay = (l : Lender) (call : Call) → (step l call).lender.lending ≡ l.lending

-- a slot that a lender lends is one of its own, and free
abbrev pub LendsFreeSlots : Type 0
LendsFreeSlots =
    (l : Lender) → lends l ≡ true → length l.slots ≡ l.lending.spec.slots
    → (first_where is_free l.slots < length l.slots) × (is_free (slot_in l.slots (first_where is_free l.slots)) ≡ true)

-- the end of a round takes no slot from a link: what it could write and read it still can, until it gives the slot back
abbrev pub ServedUntilDone : Type 0
ServedUntilDone =
    (l : Lender) (link : Link) (lease : Lease) (place : ℕ)
    → may_reach (settle l).lender link lease place ≡ may_reach l link lease place

-- a lender may be made of every spec that was checked
abbrev pub CheckedSpecsFit : Type 0
CheckedSpecsFit = (s : Lending) → first_beyond (lender_limits s.spec) ≡ None → IsLending s

-- whatever is called of a lender as it was made, an open round waits for slots that stay
abbrev pub LiveRounds : Type 0
LiveRounds =
    (s : Lending) (calls : List Call) → AsksStaying (run (lender_at_start s) calls).round
    (run (lender_at_start s) calls).slots
