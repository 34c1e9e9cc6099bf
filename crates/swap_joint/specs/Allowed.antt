-- What is under way to a lender may be sent, one message after another.
use Rattle.std.specs.Prelude.{◌≡◌, ◌⊎◌, ℕ, ◌<◌, ◌^◌, Bool, true, false, ◌==◌, List, [], ◌∷◌, ◌++◌, length, Some}
use Rattle.std.specs.List.{list_any, AllByRecursion}
use Rattle.swap_base.specs.declared.Slab.{Slab}
use Rattle.swap_base.specs.declared.Link.{Link}
use Rattle.swap_base.specs.declared.Lender.{Lender}
use Rattle.swap_base.specs.declared.Lease.{Lease}
use Rattle.swap_base.specs.Sizes.{Sizes}
use Rattle.swap_wire.specs.declared.Msg.{Msg}
use Rattle.swap_wire.specs.declared.Msg.TheVariants as msg
use Rattle.swap_wire.specs.Fabric.{Parcel}
use Rattle.swap_slabs.specs.Slabs.{has_lease, state_of}
use Rattle.swap_slabs.specs.declared.SlabState.{SlabState}
use Rattle.swap_slabs.specs.declared.SlabState.TheVariants.{Draining}
use Rattle.swap_rings.specs.declared.Request.{Request}
use Rattle.swap_rings.specs.declared.Request.TheVariants as request
use Rattle.swap_evict.specs.Rounds.{Round, waits_for}
use Rattle.swap_lender.specs.declared.SlotState.{SlotState}
use Rattle.swap_lender.specs.declared.SlotState.TheVariants.{Held}
use Rattle.swap_lender.specs.Lender as lender
use Rattle.swap_lender.specs.Lender.{slot_in, has_greeted}
use Rattle.swap_rings.specs.Rings.{ring_of, is_up}
use Rattle.swap_table.specs.Device.{Device, hello}
use Rattle.swap_table.specs.Moves.{Owed, Says, Ends}
use Rattle.swap_link.specs.Channel.{Channel}
use Rattle.swap_link.specs.Keeping.{Unless}
use Rattle.swap_link.specs.Fits.{IsAlone}
use Rattle.swap_link.specs.Harbor.{Harbor, channel_of}
use Rattle.swap_joint.specs.Seats.{is_done}
use Rattle.swap_joint.specs.Stored.{gives_back}

-- a message that tells a lease to go, that asks for its rate, that tells it, and that refuses a slab
abbrev pub is_evict : Lease → Msg → Bool
is_evict k (msg.Evict lease) = lease.0 == k.0
is_evict k _ = false

abbrev pub is_ask : Lease → Msg → Bool
is_ask k (msg.AskRates lease) = lease.0 == k.0
is_ask k _ = false

abbrev pub is_rate : Lease → Msg → Bool
is_rate k (msg.Rates lease value) = lease.0 == k.0
is_rate k _ = false

abbrev pub is_refusal : Slab → Msg → Bool
is_refusal t (msg.Refused slab) = slab.0 == t.0
is_refusal t _ = false

abbrev pub is_hello : Msg → Bool
is_hello (msg.Hello version page_bytes pages_per_slab) = true
is_hello _ = false

abbrev pub is_borrow : Slab → Request → Bool
is_borrow t (request.Query slab) = false
is_borrow t (request.Borrow slab) = slab.0 == t.0
is_borrow t (request.Write page entry) = false
is_borrow t (request.Read caller page) = false

-- whether one is in a list
abbrev pub evicts_in : Lease → List Parcel → Bool
evicts_in k ps = list_any (λ q. is_evict k q.msg) ps

abbrev pub asks_in : Lease → List Parcel → Bool
asks_in k ps = list_any (λ q. is_ask k q.msg) ps

abbrev pub rates_in : Lease → List Parcel → Bool
rates_in k ps = list_any (λ q. is_rate k q.msg) ps

abbrev pub refuses_in : Slab → List Parcel → Bool
refuses_in t ps = list_any (λ q. is_refusal t q.msg) ps

abbrev pub borrows_in : Slab → List Request → Bool
borrows_in t ring = list_any (is_borrow t) ring

-- each lease is named by a message of a kind at most once
abbrev pub NamedOnce : (Lease → Msg → Bool) → List Parcel → Type 0
NamedOnce names [] = Unit {0}
NamedOnce names (q ∷ qs) =
    ((k : Lease) → names k q.msg ≡ true → list_any (λ (r : Parcel). names k r.msg) qs ≡ false) × NamedOnce names qs

-- a slot is held by this lease, and was told to go or not
abbrev pub HasSlot : List SlotState → Lease → Bool → Type 0
HasSlot slots k told = (i : ℕ) × (n : Link) × (t : Slab) × (slot_in slots i ≡ Held n t k told)

-- the open round waits for the slot that is held by this lease
pub record Waits (l : lender.Lender) (k : Lease) : Type 0 where
  pub round : Round
  pub open_ : l.round ≡ Some round
  pub at : ℕ
  pub link : Link
  pub slab : Slab
  pub held : slot_in l.slots at ≡ Held link slab k false
  pub waits : waits_for round at ≡ true
  pub low : at < 64
  pub answered : round.answered < 2 ^ 64
  pub gone : round.gone < 2 ^ 64

-- before a Borrow each slot that is held for its slab is given back
abbrev pub BorrowsFree : List SlotState → (Lease → Type 0) → List Parcel → Type 0
BorrowsFree slots G [] = Unit {0}
BorrowsFree slots G (q ∷ qs) =
    ((t : Slab) (i : ℕ) (n : Link) (k : Lease) (e : Bool) → q.msg ≡ msg.Borrow t → slot_in slots i ≡ Held n t k e → G k)
    × BorrowsFree slots (λ k. G k ⊎ (is_done k q.msg ≡ true)) qs

-- a link that has greeted does so no more, and one that hasn't greets first, unless its list was cut to nothing
abbrev pub NoHello : List Parcel → Type 0
NoHello ps = list_any (λ (q : Parcel). is_hello q.msg) ps ≡ false

abbrev pub Greets : Sizes → Bool → Bool → List Parcel → Type 0
Greets s true ended ps = NoHello ps
Greets s false ended [] = ended ≡ true
Greets s false ended (q ∷ qs) = (q ≡ hello s) × NoHello qs

-- what a device may send
abbrev pub IsToLender : Msg → Type 0
IsToLender (msg.Hello version page_bytes pages_per_slab) = Unit {0}
IsToLender (msg.Query slab) = Unit {0}
IsToLender (msg.Borrow slab) = Unit {0}
IsToLender (msg.Write lease place) = Unit {0}
IsToLender (msg.Read lease place) = Unit {0}
IsToLender (msg.Rates lease value) = Unit {0}
IsToLender (msg.Done lease) = Unit {0}
IsToLender _ = ⊥

abbrev pub AreToLender : List Parcel → Type 0
AreToLender ps = AllByRecursion (λ (q : Parcel). IsToLender q.msg) ps

-- A link whose lender's end stands: the lender, what is under way to the device, whether the list to the lender has
-- ended,
-- and `out`: what is under way to the lender, with what the device is about to say. Where a slot was told to go its
-- Evict is under way, its slab drains or its lease is given back, each of them once; where a round waits for a slot, so
-- is its question or its answer; and a slot is held for a slab that has its lease or is being lent, until it is given
-- back.
pub record Allows (s : Sizes) (states : List SlabState) (ring : List Request) (l : Lender) (table : lender.Lender)
    (n : Link) (come : List Parcel) (ended : Bool) (out : List Parcel) : Type 0 where
  pub told : (k : Lease) → evicts_in k come ≡ true → HasSlot table.slots k true
  pub drains :
      (t : Slab) (k : Lease) (flying : ℕ) → state_of states t ≡ Draining l k flying → HasSlot table.slots k true
  pub done : (k : Lease) → gives_back k out ≡ true → HasSlot table.slots k true
  pub done_once : NamedOnce is_done out
  pub evict_once : NamedOnce is_evict come
  pub apart : (k : Lease) → evicts_in k come ≡ true → gives_back k out ≡ false
  pub before :
      (t : Slab) (k : Lease) (flying : ℕ) → evicts_in k come ≡ true → state_of states t ≡ Draining l k flying → ⊥
  pub asks : (k : Lease) → asks_in k come ≡ true → Waits table k
  pub rates : (k : Lease) → rates_in k out ≡ true → Waits table k
  pub ask_once : NamedOnce is_ask come
  pub rate_once : NamedOnce is_rate out
  pub one : (k : Lease) → asks_in k come ≡ true → rates_in k out ≡ false
  pub home :
      (i : ℕ) (m : Link) (t : Slab) (k : Lease) (e : Bool) → slot_in table.slots i ≡ Held m t k e
      → (has_lease l k (state_of states t) ≡ true) ⊎ (borrows_in t ring ≡ true) ⊎ (gives_back k out ≡ true)
      ⊎ (ended ≡ true)
  pub refused :
      (i : ℕ) (m : Link) (t : Slab) (k : Lease) (e : Bool) → refuses_in t come ≡ true
      → slot_in table.slots i ≡ Held m t k e → ⊥
  pub free : BorrowsFree table.slots (λ k. ⊥) out
  pub greets : Greets s (has_greeted table n) ended out
  pub kinds : AreToLender out

-- a link that is up, with what the device is about to say on it
abbrev pub Allowed : Device → Lender → Channel → List Parcel → Type 0
Allowed d l c said =
    Unless c.lender_gone
    (Allows d.sizes d.remote.slabs (ring_of d.remote.links l) l c.lender c.number c.to_device.parcels c.to_lender.ended
    (c.to_lender.parcels ++ said))

abbrev pub AllAllowed : ℕ → Device → Harbor → Type 0
AllAllowed n d h = (l : Lender) → l.0 < n → is_up d.remote.links l ≡ true → Allowed d l (channel_of h l) []

abbrev pub AllAllowedBut : Lender → ℕ → Device → Harbor → Type 0
AllAllowedBut m n d h =
    (l : Lender) → l.0 < n → (l.0 ≡ m.0 → ⊥) → is_up d.remote.links l ≡ true → Allowed d l (channel_of h l) []

-- with what the device is about to do
abbrev pub AllowedOwing : ℕ → Device → Harbor → List Owed → Type 0
AllowedOwing n d h [] = AllAllowed n d h
AllowedOwing n d h (Says l q ∷ owed) =
    AllAllowedBut l n d h × (l.0 < n → is_up d.remote.links l ≡ true → Allowed d l (channel_of h l) (q ∷ []))
AllowedOwing n d h (Ends l ∷ owed) = AllAllowedBut l n d h

-- the lender's only link is the present one, as long as its end stands; it has room for one, and the sizes of its
-- device
pub record IsKnown (s : Sizes) (c : Channel) : Type 0 where
  pub alone : IsAlone c.number c.lender_gone c.lender.peers
  pub one : c.lender.lending.links ≡ 1
  pub page_bytes : c.lender.lending.page_bytes ≡ s.page_bytes
  pub pages_per_slab : c.lender.lending.pages_per_slab ≡ s.pages_per_slab

abbrev pub AllKnown : Harbor → Type 0
AllKnown h = (l : Lender) → l.0 < length h.channels → IsKnown h.sizes (channel_of h l)
