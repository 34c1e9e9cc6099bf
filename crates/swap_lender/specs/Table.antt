-- The lender's table: which message a link may send, what it does, and what is sent in answer.
use Rattle.std.specs.Prelude.{ℕ, ◌+◌, ◌-◌, min, Bool, true, false, ◌&&◌, not, ◌==◌, nat_lt, if◌then◌else◌, List, [], ◌∷◌, ◌++◌, length, map, filter, fold, take, slice_set, is_none, option_map, Option, None, Some}
use Rattle.std.specs.List.{list_any}
use Rattle.swap_base.specs.declared.Link.{Link}
use Rattle.swap_base.specs.declared.Slab.{Slab}
use Rattle.swap_base.specs.declared.Lease.{Lease}
use Rattle.swap_wire.specs.declared.Msg.{Msg}
use Rattle.swap_wire.specs.declared.Msg.TheVariants as msg
use Rattle.swap_wire.specs.declared.fabric.Hosted.{Hosted}
use Rattle.swap_wire.specs.Fabric.{Parcel, parcel_of}
use Rattle.swap_activity.specs.Rates.{average}
use Rattle.swap_choice.specs.Slots.{has, slots, size, set_of}
use Rattle.swap_choice.specs.Picks.{picks}
use Rattle.swap_evict.specs.Rounds.{Round, round_at_start, answer, leave, waits_for, slots_to_evict}
use Rattle.swap_lender.specs.declared.Served.{Served}
use Rattle.swap_lender.specs.declared.Served.TheVariants as served
use Rattle.swap_lender.specs.declared.SlotState.{SlotState}
use Rattle.swap_lender.specs.declared.SlotState.TheVariants.{Free, Held}
use Rattle.swap_lender.specs.declared.Peer.{Peer}
use Rattle.swap_lender.specs.declared.Notice.{Notice}
use Rattle.swap_lender.specs.declared.Notice.TheVariants as notice
use Rattle.swap_lender.specs.Lender.{Lender, lender_at_start, slot_in, is_free, is_staying, is_evicting, is_of, is_for, first_where, numbers_where, holds, slot_of, page_in, with_page, blank_slab, is_peer, has_greeted, used_slots, lends, slots_free}
use Rattle.swap_wire.specs.declared.TheConstants.{WIRE_VERSION}

-- what a call makes of a lender: the lender after it, the messages in their order with the links they go to, the set of
-- slots told to go, and the round that it closed
pub record Turn : Type 0 where
  pub lender : Lender
  pub parcels : List (Link × Parcel)
  pub evicted : ℕ
  pub closed : Option Round

abbrev pub quiet_turn : Lender → Turn
quiet_turn l = record { lender = l; parcels = []; evicted = 0; closed = None }

abbrev pub replying : Lender → Link → Msg → List ℕ → Turn
replying l link m page = record { lender = l; parcels = (link, parcel_of m page) ∷ []; evicted = 0; closed = None }

-- the slots of a set

-- one message about each held slot of the set, ascending, on its link; the first slot is numbered `from`
abbrev pub message_of : Notice → Lease → Msg
message_of notice.AskRates lease = msg.AskRates lease
message_of notice.Evict lease = msg.Evict lease

abbrev pub tell_slot : Notice → Bool → SlotState → List (Link × Parcel)
tell_slot kind false state = []
tell_slot kind true Free = []
tell_slot kind true (Held link slab lease evicting) = (link, parcel_of (message_of kind lease) []) ∷ []

abbrev pub parcels_told : Notice → ℕ → ℕ → List SlotState → List (Link × Parcel)
parcels_told kind set from [] = []
parcels_told kind set from (state ∷ states) =
    tell_slot kind (has set from) state ++ parcels_told kind set (from + 1) states

-- each held slot of the set is marked as being evicted
abbrev pub mark_slot : Bool → SlotState → SlotState
mark_slot false state = state
mark_slot true Free = Free
mark_slot true (Held link slab lease evicting) = Held link slab lease true

abbrev pub mark_slots : ℕ → ℕ → List SlotState → List SlotState
mark_slots set from [] = []
mark_slots set from (state ∷ states) = mark_slot (has set from) state ∷ mark_slots set (from + 1) states

-- the slots to evict, once the open round is ready
abbrev pub slots_due : Option Round → Option ℕ
slots_due None = None
slots_due (Some r) = slots_to_evict r

-- the round is closed as soon as it is ready: each slot that it gives is marked and told to go
abbrev pub settle_with : Lender → Option ℕ → Turn
settle_with l None = quiet_turn l
settle_with l (Some set) =
    record {
      lender = record l { slots = mark_slots set 0 l.slots; round = None };
      parcels = parcels_told notice.Evict set 0 l.slots;
      evicted = set;
      closed = l.round;
    }

abbrev pub settle : Lender → Turn
settle l = settle_with l (slots_due l.round)

-- Hello: from a link that hasn't greeted, of the version of the messages and with the lender's sizes; it has greeted
abbrev pub may_hello : Lender → Link → ℕ → ℕ → ℕ → Bool
may_hello l link version page_bytes pages_per_slab =
    not (has_greeted l link) && (version == WIRE_VERSION) && (page_bytes == l.lending.page_bytes)
    && (pages_per_slab == l.lending.pages_per_slab)

abbrev pub greet_peer : Link → Peer → Peer
greet_peer link peer = if is_peer link peer then record { link = peer.link; greeted = true } else peer

abbrev pub hello : Lender → Link → Turn
hello l link = quiet_turn (record l { peers = map (greet_peer link) l.peers })

-- Query: from a link that has greeted; it is told how many slots are free
abbrev pub query : Lender → Link → Slab → Turn
query l link slab = replying l link (msg.Room slab (slots_free l)) []

-- Borrow: from a link that has greeted and holds no slot for the slab; where the lender lends, the lowest free slot is
-- held by the next lease, all zeros
abbrev pub may_borrow : Lender → Link → Slab → Bool
may_borrow l link slab = has_greeted l link && not (list_any (is_for link slab) l.slots)

abbrev pub lend : Lender → Link → Slab → ℕ → Turn
lend l link slab slot =
    replying
    (record l {
      slots = slice_set l.slots slot (Held link slab (record { 0 = l.next_lease }) false);
      contents = slice_set l.contents slot (blank_slab l.lending);
      next_lease = l.next_lease + 1;
    })
    link
    (msg.Lent slab (record { 0 = l.next_lease })) []

abbrev pub borrow : Lender → Link → Slab → Turn
borrow l link slab =
    if lends l then lend l link slab (first_where is_free l.slots) else replying l link (msg.Refused slab) []

-- Write and Read: from a link that holds a slot by the lease, at a place of the slab
abbrev pub may_reach : Lender → Link → Lease → ℕ → Bool
may_reach l link lease place = holds l link lease && nat_lt place l.lending.pages_per_slab

abbrev pub write : Lender → Link → Lease → ℕ → List ℕ → Turn
write l link lease place page =
    replying (record l { contents = with_page l.contents (slot_of l link lease) place page }) link
    (msg.Wrote lease place) []

abbrev pub read : Lender → Link → Lease → ℕ → Turn
read l link lease place = replying l link (msg.PageIs lease place) (page_in l.contents (slot_of l link lease) place)

-- Rates: from a link that holds a slot by the lease for which the open round waits; the round notes the value
abbrev pub is_awaited : Option Round → ℕ → Bool
is_awaited None slot = false
is_awaited (Some r) slot = waits_for r slot

abbrev pub may_rates : Lender → Link → Lease → Bool
may_rates l link lease = holds l link lease && is_awaited l.round (slot_of l link lease)

abbrev pub rates : Lender → Link → Lease → ℕ → Turn
rates l link lease value = settle (record l { round = option_map (answer (slot_of l link lease) value) l.round })

-- Done: from a link that holds a slot by the lease that is being evicted; the slot is free
abbrev pub may_done : Lender → Link → Lease → Bool
may_done l link lease = holds l link lease && is_evicting (slot_in l.slots (slot_of l link lease))

abbrev pub done_after : Lender → Link → Lease → Turn
done_after l link lease = quiet_turn (record l { slots = slice_set l.slots (slot_of l link lease) Free })

-- whether a link may send a message now
abbrev pub may_send : Lender → Link → Msg → Bool
may_send l link (msg.Hello version page_bytes pages_per_slab) = may_hello l link version page_bytes pages_per_slab
may_send l link (msg.Query slab) = has_greeted l link
may_send l link (msg.Borrow slab) = may_borrow l link slab
may_send l link (msg.Write lease place) = may_reach l link lease place
may_send l link (msg.Read lease place) = may_reach l link lease place
may_send l link (msg.Rates lease value) = may_rates l link lease
may_send l link (msg.Done lease) = may_done l link lease
may_send l link _ = false

-- what a message does that a link may send
abbrev pub serve : Lender → Link → Msg → List ℕ → Turn
serve l link (msg.Hello version page_bytes pages_per_slab) page = hello l link
serve l link (msg.Query slab) page = query l link slab
serve l link (msg.Borrow slab) page = borrow l link slab
serve l link (msg.Write lease place) page = write l link lease place page
serve l link (msg.Read lease place) page = read l link lease place
serve l link (msg.Rates lease value) page = rates l link lease value
serve l link (msg.Done lease) page = done_after l link lease
serve l link _ page = quiet_turn l

-- a message that the link may not send changes nothing and ends the link
abbrev pub took_after : Lender → Link → Msg → List ℕ → Turn
took_after l link m page = if may_send l link m then serve l link m page else quiet_turn l

abbrev pub served_by : Bool → Served
served_by may = if may then served.Fine else served.End

-- the host's use is measured; where no round is open and slots are missing, the held slots that the word picks are
-- asked, and some more than have to go

abbrev pub measure_after : Lender → ℕ → Lender
measure_after l usage = record l { usage = average l.usage usage }

abbrev pub staying_slots : Lender → ℕ
staying_slots l = set_of (numbers_where is_staying 0 l.slots)

abbrev pub missing : Lender → ℕ
missing l = (l.lending.spec.headroom + used_slots l + size (staying_slots l)) - l.lending.spec.slots

abbrev pub to_evict : Lender → ℕ
to_evict l = min (missing l) (size (staying_slots l))

abbrev pub to_ask : Lender → ℕ
to_ask l = min (to_evict l + l.lending.spec.extra) (size (staying_slots l))

abbrev pub asked_slots : Lender → ℕ → ℕ
asked_slots l word = set_of (take (to_ask l) (picks word (slots (staying_slots l))))

abbrev pub opens : Lender → Bool
opens l = is_none l.round && nat_lt 0 (to_evict l)

abbrev pub open_round : Lender → ℕ → Turn
open_round l set =
    record {
      lender = record l { round = Some (round_at_start set (to_evict l)) };
      parcels = parcels_told notice.AskRates set 0 l.slots;
      evicted = 0;
      closed = None;
    }

abbrev pub host_after : Lender → ℕ → Turn
host_after l word = if opens l then open_round l (asked_slots l word) else quiet_turn l

abbrev pub host : Lender → ℕ → ℕ → Turn
host l usage word = host_after (measure_after l usage) word

-- the host's use in slots, and the slots that are asked
abbrev pub host_result_after : Lender → ℕ → Hosted
host_result_after l word = record { mean = used_slots l; asked = if opens l then asked_slots l word else 0 }

abbrev pub host_result : Lender → ℕ → ℕ → Hosted
host_result l usage word = host_result_after (measure_after l usage) word

-- a link arrives where there is room for it
abbrev pub has_room : Lender → Bool
has_room l = nat_lt (length l.peers) l.lending.links

abbrev pub arrive : Lender → Link → Lender
arrive l link = if has_room l then record l { peers = l.peers ++ record { link = link; greeted = false } ∷ [] } else l

-- a link is gone: its slots are free, and gone for the round
abbrev pub free_slot : Link → SlotState → SlotState
free_slot link state = if is_of link state then Free else state

abbrev pub round_left : Link → List SlotState → Round → Round
round_left link states r = fold (λ r slot. leave slot r) r (numbers_where (is_of link) 0 states)

abbrev pub without_peer : Link → List Peer → List Peer
without_peer link peers = filter (λ peer. not (is_peer link peer)) peers

abbrev pub gone_after : Lender → Link → Turn
gone_after l link =
    settle
    (record l {
      slots = map (free_slot link) l.slots;
      peers = without_peer link l.peers;
      round = option_map (round_left link l.slots) l.round;
    })

-- a lender that crashed is as it was made
abbrev pub restart : Lender → Lender
restart l = lender_at_start l.lending
