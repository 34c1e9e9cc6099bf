-- The states of the slabs. A slab is local, or it asks lenders, borrows from one, is mapped to one, or drains:
-- it is given back as soon as no request flies for it.
use Rattle.std.specs.Prelude.{ℕ, ◌+◌, ◌-◌, Bool, true, false, ◌&&◌, ◌||◌, ◌==◌, nat_lt, if◌then◌else◌, List, map, count_by, position, option_map, slice_index_or, slice_set, replicate, Option, None, Some}
use Rattle.std.specs.List.{list_any}
use Rattle.swap_base.specs.declared.Slab.{Slab}
use Rattle.swap_base.specs.declared.Lender.{Lender}
use Rattle.swap_base.specs.declared.Lease.{Lease}
use Rattle.swap_slabs.specs.declared.Reply.{Reply}
use Rattle.swap_slabs.specs.declared.Reply.TheVariants.{Waiting, Free, Gone}
use Rattle.swap_slabs.specs.declared.Pair.{Pair}
use Rattle.swap_slabs.specs.declared.Chosen.{Chosen}
use Rattle.swap_slabs.specs.declared.Chosen.TheVariants as chosen
use Rattle.swap_slabs.specs.declared.SlabState.{SlabState}
use Rattle.swap_slabs.specs.declared.SlabState.TheVariants.{Local, Asking, Borrowing, Mapped, Draining}

-- every slab is local
abbrev pub all_local : ℕ → List SlabState
all_local slabs = replicate slabs Local

abbrev pub state_of : List SlabState → Slab → SlabState
state_of states slab = slice_index_or states slab.0 Local

abbrev pub with_state : List SlabState → Slab → SlabState → List SlabState
with_state states slab state = slice_set states slab.0 state

abbrev pub is_local : SlabState → Bool
is_local Local = true
is_local (Asking pair) = false
is_local (Borrowing lender) = false
is_local (Mapped lender lease flying) = false
is_local (Draining lender lease flying) = false

abbrev pub is_borrowing : SlabState → Bool
is_borrowing Local = false
is_borrowing (Asking pair) = false
is_borrowing (Borrowing lender) = true
is_borrowing (Mapped lender lease flying) = false
is_borrowing (Draining lender lease flying) = false

abbrev pub is_mapped : SlabState → Bool
is_mapped Local = false
is_mapped (Asking pair) = false
is_mapped (Borrowing lender) = false
is_mapped (Mapped lender lease flying) = true
is_mapped (Draining lender lease flying) = false

-- the lender whom a slab is borrowed from, mapped to, or drains at
abbrev pub lender_of : SlabState → Option Lender
lender_of Local = None
lender_of (Asking pair) = None
lender_of (Borrowing lender) = Some lender
lender_of (Mapped lender lease flying) = Some lender
lender_of (Draining lender lease flying) = Some lender

-- the lender and the lease of a slab that is mapped or drains
abbrev pub leased_of : SlabState → Option (Lender × Lease)
leased_of Local = None
leased_of (Asking pair) = None
leased_of (Borrowing lender) = None
leased_of (Mapped lender lease flying) = Some (lender, lease)
leased_of (Draining lender lease flying) = Some (lender, lease)

abbrev pub is_lender : Lender → Option Lender → Bool
is_lender lender None = false
is_lender lender (Some other) = other.0 == lender.0

abbrev pub is_leased_at : Lender → Option (Lender × Lease) → Bool
is_leased_at lender None = false
is_leased_at lender (Some l) = l.0.0 == lender.0

abbrev pub is_lease : Lender → Lease → Option (Lender × Lease) → Bool
is_lease lender lease None = false
is_lease lender lease (Some l) = (l.0.0 == lender.0) && (l.1.0 == lease.0)

-- the slab is borrowed from the lender, mapped to it or drains at it
abbrev pub is_at : Lender → SlabState → Bool
is_at lender state = is_lender lender (lender_of state)

-- the slab is mapped or drains, at the lender
abbrev pub has_lease_at : Lender → SlabState → Bool
has_lease_at lender state = is_leased_at lender (leased_of state)

-- and with this lease
abbrev pub has_lease : Lender → Lease → SlabState → Bool
has_lease lender lease state = is_lease lender lease (leased_of state)

-- how many requests fly for a slab
abbrev pub flying_of : SlabState → ℕ
flying_of Local = 0
flying_of (Asking pair) = 0
flying_of (Borrowing lender) = 0
flying_of (Mapped lender lease flying) = flying
flying_of (Draining lender lease flying) = flying

-- asking: a reply of each lender that was asked is waited for, and where one was asked alone none of a second
abbrev pub asked_of : Option Lender → Reply
asked_of None = Gone
asked_of (Some lender) = Waiting

abbrev pub pair_of : Lender → Option Lender → Pair
pair_of first second = record { first = first; second = second; one = Waiting; two = asked_of second }

abbrev pub asked_after : List SlabState → Slab → Lender → Option Lender → List SlabState
asked_after states slab first second = with_state states slab (Asking (pair_of first second))

abbrev pub is_waiting : Reply → Bool
is_waiting Waiting = true
is_waiting (Free n) = false
is_waiting Gone = false

abbrev pub waits : Pair → Bool
waits pair = is_waiting pair.one || is_waiting pair.two

-- a reply of this lender is waited for
abbrev pub waits_for : Pair → Lender → Bool
waits_for pair lender =
    ((pair.first.0 == lender.0) && is_waiting pair.one) || (is_lender lender pair.second && is_waiting pair.two)

abbrev pub asks : Lender → SlabState → Bool
asks lender Local = false
asks lender (Asking pair) = waits_for pair lender
asks lender (Borrowing other) = false
asks lender (Mapped other lease flying) = false
asks lender (Draining other lease flying) = false

-- the pair with this lender's reply
abbrev pub with_reply : Pair → Lender → Reply → Pair
with_reply pair lender reply =
    if pair.first.0 == lender.0 then record pair { one = reply } else record pair { two = reply }

-- how many slots a lender told to be free
abbrev pub free_in : Reply → ℕ
free_in Waiting = 0
free_in (Free n) = n
free_in Gone = 0

abbrev pub second_chosen : Option Lender → Chosen
second_chosen None = chosen.Nobody
second_chosen (Some lender) = chosen.Lender lender

-- of the lenders with a free slot the one with more, the first on a tie
abbrev pub choice : Pair → Chosen
choice pair =
    if nat_lt (free_in pair.one) (free_in pair.two) then second_chosen pair.second
    else if nat_lt 0 (free_in pair.one) then chosen.Lender pair.first else chosen.Nobody

-- a slab that still waits goes on asking, and one that doesn't is local with its choice
abbrev pub answered_state : Pair → SlabState
answered_state pair = if waits pair then Asking pair else Local

abbrev pub answered_choice : Pair → Option Chosen
answered_choice pair = if waits pair then None else Some (choice pair)

abbrev pub after_answer : SlabState → Lender → Reply → SlabState
after_answer Local lender reply = Local
after_answer (Asking pair) lender reply = answered_state (with_reply pair lender reply)
after_answer (Borrowing other) lender reply = Borrowing other
after_answer (Mapped other lease flying) lender reply = Mapped other lease flying
after_answer (Draining other lease flying) lender reply = Draining other lease flying

abbrev pub answer_choice : SlabState → Lender → Reply → Option Chosen
answer_choice Local lender reply = None
answer_choice (Asking pair) lender reply = answered_choice (with_reply pair lender reply)
answer_choice (Borrowing other) lender reply = None
answer_choice (Mapped other lease flying) lender reply = None
answer_choice (Draining other lease flying) lender reply = None

abbrev pub answered_after : List SlabState → Slab → Lender → Reply → List SlabState
answered_after states slab lender reply = with_state states slab (after_answer (state_of states slab) lender reply)

abbrev pub borrowed_after : List SlabState → Slab → Lender → List SlabState
borrowed_after states slab lender = with_state states slab (Borrowing lender)

-- a slab that borrows is mapped with nothing flying
abbrev pub after_lent : SlabState → Lease → SlabState
after_lent Local lease = Local
after_lent (Asking pair) lease = Asking pair
after_lent (Borrowing lender) lease = Mapped lender lease 0
after_lent (Mapped lender other flying) lease = Mapped lender other flying
after_lent (Draining lender other flying) lease = Draining lender other flying

abbrev pub lent_after : List SlabState → Slab → Lease → List SlabState
lent_after states slab lease = with_state states slab (after_lent (state_of states slab) lease)

abbrev pub refused_after : List SlabState → Slab → List SlabState
refused_after states slab = with_state states slab Local

-- one request more flies for a mapped slab
abbrev pub after_begin : SlabState → SlabState
after_begin Local = Local
after_begin (Asking pair) = Asking pair
after_begin (Borrowing lender) = Borrowing lender
after_begin (Mapped lender lease flying) = Mapped lender lease (flying + 1)
after_begin (Draining lender lease flying) = Draining lender lease flying

abbrev pub begun_after : List SlabState → Slab → List SlabState
begun_after states slab = with_state states slab (after_begin (state_of states slab))

-- a slab that drains is local, and its lease is given, once nothing flies
abbrev pub drain_to : Lender → Lease → ℕ → SlabState
drain_to lender lease flying = if flying == 0 then Local else Draining lender lease flying

abbrev pub given_at : Lease → ℕ → Option Lease
given_at lease flying = if flying == 0 then Some lease else None

-- one request fewer flies
abbrev pub after_settled : SlabState → SlabState
after_settled Local = Local
after_settled (Asking pair) = Asking pair
after_settled (Borrowing lender) = Borrowing lender
after_settled (Mapped lender lease flying) = Mapped lender lease (flying - 1)
after_settled (Draining lender lease flying) = drain_to lender lease (flying - 1)

abbrev pub settled_lease : SlabState → Option Lease
settled_lease Local = None
settled_lease (Asking pair) = None
settled_lease (Borrowing lender) = None
settled_lease (Mapped lender lease flying) = None
settled_lease (Draining lender lease flying) = given_at lease (flying - 1)

abbrev pub settled_after : List SlabState → Slab → List SlabState
settled_after states slab = with_state states slab (after_settled (state_of states slab))

-- a mapped slab is taken back: it drains
abbrev pub after_evict : SlabState → SlabState
after_evict Local = Local
after_evict (Asking pair) = Asking pair
after_evict (Borrowing lender) = Borrowing lender
after_evict (Mapped lender lease flying) = drain_to lender lease flying
after_evict (Draining lender lease flying) = Draining lender lease flying

abbrev pub evicted_lease : SlabState → Option Lease
evicted_lease Local = None
evicted_lease (Asking pair) = None
evicted_lease (Borrowing lender) = None
evicted_lease (Mapped lender lease flying) = given_at lease flying
evicted_lease (Draining lender lease flying) = None

abbrev pub evicted_after : List SlabState → Slab → List SlabState
evicted_after states slab = with_state states slab (after_evict (state_of states slab))

-- a lender is lost: its slabs are local
abbrev pub after_lost : Lender → SlabState → SlabState
after_lost lender state = if is_at lender state then Local else state

abbrev pub lost_after : List SlabState → Lender → List SlabState
lost_after states lender = map (λ state. after_lost lender state) states

-- the lender holds a slab
abbrev pub holds : List SlabState → Lender → Bool
holds states lender = list_any (λ state. is_at lender state) states

-- the slab that has this lease of the lender
abbrev pub by_lease : List SlabState → Lender → Lease → Option Slab
by_lease states lender lease =
    option_map (λ (n : ℕ). record { 0 = n }) (position (λ state. has_lease lender lease state) states)

-- how many slabs are mapped
abbrev pub mapped_count : List SlabState → ℕ
mapped_count states = count_by is_mapped states
