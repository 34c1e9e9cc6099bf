-- What every table of slabs keeps that its moves make of one where each slab is local.
use Rattle.std.specs.Prelude.{◌≡◌, ◌≢◌, ℕ, ◌<◌, ◌≤◌, true, List, length, count_by, Option, None, Some}
use Rattle.swap_base.specs.declared.Slab.{Slab}
use Rattle.swap_base.specs.declared.Lender.{Lender}
use Rattle.swap_base.specs.declared.Lease.{Lease}
use Rattle.swap_slabs.specs.declared.Reply.{Reply}
use Rattle.swap_slabs.specs.declared.SlabState.{SlabState}
use Rattle.swap_slabs.specs.declared.SlabState.TheVariants.{Local, Asking, Borrowing, Mapped, Draining}
use Rattle.swap_base.specs.declared.TheConstants.{MOST_LENDERS, MOST_WINDOW}
use Rattle.swap_slabs.specs.Slabs.{all_local, state_of, with_state, has_lease, is_borrowing, asks, waits, flying_of, asked_after, answered_after, borrowed_after, lent_after, refused_after, begun_after, settled_after, evicted_after, lost_after, by_lease}

-- a second lender is another one, and where there is none no reply of it is waited for
abbrev pub IsSecond : Lender → Option Lender → Type 0
IsSecond first None = Unit {0}
IsSecond first (Some second) = (second.0 ≢ first.0) × (second.0 < MOST_LENDERS)

-- a state by itself: lenders are in range, an asking slab waits for a reply, at most so many requests fly, and at least
-- one for a slab that drains
abbrev pub StateFits : SlabState → Type 0
StateFits Local = Unit {0}
StateFits (Asking pair) = (pair.first.0 < MOST_LENDERS) × IsSecond pair.first pair.second × (waits pair ≡ true)
StateFits (Borrowing lender) = lender.0 < MOST_LENDERS
StateFits (Mapped lender lease flying) = (lender.0 < MOST_LENDERS) × (flying ≤ MOST_WINDOW)
StateFits (Draining lender lease flying) = (lender.0 < MOST_LENDERS) × (1 ≤ flying) × (flying ≤ MOST_WINDOW)

-- and a lease of a lender is held by at most one slab that is mapped or drains
pub record IsSlabs (states : List SlabState) : Type 0 where
  pub fits : (slab : Slab) → StateFits (state_of states slab)
  pub single : (lender : Lender) (lease : Lease) → count_by (λ state. has_lease lender lease state) states ≤ 1

-- no slab that is mapped or drains has this lease of the lender that a slab borrows from
abbrev pub IsNew : List SlabState → SlabState → Lease → Type 0
IsNew states Local lease = Unit {0}
IsNew states (Asking pair) lease = Unit {0}
IsNew states (Borrowing lender) lease = by_lease states lender lease ≡ None
IsNew states (Mapped lender other flying) lease = Unit {0}
IsNew states (Draining lender other flying) lease = Unit {0}

-- a slab has its new state, and every other keeps its own
abbrev pub SetsState : Type 0
SetsState =
    (states : List SlabState) (slab : Slab) (state : SlabState) → slab.0 < length states
    → (state_of (with_state states slab state) slab ≡ state)
    × ((other : Slab) → other.0 ≢ slab.0 → state_of (with_state states slab state) other ≡ state_of states other)
    × (length (with_state states slab state) ≡ length states)

-- what each move keeps
abbrev pub AllLocalKeeps : Type 0
AllLocalKeeps = (slabs : ℕ) → IsSlabs (all_local slabs)

abbrev pub AskKeeps : Type 0
AskKeeps =
    (states : List SlabState) (slab : Slab) (first : Lender) (second : Option Lender) → IsSlabs states
    → slab.0 < length states → first.0 < MOST_LENDERS → IsSecond first second
    → IsSlabs (asked_after states slab first second)

abbrev pub AnswerKeeps : Type 0
AnswerKeeps =
    (states : List SlabState) (slab : Slab) (lender : Lender) (reply : Reply) → IsSlabs states → slab.0 < length states
    → asks lender (state_of states slab) ≡ true → IsSlabs (answered_after states slab lender reply)

abbrev pub BorrowKeeps : Type 0
BorrowKeeps =
    (states : List SlabState) (slab : Slab) (lender : Lender) → IsSlabs states → slab.0 < length states
    → lender.0 < MOST_LENDERS → IsSlabs (borrowed_after states slab lender)

abbrev pub LentKeeps : Type 0
LentKeeps =
    (states : List SlabState) (slab : Slab) (lease : Lease) → IsSlabs states → slab.0 < length states
    → is_borrowing (state_of states slab) ≡ true → IsNew states (state_of states slab) lease
    → IsSlabs (lent_after states slab lease)

abbrev pub RefusedKeeps : Type 0
RefusedKeeps =
    (states : List SlabState) (slab : Slab) → IsSlabs states → slab.0 < length states
    → IsSlabs (refused_after states slab)

abbrev pub BeginKeeps : Type 0
BeginKeeps =
    (states : List SlabState) (slab : Slab) → IsSlabs states → slab.0 < length states
    → flying_of (state_of states slab) < MOST_WINDOW → IsSlabs (begun_after states slab)

abbrev pub SettledKeeps : Type 0
SettledKeeps =
    (states : List SlabState) (slab : Slab) → IsSlabs states → slab.0 < length states
    → IsSlabs (settled_after states slab)

abbrev pub EvictKeeps : Type 0
EvictKeeps =
    (states : List SlabState) (slab : Slab) → IsSlabs states → slab.0 < length states
    → IsSlabs (evicted_after states slab)

abbrev pub LostKeeps : Type 0
LostKeeps = (states : List SlabState) (lender : Lender) → IsSlabs states → IsSlabs (lost_after states lender)
