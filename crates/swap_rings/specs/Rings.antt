-- The links of a device: whether each lender's link is up, and the ring of requests under way on it, the oldest first.
use Rattle.std.specs.Prelude.{ℕ, ◌≤◌, Bool, true, false, ◌&&◌, nat_lt, List, [], ◌∷◌, ◌++◌, length, slice_index_or, slice_set, replicate, Option, None, Some}
use Rattle.std.specs.List.{All}
use Rattle.swap_base.specs.declared.Lender.{Lender}
use Rattle.swap_rings.specs.declared.Request.{Request}

-- one link
pub record LinkState : Type 0 where
  pub up : Bool
  pub ring : List Request

-- a link for each lender, and how many requests may be under way on one
pub record Rings : Type 0 where
  pub window : ℕ
  pub links : List LinkState

abbrev pub down : LinkState
down = record { up = false; ring = [] }

abbrev pub link_at_start : LinkState
link_at_start = record { up = true; ring = [] }

-- every link is down
abbrev pub all_down : ℕ → List LinkState
all_down lenders = replicate lenders down

abbrev pub link_of : List LinkState → Lender → LinkState
link_of links lender = slice_index_or links lender.0 down

abbrev pub is_up : List LinkState → Lender → Bool
is_up links lender = (link_of links lender).up

abbrev pub ring_of : List LinkState → Lender → List Request
ring_of links lender = (link_of links lender).ring

-- a request may be sent: the link is up, and its ring is shorter than the window
abbrev pub may_send : ℕ → LinkState → Bool
may_send window link = link.up && nat_lt (length link.ring) window

-- the request that was sent first
abbrev pub oldest : List Request → Option Request
oldest [] = None
oldest (request ∷ ring) = Some request

abbrev pub without_oldest : List Request → List Request
without_oldest [] = []
without_oldest (request ∷ ring) = ring

abbrev pub with_link : List LinkState → Lender → LinkState → List LinkState
with_link links lender link = slice_set links lender.0 link

-- a request is sent, and the oldest is answered
abbrev pub sent_on : LinkState → Request → LinkState
sent_on link request = record link { ring = link.ring ++ request ∷ [] }

abbrev pub answered_on : LinkState → LinkState
answered_on link = record link { ring = without_oldest link.ring }

abbrev pub sent_after : List LinkState → Lender → Request → List LinkState
sent_after links lender request = with_link links lender (sent_on (link_of links lender) request)

abbrev pub answered_after : List LinkState → Lender → List LinkState
answered_after links lender = with_link links lender (answered_on (link_of links lender))

-- a link is up, with nothing under way, or down
abbrev pub raised_after : List LinkState → Lender → List LinkState
raised_after links lender = with_link links lender link_at_start

abbrev pub lost_after : List LinkState → Lender → List LinkState
lost_after links lender = with_link links lender down

-- a ring is no longer than the window
abbrev pub AreWithin : ℕ → List LinkState → Type 0
AreWithin window links = All (λ link. length link.ring ≤ window) links
