-- Who waits for what: a caller for nothing, a request for the front of its ring, a page for its lender.
use Rattle.std.proofs.Common.{◌≡◌, ℕ, ◌<◌, Bool, true, false, cond, ◌&&◌, nat_lt, List, [], ◌∷◌, length, refl, ap, subst, None, Some}
use Rattle.std.proofs.lemmas.Bool.{ltb-true}
use Rattle.swap_base.specs.declared.Page.{Page}
use Rattle.swap_base.specs.declared.Caller.{Caller}
use Rattle.swap_base.specs.declared.Lender.{Lender}
use Rattle.swap_base.specs.declared.Lease.{Lease}
use Rattle.swap_base.specs.declared.Via.TheVariants as via
use Rattle.swap_base.specs.Sizes.{Sizes}
use Rattle.swap_calls.specs.Calls.{Calls, state_of, may_read}
use Rattle.swap_calls.specs.declared.Arrived.TheVariants as arrived
use Rattle.swap_calls.specs.declared.CallState.{CallState}
use Rattle.swap_calls.specs.declared.CallState.TheVariants.{Idle, Room, Reading}
use Rattle.swap_slabs.specs.declared.SlabState.{SlabState}
use Rattle.swap_slabs.specs.declared.SlabState.TheVariants.{Local, Asking, Borrowing, Mapped, Draining}
use Rattle.swap_rings.specs.Rings as rings
use Rattle.swap_rings.specs.Rings.{LinkState, link_of, ring_of, is_up, may_send}
use Rattle.swap_rings.specs.declared.Request.{Request}
use Rattle.swap_remote.specs.Remote.{Remote, mapping, open_at, state_for, target}
use Rattle.swap_table.specs.Fits.{WaitsFor}
use Rattle.swap_table.specs.Serves.{WaitsFrom}
use Rattle.swap_table.proofs.HistoryAgreement.{IdleFor}

-- a caller that waits for nothing
abbrev pub WaitsForNone : Calls → Caller → Type 0
WaitsForNone cs c = IdleFor cs c × ((m : Lender) (q : Page) → WaitsFrom m q (state_of cs c) → ⊥)

pub may_read_waits : (state : CallState) → may_read state ≡ true → ((r : Page) → WaitsFor r state → ⊥) × ((m : Lender) (q : Page) → WaitsFrom m q state → ⊥)
may_read_waits Idle e = ((λ r w. w), (λ m q w. w))
may_read_waits (Room p since) e = ((λ r w. w), (λ m q w. w))
may_read_waits (Reading p n v arrived.Waiting newer since) e = cc
may_read_waits (Reading p n via.Disk arrived.Came newer since) e = ((λ r w. w), (λ m q w. w))
may_read_waits (Reading p n via.Disk arrived.Failed newer since) e = ((λ r w. w), (λ m q w. w))
may_read_waits (Reading p n via.Disk arrived.Lost newer since) e = ((λ r w. w), (λ m q w. w))
may_read_waits (Reading p n (via.Lender l) arrived.Came newer since) e = ((λ r w. w), (λ m q w. w))
may_read_waits (Reading p n (via.Lender l) arrived.Failed newer since) e = ((λ r w. w), (λ m q w. w))
may_read_waits (Reading p n (via.Lender l) arrived.Lost newer since) e = ((λ r w. w), (λ m q w. w))

pub room_waits : (p : Page) (since : ℕ) → ((r : Page) → WaitsFor r (Room p since) → ⊥) × ((m : Lender) (q : Page) → WaitsFrom m q (Room p since) → ⊥)
room_waits p since = ((λ r w. w), (λ m q w. w))

pub waits_none :
    (cs : Calls) (c : Caller) (state : CallState) → state_of cs c ≡ state
    → ((r : Page) → WaitsFor r state → ⊥) × ((m : Lender) (q : Page) → WaitsFrom m q state → ⊥) → WaitsForNone cs c
waits_none cs c state is h =
    ((λ r w. h.0 r (subst (λ s. WaitsFor r s) is w)), (λ m q w. h.1 m q (let P : CallState → Type 0 = λ s. WaitsFrom m q s in subst P is w)))

-- where a request for a page goes
pub record Target (s : Sizes) (r : Remote) (p : Page) (at : Lender × Lease) : Type 0 where
  pub flying : ℕ
  pub mapped : state_for s r.slabs p ≡ Mapped at.0 at.1 flying
  pub up : is_up r.links at.0 ≡ true
  pub room : length (ring_of r.links at.0) < s.window

pub may_send_is : (window : ℕ) (link : LinkState) → may_send window link ≡ true → (link.up ≡ true) × (length link.ring < window)
may_send_is window link e = go link.up refl e
  where
    go : (b : Bool) → link.up ≡ b → (b && nat_lt (length link.ring) window) ≡ true → (link.up ≡ true) × (length link.ring < window)
    go true is e = (is, ltb-true (length link.ring) window e)
    go false is e = cc

pub target_is : (s : Sizes) (r : Remote) (p : Page) (at : Lender × Lease) → target s r p ≡ Some at → Target s r p at
target_is s r p at e = go (state_for s r.slabs p) refl e
  where
    go : (state : SlabState) → state_for s r.slabs p ≡ state → open_at s r.links (mapping state) ≡ Some at → Target s r p at
    go Local is e = cc
    go (Asking pair) is e = cc
    go (Borrowing l) is e = cc
    go (Draining l k f) is e = cc
    go (Mapped l k f) is e = test (may_send s.window (link_of r.links l)) refl e
      where
        test : (b : Bool) → may_send s.window (link_of r.links l) ≡ b → cond b (Some (l, k)) None ≡ Some at → Target s r p at
        test false m e = cc
        test true m e =
            let may = may_send_is s.window (link_of r.links l) m in
            let here : Target s r p (l, k) = record { flying = f; mapped = is; up = may.0; room = may.1 } in
            let same : (l, k) ≡ at = cc in subst (λ a. Target s r p a) same here

-- the oldest request of a ring
pub record Front (ring : List Request) (x : Request) : Type 0 where
  pub rest : List Request
  pub is : ring ≡ x ∷ rest

pub front_of : (ring : List Request) (x : Request) → rings.oldest ring ≡ Some x → Front ring x
front_of [] x e = cc
front_of (y ∷ ring) x e = let same : y ≡ x = cc in record { rest = ring; is = ap (λ z. z ∷ ring) same }
