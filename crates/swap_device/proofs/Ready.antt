-- What the steps of a loss need holds through it.
use Rattle.std.proofs.Common.{◌≡◌, ℕ, zero, suc, true, false, List, [], ◌∷◌, get_or, set, refl, ap, ◌∙◌}
use Rattle.swap_base.specs.declared.Lender.{Lender}
use Rattle.swap_base.specs.declared.Caller.{Caller}
use Rattle.swap_base.specs.declared.Page.{Page}
use Rattle.swap_base.specs.declared.Via.TheVariants as via
use Rattle.swap_calls.specs.Calls as calls
use Rattle.swap_calls.specs.Calls.{Call, Calls, state_of, may_read}
use Rattle.swap_calls.specs.declared.Arrived.TheVariants as arrived
use Rattle.swap_calls.specs.declared.CallState.{CallState}
use Rattle.swap_calls.specs.declared.CallState.TheVariants.{Idle, Room, Reading}
use Rattle.swap_rings.specs.Rings as rings
use Rattle.swap_rings.specs.Rings.{LinkState, down, is_up}
use Rattle.swap_disk.specs.declared.port.DiskPort.{Ghosts as DiskMeaning}
use Rattle.swap_wire.specs.declared.fabric.Fabric.{Ghosts as FabricMeaning}
use Rattle.swap_table.specs.Device.{Core, lost_after, enter_entry}
use Rattle.swap_table.proofs.HistoryAgreement.{get_or-map_idle}
use Rattle.swap_device.specs.State.{Agree, IsReady, LeavesRest}

-- a link that has a new state is up only where it was, or where the new state is
up_set :
    (links : List LinkState) (i j : ℕ) (x : LinkState) → (x.up ≡ true → (get_or links i down).up ≡ true) → (get_or (set links i x) j down).up ≡ true
    → (get_or links j down).up ≡ true
up_set [] i j x was up = up
up_set (y ∷ links) zero zero x was up = was up
up_set (y ∷ links) zero (suc j) x was up = up
up_set (y ∷ links) (suc i) zero x was up = up
up_set (y ∷ links) (suc i) (suc j) x was up = up_set links i j x was up

pub answered_up : (links : List LinkState) (l m : Lender) → is_up (rings.answered_after links l) m ≡ true → is_up links m ≡ true
answered_up links l m up = up_set links l.0 m.0 (rings.answered_on (rings.link_of links l)) (λ u. u) up

pub lost_up : (links : List LinkState) (l m : Lender) → is_up (rings.lost_after links l) m ≡ true → is_up links m ≡ true
lost_up links l m up = up_set links l.0 m.0 down (λ u. never u) up
  where
    never : {P : Type 0} → false ≡ true → P
    never e = let no : ⊥ = cc in absurd no

-- a caller that may read may still where a link was lost
pub lost_reads : (cs : Calls) (l : Lender) (c : Caller) → may_read (state_of cs c) ≡ true → may_read (state_of (calls.lost_after cs l) c) ≡ true
lost_reads cs l c may = ap may_read is ∙ still (state_of cs c) may
  where
    is : state_of (calls.lost_after cs l) c ≡ calls.lost_if_through l (state_of cs c)
    is = ap (λ (x : Call). x.state) (get_or-map_idle (calls.with_state (calls.lost_if_through l)) cs c.0 refl)

    still : (s : CallState) → may_read s ≡ true → may_read (calls.lost_if_through l s) ≡ true
    still Idle e = refl
    still (Room p since) e = cc
    still (Reading p n via.Disk how newer since) e = e
    still (Reading p n (via.Lender m) arrived.Waiting newer since) e = cc
    still (Reading p n (via.Lender m) arrived.Came newer since) e = refl
    still (Reading p n (via.Lender m) arrived.Failed newer since) e = refl
    still (Reading p n (via.Lender m) arrived.Lost newer since) e = refl

module _ {D F : Type 0} where
  pub rest_all : (core : Core D F) → LeavesRest core core
  rest_all core = record { of = refl; history = refl; links_made = refl; disk = refl; spare = refl; reads = λ c may. may }

  pub rest_then : (a b c : Core D F) → LeavesRest a b → LeavesRest b c → LeavesRest a c
  rest_then a b c one two = record {
    of = two.of ∙ one.of;
    history = two.history ∙ one.history;
    links_made = two.links_made ∙ one.links_made;
    disk = two.disk ∙ one.disk;
    spare = two.spare ∙ one.spare;
    reads = λ caller may. two.reads caller (one.reads caller may);
  }

  pub rest_lost : (core : Core D F) (l : Lender) → LeavesRest core (record core { device = lost_after core.device l })
  rest_lost core l = record { of = refl; history = refl; links_made = refl; disk = refl; spare = refl; reads = λ c may. lost_reads core.device.calls l c may }

  -- what agrees is ready
  pub agree_ready : (disk : DiskMeaning D) (fabric : FabricMeaning F) (core : Core D F) → Agree disk fabric core → IsReady fabric core
  agree_ready disk fabric core h = record { of = h.1; few = h.0.serves.few; lead = λ l up. (h.0.serves.link l).lender up }

  pub ready_lost :
      (fabric : FabricMeaning F) (core : Core D F) (l : Lender) → IsReady fabric core → IsReady fabric (record core { device = lost_after core.device l })
  ready_lost fabric core l h = record { of = h.of; few = h.few; lead = λ m up. h.lead m (lost_up core.device.remote.links l m up) }

  -- a page-out that is accepted changes no link
  pub entered_ready :
      (fabric : FabricMeaning F) (core : Core D F) (c : Caller) (p : Page) (bytes : List ℕ) (spare : ℕ) → IsReady fabric core
      → IsReady fabric (record core { device = enter_entry core.device c p bytes; spare = spare })
  entered_ready fabric core c p bytes spare h = record { of = h.of; few = h.few; lead = h.lead }
