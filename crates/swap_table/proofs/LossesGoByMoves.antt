-- What a loss brings: the programs of losses, choices and words go by moves, and leave what their walkers need.
use Rattle.std.proofs.Common.{◌≡◌, ℕ, zero, suc, ◌+◌, ◌<◌, Bool, true, false, List, [], ◌∷◌, length, get_or, set, refl, sym, ap, ◌∙◌, subst, length-set, Option, None, Some}
use Rattle.std.proofs.lemmas.List.{length-map}
use Rattle.swap_base.specs.declared.Page.{Page}
use Rattle.swap_base.specs.declared.Slab.{Slab}
use Rattle.swap_base.specs.declared.Caller.{Caller}
use Rattle.swap_base.specs.declared.EntryNo.{EntryNo}
use Rattle.swap_base.specs.declared.Lender.{Lender}
use Rattle.swap_base.specs.declared.Via.{Via}
use Rattle.swap_base.specs.declared.Via.TheVariants as via
use Rattle.swap_wire.specs.declared.fabric.Sent.TheVariants as sent
use Rattle.swap_wire.specs.Fabric.{Parcel}
use Rattle.swap_calls.specs.Calls as calls
use Rattle.swap_calls.specs.Calls.{Call, state_of, is_idle, may_read}
use Rattle.swap_calls.specs.declared.Arrived.{Arrived}
use Rattle.swap_calls.specs.declared.Arrived.TheVariants as arrived
use Rattle.swap_calls.specs.declared.CallState.{CallState}
use Rattle.swap_calls.specs.declared.CallState.TheVariants.{Idle, Room, Reading}
use Rattle.swap_slabs.specs.Slabs as slabs
use Rattle.swap_slabs.specs.declared.SlabState.{SlabState}
use Rattle.swap_slabs.specs.declared.Chosen.{Chosen}
use Rattle.swap_slabs.specs.declared.Chosen.TheVariants as picks
use Rattle.swap_slabs.specs.declared.Reply.TheVariants as reply
use Rattle.swap_base.specs.declared.TheConstants.{MOST_LENDERS}
use Rattle.swap_rings.specs.Rings as rings
use Rattle.swap_rings.specs.Rings.{LinkState, down, is_up}
use Rattle.swap_rings.specs.declared.Request.{Request}
use Rattle.swap_remote.specs.Remote as remote
use Rattle.swap_table.specs.Ports.{Prog, Ret, and_then}
use Rattle.swap_table.specs.Device.{Device, Heard, lost_after, may_map, chosen_for, choose, give_up_one, give_up, lose_with, lose, say_after, follow}
use Rattle.swap_table.specs.Goes.{Goes, ends, first, asks_fabric, by}
use Rattle.swap_table.specs.Moves.{Within, Speaker, quiet_speaker, words, owing, Ins, new_in, late_in, there, borrow, IsWord, Move, gives_up, sends, finds_down, speaks, speaks_to_nobody}
use Rattle.swap_table.specs.Comes.{Linked, as_was, sent_on, let_go}
use Rattle.swap_base.proofs.Lists.{chosen}
use Rattle.swap_table.proofs.HistoryAgreement.{get_or-map_idle}
use Rattle.swap_table.proofs.EvictionKeepsSlabs.{asks_within}
use Rattle.swap_table.proofs.MovesKeepInvariants.{Goes-implies, Goes-then}

-- a caller that may read may still where a link was lost
pub lost_ins : (W : Within) (d : Device) (l : Lender) (c : Caller) (p : Page) → Ins W d c p → Ins W (lost_after d l) c p
lost_ins W d l c p h = go h
  where
    is : state_of (lost_after d l).calls c ≡ calls.lost_if_through l (state_of d.calls c)
    is = ap (λ (x : Call). x.state) (get_or-map_idle (calls.with_state (calls.lost_if_through l)) d.calls c.0 refl)

    idle_state : (s : CallState) → is_idle s ≡ true → is_idle (calls.lost_if_through l s) ≡ true
    idle_state Idle e = refl
    idle_state (Room q since) e = cc
    idle_state (Reading q n v how newer since) e = cc

    same_state :
        (n : EntryNo) (v : Via) (how : Arrived) (newer : Bool) (since : ℕ) → may_read (Reading p n v how newer since) ≡ true
        → calls.lost_if_through l (Reading p n v how newer since) ≡ Reading p n v how newer since
    same_state n v arrived.Waiting newer since e = cc
    same_state n via.Disk arrived.Came newer since e = refl
    same_state n via.Disk arrived.Failed newer since e = refl
    same_state n via.Disk arrived.Lost newer since e = refl
    same_state n (via.Lender m) arrived.Came newer since e = refl
    same_state n (via.Lender m) arrived.Failed newer since e = refl
    same_state n (via.Lender m) arrived.Lost newer since e = refl

    go : Ins W d c p → Ins W (lost_after d l) c p
    go (new_in idle within) = new_in (ap is_idle is ∙ idle_state (state_of d.calls c) idle) within
    go (late_in {n = n} {v = v} {how = how} {newer = newer} {since = since} state may) =
        late_in (is ∙ ap (calls.lost_if_through l) state ∙ same_state n v how newer since may) may

-- what a link was used for after another use
pub linked_trans : (d e f : Device) → Linked d e → Linked e f → Linked d f
linked_trans d e f one as_was = one
linked_trans d e f one (sent_on {e = x} two r made) = sent_on (linked_trans d e x one two) r made
linked_trans d e f one (let_go {e = x} two l) = let_go (linked_trans d e x one two) l

-- and what it leaves: history, queue, the calls that may read, the number of slabs, and links that are down
pub record Leaves (W : Within) (d e : Device) : Type 0 where
  pub linked : Linked d e
  pub history : e.history ≡ d.history
  pub queue : e.queue ≡ d.queue
  pub slabs : length e.remote.slabs ≡ length d.remote.slabs
  pub down : (l : Lender) → is_up d.remote.links l ≡ false → is_up e.remote.links l ≡ false
  pub ins : (c : Caller) (p : Page) → Ins W d c p → Ins W e c p

pub leaves_trans : (W : Within) (d e f : Device) → Leaves W d e → Leaves W e f → Leaves W d f
leaves_trans W d e f one two = record {
  linked = linked_trans d e f one.linked two.linked;
  history = two.history ∙ one.history;
  queue = two.queue ∙ one.queue;
  slabs = two.slabs ∙ one.slabs;
  down = λ l off. two.down l (one.down l off);
  ins = λ c p may. two.ins c p (one.ins c p may);
}

pub leaves_all : (W : Within) (d : Device) → Leaves W d d
leaves_all W d = record { linked = as_was; history = refl; queue = refl; slabs = refl; down = λ l off. off; ins = λ c p may. may }

-- links, by whether they are up
up_set :
    (links : List LinkState) (i j : ℕ) (x : LinkState) → (x.up ≡ true → (get_or links i down).up ≡ true) → (get_or links j down).up ≡ false
    → (get_or (set links i x) j down).up ≡ false
up_set [] i j x keeps off = off
up_set (y ∷ links) zero zero x keeps off = go x.up refl
  where
    go : (b : Bool) → x.up ≡ b → x.up ≡ false
    go false is = is
    go true is = let both : true ≡ false = sym (keeps is) ∙ off in cc
up_set (y ∷ links) zero (suc j) x keeps off = off
up_set (y ∷ links) (suc i) zero x keeps off = off
up_set (y ∷ links) (suc i) (suc j) x keeps off = up_set links i j x keeps off

down_set : (links : List LinkState) (i : ℕ) → get_or (set links i down) i down ≡ down
down_set [] i = refl
down_set (y ∷ links) zero = refl
down_set (y ∷ links) (suc i) = down_set links i

pub lost_down : (d : Device) (l : Lender) → is_up (lost_after d l).remote.links l ≡ false
lost_down d l = ap (λ (x : LinkState). x.up) (down_set d.remote.links l.0)

pub leaves_lost : (W : Within) (d : Device) (l : Lender) → Leaves W d (lost_after d l)
leaves_lost W d l = record {
  linked = let_go as_was l;
  history = refl;
  queue = refl;
  slabs = length-map d.remote.slabs _;
  down = λ m off. up_set d.remote.links l.0 m.0 down (λ up. absurd (never up)) off;
  ins = λ c p may. lost_ins W d l c p may;
}
  where
    never : false ≡ true → ⊥
    never e = cc

-- a call that may read may where only the lenders' side changed
pub remote_ins : (W : Within) (d : Device) (r : remote.Remote) (c : Caller) (p : Page) → Ins W d c p → Ins W (record d { remote = r }) c p
remote_ins W d r c p (new_in idle within) = new_in idle within
remote_ins W d r c p (late_in state may) = late_in state may

leaves_slab :
    (W : Within) (d : Device) (t : Slab) (state : SlabState)
    → Leaves W d (record d { remote = record d.remote { slabs = slabs.with_state d.remote.slabs t state } })
leaves_slab W d t state = record {
  linked = sent_on as_was _ _;
  history = refl;
  queue = refl;
  slabs = length-set d.remote.slabs t.0 state;
  down = λ l off. off;
  ins = λ c p may. remote_ins W d _ c p may;
}

-- a request was sent for a slab, which has a new state
pub leaves_sent :
    (W : Within) (d : Device) (t : Slab) (state : SlabState) (l : Lender) (x : Request)
    → Leaves W d (record d { remote = record d.remote { slabs = slabs.with_state d.remote.slabs t state; links = rings.sent_after d.remote.links l x } })
leaves_sent W d t state l x = record {
  linked = sent_on as_was _ _;
  history = refl;
  queue = refl;
  slabs = length-set d.remote.slabs t.0 state;
  down = λ m off. up_set d.remote.links l.0 m.0 (rings.sent_on (rings.link_of d.remote.links l) x) (λ up. up) off;
  ins = λ c p may. remote_ins W d _ c p may;
}

module _ (W : Within) where
  -- a program that goes by moves from a device, and ends at one that has what this one leaves
  abbrev pub Passes : Device → Speaker → Prog Device → Type 0
  Passes d s p = Goes (Move W) (λ (e : Device) t. (t ≡ quiet_speaker e) × Leaves W d e) s p

  passes_from : (c d : Device) (s : Speaker) (p : Prog Device) → Leaves W c d → Passes d s p → Passes c s p
  passes_from c d s p one goes = Goes-implies (Move W) _ _ (λ e t q. (q.0, leaves_trans W c d e one q.1)) goes

  -- one program after another
  pub passes_then :
      (d : Device) (s : Speaker) (p : Prog Device) (next : Device → Prog Device) → Passes d s p
      → ((e : Device) → Leaves W d e → Passes e (quiet_speaker e) (next e))
      → Passes d s (and_then p next)
  passes_then d s p next goes more =
      Goes-then (Move W) (λ (e : Device) t. (t ≡ quiet_speaker e) × Leaves W d e) (λ (e : Device) t. (t ≡ quiet_speaker e) × Leaves W d e) next
      (λ e t q. let P : Speaker → Type 0 = λ x. Passes d x (next e) in subst P (sym q.0) (passes_from d e (quiet_speaker e) (next e) q.1 (more e q.1))) goes

  -- what a link that is found down brings
  abbrev pub Brings : (Device → Lender → Prog Device) → Type 0
  Brings loses = (d : Device) (l : Lender) → Passes (lost_after d l) (quiet_speaker (lost_after d l)) (loses d l)

  pub choose_passes :
      (loses : Device → Lender → Prog Device) → Brings loses → (d : Device) (at : Option (Slab × Lender))
      → ((t : Slab) (l : Lender) → at ≡ Some (t, l) → t.0 < length d.remote.slabs) → Passes d (quiet_speaker d) (choose loses d at)
  choose_passes loses brings d None within = ends (refl, leaves_all W d)
  choose_passes loses brings d (Some at) within =
      chosen (λ (p : Prog Device). Passes d (quiet_speaker d) p) (may_map d at.0 at.1) _ _
      (λ may.
      asks_fabric (elim [
        | sent.Sent ↦ by (sends (borrow (there (within at.0 at.1 refl)) may)) (ends (refl, leaves_sent W d at.0 _ at.1 _))
        | sent.Down ↦
            by (finds_down (borrow (there (within at.0 at.1 refl)) may))
            (passes_from d (lost_after d at.1) (quiet_speaker (lost_after d at.1)) (loses d at.1) (leaves_lost W d at.1) (brings d at.1))
      ]))
      (λ _. ends (refl, leaves_all W d))

  -- a choice is of the slab that it is for
  pub chosen_slab : (t u : Slab) (l : Lender) (choice : Option Chosen) → chosen_for t choice ≡ Some (u, l) → u ≡ t
  chosen_slab t u l None is = cc
  chosen_slab t u l (Some picks.Nobody) is = cc
  chosen_slab t u l (Some (picks.Lender m)) is = sym (ap slab_in is)
    where
      slab_in : Option (Slab × Lender) → Slab
      slab_in None = u
      slab_in (Some at) = at.0

  give_up_one_passes :
      (loses : Device → Lender → Prog Device) → Brings loses → (d : Device) (l : Lender) (t : Slab) → is_up d.remote.links l ≡ false
      → slabs.asks l (slabs.state_of d.remote.slabs t) ≡ true → Passes d (quiet_speaker d) (give_up_one loses d l t)
  give_up_one_passes loses brings d l t off asks =
      let e : Device = record d { remote = remote.gone_after d.remote l t } in
      let state = slabs.after_answer (slabs.state_of d.remote.slabs t) l reply.Gone in
      let left : Leaves W d e = leaves_slab W d t state in
      let within : t.0 < length e.remote.slabs = subst (λ n. t.0 < n) (sym (length-set d.remote.slabs t.0 state)) (asks_within d.remote.slabs l t asks) in
      first (gives_up l t off asks)
      (passes_from d e (quiet_speaker e) _ left
      (choose_passes loses brings e (chosen_for t (slabs.answer_choice (slabs.state_of d.remote.slabs t) l reply.Gone))
      (λ u m is.
      subst (λ (x : Slab). x.0 < length e.remote.slabs)
      (sym (chosen_slab t u m (slabs.answer_choice (slabs.state_of d.remote.slabs t) l reply.Gone) is)) within)))

  give_up_passes :
      (loses : Device → Lender → Prog Device) → Brings loses → (left n : ℕ) (d : Device) (l : Lender) → is_up d.remote.links l ≡ false
      → Passes d (quiet_speaker d) (give_up loses left n d l)
  give_up_passes loses brings zero n d l off = ends (refl, leaves_all W d)
  give_up_passes loses brings (suc left) n d l off =
      let t : Slab = record { 0 = n } in
      passes_then d (quiet_speaker d) _ (λ e. give_up loses left (n + 1) e l)
      (chosen (λ (p : Prog Device). Passes d (quiet_speaker d) p) (slabs.asks l (slabs.state_of d.remote.slabs t)) _ _
      (λ asks. give_up_one_passes loses brings d l t off asks) (λ _. ends (refl, leaves_all W d)))
      (λ e leaves. give_up_passes loses brings left (n + 1) e l (leaves.down l off))

  lose_with_passes : (n : ℕ) → Brings (lose_with n)
  lose_with_passes zero d l =
      give_up_passes (λ e m. Ret (lost_after e m)) (λ e m. ends (refl, leaves_all W (lost_after e m))) (length d.remote.slabs) 0 (lost_after d l) l
      (lost_down d l)
  lose_with_passes (suc n) d l = give_up_passes (lose_with n) (lose_with_passes n) (length d.remote.slabs) 0 (lost_after d l) l (lost_down d l)

  pub lose_passes : Brings lose
  lose_passes = lose_with_passes MOST_LENDERS

  -- a word is said, and what follows on a message
  pub say_passes :
      (d : Device) (l : Lender) (word : Option Parcel) → ((q : Parcel) → word ≡ Some q → IsWord d q)
      → Passes d (record { device = d; owed = words l word }) (say_after d l word)
  say_passes d l None is = ends (refl, leaves_all W d)
  say_passes d l (Some q) is =
      asks_fabric (elim [
        | sent.Sent ↦ by (speaks (is q refl)) (ends (refl, leaves_all W d))
        | sent.Down ↦ by (speaks_to_nobody (is q refl)) (passes_from d (lost_after d l) (quiet_speaker (lost_after d l)) (lose d l) (leaves_lost W d l)
            (lose_passes d l))
      ])

  pub follow_passes :
      (h : Heard) (l : Lender) → ((q : Parcel) → h.word ≡ Some q → IsWord h.device q)
      → ((t : Slab) (m : Lender) → h.choice ≡ Some (t, m) → t.0 < length h.device.remote.slabs) → Passes h.device (owing h l) (follow h l)
  follow_passes h l is within =
      passes_then h.device (owing h l) (say_after h.device l h.word) (λ e. choose lose e h.choice) (say_passes h.device l h.word is)
      (λ e leaves. choose_passes lose lose_passes e h.choice (λ t m at. subst (λ n. t.0 < n) (sym leaves.slabs) (within t m at)))
