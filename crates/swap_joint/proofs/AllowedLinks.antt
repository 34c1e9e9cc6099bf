-- A link as the device's moves leave it: what is under way to its lender may still be sent.
use Rattle.std.proofs.Common.{◌≡◌, ℕ, ◌<◌, inl, inr, Bool, true, false, ◌||◌, List, [], ◌∷◌, ◌++◌, refl, sym, ap, ◌∙◌, subst, Option, None, Some}
use Rattle.std.specs.List.{AllByRecursion}
use Rattle.std.proofs.lemmas.Bool.{cond_both, cases_eq, both_ways, eqb-true}
use Rattle.swap_base.specs.declared.Slab.{Slab}
use Rattle.swap_base.specs.declared.Link.{Link}
use Rattle.swap_base.specs.declared.Lender.{Lender}
use Rattle.swap_base.specs.declared.Lease.{Lease}
use Rattle.swap_base.specs.Sizes.{Sizes}
use Rattle.swap_record.specs.History.{History}
use Rattle.swap_calls.specs.Calls.{Calls}
use Rattle.swap_wire.specs.declared.Msg.TheVariants as msg
use Rattle.swap_wire.specs.Fabric.{Parcel, FabricCall, FabricAnswer}
use Rattle.swap_slabs.specs.Slabs as slabs
use Rattle.swap_slabs.specs.Slabs.{has_lease, state_of}
use Rattle.swap_slabs.specs.declared.SlabState.{SlabState}
use Rattle.swap_slabs.specs.declared.SlabState.TheVariants.{Local, Asking, Borrowing, Mapped, Draining}
use Rattle.swap_rings.specs.Rings as rings
use Rattle.swap_rings.specs.Rings.{LinkState, is_up, ring_of}
use Rattle.swap_rings.specs.declared.Request.{Request}
use Rattle.swap_rings.specs.declared.Request.TheVariants as request
use Rattle.swap_remote.specs.Remote.{Remote}
use Rattle.swap_table.specs.Device.{Device, lost_after}
use Rattle.swap_table.specs.Moves.{words}
use Rattle.swap_table.specs.Serves.{IsAwaited, AreInOrder}
use Rattle.swap_table.proofs.LinkTables.{link-other}
use Rattle.swap_lender.specs.Lender as lender
use Rattle.swap_link.specs.Fits.{IsSound}
use Rattle.swap_link.specs.Lane.{Lane, append_after}
use Rattle.swap_link.specs.Channel.{Channel, cut_after, crash_after, on_channel}
use Rattle.swap_link.specs.Harbor as harbor
use Rattle.swap_link.specs.Harbor.{Harbor, channel_of, lender_of}
use Rattle.swap_link.specs.lemmas.HarborLaws.{called, other_channel}
use Rattle.swap_link.specs.Keeping.{Unless}
use Rattle.swap_link.specs.lemmas.KeepLaws.{unless, unless-map}
use Rattle.swap_joint.specs.Seats.{AreSlots, is_done}
use Rattle.swap_joint.specs.Turn.{AsksUntold, Lodges}
use Rattle.swap_joint.specs.Stored.{Joined}
use Rattle.swap_joint.specs.Lenders.{IsReached}
use Rattle.swap_joint.specs.Allowed.{is_rate, is_hello, is_borrow, borrows_in, IsToLender, Allows, Allowed, AllAllowed, AllAllowedBut, AllowedOwing, IsKnown}
use Rattle.swap_joint.proofs.Lanes.{by_append}
use Rattle.swap_joint.proofs.Hears.{with_message}
use Rattle.swap_joint.proofs.Allowed.{allows_cut, allows_said}
use Rattle.swap_joint.proofs.Allows.{bare, allows_on, allows_ended, MayAdd, allows_more, Holds, holds_itself, holds_lost}
use Rattle.swap_joint.proofs.Takings.{saying}
use Rattle.swap_table.proofs.LossesGoByMoves.{lost_down}

-- what is known of a link and its lender
pub record LinkFacts (d : Device) (l : Lender) (c : Channel) : Type 0 where
  pub sound : IsSound c.lender
  pub untold : AsksUntold c.lender.round c.lender.slots
  pub lodged : Lodges c
  pub known : IsKnown d.sizes c
  pub reached : IsReached c.lender
  pub slots : AreSlots c.lender
  pub joined : Joined d l c
  pub awaited : AllByRecursion (IsAwaited d.sizes d.history d.calls d.remote.slabs l) (ring_of d.remote.links l)
  pub ordered : AreInOrder (ring_of d.remote.links l)

-- a link with nothing that is about to be said
abbrev pub AllowsAt : Sizes → List SlabState → List Request → Lender → Channel → Lane → Type 0
AllowsAt s states ring l c a = Unless c.lender_gone (Allows s states ring l c.lender c.number c.to_device.parcels a.ended a.parcels)

pub to_bare : (d : Device) (l : Lender) (c : Channel) → Allowed d l c [] → AllowsAt d.sizes d.remote.slabs (ring_of d.remote.links l) l c c.to_lender
to_bare d l c h =
    subst (λ ps. Unless c.lender_gone (Allows d.sizes d.remote.slabs (ring_of d.remote.links l) l c.lender c.number c.to_device.parcels c.to_lender.ended ps))
    (bare c.to_lender.parcels) h

pub from_bare : (d : Device) (l : Lender) (c : Channel) → AllowsAt d.sizes d.remote.slabs (ring_of d.remote.links l) l c c.to_lender → Allowed d l c []
from_bare d l c h =
    subst (λ ps. Unless c.lender_gone (Allows d.sizes d.remote.slabs (ring_of d.remote.links l) l c.lender c.number c.to_device.parcels c.to_lender.ended ps))
    (sym (bare c.to_lender.parcels)) h

-- a link as another sees the device
pub record Sees (l : Lender) (d d' : Device) : Type 0 where
  pub holds : Holds l d.remote.slabs d'.remote.slabs
  pub ring : ring_of d'.remote.links l ≡ ring_of d.remote.links l
  pub up : is_up d'.remote.links l ≡ is_up d.remote.links l
  pub sizes : d'.sizes ≡ d.sizes

pub sees_same : (l : Lender) (d d' : Device) → d'.remote ≡ d.remote → d'.sizes ≡ d.sizes → Sees l d d'
sees_same l d d' same sizes = record {
  holds = subst (λ (r : Remote). Holds l d.remote.slabs r.slabs) (sym same) (holds_itself l d.remote.slabs);
  ring = ap (λ (r : Remote). ring_of r.links l) same;
  up = ap (λ (r : Remote). is_up r.links l) same;
  sizes = sizes;
}

pub itself : (l : Lender) (d : Device) → Sees l d d
itself l d = sees_same l d d refl refl

-- slabs and links of its own
pub sees_parts :
    (l : Lender) (d : Device) (states : List SlabState) (bits : List Bool) (links : List LinkState) (cs : Calls) → Holds l d.remote.slabs states
    → rings.link_of links l ≡ rings.link_of d.remote.links l
    → Sees l d (record d { remote = record { bits = bits; slabs = states; links = links }; calls = cs })
sees_parts l d states bits links cs holds link =
    record { holds = holds; ring = ap (λ (k : LinkState). k.ring) link; up = ap (λ (k : LinkState). k.up) link; sizes = refl }

pub allowed_on : (l : Lender) (d d' : Device) (c : Channel) (said : List Parcel) → Sees l d d' → Allowed d l c said → Allowed d' l c said
allowed_on l d d' c said sees h =
    let P : Sizes → Type 0 =
    λ s.
    Unless c.lender_gone
    (Allows s d'.remote.slabs (ring_of d'.remote.links l) l c.lender c.number c.to_device.parcels c.to_lender.ended (c.to_lender.parcels ++ said)) in
    subst P (sym sees.sizes)
    (unless-map c.lender_gone _ _
    (allows_on d.sizes d.remote.slabs d'.remote.slabs (ring_of d.remote.links l)
    (ring_of d'.remote.links l) l c.lender c.number c.to_device.parcels c.to_lender.ended (c.to_lender.parcels ++ said) sees.holds
    (λ t e. ap (borrows_in t) sees.ring ∙ e))
    h)

pub allowed_alone : (n : ℕ) (d d' : Device) (h : Harbor) → ((l : Lender) → Sees l d d') → AllAllowed n d h → AllAllowed n d' h
allowed_alone n d d' h sees all l within up = allowed_on l d d' (channel_of h l) [] (sees l) (all l within (sym (sees l).up ∙ up))

pub but : (m : Lender) (n : ℕ) (d : Device) (h : Harbor) → AllAllowed n d h → AllAllowedBut m n d h
but m n d h all l within other up = all l within up

pub others :
    (n : ℕ) (d d' : Device) (f g : Harbor) (c : FabricCall) (r : FabricAnswer c) → harbor.Moves f c r g
    → ((l : Lender) → (l.0 ≡ (lender_of c).0 → ⊥) → Sees l d d') → AllAllowedBut (lender_of c) n d f → AllAllowedBut (lender_of c) n d' g
others n d d' f g c r moved sees all l within other up =
    let P : FabricAnswer c × Harbor → Type 0 = λ x. Allowed d' l (channel_of x.1 l) [] in
    subst P moved.1 (subst (λ ch. Allowed d' l ch []) (sym (other_channel f l (lender_of c) (on_channel (channel_of f (lender_of c)) c).1 other))
    (allowed_on l d d' (channel_of f l) [] (sees l other) (all l within other (sym (sees l other).up ∙ up))))

-- the link that was called
pub at_called :
    (P : Channel → Type 0) (f g : Harbor) (c : FabricCall) (r : FabricAnswer c) → harbor.Moves f c r g → P (on_channel (channel_of f (lender_of c)) c).1
    → P (channel_of g (lender_of c))
at_called P f g c r moved h =
    let Q : FabricAnswer c × Harbor → Type 0 = λ x. P (channel_of x.1 (lender_of c)) in
    subst Q moved.1 (subst P (sym (called f (lender_of c) (on_channel (channel_of f (lender_of c)) c).1 moved.0.range)) h)

pub combined :
    (n : ℕ) (d : Device) (h : Harbor) (m : Lender) → AllAllowedBut m n d h → (m.0 < n → is_up d.remote.links m ≡ true → Allowed d m (channel_of h m) [])
    → AllAllowed n d h
combined n d h m rest here l within up = elim (cases_eq l.0 m.0) [
  | inl e ↦ (
      let same : m ≡ l = ap (λ (k : ℕ). record { 0 = k }) (sym e) in
      subst (λ (x : Lender). Allowed d x (channel_of h x) []) same
      (here (subst (λ (x : Lender). x.0 < n) (sym same) within) (subst (λ (x : Lender). is_up d.remote.links x ≡ true) (sym same) up))
      )
  | inr other ↦ rest l within other up
]

pub through_call :
    (n : ℕ) (d d' : Device) (f g : Harbor) (c : FabricCall) (r : FabricAnswer c) → harbor.Moves f c r g
    → ((l : Lender) → (l.0 ≡ (lender_of c).0 → ⊥) → Sees l d d') → AllAllowedBut (lender_of c) n d f
    → ((lender_of c).0 < n → is_up d'.remote.links (lender_of c) ≡ true → Allowed d' (lender_of c) (on_channel (channel_of f (lender_of c)) c).1 [])
    → AllAllowed n d' g
through_call n d d' f g c r moved sees all here =
    combined n d' g (lender_of c) (others n d d' f g c r moved sees all)
    (λ within up. at_called (λ ch. Allowed d' (lender_of c) ch []) f g c r moved (here within up))

-- with what the device says on it then
pub owing :
    (n : ℕ) (d : Device) (h : Harbor) (l : Lender) (word : Option Parcel) → AllAllowedBut l n d h
    → (l.0 < n → is_up d.remote.links l ≡ true → Allowed d l (channel_of h l) (saying word)) → AllowedOwing n d h (words l word)
owing n d h l None rest here = combined n d h l rest here
owing n d h l (Some q) rest here = (rest, here)

-- a link is lost
pub sees_lost : (l m : Lender) (d : Device) → (l.0 ≡ m.0 → ⊥) → Sees l d (lost_after d m)
sees_lost l m d other = record {
  holds = holds_lost l m d.remote.slabs other;
  ring = ap (λ (k : LinkState). k.ring) (link-other d.remote.links m l rings.down other);
  up = ap (λ (k : LinkState). k.up) (link-other d.remote.links m l rings.down other);
  sizes = refl;
}

pub after_loss : (n : ℕ) (d : Device) (h : Harbor) (m : Lender) → AllAllowedBut m n d h → AllAllowed n (lost_after d m) h
after_loss n d h m all l within up = elim (cases_eq l.0 m.0) [
  | inl e ↦
      absurd (both_ways (is_up (lost_after d m).remote.links l) (subst (λ k. is_up (lost_after d m).remote.links (record { 0 = k })
      ≡ false) (sym e) (lost_down d m)) up)
  | inr other ↦ allowed_on l d (lost_after d m) (channel_of h l) [] (sees_lost l m d other) (all l within other (sym (sees_lost l m d other).up ∙ up))
]

pub down :
    (n : ℕ) (d : Device) (f g : Harbor) (c : FabricCall) (r : FabricAnswer c) → harbor.Moves f c r g → AllAllowedBut (lender_of c) n d f
    → AllAllowed n (lost_after d (lender_of c)) g
down n d f g c r moved all = after_loss n d g (lender_of c) (others n d d f g c r moved (λ l other. itself l d) all)

-- the far side moves
pub allowed_cut : (d : Device) (l : Lender) (c : Channel) (a b : ℕ) → Allowed d l c [] → Allowed d l (cut_after c a b).1 []
allowed_cut d l c a b h =
    from_bare d l (cut_after c a b).1
    (unless-map c.lender_gone _ _
    (allows_cut d.sizes d.remote.slabs (ring_of d.remote.links l) l c.lender c.number c.to_device.parcels c.to_lender.ended c.to_lender.parcels a b)
    (to_bare d l c h))

pub allowed_crashed : (d : Device) (l : Lender) (c : Channel) → Allowed d l (crash_after c) []
allowed_crashed d l c =
    cond_both c.lender_gone _ _ (λ (x : Channel). Allowed d l x []) (λ left. unless c.lender_gone _ (λ stands. absurd (both_ways c.lender_gone stands left)))
    (λ _. tt)

-- a message more

lane_more :
    (s : Sizes) (states : List SlabState) (ring : List Request) (l : Lender) (table : lender.Lender) (n : Link) (come : List Parcel) (a : Lane) (q : Parcel)
    → (a.ended ≡ false → MayAdd states ring l table n come a.ended a.parcels q) → Allows s states ring l table n come a.ended a.parcels
    → Allows s states ring l table n come (append_after a q).ended (append_after a q).parcels
lane_more s states ring l table n come a q may h =
    by_append (λ z. Allows s states ring l table n come z.ended z.parcels) a q (λ _. h)
    (λ e. allows_more s states ring l table n come a.ended a.parcels q (may e) h) (λ _. allows_ended s states ring l table n come a.ended a.parcels h)

-- a word is said
pub allowed_said : (d : Device) (l : Lender) (c : Channel) (q : Parcel) → Allowed d l c (q ∷ []) → Allowed d l (with_message c q) []
allowed_said d l c q h =
    from_bare d l (with_message c q)
    (unless-map c.lender_gone _ _ (allows_said d.sizes d.remote.slabs (ring_of d.remote.links l) l c.lender c.number c.to_device.parcels c.to_lender q) h)

-- a request is sent: each slot of a slab that is borrowed is given back before
pub record IsRequest (q : Parcel) : Type 0 where
  pub plain : is_hello q.msg ≡ false
  pub kind : IsToLender q.msg
  pub undone : (k : Lease) → is_done k q.msg ≡ false
  pub untold : (k : Lease) → is_rate k q.msg ≡ false

abbrev pub Frees : Device → Lender → Parcel → Type 0
Frees d l q = (t : Slab) → q.msg ≡ msg.Borrow t → (slabs.is_local (state_of d.remote.slabs t) ≡ true)

local_lease : (l : Lender) (k : Lease) (x : SlabState) → slabs.is_local x ≡ true → has_lease l k x ≡ false
local_lease l k Local e = refl
local_lease l k (Asking pair) e = cc
local_lease l k (Borrowing m) e = cc
local_lease l k (Mapped m j f) e = cc
local_lease l k (Draining m j f) e = cc

-- a slab whose Borrow is awaited is being borrowed
borrow_awaited :
    (s : Sizes) (H : History) (cs : Calls) (states : List SlabState) (l : Lender) (t : Slab) (ring : List Request)
    → AllByRecursion (IsAwaited s H cs states l) ring → borrows_in t ring ≡ true → state_of states t ≡ Borrowing l
borrow_awaited s H cs states l t [] all e = cc
borrow_awaited s H cs states l t (x ∷ ring) all e = go (is_borrow t x) refl e (borrow_awaited s H cs states l t ring all.1)
  where
    here : (x : Request) → IsAwaited s H cs states l x → is_borrow t x ≡ true → state_of states t ≡ Borrowing l
    here (request.Query u) a is = cc
    here (request.Borrow u) a is =
        subst (λ (u : Slab). state_of states u ≡ Borrowing l) (let same : u ≡ t = ap (λ (i : ℕ). record { 0 = i }) (eqb-true u.0 t.0 is) in same) a.1
    here (request.Write p n) a is = cc
    here (request.Read c p) a is = cc

    go :
        (b : Bool) → is_borrow t x ≡ b → (b || borrows_in t ring) ≡ true → (borrows_in t ring ≡ true → state_of states t ≡ Borrowing l)
        → state_of states t ≡ Borrowing l
    go true is e rest = here x all.0 is
    go false is e rest = rest e

pub allowed_sent :
    (d e : Device) (l : Lender) (c : Channel) (q : Parcel) → e.sizes ≡ d.sizes → Holds l d.remote.slabs e.remote.slabs
    → ((t : Slab) → borrows_in t (ring_of d.remote.links l) ≡ true → borrows_in t (ring_of e.remote.links l) ≡ true) → IsRequest q → Frees d l q
    → AllByRecursion (IsAwaited d.sizes d.history d.calls d.remote.slabs l) (ring_of d.remote.links l)
    → Allowed d l c [] → Allowed e l (with_message c q) []
allowed_sent d e l c q sizes holds rings_ is frees awaited h =
    from_bare e l (with_message c q)
    (let P : Sizes → Type 0 =
    λ s.
    Unless c.lender_gone
    (Allows s e.remote.slabs (ring_of e.remote.links l) l c.lender c.number c.to_device.parcels (append_after c.to_lender q).ended
    (append_after c.to_lender q).parcels) in
    subst P (sym sizes) (unless-map c.lender_gone _ _ more (to_bare d l c h)))
  where
    more :
        Allows d.sizes d.remote.slabs (ring_of d.remote.links l) l c.lender c.number c.to_device.parcels c.to_lender.ended c.to_lender.parcels
        → Allows d.sizes e.remote.slabs (ring_of e.remote.links l) l c.lender c.number c.to_device.parcels (append_after c.to_lender q).ended
        (append_after c.to_lender q).parcels
    more a =
        lane_more d.sizes e.remote.slabs (ring_of e.remote.links l) l c.lender c.number c.to_device.parcels c.to_lender q
        (λ open_. record {
          plain = is.plain;
          kind = is.kind;
          greeted = inr open_;
          done = λ k on. absurd (both_ways (is_done k q.msg) (is.undone k) on);
          rate = λ k on. absurd (both_ways (is_rate k q.msg) (is.untold k) on);
          free = λ t i m k told borrows held. elim (a.home i m t k told held) [
            | inl at ↦ absurd (both_ways (has_lease l k (state_of d.remote.slabs t)) (local_lease l k (state_of d.remote.slabs t) (frees t borrows)) at)
            | inr rest ↦ elim rest [
              | inl asked ↦
                  absurd
                  (both_ways (slabs.is_local (state_of d.remote.slabs t))
                  (ap slabs.is_local (borrow_awaited d.sizes d.history d.calls d.remote.slabs l t (ring_of d.remote.links l) awaited asked))
                  (frees t borrows))
              | inr later ↦ elim later [ inl back ↦ back | inr over ↦ absurd (both_ways c.to_lender.ended open_ over) ]
            ]
          ];
        })
        (allows_on d.sizes d.remote.slabs e.remote.slabs (ring_of d.remote.links l)
        (ring_of e.remote.links l) l c.lender c.number c.to_device.parcels c.to_lender.ended c.to_lender.parcels holds rings_ a)
