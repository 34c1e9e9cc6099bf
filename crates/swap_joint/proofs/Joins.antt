-- The device's own moves, and what it sends: each link that is up stays joined with its lender.
use Rattle.std.proofs.Common.{◌≡◌, ℕ, ◌<◌, ◌≤◌, inl, inr, Bool, true, false, cond, List, [], ◌∷◌, ◌++◌, length, set, refl, sym, ap, ◌∙◌, subst, length-set, get_or-set_same, None, Some}
use Rattle.std.specs.List.{AllByRecursion}
use Rattle.std.proofs.lemmas.Bool.{cond-false, cases_eq, cases_lt, both_ways}
use Rattle.std.proofs.lemmas.List.{get_or_past}
use Rattle.swap_base.specs.declared.Page.{Page}
use Rattle.swap_base.specs.declared.Caller.{Caller}
use Rattle.swap_base.specs.declared.Lender.{Lender}
use Rattle.swap_base.specs.declared.Lease.{Lease}
use Rattle.swap_base.specs.declared.EntryNo.{EntryNo}
use Rattle.swap_base.specs.declared.Via.TheVariants as via
use Rattle.swap_base.specs.Sizes.{Sizes, zeros}
use Rattle.swap_record.specs.History.{History, last}
use Rattle.swap_wire.specs.declared.fabric.Sent.{Sent}
use Rattle.swap_wire.specs.declared.fabric.Sent.TheVariants as sent_is
use Rattle.swap_wire.specs.Fabric.{Parcel, FabricCall, FabricAnswer}
use Rattle.swap_bits.specs.Bits.{has}
use Rattle.swap_calls.specs.Calls as calls
use Rattle.swap_calls.specs.Calls.{Call, Calls, state_of}
use Rattle.swap_calls.specs.declared.Arrived.TheVariants as arrived
use Rattle.swap_calls.specs.declared.CallState.TheVariants.{Reading}
use Rattle.swap_slabs.specs.Slabs.{has_lease}
use Rattle.swap_slabs.specs.declared.SlabState.{SlabState}
use Rattle.swap_rings.specs.Rings as rings
use Rattle.swap_rings.specs.Rings.{LinkState, ring_of, is_up}
use Rattle.swap_rings.specs.declared.Request.{Request}
use Rattle.swap_rings.specs.declared.Request.TheVariants as request
use Rattle.swap_remote.specs.Remote.{Remote, slab_for, state_for}
use Rattle.swap_table.specs.Device.{Device, lost_after}
use Rattle.swap_table.specs.Serves.{IsOut, bytes_of, Serves}
use Rattle.swap_table.proofs.EntriesStay.{last_bytes, last_out}
use Rattle.swap_table.proofs.SendsKeepServing.{sent-same}
use Rattle.swap_table.proofs.RequestsKeepServing.{has_own}
use Rattle.swap_table.proofs.WaitsStay.{Target}
use Rattle.swap_link.specs.Channel.{Channel, send_after, on_channel}
use Rattle.swap_link.specs.Harbor as harbor
use Rattle.swap_link.specs.Harbor.{Harbor, channel_of, lender_of, KeepsAt, OwesAt}
use Rattle.swap_link.specs.lemmas.HarborLaws.{called, other_channel}
use Rattle.swap_link.specs.Keeping.{Unless}
use Rattle.swap_link.specs.lemmas.KeepLaws.{unless-map}
use Rattle.swap_joint.specs.Order.{is_request, Carries, served_of}
use Rattle.swap_joint.specs.Brought.{kept_entry, page_found, HoldsFor}
use Rattle.swap_joint.specs.Sight.{SameLeases, StillReads, SeesSame}
use Rattle.swap_joint.specs.Stored.{Stored, JoinedOf, Joined, AllJoined, AllJoinedBut}
use Rattle.swap_joint.proofs.Facts.{leased_all}
use Rattle.swap_joint.proofs.Sights.{entries_stay, sees_lost, sees_itself}
use Rattle.swap_joint.proofs.Hears.{joined_sees, joined_same, with_message, joined_sent}
use Rattle.swap_table.proofs.LossesGoByMoves.{lost_down}

-- what device and links agree on, where the links are those of lenders in memory
abbrev pub ServesAt : ℕ → Device → Harbor → Type 0
ServesAt n d h = Serves (KeepsAt h) (OwesAt h) d.sizes n d.history d.calls d.remote

pub all_but : (m : Lender) (n : ℕ) (d : Device) (h : Harbor) → AllJoined n d h → AllJoinedBut m n d h
all_but m n d h all l within other up = all l within up

-- the device alone
pub joins_alone : (n : ℕ) (d d' : Device) (h : Harbor) → ((l : Lender) → SeesSame l d d') → AllJoined n d h → AllJoined n d' h
joins_alone n d d' h sees all l within up = joined_same l d d' (channel_of h l) (sees l) (all l within (sym (sees l).up ∙ up))

-- a call of one link: every other has its channel
pub others_through :
    (n : ℕ) (d d' : Device) (f g : Harbor) (c : FabricCall) (r : FabricAnswer c) → harbor.Moves f c r g
    → ((l : Lender) → (l.0 ≡ (lender_of c).0 → ⊥) → SeesSame l d d') → AllJoinedBut (lender_of c) n d f → AllJoinedBut (lender_of c) n d' g
others_through n d d' f g c r moved sees all l within other up =
    let P : FabricAnswer c × Harbor → Type 0 = λ x. Joined d' l (channel_of x.1 l) in
    subst P moved.1 (subst (λ ch. Joined d' l ch) (sym (other_channel f l (lender_of c) (on_channel (channel_of f (lender_of c)) c).1 other))
    (joined_same l d d' (channel_of f l) (sees l other) (all l within other (sym (sees l other).up ∙ up))))

-- and the link that was called
pub joins_through :
    (n : ℕ) (d d' : Device) (f g : Harbor) (c : FabricCall) (r : FabricAnswer c) → harbor.Moves f c r g
    → ((l : Lender) → (l.0 ≡ (lender_of c).0 → ⊥) → SeesSame l d d') → AllJoinedBut (lender_of c) n d f
    → ((lender_of c).0 < n → is_up d'.remote.links (lender_of c) ≡ true → Joined d' (lender_of c) (on_channel (channel_of f (lender_of c)) c).1)
    → AllJoined n d' g
joins_through n d d' f g c r moved sees all here l within up = elim (cases_eq l.0 (lender_of c).0) [
  | inl e ↦ (
      let m : Lender = lender_of c in
      let same : lender_of c ≡ l = ap (λ (k : ℕ). record { 0 = k }) (sym e) in
      let P : FabricAnswer c × Harbor → Type 0 = λ x. Joined d' (lender_of c) (channel_of x.1 (lender_of c)) in
      let at : Joined d' (lender_of c) (channel_of g (lender_of c)) =
      subst P moved.1 (subst (λ ch. Joined d' (lender_of c) ch) (sym (called f (lender_of c) (on_channel (channel_of f (lender_of c)) c).1 moved.0.range))
      (here (subst (λ (x : Lender). x.0 < n) (sym same) within) (subst (λ (x : Lender). is_up d'.remote.links x ≡ true) (sym same) up)))
      in
      subst (λ (x : Lender). Joined d' x (channel_of g x)) same at
      )
  | inr other ↦ others_through n d d' f g c r moved sees all l within other up
]

pub joins_lost : (n : ℕ) (d : Device) (h : Harbor) (m : Lender) → AllJoinedBut m n d h → AllJoined n (lost_after d m) h
joins_lost n d h m all l within up = elim (cases_eq l.0 m.0) [
  | inl e ↦
      absurd (both_ways (is_up (lost_after d m).remote.links l) (subst (λ k. is_up (lost_after d m).remote.links (record { 0 = k })
      ≡ false) (sym e) (lost_down d m)) up)
  | inr other ↦ joined_same l d (lost_after d m) (channel_of h l) (sees_lost l m d other) (all l within other (sym (sees_lost l m d other).up ∙ up))
]

-- a call that finds the link down, and one that loses it
pub joins_down :
    (n : ℕ) (d : Device) (f g : Harbor) (c : FabricCall) (r : FabricAnswer c) → harbor.Moves f c r g → AllJoinedBut (lender_of c) n d f
    → AllJoined n (lost_after d (lender_of c)) g
joins_down n d f g c r moved all = joins_lost n d g (lender_of c) (others_through n d d f g c r moved (λ l other. sees_itself l d) all)

-- a request is sent

pub sends : (c : Channel) (q : Parcel) → c.device_gone ≡ false → (send_after c q).1 ≡ with_message c q
sends c q present = ap (λ (x : Sent × Channel). x.1) (cond-false c.device_gone (sent_is.Down, c) (sent_is.Sent, with_message c q) present)

pub asks_here :
    (s : Sizes) (H : History) (cs cs' : Calls) (states states' : List SlabState) (bits : List Bool) (ring ring' : List Request) (l : Lender) (c : Channel)
    (q : Parcel) (x : Request)
    → is_request q.msg ≡ true → Carries s H states' l q x → SameLeases l states states' → AllByRecursion (StillReads cs cs') ring → ring' ≡ ring ++ x ∷ []
    → (JoinedOf s H cs states bits ring l c → Unless c.lender_gone (HoldsFor s H cs' states' l c x)) → JoinedOf s H cs states bits ring l c
    → JoinedOf s H cs' states' bits ring' l (send_after c q).1
asks_here s H cs cs' states states' bits ring ring' l c q x is carries leases still now holds h =
    subst (λ r. JoinedOf s H cs' states' bits r l (send_after c q).1) (sym now)
    (subst (λ ch. JoinedOf s H cs' states' bits (ring ++ x ∷ []) l ch) (sym (sends c q h.present))
    (joined_sent s H cs' states' bits ring l c q x is carries (holds h)
    (joined_sees s H H cs cs' states states' bits bits ring l c (λ t k at. sym (leases t k) ∙ at)
    (leased_all s l states states' ring (λ t k at. leases t k ∙ at)) (entries_stay H) (λ p k at set. inl (set, refl)) still h)))

-- no send finds a link down that is up
pub not_down : (c : Channel) (q : Parcel) → c.device_gone ≡ false → (send_after c q).0 ≡ sent_is.Down → ⊥
not_down c q present e =
    sends_not (sym (ap (λ (x : Sent × Channel). x.0) (cond-false c.device_gone (sent_is.Down, c) (sent_is.Sent, with_message c q) present)) ∙ e)
  where
    sends_not : sent_is.Sent ≡ sent_is.Down → ⊥
    sends_not e = cc

-- a read that is sent reads its call's entry
pub holds_newest :
    (s : Sizes) (H : History) (cs : Calls) (states states' : List SlabState) (bits : List Bool) (ring : List Request) (l : Lender) (c : Channel) (a : Caller)
    (p : Page) (e : EntryNo) (since : ℕ)
    → SameLeases l states states' → has bits p.0 ≡ true → last H p ≡ Some e → JoinedOf s H cs states bits ring l c
    → Unless c.lender_gone (HoldsFor s H (calls.reads cs a p e (via.Lender l) since) states' l c (request.Read a p))
holds_newest s H cs states states' bits ring l c a p e since leases set newest h =
    unless-map c.lender_gone _ _ (λ (k : Stored s H states bits l c (served_of h.order)) j g at is.
    let same : e ≡ g = entry_is g is in
    let out : IsOut H p e = last_out H p e newest in
    let there : page_found s c j p ≡ Some (bytes_of H e) =
    k.readable p j (sym (leases (slab_for s p) j) ∙ at) set ∙ ap (λ b. Some b) (sym (last_bytes (zeros s) H p e newest)) in
    (subst (λ x. IsOut H p x) same out, there ∙ ap (λ x. Some (bytes_of H x)) same)) h.stored
  where
    some_same : (x y : EntryNo) → Some x ≡ Some y → x ≡ y
    some_same x y e = cc

    none_some : (g : EntryNo) → None ≡ Some g → ⊥
    none_some g e = cc

    entry_is : (g : EntryNo) → kept_entry (state_of (calls.reads cs a p e (via.Lender l) since) a) ≡ Some g → e ≡ g
    entry_is g is = elim (cases_lt a.0 (length cs)) [
      | inl within ↦
          some_same e g
          (sym
          (ap (λ (x : Call). kept_entry x.state)
          (get_or-set_same cs a.0 (record { state = Reading p e (via.Lender l) arrived.Waiting false since; bytes = [] }) calls.idle_call within))
          ∙ is)
      | inr past ↦
          absurd
          (none_some g
          (sym
          (ap (λ (x : Call). kept_entry x.state)
          (get_or_past (calls.reads cs a p e (via.Lender l) since) a.0 calls.idle_call
          (subst (λ n. n ≤ a.0)
          (sym (length-set cs a.0 (record { state = Reading p e (via.Lender l) arrived.Waiting false since; bytes = [] }))) past)))
          ∙ is))
    ]

-- a link that is up is one of the links
pub up_within : (links : List LinkState) (l : Lender) → is_up links l ≡ true → l.0 < length links
up_within links l up =
    elim (cases_lt l.0 (length links))
    [ inl within ↦ within | inr past ↦ absurd (both_ways (is_up links l) (ap (λ (k : LinkState). k.up) (get_or_past links l.0 rings.down past)) up) ]

pub target_lease : (s : Sizes) (r : Remote) (p : Page) (at : Lender × Lease) → Target s r p at → has_lease at.0 at.1 (state_for s r.slabs p) ≡ true
target_lease s r p at t = ap (has_lease at.0 at.1) t.mapped ∙ has_own at.0 at.1 t.flying

pub ring_more : (links : List LinkState) (l : Lender) (x : Request) → is_up links l ≡ true → ring_of (rings.sent_after links l x) l ≡ ring_of links l ++ x ∷ []
ring_more links l x up = ap (λ (k : LinkState). k.ring) (sent-same links l x (up_within links l up))
