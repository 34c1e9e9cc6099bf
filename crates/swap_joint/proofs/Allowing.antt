-- Each move of a device leaves what is under way to a lender such that it may be sent.
use Rattle.std.proofs.Common.{◌≡◌, ℕ, ◌+◌, ◌<◌, inl, inr, Bool, true, false, List, [], ◌∷◌, length, refl, sym, ap, ◌∙◌, subst, Option, None, Some}
use Rattle.std.proofs.lemmas.Bool.{cases_lt, both_ways, and_parts}
use Rattle.std.proofs.lemmas.List.{get_or_past}
use Rattle.swap_base.specs.declared.Page.{Page}
use Rattle.swap_base.specs.declared.Slab.{Slab}
use Rattle.swap_base.specs.declared.Lender.{Lender}
use Rattle.swap_base.specs.declared.Link.{Link}
use Rattle.swap_base.specs.declared.Lease.{Lease}
use Rattle.swap_base.specs.declared.DiskWhich.{DiskWhich}
use Rattle.swap_base.specs.declared.DiskWhich.TheVariants as which
use Rattle.swap_base.specs.Sizes.{Sizes}
use Rattle.swap_record.specs.History.{next_name}
use Rattle.swap_queue.specs.Queue.{Copy}
use Rattle.swap_queue.specs.Queue as queue
use Rattle.swap_disk.specs.Disk.{Taken}
use Rattle.swap_disk.specs.declared.port.DiskPort.{Ghosts as DiskMeaning}
use Rattle.swap_wire.specs.declared.Msg.TheVariants as msg
use Rattle.swap_wire.specs.declared.fabric.Sent.TheVariants as sent_is
use Rattle.swap_wire.specs.Fabric.{Parcel, Handed, Brought, NothingCame, LinkLost, FabricOf, FabricCall, Connect, Send, Take, End, Give, Cut, Crash, Host, FabricAnswer}
use Rattle.swap_slabs.specs.Slabs as slabs
use Rattle.swap_slabs.specs.Slabs.{has_lease, state_of}
use Rattle.swap_slabs.specs.declared.Pair.{Pair}
use Rattle.swap_slabs.specs.declared.Reply.TheVariants as reply
use Rattle.swap_slabs.specs.declared.SlabState.{SlabState}
use Rattle.swap_slabs.specs.declared.SlabState.TheVariants.{Local, Asking, Borrowing, Mapped, Draining}
use Rattle.swap_rings.specs.Rings as rings
use Rattle.swap_rings.specs.Rings.{LinkState, link_of, is_up, ring_of}
use Rattle.swap_rings.specs.declared.Request.{Request}
use Rattle.swap_rings.specs.declared.Request.TheVariants as request
use Rattle.swap_remote.specs.Remote as remote
use Rattle.swap_remote.specs.Remote.{slab_for}
use Rattle.swap_table.specs.Device as device
use Rattle.swap_table.specs.Device.{Device, raised_after, next_link, hello}
use Rattle.swap_table.specs.Serves.{SlabFits}
use Rattle.swap_table.specs.Goes.{stay, by_disk, by_fabric, EachKeepsWhere}
use Rattle.swap_table.specs.Moves.{Within, of_sizes, Speaker, Sends, write, read, borrow, query, query_too, IsFar, far_give, far_cut, far_crash, far_host, Move, enters, gives, faults, waits_for_room, rates_change, lets_go, gives_up, starts, waits_for_disk, takes, lets_finish, sends, finds_down, raises, speaks, speaks_to_nobody, hears, hears_nothing, loses, misunderstands, breaks_off, far}
use Rattle.swap_table.specs.Promises.{FollowsItsMoves, Promises}
use Rattle.swap_table.proofs.MovesKeepAgreement as keep
use Rattle.swap_table.proofs.LinkTables.{link-other}
use Rattle.swap_table.proofs.SendsKeepServing.{sent-other}
use Rattle.swap_lender.specs.declared.SlotState.TheVariants.{Held}
use Rattle.swap_lender.specs.Lender as lender
use Rattle.swap_lender.specs.Lender.{slot_in, has_greeted}
use Rattle.swap_lender.specs.Calls.{tenant}
use Rattle.swap_link.specs.Channel.{Channel, give_after, connect_after}
use Rattle.swap_link.specs.Harbor as harbor
use Rattle.swap_link.specs.Harbor.{Harbor, channel_of}
use Rattle.swap_joint.specs.Stored.{AllJoined}
use Rattle.swap_joint.specs.Lenders.{AreSound}
use Rattle.swap_joint.specs.Allowed.{borrows_in, Allows, Allowed, AllAllowed, AllowedOwing, IsKnown, Greets}
use Rattle.swap_joint.proofs.Harbors.{harbor_meaning}
use Rattle.swap_joint.proofs.Lenders.{connected_none, connected_fresh, greeted_known}
use Rattle.swap_joint.proofs.Joins as joins
use Rattle.swap_joint.proofs.Joins.{ServesAt, ring_more}
use Rattle.swap_joint.proofs.Takes.{taken_nothing}
use Rattle.swap_joint.proofs.Moves as joint
use Rattle.swap_joint.proofs.Turned as turned
use Rattle.swap_joint.proofs.Allows.{borrows-more, Holds, holds_itself, holds_set, holds_begun, holds_answered}
use Rattle.swap_joint.proofs.AllowedLinks.{LinkFacts, Sees, sees_same, itself, allowed_alone, but, others, at_called, through_call, after_loss, down, allowed_cut, allowed_crashed, allowed_said, IsRequest, Frees, allowed_sent}
use Rattle.swap_joint.proofs.AllowedHears.{heard_allowed}
use Rattle.swap_joint.proofs.Gives.{allowed_given, allowed_hosted}

-- what is sent

local_lease : (l : Lender) (k : Lease) (x : SlabState) → slabs.is_local x ≡ true → has_lease l k x ≡ true → ⊥
local_lease l k Local e at = cc
local_lease l k (Asking pair) e at = cc
local_lease l k (Borrowing m) e at = cc
local_lease l k (Mapped m j f) e at = cc
local_lease l k (Draining m j f) e at = cc

-- a local slab is borrowed, or asked for
holds_local :
    (m : Lender) (d : Device) (t : Slab) (x : SlabState) → slabs.is_local (state_of d.remote.slabs t) ≡ true → ((k : Lease) (f : ℕ) → x ≡ Draining m k f → ⊥)
    → Holds m d.remote.slabs (slabs.with_state d.remote.slabs t x)
holds_local m d t x local off =
    holds_set m d.remote.slabs t x (λ k f is. absurd (off k f is)) (λ k at. absurd (local_lease m k (state_of d.remote.slabs t) local at))

borrows_drains : (l m : Lender) (k : Lease) (f : ℕ) → Borrowing l ≡ Draining m k f → ⊥
borrows_drains l m k f e = cc

asks_drains : (p : Pair) (m : Lender) (k : Lease) (f : ℕ) → Asking p ≡ Draining m k f → ⊥
asks_drains p m k f e = cc

sent_holds : (W : Within) (d : Device) (l m : Lender) (q : Parcel) (e base : Device) → Sends W d l q e base → Holds m d.remote.slabs e.remote.slabs
sent_holds W d l m q e base (write {p = p} outs is) = holds_begun m d.remote.slabs (slab_for d.sizes p)
sent_holds W d l m q e base (read {p = p} ins within is none at) = holds_begun m d.remote.slabs (slab_for d.sizes p)
sent_holds W d l m q e base (borrow {t = t} within may) =
    holds_local m d t (Borrowing l) (and_parts (slabs.is_local (state_of d.remote.slabs t)) _ may).0 (borrows_drains l m)
sent_holds W d l m q e base (query {t = t} within may) =
    holds_local m d t (Asking (slabs.pair_of l None)) (and_parts (slabs.is_local (state_of d.remote.slabs t)) _ may).0 (asks_drains (slabs.pair_of l None) m)
sent_holds W d l m q e base (query_too {t = t} {m = o} within state other may) =
    holds_set m d.remote.slabs t (Asking (slabs.pair_of o (Some l))) (λ k f is. absurd (asks_drains (slabs.pair_of o (Some l)) m k f is))
    (λ k at. absurd (both_ways (has_lease m k (state_of d.remote.slabs t)) (ap (has_lease m k) state) at))

sent_link :
    (W : Within) (d : Device) (l m : Lender) (q : Parcel) (e base : Device) → Sends W d l q e base → (m.0 ≡ l.0 → ⊥)
    → link_of e.remote.links m ≡ link_of d.remote.links m
sent_link W d l m q e base (write {p = p} outs is) other = sent-other d.remote.links l m _ other
sent_link W d l m q e base (read {p = p} ins within is none at) other = sent-other d.remote.links l m _ other
sent_link W d l m q e base (borrow {t = t} within may) other = sent-other d.remote.links l m _ other
sent_link W d l m q e base (query {t = t} within may) other = sent-other d.remote.links l m _ other
sent_link W d l m q e base (query_too {t = t} within state not may) other = sent-other d.remote.links l m _ other

sent_sizes : (W : Within) (d : Device) (l : Lender) (q : Parcel) (e base : Device) → Sends W d l q e base → e.sizes ≡ d.sizes
sent_sizes W d l q e base (write outs is) = refl
sent_sizes W d l q e base (read ins within is none at) = refl
sent_sizes W d l q e base (borrow within may) = refl
sent_sizes W d l q e base (query within may) = refl
sent_sizes W d l q e base (query_too within state not may) = refl

more_borrows :
    (d : Device) (l : Lender) (x : Request) (t : Slab) → is_up d.remote.links l ≡ true → borrows_in t (ring_of d.remote.links l) ≡ true
    → borrows_in t (ring_of (rings.sent_after d.remote.links l x) l) ≡ true
more_borrows d l x t up e = ap (borrows_in t) (ring_more d.remote.links l x up) ∙ borrows-more t (ring_of d.remote.links l) x e

sent_borrows :
    (W : Within) (d : Device) (l : Lender) (q : Parcel) (e base : Device) → Sends W d l q e base → is_up d.remote.links l ≡ true → (t : Slab)
    → borrows_in t (ring_of d.remote.links l) ≡ true → borrows_in t (ring_of e.remote.links l) ≡ true
sent_borrows W d l q e base (write {p = p} outs is) up u b = more_borrows d l (request.Write p (next_name d.history)) u up b
sent_borrows W d l q e base (read {c = c} {p = p} ins within is none at) up u b = more_borrows d l (request.Read c p) u up b
sent_borrows W d l q e base (borrow {t = t} within may) up u b = more_borrows d l (request.Borrow t) u up b
sent_borrows W d l q e base (query {t = t} within may) up u b = more_borrows d l (request.Query t) u up b
sent_borrows W d l q e base (query_too {t = t} within state not may) up u b = more_borrows d l (request.Query t) u up b

sent_request : (W : Within) (d : Device) (l : Lender) (q : Parcel) (e base : Device) → Sends W d l q e base → IsRequest q
sent_request W d l q e base (write outs is) = record { plain = refl; kind = tt; undone = λ k. refl; untold = λ k. refl }
sent_request W d l q e base (read ins within is none at) = record { plain = refl; kind = tt; undone = λ k. refl; untold = λ k. refl }
sent_request W d l q e base (borrow within may) = record { plain = refl; kind = tt; undone = λ k. refl; untold = λ k. refl }
sent_request W d l q e base (query within may) = record { plain = refl; kind = tt; undone = λ k. refl; untold = λ k. refl }
sent_request W d l q e base (query_too within state not may) = record { plain = refl; kind = tt; undone = λ k. refl; untold = λ k. refl }

sent_frees : (W : Within) (d : Device) (l : Lender) (q : Parcel) (e base : Device) → Sends W d l q e base → Frees d l q
sent_frees W d l q e base (write outs is) u b = cc
sent_frees W d l q e base (read ins within is none at) u b = cc
sent_frees W d l q e base (borrow {t = t} within may) u b =
    subst (λ (u : Slab). slabs.is_local (state_of d.remote.slabs u) ≡ true) (slab_is t u b) (and_parts (slabs.is_local (state_of d.remote.slabs t)) _ may).0
  where
    slab_is : (t u : Slab) → msg.Borrow t ≡ msg.Borrow u → t ≡ u
    slab_is t u e = cc
sent_frees W d l q e base (query within may) u b = cc
sent_frees W d l q e base (query_too within state not may) u b = cc

base_sees : (W : Within) (d : Device) (l m : Lender) (q : Parcel) (e base : Device) → Sends W d l q e base → Sees m d base
base_sees W d l m q e base (write {c = c} {p = p} {bytes = bytes} outs is) =
    record { holds = holds_itself m d.remote.slabs; ring = refl; up = refl; sizes = refl }
base_sees W d l m q e base (read ins within is none at) = itself m d
base_sees W d l m q e base (borrow within may) = itself m d
base_sees W d l m q e base (query within may) = itself m d
base_sees W d l m q e base (query_too within state other may) = itself m d

-- what came back from the disk
wrote_sees : (m : Lender) (d : Device) (p : Page) (copy : Option Copy) (ok : Bool) → Sees m d (device.wrote_after d p copy ok).0
wrote_sees m d p None ok = itself m d
wrote_sees m d p (Some copy) true = sees_same m d (record d { queue = queue.done_after d.queue p }) refl refl
wrote_sees m d p (Some copy) false = sees_same m d (record d { queue = queue.failed_after d.queue p; failed_writes = d.failed_writes + 1 }) refl refl

took_sees : (m : Lender) (d : Device) (w : DiskWhich) (p : Page) (ok : Bool) (bytes : List ℕ) → Sees m d (device.took_after d w p ok bytes).0
took_sees m d (which.Write q) p ok bytes = wrote_sees m d p (queue.flying d.queue p) ok
took_sees m d (which.Read c) p true bytes = sees_same m d (device.took_after d (which.Read c) p true bytes).0 refl refl
took_sees m d (which.Read c) p false bytes = sees_same m d (device.took_after d (which.Read c) p false bytes).0 refl refl

back_sees : (m : Lender) (d : Device) (taken : Option Taken) → Sees m d (device.took_back d taken).0
back_sees m d None = itself m d
back_sees m d (Some t) = took_sees m d t.done.which t.done.page t.done.ok t.bytes

-- a link that is made: its lender holds no slot, no slab drains there, and the greeting is owed
allows_new :
    (s : Sizes) (states : List SlabState) (ring : List Request) (l : Lender) (table : lender.Lender) (n : Link)
    → ((i : ℕ) (m : Link) (t : Slab) (k : Lease) (e : Bool) → slot_in table.slots i ≡ Held m t k e → ⊥)
    → ((t : Slab) (k : Lease) (f : ℕ) → state_of states t ≡ Draining l k f → ⊥) → has_greeted table n ≡ false
    → Allows s states ring l table n [] false (hello s ∷ [])
allows_new s states ring l table n none off fresh = record {
  told = λ k e. absurd (no_truth e);
  drains = λ t k f e. absurd (off t k f e);
  done = λ k e. absurd (no_truth e);
  done_once = ((λ k e. refl), tt);
  evict_once = tt;
  apart = λ k e. refl;
  before = λ t k f e is. off t k f is;
  asks = λ k e. absurd (no_truth e);
  rates = λ k e. absurd (no_truth e);
  ask_once = tt;
  rate_once = ((λ k e. refl), tt);
  one = λ k e. refl;
  home = λ i m t k e held. absurd (none i m t k e held);
  refused = λ i m t k e come held. none i m t k e held;
  free = ((λ t i m k e is held. absurd (none i m t k e held)), tt);
  greets = subst (λ g. Greets s g false (hello s ∷ [])) (sym fresh) (refl, refl);
  kinds = (tt, tt);
}
  where
    no_truth : false ≡ true → ⊥
    no_truth e = cc

-- no slab drains on a link that is down
none_drain :
    (n : ℕ) (d : Device) (f : Harbor) (l : Lender) → ServesAt n d f → is_up d.remote.links l ≡ false → (t : Slab) (k : Lease) (g : ℕ)
    → state_of d.remote.slabs t ≡ Draining l k g → ⊥
none_drain n d f l serves off t k g is = elim (cases_lt t.0 (length d.remote.slabs)) [
  | inl within ↦ (let P : SlabState → Type 0 = λ x. SlabFits d.sizes d.remote.links t x in
      let fits : SlabFits d.sizes d.remote.links t (Draining l k g) = subst P is (serves.slab t (subst (λ m. t.0 < m) serves.slabs_len within)) in
      both_ways (is_up d.remote.links l) off fits.0)
  | inr past ↦ local_drains (sym (get_or_past d.remote.slabs t.0 Local past) ∙ is)
]
  where
    local_drains : Local ≡ Draining l k g → ⊥
    local_drains e = cc

-- the lender takes the first message
given_allowed : (d : Device) (l : Lender) (c : Channel) → LinkFacts d l c → Allowed d l c [] → Allowed d l (give_after c).1 []
given_allowed d l c f h = allowed_given d l c f.sound f.untold f.lodged (λ stands. greeted_known d.sizes c stands f.known) f.joined f.ordered h

module _ {D : Type 0} (disk : DiskMeaning D) (follows : FollowsItsMoves disk) (laws : Promises harbor_meaning) (T : Bool) (o : FabricOf)
    (far_may : Lender → Type 0) (bytes_may : List ℕ → Type 0) where
  abbrev There : Within
  There = of_sizes o.sizes o.lenders far_may bytes_may

  abbrev Before : Speaker → D → Harbor → Type 0
  Before x k h =
      (joint.Agrees disk follows laws T o far_may bytes_may x k h × joint.JoinedAt disk follows laws T o far_may bytes_may x k h)
      × turned.TurnedAt disk follows laws T o far_may bytes_may x k h

  abbrev Agree : Device → D → Harbor → Type 0
  Agree = keep.Agree disk follows harbor_meaning laws T o far_may bytes_may

  abbrev pub AllowedAt : Speaker → D → Harbor → Type 0
  AllowedAt x k h = AllowedOwing o.lenders x.device h x.owed

  serves_at : (d : Device) (k : D) (f : Harbor) → Agree d k f → ServesAt o.lenders d f
  serves_at d k f agree = joint.serves_at disk follows laws T o far_may bytes_may d k f agree

  present_at :
      (d : Device) (k : D) (f : Harbor) (l : Lender) → Agree d k f → AllJoined o.lenders d f → is_up d.remote.links l ≡ true
      → (channel_of f l).device_gone ≡ false
  present_at d k f l agree all up = joint.present_at disk follows laws T o far_may bytes_may d k f l agree all up

  known_at : (d : Device) (k : D) (f : Harbor) (l : Lender) → Agree d k f → AreSound f → l.0 < length f.channels → IsKnown d.sizes (channel_of f l)
  known_at d k f l agree sound range =
      subst (λ s. IsKnown s (channel_of f l)) (sym (ap (λ (x : FabricOf). x.sizes) (agree.is ∙ sym agree.of_f))) (sound.known l range)

  far_allowed :
      (d : Device) (k : D) (f g : Harbor) (c : FabricCall) (r : FabricAnswer c) → IsFar There c → Agree d k f → AreSound f → AllJoined o.lenders d f
      → AllAllowed o.lenders d f → harbor.Moves f c r g → AllAllowed o.lenders d g
  far_allowed d k f g c r (far_give {l = l} may) agree sound joined all moved =
      through_call o.lenders d d f g (Give l) r moved (λ m other. itself m d) (but l o.lenders d f all)
      (λ within up. given_allowed d l (channel_of f l)
      (record {
        sound = moved.0.channel.sound;
        untold = sound.untold l moved.0.range;
        lodged = sound.lodged l moved.0.range;
        known = known_at d k f l agree sound moved.0.range;
        reached = sound.reached l moved.0.range;
        slots = sound.whole l moved.0.range;
        joined = joined l within up;
        awaited = ((serves_at d k f agree).link l).awaited;
        ordered = ((serves_at d k f agree).link l).ordered;
      }) (all l within up))
  far_allowed d k f g c r (far_cut {l = l} {a = a} {b = b} may) agree sound joined all moved =
      through_call o.lenders d d f g (Cut l a b) r moved (λ m other. itself m d) (but l o.lenders d f all)
      (λ within up. allowed_cut d l (channel_of f l) a b (all l within up))
  far_allowed d k f g c r (far_crash {l = l} may) agree sound joined all moved =
      through_call o.lenders d d f g (Crash l) r moved (λ m other. itself m d) (but l o.lenders d f all) (λ within up. allowed_crashed d l (channel_of f l))
  far_allowed d k f g c r (far_host {l = l} {used = used} {word = word} may) agree sound joined all moved =
      through_call o.lenders d d f g (Host l used word) r moved (λ m other. itself m d) (but l o.lenders d f all)
      (λ within up. allowed_hosted d l (channel_of f l) used word (sound.reached l moved.0.range) moved.0.channel.sound (all l within up))

  sent_allowed :
      (d e base : Device) (k : D) (f g : Harbor) (l : Lender) (q : Parcel) → Sends There d l q e base → Agree d k f → AllJoined o.lenders d f
      → AllAllowed o.lenders d f → harbor.Moves f (Send l q) sent_is.Sent g → AllAllowed o.lenders e g
  sent_allowed d e base k f g l q one agree joined all moved =
      let up : is_up d.remote.links l ≡ true = keep.sends_up There d l q e base one in
      through_call o.lenders d e f g (Send l q) sent_is.Sent moved
      (λ m other.
      record {
        holds = sent_holds There d l m q e base one;
        ring = ap (λ (x : LinkState). x.ring) (sent_link There d l m q e base one other);
        up = ap (λ (x : LinkState). x.up) (sent_link There d l m q e base one other);
        sizes = sent_sizes There d l q e base one;
      })
      (but l o.lenders d f all)
      (λ within _. subst (λ ch. Allowed e l ch []) (sym (joins.sends (channel_of f l) q (present_at d k f l agree joined up)))
      (allowed_sent d e l (channel_of f l) q (sent_sizes There d l q e base one) (sent_holds There d l l q e base one) (sent_borrows There d l q e base one up)
      (sent_request There d l q e base one) (sent_frees There d l q e base one) ((serves_at d k f agree).link l).awaited (all l within up)))

  pub each_allows : EachKeepsWhere disk.moves harbor.Moves (Move There) Before AllowedAt
  each_allows x asked y k k' f f' (enters {d = d} {c = c} {p = p} {bytes = bytes} outs) stay before all =
      allowed_alone o.lenders d (device.enter_entry d c p bytes) f (λ l. record { holds = holds_itself l d.remote.slabs; ring = refl; up = refl; sizes = refl })
      all
  each_allows x asked y k k' f f' (gives {d = d} {c = c} {p = p} {named = named} {from = from} {bytes = bytes} give_after) stay before all =
      allowed_alone o.lenders d (device.give d c p named from bytes) f (λ l. sees_same l d (device.give d c p named from bytes) refl refl) all
  each_allows x asked y k k' f f' (faults {d = d} {c = c} {p = p} {k = kind} {since = since} {at = at} {bytes = bytes} fails) stay before all =
      allowed_alone o.lenders d (device.fault d c p kind since at bytes) f (λ l. sees_same l d (device.fault d c p kind since at bytes) refl refl) all
  each_allows x asked y k k' f f' (waits_for_room {d = d} c p bytes e within hands) stay before all =
      allowed_alone o.lenders d (device.wait_for_room d c p bytes) f (λ l. sees_same l d (device.wait_for_room d c p bytes) refl refl) all
  each_allows x asked y k k' f f' (rates_change {d = d} rates) stay before all =
      allowed_alone o.lenders d (record d { rates = rates }) f (λ l. sees_same l d (record d { rates = rates }) refl refl) all
  each_allows x asked y k k' f f' (lets_go {d = d} l within up) stay before all = after_loss o.lenders d f l (but l o.lenders d f all)
  each_allows x asked y k k' f f' (gives_up {d = d} l t off asks) stay before all =
      allowed_alone o.lenders d (record d { remote = remote.gone_after d.remote l t }) f
      (λ m. record { holds = holds_answered m l d.remote.slabs t reply.Gone; ring = refl; up = refl; sizes = refl }) all
  each_allows x asked y k k' f f' (starts {d = d} el ec) (by_disk moved) before all =
      allowed_alone o.lenders d (record d { queue = queue.start d.queue }) f (λ l. sees_same l d (record d { queue = queue.start d.queue }) refl refl) all
  each_allows x asked y k k' f f' (waits_for_disk {d = d} {c = c} {p = p} {n = e} ins within is none) (by_disk moved) before all =
      allowed_alone o.lenders d (device.wait_for_disk d c p e) f (λ l. sees_same l d (device.wait_for_disk d c p e) refl refl) all
  each_allows x asked y k k' f f' (takes {d = d} {taken = taken}) (by_disk moved) before all =
      allowed_alone o.lenders d (device.took_back d taken).0 f (λ l. back_sees l d taken) all
  each_allows x asked y k k' f f' lets_finish (by_disk moved) before all = all
  each_allows x asked y k k' f f' (sends {d = d} {e = e} {base = base} {l = l} {q = q} one) (by_fabric moved) before all =
      sent_allowed d e base k f f' l q one before.0.0 before.0.1.1 all moved
  each_allows x asked y k k' f f' (finds_down {d = d} {e = e} {base = base} {l = l} {q = q} one) (by_fabric moved) before all =
      down o.lenders base f f' (Send l q) sent_is.Down moved
      (but l o.lenders base f (allowed_alone o.lenders d base f (λ m. base_sees There d l m q e base one) all))
  each_allows x asked y k k' f f' (raises {d = d} {l = l} {r = r} within off) (by_fabric moved) before all = (
    others o.lenders d (raised_after d l) f f' (Connect l (next_link d)) r moved
        (λ m other.
        record {
          holds = holds_itself m d.remote.slabs;
          ring = ap (λ (x : LinkState). x.ring) (link-other d.remote.links l m rings.link_at_start other);
          up = ap (λ (x : LinkState). x.up) (link-other d.remote.links l m rings.link_at_start other);
          sizes = refl;
        })
        (but l o.lenders d f all),
    λ _ up. at_called (λ ch. Allowed (raised_after d l) l ch (hello d.sizes ∷ [])) f f' (Connect l (next_link d)) r moved
        (allows_new d.sizes d.remote.slabs (ring_of (raised_after d l).remote.links l) l (connect_after (channel_of f l) (next_link d)).lender (next_link d)
        (λ i m t j e held.
        connected_none (channel_of f l) (next_link d) (before.0.1.0.lodged l moved.0.range) i (record { link = m; slab = t; lease = j }) (ap tenant held))
        (none_drain o.lenders d f l (serves_at d k f before.0.0) off)
        (connected_fresh d.sizes (channel_of f l) (next_link d) (known_at d k f l before.0.0 before.0.1.0 moved.0.range))),
  )
  each_allows x asked y k k' f f' (speaks {d = d} {l = l} {q = q} word) (by_fabric moved) before all =
      through_call o.lenders d d f f' (Send l q) sent_is.Sent moved (λ m other. itself m d) all.0
      (λ within up.
      subst (λ ch. Allowed d l ch []) (sym (joins.sends (channel_of f l) q (present_at d k f l before.0.0.0 before.0.1.1.0 up)))
      (allowed_said d l (channel_of f l) q (all.1 within up)))
  each_allows x asked y k k' f f' (speaks_to_nobody {d = d} {l = l} {q = q} word) (by_fabric moved) before all =
      down o.lenders d f f' (Send l q) sent_is.Down moved all.0
  each_allows x asked y k k' f f' (hears {d = d} {h = heard} {l = l} {q = q} up one) (by_fabric moved) before all =
      heard_allowed o.lenders d f f' l q all before.0.1.1 (serves_at d k f before.0.0) (before.0.1.0.reached l moved.0.range)
      (before.0.1.0.lodged l moved.0.range) up moved heard one
  each_allows x asked y k k' f f' (hears_nothing {d = d} {l = l} up) (by_fabric moved) before all =
      through_call o.lenders d d f f' (Take l) NothingCame moved (λ m other. itself m d) (but l o.lenders d f all)
      (λ within up. subst (λ ch. Allowed d l ch []) (sym (taken_nothing (channel_of f l) (ap (λ (x : Handed × Harbor). x.0) moved.1))) (all l within up))
  each_allows x asked y k k' f f' (loses {d = d} {l = l} up) (by_fabric moved) before all =
      down o.lenders d f f' (Take l) LinkLost moved (but l o.lenders d f all)
  each_allows x asked y k k' f f' (misunderstands {d = d} {l = l} {q = q} up) (by_fabric moved) before all =
      others o.lenders d d f f' (Take l) (Brought q) moved (λ m other. itself m d) (but l o.lenders d f all)
  each_allows x asked y k k' f f' (breaks_off {d = d} {l = l} {r = r}) (by_fabric moved) before all = down o.lenders d f f' (End l) r moved all
  each_allows x asked y k k' f f' (far {d = d} {c = c} {r = r} one) (by_fabric moved) before all =
      far_allowed d k f f' c r one before.0.0 before.0.1.0 before.0.1.1 all moved
