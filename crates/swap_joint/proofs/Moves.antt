-- Each move of a device over any disk and the lenders in memory leaves its links joined with their lenders.
use Rattle.std.proofs.Common.{◌≡◌, ℕ, ◌+◌, Bool, true, false, List, [], refl, sym, ap, subst, Option, None, Some}
use Rattle.swap_base.specs.declared.Page.{Page}
use Rattle.swap_base.specs.declared.Lender.{Lender}
use Rattle.swap_base.specs.declared.DiskWhich.{DiskWhich}
use Rattle.swap_base.specs.declared.DiskWhich.TheVariants as which
use Rattle.swap_base.specs.declared.Via.TheVariants as via
use Rattle.swap_queue.specs.Queue as queue
use Rattle.swap_queue.specs.Queue.{Copy}
use Rattle.swap_disk.specs.Disk.{Taken}
use Rattle.swap_disk.specs.declared.port.DiskPort.{Ghosts as DiskMeaning}
use Rattle.swap_wire.specs.declared.fabric.Sent.{Sent}
use Rattle.swap_wire.specs.declared.fabric.Sent.TheVariants as sent_is
use Rattle.swap_wire.specs.Fabric.{Parcel, Handed, Brought, NothingCame, LinkLost, FabricOf, FabricCall, Connect, Send, Take, End, Give, Cut, Crash, Host, FabricAnswer}
use Rattle.swap_calls.specs.Calls as calls
use Rattle.swap_calls.specs.declared.Arrived.TheVariants as arrived
use Rattle.swap_calls.specs.declared.CallState.TheVariants.{Room}
use Rattle.swap_slabs.specs.Slabs as slabs
use Rattle.swap_slabs.specs.declared.Reply.TheVariants as reply
use Rattle.swap_rings.specs.Rings.{is_up, ring_of}
use Rattle.swap_remote.specs.Remote as remote
use Rattle.swap_table.specs.Device as device
use Rattle.swap_table.specs.Device.{Device, enter_entry, give, fault, wait_for_room, wait_for_disk, next_link}
use Rattle.swap_table.specs.Goes.{Asked, stay, by_disk, by_fabric, PortsGo, EachKeepsWhere}
use Rattle.swap_table.specs.Moves.{Within, of_sizes, Speaker, Sends, write, read, borrow, query, query_too, IsFar, far_give, far_cut, far_crash, far_host, Move, enters, gives, faults, waits_for_room, rates_change, lets_go, gives_up, starts, waits_for_disk, takes, lets_finish, sends, finds_down, raises, speaks, speaks_to_nobody, hears, hears_nothing, loses, misunderstands, breaks_off, far}
use Rattle.swap_table.specs.Promises.{FollowsItsMoves, Promises}
use Rattle.swap_table.proofs.MovesKeepAgreement as keep
use Rattle.swap_table.proofs.MovesKeepAgreement.{ins_wait}
use Rattle.swap_link.specs.Harbor as harbor
use Rattle.swap_link.specs.Harbor.{Harbor, channel_of, KeepsAt, OwesAt}
use Rattle.swap_joint.specs.Lenders.{AreSound}
use Rattle.swap_joint.specs.Sight.{SeesSame}
use Rattle.swap_joint.specs.Stored.{Joined, AllJoined, JoinedOwing}
use Rattle.swap_joint.proofs.Harbors.{harbor_meaning}
use Rattle.swap_joint.proofs.Lenders.{lenders_keep}
use Rattle.swap_joint.proofs.Facts.{still_all}
use Rattle.swap_joint.proofs.Sights.{leases_answered, sees_enter, sees_give, sees_fault, sees_other, sees_parts, sees_itself, still_same, still_set, still_arrives, still_reads}
use Rattle.swap_joint.proofs.Serves.{joined_given, joined_hosted, joined_cut, joined_crashed}
use Rattle.swap_joint.proofs.Hears.{clear_of}
use Rattle.swap_joint.specs.Sends.{IsTaken, FindsUp}
use Rattle.swap_joint.proofs.Joins.{ServesAt, not_down, all_but, joins_alone, others_through, joins_through, joins_lost, joins_down}
use Rattle.swap_joint.proofs.Sends.{sent_joins, said_joins, raised_joins, raised_up}
use Rattle.swap_joint.proofs.Takes.{taken_nothing, heard_joins}

-- what came back from the disk changes no entry that a call keeps
wrote_sees : (l : Lender) (d : Device) (p : Page) (copy : Option Copy) (ok : Bool) → SeesSame l d (device.wrote_after d p copy ok).0
wrote_sees l d p None ok = sees_itself l d
wrote_sees l d p (Some copy) true = sees_other l d (record d { queue = queue.done_after d.queue p }) refl refl refl (still_same l d)
wrote_sees l d p (Some copy) false =
    sees_other l d (record d { queue = queue.failed_after d.queue p; failed_writes = d.failed_writes + 1 }) refl refl refl (still_same l d)

took_sees : (l : Lender) (d : Device) (w : DiskWhich) (p : Page) (ok : Bool) (bytes : List ℕ) → SeesSame l d (device.took_after d w p ok bytes).0
took_sees l d (which.Write q) p ok bytes = wrote_sees l d p (queue.flying d.queue p) ok
took_sees l d (which.Read c) p true bytes =
    sees_other l d (record d { calls = calls.came_after d.calls c bytes }) refl refl refl
    (still_all d.calls (calls.came_after d.calls c bytes) (ring_of d.remote.links l) (still_arrives arrived.Came bytes d.calls c))
took_sees l d (which.Read c) p false bytes =
    sees_other l d (record d { calls = calls.failed_after d.calls c; failed_reads = d.failed_reads + 1 }) refl refl refl
    (still_all d.calls (calls.failed_after d.calls c) (ring_of d.remote.links l) (still_arrives arrived.Failed [] d.calls c))

back_sees : (l : Lender) (d : Device) (taken : Option Taken) → SeesSame l d (device.took_back d taken).0
back_sees l d None = sees_itself l d
back_sees l d (Some t) = took_sees l d t.done.which t.done.page t.done.ok t.bytes

-- what the device is where a send finds its link down
base_sees : (W : Within) (d : Device) (l m : Lender) (q : Parcel) (e base : Device) → Sends W d m q e base → SeesSame l d base
base_sees W d l m q e base (write {c = c} {p = p} {bytes = bytes} outs is) = sees_enter l d c p bytes
base_sees W d l m q e base (read ins within is none at) = sees_itself l d
base_sees W d l m q e base (borrow within may) = sees_itself l d
base_sees W d l m q e base (query within may) = sees_itself l d
base_sees W d l m q e base (query_too within state other may) = sees_itself l d

module _ {D : Type 0} (disk : DiskMeaning D) (follows : FollowsItsMoves disk) (laws : Promises harbor_meaning) (T : Bool) (o : FabricOf)
    (far_may : Lender → Type 0) (bytes_may : List ℕ → Type 0) where
  abbrev pub There : Within
  There = of_sizes o.sizes o.lenders far_may bytes_may

  -- device and ports agree; and each lender is sound, and joined with its link
  abbrev pub Agrees : Speaker → D → Harbor → Type 0
  Agrees = keep.Agrees disk follows harbor_meaning laws T o far_may bytes_may

  abbrev pub JoinedAt : Speaker → D → Harbor → Type 0
  JoinedAt x k h = AreSound h × JoinedOwing o.lenders x.device h x.owed

  abbrev Agree : Device → D → Harbor → Type 0
  Agree = keep.Agree disk follows harbor_meaning laws T o far_may bytes_may

  pub serves_at : (d : Device) (k : D) (h : Harbor) → Agree d k h → ServesAt o.lenders d h
  serves_at d k h agree = subst (λ (x : FabricOf). ServesAt x.lenders d h) agree.is agree.fits.serves

  -- the far side moves
  far_joins :
      (d : Device) (k : D) (f g : Harbor) (c : FabricCall) (r : FabricAnswer c) → IsFar There c → Agree d k f → AreSound f → AllJoined o.lenders d f
      → harbor.Moves f c r g → AllJoined o.lenders d g
  far_joins d k f g c r (far_give {l = l} may) agree whole all moved =
      joins_through o.lenders d d f g (Give l) r moved (λ m other. sees_itself m d) (all_but l o.lenders d f all)
      (λ within up.
      joined_given d.sizes d.history d.calls d.remote.slabs d.remote.bits (ring_of d.remote.links l) l (channel_of f l)
      (all l within up) moved.0.channel.sound (whole.whole l moved.0.range)
      (clear_of (KeepsAt f) (OwesAt f) d.sizes o.lenders d.history d.calls d.remote l (serves_at d k f agree)))
  far_joins d k f g c r (far_cut {l = l} {a = a} {b = b} may) agree whole all moved =
      joins_through o.lenders d d f g (Cut l a b) r moved (λ m other. sees_itself m d) (all_but l o.lenders d f all)
      (λ within up. joined_cut d.sizes d.history d.calls d.remote.slabs d.remote.bits (ring_of d.remote.links l) l (channel_of f l) a b (all l within up))
  far_joins d k f g c r (far_crash {l = l} may) agree whole all moved =
      joins_through o.lenders d d f g (Crash l) r moved (λ m other. sees_itself m d) (all_but l o.lenders d f all)
      (λ within up. joined_crashed d.sizes d.history d.calls d.remote.slabs d.remote.bits (ring_of d.remote.links l) l (channel_of f l) (all l within up))
  far_joins d k f g c r (far_host {l = l} {used = used} {word = word} may) agree whole all moved =
      joins_through o.lenders d d f g (Host l used word) r moved (λ m other. sees_itself m d) (all_but l o.lenders d f all)
      (λ within up.
      joined_hosted d.sizes d.history d.calls d.remote.slabs d.remote.bits (ring_of d.remote.links l) l (channel_of f l) used word (all l within up))

  alone : (d d' : Device) (f : Harbor) → ((l : Lender) → SeesSame l d d') → AreSound f × AllJoined o.lenders d f → AreSound f × AllJoined o.lenders d' f
  alone d d' f sees h = (h.0, joins_alone o.lenders d d' f sees h.1)

  whole_on : (f g : Harbor) (c : FabricCall) (r : FabricAnswer c) → harbor.Moves f c r g → AreSound f → AreSound g
  whole_on f g c r moved sound = lenders_keep.sound f c r g moved sound

  pub each_joins : EachKeepsWhere disk.moves harbor.Moves (Move There) Agrees JoinedAt
  each_joins x asked y k k' f f' (enters {d = d} {c = c} {p = p} {bytes = bytes} outs) stay agree h =
      alone d (enter_entry d c p bytes) f (λ l. sees_enter l d c p bytes) h
  each_joins x asked y k k' f f' (gives {d = d} {c = c} {p = p} {named = named} {from = from} {bytes = bytes} given) stay agree h =
      alone d (give d c p named from bytes) f (λ l. sees_give l d c p named from bytes) h
  each_joins x asked y k k' f f' (faults {d = d} {c = c} {p = p} {k = kind} {since = since} {at = at} {bytes = bytes} fails) stay agree h =
      alone d (fault d c p kind since at bytes) f (λ l. sees_fault l d c p kind since at bytes) h
  each_joins x asked y k k' f f' (waits_for_room {d = d} c p bytes e within hands) stay agree h =
      alone d (wait_for_room d c p bytes) f
      (λ l.
      sees_other l d (wait_for_room d c p bytes) refl refl refl
      (still_all d.calls (wait_for_room d c p bytes).calls (ring_of d.remote.links l)
      (still_set d.calls c (record { state = Room p d.failed_writes; bytes = bytes }) (λ e is. cc))))
      h
  each_joins x asked y k k' f f' (rates_change {d = d} rates) stay agree h =
      alone d (record d { rates = rates }) f (λ l. sees_other l d (record d { rates = rates }) refl refl refl (still_same l d)) h
  each_joins x asked y k k' f f' (lets_go {d = d} l within up) stay agree h = (h.0, joins_lost o.lenders d f l (all_but l o.lenders d f h.1))
  each_joins x asked y k k' f f' (gives_up {d = d} l t off asks) stay agree h =
      alone d (record d { remote = remote.gone_after d.remote l t }) f
      (λ m.
      sees_parts m d (slabs.answered_after d.remote.slabs t l reply.Gone) d.remote.links d.calls d.links_made
      (leases_answered m l d.remote.slabs t reply.Gone) refl (still_same m d))
      h
  each_joins x asked y k k' f f' (starts {d = d} el ec) (by_disk moved) agree h =
      alone d (record d { queue = queue.start d.queue }) f (λ l. sees_other l d (record d { queue = queue.start d.queue }) refl refl refl (still_same l d)) h
  each_joins x asked y k k' f f' (waits_for_disk {d = d} {c = c} {p = p} {n = e} ins within is none) (by_disk moved) agree h =
      alone d (wait_for_disk d c p e) f
      (λ l.
      sees_other l d (wait_for_disk d c p e) refl refl refl
      (still_reads d.sizes d.history d.calls d.remote.slabs l c p e via.Disk d.failed_reads (ring_of d.remote.links l) (ins_wait There d c p ins).1
      ((serves_at d k f agree).link l).awaited))
      h
  each_joins x asked y k k' f f' (takes {d = d} {taken = taken}) (by_disk moved) agree h = alone d (device.took_back d taken).0 f (λ l. back_sees l d taken) h
  each_joins x asked y k k' f f' (lets_finish {d = d}) (by_disk moved) agree h = h
  each_joins x asked y k k' f f' (sends {d = d} {e = e} {base = base} {l = l} {q = q} one) (by_fabric moved) agree h =
      (whole_on f f' (Send l q) sent_is.Sent moved h.0, sent_joins There o.lenders d f f' l q e base one (serves_at d k f agree) h.1 moved)
  each_joins x asked y k k' f f' (finds_down {d = d} {e = e} {base = base} {l = l} {q = q} one) (by_fabric moved) agree h = (
    whole_on f f' (Send l q) sent_is.Down moved h.0,
    joins_down o.lenders base f f' (Send l q) sent_is.Down moved
        (all_but l o.lenders base f (joins_alone o.lenders d base f (λ m. base_sees There d m l q e base one) h.1)),
  )
  each_joins x asked y k k' f f' (raises {d = d} {l = l} {r = r} within off) (by_fabric moved) agree h = (
    whole_on f f' (Connect l (next_link d)) r moved h.0,
    (raised_joins o.lenders d f f' l r (serves_at d k f agree) h.1 within off moved, raised_up o.lenders d f l (serves_at d k f agree) within, λ j e. cc),
  )
  each_joins x asked y k k' f f' (speaks {d = d} {l = l} {q = q} word) (by_fabric moved) agree h =
      (whole_on f f' (Send l q) sent_is.Sent moved h.0, said_joins o.lenders d f f' l q word h.1.0 h.1.2 moved)
  each_joins x asked y k k' f f' (speaks_to_nobody {d = d} {l = l} {q = q} word) (by_fabric moved) agree h =
      (whole_on f f' (Send l q) sent_is.Down moved h.0, joins_down o.lenders d f f' (Send l q) sent_is.Down moved (all_but l o.lenders d f h.1.0))
  each_joins x asked y k k' f f' (hears {d = d} {h = heard} {l = l} {q = q} up one) (by_fabric moved) agree h =
      (whole_on f f' (Take l) (Brought q) moved h.0, heard_joins o.lenders d f f' l q h.1 (serves_at d k f agree) up moved heard one)
  each_joins x asked y k k' f f' (hears_nothing {d = d} {l = l} up) (by_fabric moved) agree h = (
    whole_on f f' (Take l) NothingCame moved h.0,
    joins_through o.lenders d d f f' (Take l) NothingCame moved (λ m other. sees_itself m d) (all_but l o.lenders d f h.1)
        (λ within up. subst (λ ch. Joined d l ch) (sym (taken_nothing (channel_of f l) (ap (λ (x : Handed × Harbor). x.0) moved.1))) (h.1 l within up)),
  )
  each_joins x asked y k k' f f' (loses {d = d} {l = l} up) (by_fabric moved) agree h =
      (whole_on f f' (Take l) LinkLost moved h.0, joins_down o.lenders d f f' (Take l) LinkLost moved (all_but l o.lenders d f h.1))
  each_joins x asked y k k' f f' (misunderstands {d = d} {l = l} {q = q} up) (by_fabric moved) agree h = (
    whole_on f f' (Take l) (Brought q) moved h.0,
    others_through o.lenders d d f f' (Take l) (Brought q) moved (λ m other. sees_itself m d) (all_but l o.lenders d f h.1),
  )
  each_joins x asked y k k' f f' (breaks_off {d = d} {l = l} {r = r}) (by_fabric moved) agree h =
      (whole_on f f' (End l) r moved h.0, joins_down o.lenders d f f' (End l) r moved h.1)
  each_joins x asked y k k' f f' (far {d = d} {c = c} {r = r} one) (by_fabric moved) agree h =
      (whole_on f f' c r moved h.0, far_joins d k f f' c r one agree h.0 h.1 moved)

  -- no send finds a link down
  pub present_at :
      (d : Device) (k : D) (f : Harbor) (l : Lender) → Agree d k f → AllJoined o.lenders d f → is_up d.remote.links l ≡ true
      → (channel_of f l).device_gone ≡ false
  present_at d k f l agree all up = (all l (((serves_at d k f agree).link l).lender up) up).present

  pub each_finds_up :
      (x : Speaker) (asked : Asked) (y : Speaker) (k k' : D) (f f' : Harbor) → Move There x asked y → PortsGo disk.moves harbor.Moves asked k f k' f'
      → Agrees x k f × JoinedAt x k f → FindsUp asked
  each_finds_up x asked y k k' f f' (enters outs) stay h = tt
  each_finds_up x asked y k k' f f' (gives given) stay h = tt
  each_finds_up x asked y k k' f f' (faults fails) stay h = tt
  each_finds_up x asked y k k' f f' (waits_for_room c p bytes e within hands) stay h = tt
  each_finds_up x asked y k k' f f' (rates_change rates) stay h = tt
  each_finds_up x asked y k k' f f' (lets_go l within up) stay h = tt
  each_finds_up x asked y k k' f f' (gives_up l t off asks) stay h = tt
  each_finds_up x asked y k k' f f' (starts el ec) (by_disk moved) h = tt
  each_finds_up x asked y k k' f f' (waits_for_disk ins within is none) (by_disk moved) h = tt
  each_finds_up x asked y k k' f f' takes (by_disk moved) h = tt
  each_finds_up x asked y k k' f f' lets_finish (by_disk moved) h = tt
  each_finds_up x asked y k k' f f' (sends one) (by_fabric moved) h = refl
  each_finds_up x asked y k k' f f' (finds_down {d = d} {e = e} {base = base} {l = l} {q = q} one) (by_fabric moved) h =
      absurd (not_down (channel_of f l) q (present_at d k f l h.0 h.1.1 (keep.sends_up There d l q e base one)) (ap (λ (x : Sent × Harbor). x.0) moved.1))
  each_finds_up x asked y k k' f f' (raises within off) (by_fabric moved) h = tt
  each_finds_up x asked y k k' f f' (speaks word) (by_fabric moved) h = refl
  each_finds_up x asked y k k' f f' (speaks_to_nobody {d = d} {l = l} {q = q} word) (by_fabric moved) h =
      absurd (not_down (channel_of f l) q (present_at d k f l h.0.0 h.1.1.0 h.1.1.1) (ap (λ (x : Sent × Harbor). x.0) moved.1))
  each_finds_up x asked y k k' f f' (hears up one) (by_fabric moved) h = tt
  each_finds_up x asked y k k' f f' (hears_nothing up) (by_fabric moved) h = tt
  each_finds_up x asked y k k' f f' (loses up) (by_fabric moved) h = tt
  each_finds_up x asked y k k' f f' (misunderstands up) (by_fabric moved) h = tt
  each_finds_up x asked y k k' f f' breaks_off (by_fabric moved) h = tt
  each_finds_up x asked y k k' f f' (far {c = c} {r = r} one) (by_fabric moved) h = far_taken c r one
    where
      far_taken : (c : FabricCall) (r : FabricAnswer c) → IsFar There c → IsTaken c r
      far_taken c r (far_give may) = tt
      far_taken c r (far_cut may) = tt
      far_taken c r (far_crash may) = tt
      far_taken c r (far_host may) = tt
