-- The moves of a device: what one call of a disk or of a fabric, with its answer, makes of it, and what it does by
-- itself.
-- Each has for its premises what the program has tested by then.
use Rattle.std.specs.Prelude.{◌≡◌, ℕ, ◌<◌, Bool, true, false, ◌==◌, nat_lt, List, [], ◌∷◌, length, Option, None, Some}
use Rattle.swap_base.specs.declared.Page.{Page}
use Rattle.swap_base.specs.declared.Caller.{Caller}
use Rattle.swap_base.specs.declared.EntryNo.{EntryNo}
use Rattle.swap_base.specs.declared.Slab.{Slab}
use Rattle.swap_base.specs.declared.Lender.{Lender}
use Rattle.swap_base.specs.declared.Lease.{Lease}
use Rattle.swap_base.specs.declared.Origin.{Origin}
use Rattle.swap_base.specs.declared.Origin.TheVariants as origin
use Rattle.swap_base.specs.declared.Via.{Via}
use Rattle.swap_base.specs.declared.CallKind.{CallKind}
use Rattle.swap_base.specs.declared.CallKind.TheVariants as kind
use Rattle.swap_base.specs.declared.DiskWhich.{DiskWhich}
use Rattle.swap_base.specs.Sizes.{Sizes, pages_of, place_of, zeros}
use Rattle.swap_record.specs.History.{next_name, last}
use Rattle.swap_queue.specs.Queue as queue
use Rattle.swap_queue.specs.Queue.{Copy}
use Rattle.swap_disk.specs.Disk.{Taken}
use Rattle.swap_disk.specs.Port.{DiskAnswer, StartWrite, StartRead, TakeDone, LetFinish}
use Rattle.swap_wire.specs.declared.Msg.TheVariants as msg
use Rattle.swap_wire.specs.declared.fabric.Sent.TheVariants as sent
use Rattle.swap_wire.specs.Fabric.{Parcel, parcel_of, write_parcel, read_parcel, Brought, NothingCame, LinkLost, FabricCall, FabricAnswer, Connect, Send, Take, End, Give, Cut, Crash, Host}
use Rattle.swap_calls.specs.Calls as calls
use Rattle.swap_calls.specs.Calls.{state_of, call_of, is_idle, may_read}
use Rattle.swap_calls.specs.declared.Arrived.{Arrived}
use Rattle.swap_calls.specs.declared.Arrived.TheVariants as arrived
use Rattle.swap_calls.specs.declared.CallState.TheVariants.{Room, Reading}
use Rattle.swap_slabs.specs.Slabs as slabs
use Rattle.swap_slabs.specs.declared.Reply.TheVariants as reply
use Rattle.swap_slabs.specs.declared.SlabState.TheVariants.{Asking}
use Rattle.swap_activity.specs.Rates.{Activity}
use Rattle.swap_rates.specs.Table as rates
use Rattle.swap_rings.specs.Rings.{is_up, ring_of, link_of, may_send}
use Rattle.swap_rings.specs.declared.Request.{Request}
use Rattle.swap_rings.specs.declared.Request.TheVariants as request
use Rattle.swap_remote.specs.Remote as remote
use Rattle.swap_remote.specs.Remote.{target}
use Rattle.swap_table.specs.Device.{Device, enter_entry, give, fault, lost_after, wait_for_room, wait_for_disk, write_sent, read_sent, source, origin_of, took_back, Heard, heard_only, done_word, settled_word, chosen_for, is_newest, query_reply, borrow_reply, write_reply, read_reply, rate_asked, taken_back, may_map, raised_after, next_link, hello}
use Rattle.swap_table.specs.Goes.{Asked, Nothing, OfDisk, OfFabric}

-- what a device has made up its mind to do next on a link: to send a message, or to end the link
pub data Owed : Type 0 where
  Says : Lender → Parcel → Owed
  Ends : Lender → Owed

-- a device with what it owes
pub record Speaker : Type 0 where
  pub device : Device
  pub owed : List Owed

abbrev pub quiet_speaker : Device → Speaker
quiet_speaker d = record { device = d; owed = [] }

-- one that owes a word on a link, where there is one to say
abbrev pub words : Lender → Option Parcel → List Owed
words l None = []
words l (Some q) = Says l q ∷ []

abbrev pub owing : Heard → Lender → Speaker
owing h l = record { device = h.device; owed = words l h.word }

-- what callers may name and hand in
pub record Within : Type 1 where
  pub page : Page → Type 0
  pub caller : Caller → Type 0
  pub slab : Slab → Type 0
  pub lender : Lender → Type 0
  pub far : Lender → Type 0
  pub bytes : List ℕ → Type 0

-- what there is, of these sizes and so many lenders; and anything
abbrev pub of_sizes : Sizes → ℕ → (Lender → Type 0) → (List ℕ → Type 0) → Within
of_sizes s lenders far may =
    record {
      page = λ p. p.0 < pages_of s;
      caller = λ c. c.0 < s.callers;
      slab = λ t. t.0 < s.slabs;
      lender = λ l. l.0 < lenders;
      far = far;
      bytes = may;
    }

abbrev pub within_any : Within
within_any =
    record {
      page = λ p. Unit {0};
      caller = λ c. Unit {0};
      slab = λ t. Unit {0};
      lender = λ l. Unit {0};
      far = λ l. Unit {0};
      bytes = λ b. Unit {0};
    }

-- a page-out is accepted: of an idle caller that hands in a page that it may, or of one that waited for room
pub data Outs (W : Within) (d : Device) (c : Caller) (p : Page) : List ℕ → Type 0 where
  new_out : {bytes : List ℕ} → is_idle (state_of d.calls c) ≡ true → W.page p → W.bytes bytes → Outs W d c p bytes
  late_out : {since : ℕ} → state_of d.calls c ≡ Room p since → Outs W d c p (call_of d.calls c).bytes

-- a page is read: for an idle caller, or anew for one whose read has an answer
pub data Ins (W : Within) (d : Device) (c : Caller) (p : Page) : Type 0 where
  new_in : is_idle (state_of d.calls c) ≡ true → W.page p → Ins W d c p
  late_in :
      {n : EntryNo} {v : Via} {how : Arrived} {newer : Bool} {since : ℕ}
      → state_of d.calls c ≡ Reading p n v how newer since → may_read (Reading p n v how newer since) ≡ true
      → Ins W d c p

-- what a page-in gives: zeros, the queue's newest copy, or what its read brought
pub data Gives (W : Within) (d : Device) (c : Caller) (p : Page) : Option EntryNo → Origin → List ℕ → Type 0 where
  zero : Ins W d c p → last d.history p ≡ None → Gives W d c p None origin.Zero (zeros d.sizes)
  copied :
      {n : EntryNo} {copy : Copy} → Ins W d c p → last d.history p ≡ Some n → queue.newest d.queue p ≡ Some copy
      → Gives W d c p (Some n) origin.Queue copy.bytes
  came :
      {n : EntryNo} {v : Via} {since : ℕ} → state_of d.calls c ≡ Reading p n v arrived.Came false since
      → Gives W d c p (Some n) (origin_of v) (call_of d.calls c).bytes

-- a call fails: no room came, but a failed write; or its read failed
pub data Faults (d : Device) (c : Caller) (p : Page) : CallKind → ℕ → ℕ → List ℕ → Type 0 where
  full :
      {since : ℕ} → state_of d.calls c ≡ Room p since → nat_lt since d.failed_writes ≡ true
      → Faults d c p kind.PageOut since d.failed_writes (call_of d.calls c).bytes
  unread :
      {n : EntryNo} {v : Via} {since : ℕ} → state_of d.calls c ≡ Reading p n v arrived.Failed false since
      → Faults d c p kind.PageIn since d.failed_reads (zeros d.sizes)

-- a slab that a caller names, or one that there is
pub data Finds (W : Within) (d : Device) (t : Slab) : Type 0 where
  told : W.slab t → Finds W d t
  there : t.0 < length d.remote.slabs → Finds W d t

-- what is sent to a lender; what the device is once it's sent, and what it is but for the link where the link is down
pub data Sends (W : Within) (d : Device) (l : Lender) : Parcel → Device → Device → Type 0 where
  write :
      {c : Caller} {p : Page} {k : Lease} {bytes : List ℕ} → Outs W d c p bytes
      → target d.sizes d.remote p ≡ Some (l, k)
      → Sends W d l (write_parcel k (place_of d.sizes p.0) bytes)
      (write_sent (enter_entry d c p bytes) l p (next_name d.history)) (enter_entry d c p bytes)
  read :
      {c : Caller} {p : Page} {k : Lease} {n : EntryNo} → Ins W d c p → W.caller c → last d.history p ≡ Some n
      → queue.newest d.queue p ≡ None → source d p ≡ Some (l, k)
      → Sends W d l (read_parcel k (place_of d.sizes p.0)) (read_sent d l c p n) d
  borrow :
      {t : Slab} → Finds W d t → may_map d t l ≡ true
      → Sends W d l (parcel_of (msg.Borrow t) []) (record d { remote = remote.borrow_sent d.remote t l }) d
  query :
      {t : Slab} → t.0 < length d.remote.slabs → may_map d t l ≡ true
      → Sends W d l (parcel_of (msg.Query t) []) (record d { remote = remote.query_sent d.remote t None l }) d
  query_too :
      {t : Slab} {m : Lender} → t.0 < length d.remote.slabs
      → slabs.state_of d.remote.slabs t ≡ Asking (slabs.pair_of m None) → (m.0 ≡ l.0 → ⊥)
      → may_send d.sizes.window (link_of d.remote.links l) ≡ true
      → Sends W d l (parcel_of (msg.Query t) []) (record d { remote = remote.query_sent d.remote t (Some m) l }) d

-- what a message makes of the device: one that answers the oldest request of its link, or asks for a rate, or takes a
-- slab back
pub data Hears (d : Device) (l : Lender) (q : Parcel) : Heard → Type 0 where
  roomy :
      {t u : Slab} {free : ℕ} {rest : List Request} → ring_of d.remote.links l ≡ request.Query t ∷ rest
      → query_reply q.msg ≡ Some (u, free) → (u.0 == t.0) ≡ true
      → Hears d l q
      (record {
        device = record d { remote = remote.told_after d.remote l t free };
        word = None;
        choice = chosen_for t (slabs.answer_choice (slabs.state_of d.remote.slabs t) l (reply.Free free));
      })
  lent :
      {t u : Slab} {k : Lease} {rest : List Request} → ring_of d.remote.links l ≡ request.Borrow t ∷ rest
      → borrow_reply q.msg ≡ Some (u, Some k) → (u.0 == t.0) ≡ true → slabs.by_lease d.remote.slabs l k ≡ None
      → Hears d l q (heard_only (record d { remote = remote.lent_after d.remote l t k }))
  refused :
      {t u : Slab} {rest : List Request} → ring_of d.remote.links l ≡ request.Borrow t ∷ rest
      → borrow_reply q.msg ≡ Some (u, None) → (u.0 == t.0) ≡ true
      → Hears d l q (heard_only (record d { remote = remote.refused_after d.remote l t }))
  written :
      {p : Page} {e : EntryNo} {at : Lease × ℕ} {rest : List Request}
      → ring_of d.remote.links l ≡ request.Write p e ∷ rest → write_reply q.msg ≡ Some at
      → remote.names_page d.sizes d.remote l p at.0 at.1 ≡ true
      → Hears d l q
      (record {
        device = record d { remote = remote.written_after d.sizes d.remote l p (is_newest (last d.history p) e) };
        word = settled_word d p;
        choice = None;
      })
  brought :
      {c : Caller} {p : Page} {at : Lease × ℕ} {rest : List Request}
      → ring_of d.remote.links l ≡ request.Read c p ∷ rest
      → read_reply q.msg ≡ Some at → remote.names_page d.sizes d.remote l p at.0 at.1 ≡ true
      → Hears d l q
      (record {
        device =
            record d { remote = remote.settled_for d.sizes d.remote l p; calls = calls.came_after d.calls c q.page };
        word = settled_word d p;
        choice = None;
      })
  asked_rate :
      {t : Slab} {k : Lease} → rate_asked q.msg ≡ Some k → remote.mapped_by d.remote.slabs l k ≡ Some t
      → Hears d l q
      (record { device = d; word = Some (parcel_of (msg.Rates k (rates.value_of d.rates t)) []); choice = None })
  told_to_go : {t : Slab} {k : Lease} → taken_back q.msg ≡ Some k → remote.mapped_by d.remote.slabs l k ≡ Some t
      → Hears d l q
      (record {
        device = record d { remote = remote.evicted_after d.sizes d.remote t };
        word = done_word (slabs.evicted_lease (slabs.state_of d.remote.slabs t));
        choice = None;
      })

-- what a device says beside its requests: a greeting, a rate, and a lease that it gives back
pub data IsWord (d : Device) : Parcel → Type 0 where
  greeting : IsWord d (hello d.sizes)
  rating : (k : Lease) (value : ℕ) → IsWord d (parcel_of (msg.Rates k value) [])
  giving_back : (k : Lease) → IsWord d (parcel_of (msg.Done k) [])

-- a call that moves the far side alone
pub data IsFar (W : Within) : FabricCall → Type 0 where
  far_give : {l : Lender} → W.far l → IsFar W (Give l)
  far_cut : {l : Lender} {a b : ℕ} → W.far l → IsFar W (Cut l a b)
  far_crash : {l : Lender} → W.far l → IsFar W (Crash l)
  far_host : {l : Lender} {used word : ℕ} → W.far l → IsFar W (Host l used word)

-- the moves of a device
pub data Move (W : Within) : Speaker → Asked → Speaker → Type 0 where
  enters :
      {d : Device} {c : Caller} {p : Page} {bytes : List ℕ} → Outs W d c p bytes
      → Move W (quiet_speaker d) Nothing (quiet_speaker (enter_entry d c p bytes))
  gives :
      {d : Device} {c : Caller} {p : Page} {named : Option EntryNo} {from : Origin} {bytes : List ℕ}
      → Gives W d c p named from bytes → Move W (quiet_speaker d) Nothing (quiet_speaker (give d c p named from bytes))
  faults :
      {d : Device} {c : Caller} {p : Page} {k : CallKind} {since at : ℕ} {bytes : List ℕ}
      → Faults d c p k since at bytes
      → Move W (quiet_speaker d) Nothing (quiet_speaker (fault d c p k since at bytes))
  waits_for_room :
      {d : Device} (c : Caller) (p : Page) (bytes : List ℕ) → is_idle (state_of d.calls c) ≡ true → W.page p
      → W.bytes bytes → Move W (quiet_speaker d) Nothing (quiet_speaker (wait_for_room d c p bytes))
  rates_change : {d : Device} (rates : List Activity)
      → Move W (quiet_speaker d) Nothing (quiet_speaker (record d { rates = rates }))
  lets_go :
      {d : Device} (l : Lender) → W.lender l → is_up d.remote.links l ≡ true
      → Move W (quiet_speaker d) Nothing (quiet_speaker (lost_after d l))
  gives_up :
      {d : Device} (l : Lender) (t : Slab) → is_up d.remote.links l ≡ false
      → slabs.asks l (slabs.state_of d.remote.slabs t) ≡ true
      → Move W (quiet_speaker d) Nothing (quiet_speaker (record d { remote = remote.gone_after d.remote l t }))
  -- with the disk
  starts :
      {d : Device} {p : Page} {line : List Page} {copy : Copy} {r : DiskAnswer (StartWrite p copy.bytes)}
      → d.queue.line ≡ p ∷ line → queue.next_copy d.queue p ≡ Some copy
      → Move W (quiet_speaker d) (OfDisk (StartWrite p copy.bytes) r)
      (quiet_speaker (record d { queue = queue.start d.queue }))
  waits_for_disk :
      {d : Device} {c : Caller} {p : Page} {n : EntryNo} {r : DiskAnswer (StartRead c p)} → Ins W d c p → W.caller c
      → last d.history p ≡ Some n → queue.newest d.queue p ≡ None
      → Move W (quiet_speaker d) (OfDisk (StartRead c p) r) (quiet_speaker (wait_for_disk d c p n))
  takes : {d : Device} {taken : Option Taken}
      → Move W (quiet_speaker d) (OfDisk TakeDone taken) (quiet_speaker (took_back d taken).0)
  lets_finish :
      {d : Device} {w : DiskWhich} {ok done : Bool}
      → Move W (quiet_speaker d) (OfDisk (LetFinish w ok) done) (quiet_speaker d)
  -- with the fabric
  sends :
      {d e base : Device} {l : Lender} {q : Parcel} → Sends W d l q e base
      → Move W (quiet_speaker d) (OfFabric (Send l q) sent.Sent) (quiet_speaker e)
  finds_down :
      {d e base : Device} {l : Lender} {q : Parcel} → Sends W d l q e base
      → Move W (quiet_speaker d) (OfFabric (Send l q) sent.Down) (quiet_speaker (lost_after base l))
  raises :
      {d : Device} {l : Lender} {r : FabricAnswer (Connect l (next_link d))} → W.lender l
      → is_up d.remote.links l ≡ false
      → Move W (quiet_speaker d) (OfFabric (Connect l (next_link d)) r)
      (record { device = raised_after d l; owed = Says l (hello d.sizes) ∷ [] })
  speaks :
      {d : Device} {l : Lender} {q : Parcel} → IsWord d q
      → Move W (record { device = d; owed = Says l q ∷ [] }) (OfFabric (Send l q) sent.Sent) (quiet_speaker d)
  speaks_to_nobody :
      {d : Device} {l : Lender} {q : Parcel} → IsWord d q
      → Move W (record { device = d; owed = Says l q ∷ [] }) (OfFabric (Send l q) sent.Down)
      (quiet_speaker (lost_after d l))
  hears :
      {d : Device} {h : Heard} {l : Lender} {q : Parcel} → is_up d.remote.links l ≡ true → Hears d l q h
      → Move W (quiet_speaker d) (OfFabric (Take l) (Brought q)) (owing h l)
  hears_nothing :
      {d : Device} {l : Lender} → is_up d.remote.links l ≡ true
      → Move W (quiet_speaker d) (OfFabric (Take l) NothingCame) (quiet_speaker d)
  loses :
      {d : Device} {l : Lender} → is_up d.remote.links l ≡ true
      → Move W (quiet_speaker d) (OfFabric (Take l) LinkLost) (quiet_speaker (lost_after d l))
  misunderstands :
      {d : Device} {l : Lender} {q : Parcel} → is_up d.remote.links l ≡ true
      → Move W (quiet_speaker d) (OfFabric (Take l) (Brought q)) (record { device = d; owed = Ends l ∷ [] })
  breaks_off :
      {d : Device} {l : Lender} {r : FabricAnswer (End l)}
      → Move W (record { device = d; owed = Ends l ∷ [] }) (OfFabric (End l) r) (quiet_speaker (lost_after d l))
  far : {d : Device} {c : FabricCall} {r : FabricAnswer c} → IsFar W c
      → Move W (quiet_speaker d) (OfFabric c r) (quiet_speaker d)
