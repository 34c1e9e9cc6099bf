-- Each move keeps what a device and its ports agree on.
use Rattle.std.proofs.Common.{◌≡◌, ℕ, ◌+◌, ◌<◌, Bool, true, false, cond, ◌&&◌, List, [], ◌∷◌, length, refl, sym, ap, ◌∙◌, subst, arith, MatchOption, Option, None, Some}
use Rattle.std.proofs.lemmas.Bool.{ltb-true, eq-eqb}
use Rattle.std.specs.List.{AllByRecursion}
use Rattle.swap_base.specs.declared.Page.{Page}
use Rattle.swap_base.specs.declared.Caller.{Caller}
use Rattle.swap_base.specs.declared.Slab.{Slab}
use Rattle.swap_base.specs.declared.Lender.{Lender}
use Rattle.swap_base.specs.declared.Lease.{Lease}
use Rattle.swap_base.specs.declared.EntryNo.{EntryNo}
use Rattle.swap_base.specs.declared.Origin.{Origin}
use Rattle.swap_base.specs.declared.Origin.TheVariants as origin
use Rattle.swap_base.specs.declared.Via.TheVariants as via
use Rattle.swap_base.specs.declared.CallKind.{CallKind}
use Rattle.swap_base.specs.declared.DiskWhich.{DiskWhich}
use Rattle.swap_base.specs.declared.DiskWhich.TheVariants as which
use Rattle.swap_base.specs.Sizes.{Sizes, pages_of, place_of, zeros}
use Rattle.swap_record.specs.History.{History, array, last, next_name, row_of}
use Rattle.swap_record.specs.declared.Op.TheVariants as op
use Rattle.swap_queue.specs.Queue as queue
use Rattle.swap_queue.specs.Queue.{Queue, Copy}
use Rattle.swap_disk.specs.declared.DiskDone.{DiskDone}
use Rattle.swap_disk.specs.Disk.{Flight, Read, Write, Taken, which_of}
use Rattle.swap_disk.specs.Port.{Port, StartWrite, StartRead, TakeDone, LetFinish, Takes}
use Rattle.swap_wire.specs.declared.Msg.{Msg}
use Rattle.swap_wire.specs.declared.Msg.TheVariants as msg
use Rattle.swap_activity.specs.Rates.{Activity}
use Rattle.swap_remote.specs.lemmas.Cleared.{evicted_bit, length-evicted}
use Rattle.swap_wire.specs.declared.fabric.Sent.TheVariants as sent
use Rattle.swap_wire.specs.Fabric.{Parcel, parcel_of, Brought, FabricCall, Send, Take, FabricAnswer, FabricOf, ends_keeping, changes_owing, lends, is_page, is_read, replaces}
use Rattle.swap_calls.specs.Calls as calls
use Rattle.swap_calls.specs.Calls.{Call, Calls, state_of, call_of, idle_call, is_idle}
use Rattle.swap_calls.specs.declared.Arrived.TheVariants as arrived
use Rattle.swap_calls.specs.declared.CallState.{CallState}
use Rattle.swap_calls.specs.declared.CallState.TheVariants.{Idle, Room, Reading}
use Rattle.swap_slabs.specs.Slabs as slabs
use Rattle.swap_slabs.specs.declared.SlabState.{SlabState}
use Rattle.swap_slabs.specs.declared.SlabState.TheVariants.{Local, Asking, Borrowing, Mapped, Draining}
use Rattle.swap_base.specs.declared.TheConstants.{MOST_LENDERS}
use Rattle.swap_rings.specs.Rings.{link_of, ring_of, is_up, may_send}
use Rattle.swap_rings.specs.declared.Request.{Request}
use Rattle.swap_rings.specs.declared.Request.TheVariants as request
use Rattle.swap_remote.specs.Remote as remote
use Rattle.swap_remote.specs.Remote.{Remote, has_page, target}
use Rattle.swap_table.specs.Device.{Device, of_device, enter_entry, give, fault, lost_after, wait_for_room, wait_for_disk, source, origin_of, wrote_after, took_after, took_back, raised_after, next_link, Heard, done_word, is_newest}
use Rattle.swap_table.specs.Fits.{KeepsNewest, IsBlock, block_in, WaitsFor, IsExpected, IsFair, FitsDisk}
use Rattle.swap_table.specs.Serves.{Keeping, Owing, IsOutIn, bytes_in, WaitsFrom, IsAwaited, MayPrecede, OwesReads, Serves}
use Rattle.swap_table.specs.Promises.{FollowsItsMoves, Promises}
use Rattle.swap_disk.specs.declared.port.DiskPort.{Ghosts as DiskMeaning}
use Rattle.swap_wire.specs.declared.fabric.Fabric.{Ghosts as FabricMeaning}
use Rattle.swap_base.proofs.Lists.{All-get_or, All-implies}
use Rattle.swap_table.proofs.HistoryStaysOrdered.{call_keeps, from_via}
use Rattle.swap_table.proofs.HistoryAgreement.{found}
use Rattle.swap_table.proofs.CallsKeepDiskAgreement.{array-none, enter_fits, give_fits, fault_fits, room_wait_fits, disk_wait_fits, start_fits, took_back_fits, took_back_of, lets_finish_fits}
use Rattle.swap_table.proofs.EntriesStay.{out_within, named_last}
use Rattle.swap_table.proofs.SendsKeepServing.{pages_some}
use Rattle.swap_table.proofs.RequestsKeepServing.{OwesOthers, call_serves, write_sent_serves, read_sent_serves}
use Rattle.swap_table.proofs.LendingKeepsSlabs.{borrow_sent_serves, lent_serves, refused_serves}
use Rattle.swap_table.proofs.AskingKeepsSlabs.{query_sent_serves, query_too_serves, told_serves, gone_serves}
use Rattle.swap_table.proofs.EvictionKeepsSlabs.{evicted_serves, given_serves, settled_free, evicted_free, mapped_by_is, asks_within}
use Rattle.swap_table.proofs.AnswersKeepServing.{owes_first, written_serves, brought_serves}
use Rattle.swap_table.proofs.LossKeepsServing.{KeepsOthers, all_serves, lost_serves, raised_serves}
use Rattle.swap_table.proofs.DiskAgreementLeft.{cleared_here, waits_not, remote_disk, rates_disk, read_sent_disk, brought_disk, lost_disk, enter_serves, give_serves, fault_serves}
use Rattle.swap_table.proofs.PromisesKept as promised
use Rattle.swap_table.proofs.WaitsStay.{WaitsForNone, may_read_waits, room_waits, waits_none, Target, target_is, may_send_is}
use Rattle.swap_table.specs.Goes.{stay, by_disk, by_fabric, EachKeeps}
use Rattle.swap_table.specs.Moves.{Within, of_sizes, Speaker, Owed, Says, Ends, words, owing, Outs, new_out, late_out, Ins, new_in, late_in, Gives, zero, copied, came, Faults, full, unread, Finds, told, there, Sends, write, read, borrow, query, query_too, Hears, roomy, lent, refused, written, brought, asked_rate, told_to_go, IsWord, greeting, rating, giving_back, IsFar, far_give, far_cut, far_crash, far_host, Move, enters, gives, faults, waits_for_room, rates_change, lets_go, gives_up, starts, waits_for_disk, takes, lets_finish, sends, finds_down, raises, speaks, speaks_to_nobody, hears, hears_nothing, loses, misunderstands, breaks_off, far}
use Rattle.swap_base.proofs.Bools.{and_parts}

-- a caller whose call may go on waits for nothing
idle_is : (state : CallState) → is_idle state ≡ true → state ≡ Idle
idle_is Idle e = refl
idle_is (Room p since) e = cc
idle_is (Reading p n v how newer since) e = cc

idle_waits : (cs : Calls) (c : Caller) → is_idle (state_of cs c) ≡ true → WaitsForNone cs c
idle_waits cs c e = waits_none cs c Idle (idle_is (state_of cs c) e) ((λ r w. w), (λ m q w. w))

outs_wait : (W : Within) (d : Device) (c : Caller) (p : Page) (bytes : List ℕ) → Outs W d c p bytes → WaitsForNone d.calls c
outs_wait W d c p bytes (new_out e within hands) = idle_waits d.calls c e
outs_wait W d c p bytes (late_out {since = since} is) = waits_none d.calls c (Room p since) is (room_waits p since)

pub ins_wait : (W : Within) (d : Device) (c : Caller) (p : Page) → Ins W d c p → WaitsForNone d.calls c
ins_wait W d c p (new_in e within) = idle_waits d.calls c e
ins_wait W d c p (late_in {n = n} {v = v} {how = how} {newer = newer} {since = since} is may) =
    waits_none d.calls c (Reading p n v how newer since) is (may_read_waits (Reading p n v how newer since) may)

-- a new write comes after the writes under way
new_last :
    (s : Sizes) (H : History) (cs : Calls) (states : List SlabState) (l : Lender) (p : Page) (y : Request) → IsAwaited s H cs states l y
    → MayPrecede y (request.Write p (next_name H))
new_last s H cs states l p (request.Query t) a = tt
new_last s H cs states l p (request.Borrow t) a = tt
new_last s H cs states l p (request.Write q e) a = λ same. out_within H q e a.2
new_last s H cs states l p (request.Read c q) a = tt

pub local_is : (state : SlabState) → slabs.is_local state ≡ true → state ≡ Local
local_is Local e = refl
local_is (Asking pair) e = cc
local_is (Borrowing l) e = cc
local_is (Mapped l k f) e = cc
local_is (Draining l k f) e = cc

source_is : (d : Device) (p : Page) (a : Lender × Lease) → source d p ≡ Some a → (has_page d.remote p ≡ true) × Target d.sizes d.remote p a
source_is d p a e = go (has_page d.remote p) refl e
  where
    go : (b : Bool) → has_page d.remote p ≡ b → cond b (target d.sizes d.remote p) None ≡ Some a → (has_page d.remote p ≡ true) × Target d.sizes d.remote p a
    go true is e = (is, target_is d.sizes d.remote p a e)
    go false is e = cc

-- what is sent goes on a link that is up
pub sends_up : (W : Within) (d : Device) (l : Lender) (q : Parcel) (e base : Device) → Sends W d l q e base → is_up d.remote.links l ≡ true
sends_up W d l q e base (write {p = p} {k = j} outs is) = (target_is d.sizes d.remote p (l, j) is).up
sends_up W d l q e base (read {p = p} {k = j} ins within is none at) = (source_is d p (l, j) at).1.up
sends_up W d l q e base (borrow {t = t} within open_) =
    (may_send_is d.sizes.window (link_of d.remote.links l) (and_parts (slabs.is_local (slabs.state_of d.remote.slabs t)) _ open_).1).0
sends_up W d l q e base (query {t = t} within open_) =
    (may_send_is d.sizes.window (link_of d.remote.links l) (and_parts (slabs.is_local (slabs.state_of d.remote.slabs t)) _ open_).1).0
sends_up W d l q e base (query_too within state other open_) = (may_send_is d.sizes.window (link_of d.remote.links l) open_).0

-- a lease is given back that no slab of the lender has
abbrev pub MaySay : Device → Lender → Msg → Type 0
MaySay d l (msg.Done k) = slabs.by_lease d.remote.slabs l k ≡ None
MaySay d l _ = Unit {0}

pub with_page_slabs : (b : Bool) (r : Remote) (p : Page) → (remote.with_page_if b r p).slabs ≡ r.slabs
with_page_slabs true r p = refl
with_page_slabs false r p = refl

-- what came back from the disk changes no call that waits for a lender
read_waits :
    (T : Bool) (N C : ℕ) (q : Queue) (cs : Calls) (flight : Flight) (c : Caller) → IsExpected T N C q cs flight → which_of flight ≡ which.Read c
    → (m : Lender) (r : Page) → WaitsFrom m r (state_of cs c) → ⊥
read_waits T N C q cs (Write p bytes) c w e m r h = cc
read_waits T N C q cs (Read b p) c w e m r h =
    let same : b ≡ c = cc in waits_not m r p (state_of cs c) h (subst (λ (x : Caller). WaitsFor p (state_of cs x)) same w.2)

-- what device and disk, and device and fabric, agree on
pub record Meets (told : Bool) (answers : List ℕ → List ℕ → Type 0) (keeps : Keeping) (owes : Owing) (d : Device) (p : Port) : Type 0 where
  pub disk : FitsDisk told answers d p
  pub serves : Serves keeps owes d.sizes d.lenders d.history d.calls d.remote

module _ {D F : Type 0} (disk : DiskMeaning D) (follows : FollowsItsMoves disk) (fabric : FabricMeaning F) (laws : Promises fabric) (T : Bool) (o : FabricOf)
    (far_may : Lender → Type 0) (bytes_may : List ℕ → Type 0) where
  -- what there is
  abbrev pub There : Within
  There = of_sizes o.sizes o.lenders far_may bytes_may

  -- device and ports agree; while the device is about to end a link, they did before the take, and but for this link
  -- nothing has changed since
  pub record Agree (d : Device) (k : D) (f : F) : Type 0 where
    pub fits : Meets T fabric.answers (fabric.keeps f) (fabric.owes f) d (disk.means k)
    pub is : of_device d ≡ o
    pub of_f : fabric.of f ≡ o

  pub record AgreeBut (l : Lender) (d : Device) (k : D) (f : F) : Type 0 where
    pub before : F
    pub agree : Agree d k before
    pub up : is_up d.remote.links l ≡ true
    pub kept : KeepsOthers l (fabric.keeps before) (fabric.keeps f)
    pub owed : OwesOthers l (fabric.owes before) (fabric.owes f)
    pub of_f : fabric.of f ≡ o

  abbrev pub AgreeOwing : List Owed → Device → D → F → Type 0
  AgreeOwing [] d k f = Agree d k f
  AgreeOwing (Says l q ∷ owed) d k f = Agree d k f × (l.0 < d.lenders) × MaySay d l q.msg
  AgreeOwing (Ends l ∷ owed) d k f = AgreeBut l d k f

  abbrev pub Agrees : Speaker → D → F → Type 0
  Agrees x k f = AgreeOwing x.owed x.device k f

  sized : (P : Sizes → Type 0) (d : Device) (k : D) (f : F) → Agree d k f → P o.sizes → P d.sizes
  sized P d k f h p = subst (λ x. P x.sizes) (sym h.is) p

  -- a page that a call is for
  fair_of :
      (d : Device) (k : D) (f : F) (c : Caller) → Agree d k f
      → IsFair T fabric.answers (pages_of d.sizes) (zeros d.sizes) d.history d.queue (call_of d.calls c).bytes (state_of d.calls c)
  fair_of d k f c h =
      All-get_or
      (λ (call : Call). IsFair T fabric.answers (pages_of d.sizes) (zeros d.sizes) d.history d.queue call.bytes call.state) d.calls c.0 idle_call
      h.fits.disk.agrees.fair tt

  fair_as :
      (d : Device) (k : D) (f : F) (c : Caller) (state : CallState) → Agree d k f → state_of d.calls c ≡ state
      → IsFair T fabric.answers (pages_of d.sizes) (zeros d.sizes) d.history d.queue (call_of d.calls c).bytes state
  fair_as d k f c state h is =
      let P : CallState → Type 0 = λ x. IsFair T fabric.answers (pages_of d.sizes) (zeros d.sizes) d.history d.queue (call_of d.calls c).bytes x in
      subst P is (fair_of d k f c h)

  newest_as :
      (d : Device) (k : D) (f : F) (c : Caller) (state : CallState) → Agree d k f → state_of d.calls c ≡ state → KeepsNewest d.history d.failed_reads state
  newest_as d k f c state h is = let P : CallState → Type 0 = λ x. KeepsNewest d.history d.failed_reads x in subst P is (call_keeps d c h.fits.disk.in_order)

  -- rates change
  rates_kept : (d : Device) (k : D) (f : F) (rates : List Activity) → Agree d k f → Agree (record d { rates = rates }) k f
  rates_kept d k f rates h =
      record { fits = record { disk = rates_disk T fabric.answers d (disk.means k) rates h.fits.disk; serves = h.fits.serves }; is = h.is; of_f = h.of_f }

  -- a slab that is named is one of the slabs
  finds_within : (d : Device) (k : D) (f : F) (t : Slab) → Agree d k f → Finds There d t → t.0 < d.sizes.slabs
  finds_within d k f t h (told within) = sized (λ z. t.0 < z.slabs) d k f h within
  finds_within d k f t h (there within) = subst (λ n. t.0 < n) h.fits.serves.slabs_len within

  outs_within : (d : Device) (k : D) (f : F) (c : Caller) (p : Page) (bytes : List ℕ) → Agree d k f → Outs There d c p bytes → p.0 < pages_of d.sizes
  outs_within d k f c p bytes h (new_out e within hands) = sized (λ z. p.0 < pages_of z) d k f h within
  outs_within d k f c p bytes h (late_out {since = since} is) = fair_as d k f c (Room p since) h is

  ins_within : (d : Device) (k : D) (f : F) (c : Caller) (p : Page) → Agree d k f → Ins There d c p → p.0 < pages_of d.sizes
  ins_within d k f c p h (new_in e within) = sized (λ z. p.0 < pages_of z) d k f h within
  ins_within d k f c p h (late_in {n = n} {v = v} {how = how} {newer = newer} {since = since} is may) = (fair_as d k f c (Reading p n v how newer since) h is).0

  -- what the device does by itself
  enter_kept : (d : Device) (k : D) (f : F) (c : Caller) (p : Page) (bytes : List ℕ) → Agree d k f → Outs There d c p bytes
      → Agree (enter_entry d c p bytes) k f
  enter_kept d k f c p bytes h outs =
      let idles = outs_wait There d c p bytes outs in
      record {
        fits =
            record {
              disk = enter_fits T fabric.answers d (disk.means k) c p bytes h.fits.disk idles.0 (outs_within d k f c p bytes h outs);
              serves = enter_serves (fabric.keeps f) (fabric.owes f) d.lenders d c p bytes idles.1 h.fits.serves;
            };
        is = h.is;
        of_f = h.of_f;
      }

  give_kept :
      (d : Device) (k : D) (f : F) (c : Caller) (p : Page) (named : Option EntryNo) (from : Origin) (bytes : List ℕ) → Agree d k f
      → Gives There d c p named from bytes → Agree (give d c p named from bytes) k f
  give_kept d k f c p None from bytes h (zero ins none) =
      let idles = ins_wait There d c p ins in
      record {
        fits =
            record {
              disk =
                  give_fits T fabric.answers d (disk.means k) c p None origin.Zero _ h.fits.disk idles.0 (sym none) refl
                  (sym (array-none (zeros d.sizes) d.history p none));
              serves = give_serves (fabric.keeps f) (fabric.owes f) d.lenders d c p None origin.Zero _ idles.1 h.fits.serves;
            };
        is = h.is;
        of_f = h.of_f;
      }
  give_kept d k f c p named from bytes h (copied {n = n} {copy = copy} ins is has) =
      let idles = ins_wait There d c p ins in
      let held =
      subst (λ x.
      MatchOption x (IsBlock (block_in (disk.means k).blocks p) (array (zeros d.sizes) d.history p))
      (λ (x : Copy). x.bytes ≡ array (zeros d.sizes) d.history p))
      has
      (h.fits.disk.agrees.held p (ins_within d k f c p h ins)) in
      record {
        fits =
            record {
              disk = give_fits T fabric.answers d (disk.means k) c p (Some n) origin.Queue copy.bytes h.fits.disk idles.0 (sym is) refl held;
              serves = give_serves (fabric.keeps f) (fabric.owes f) d.lenders d c p (Some n) origin.Queue copy.bytes idles.1 h.fits.serves;
            };
        is = h.is;
        of_f = h.of_f;
      }
  give_kept d k f c p named from bytes h (came {n = n} {v = v} {since = since} is) =
      let state : CallState = Reading p n v arrived.Came false since in
      let idles = waits_none d.calls c state is (may_read_waits state refl) in
      record {
        fits =
            record {
              disk =
                  give_fits T fabric.answers d (disk.means k) c p (Some n) (origin_of v) (call_of d.calls c).bytes h.fits.disk idles.0
                  (sym ((newest_as d k f c state h is).0 refl)) (from_via v) ((fair_as d k f c state h is).1 refl);
              serves = give_serves (fabric.keeps f) (fabric.owes f) d.lenders d c p (Some n) (origin_of v) (call_of d.calls c).bytes idles.1 h.fits.serves;
            };
        is = h.is;
        of_f = h.of_f;
      }

  fault_one :
      (d : Device) (k : D) (f : F) (c : Caller) (p : Page) (kind : CallKind) (since at : ℕ) (bytes : List ℕ) → Agree d k f → WaitsForNone d.calls c → since < at
      → Agree (fault d c p kind since at bytes) k f
  fault_one d k f c p kind since at bytes h idles less = record {
    fits =
        record {
          disk = fault_fits T fabric.answers d (disk.means k) c p kind since at bytes h.fits.disk idles.0 less;
          serves = fault_serves (fabric.keeps f) (fabric.owes f) d.lenders d c p kind since at bytes idles.1 h.fits.serves;
        };
    is = h.is;
    of_f = h.of_f;
  }

  fault_kept :
      (d : Device) (k : D) (f : F) (c : Caller) (p : Page) (kind : CallKind) (since at : ℕ) (bytes : List ℕ) → Agree d k f → Faults d c p kind since at bytes
      → Agree (fault d c p kind since at bytes) k f
  fault_kept d k f c p kind since at bytes h (full is less) =
      fault_one d k f c p kind since at bytes h (waits_none d.calls c (Room p since) is (room_waits p since)) (ltb-true since d.failed_writes less)
  fault_kept d k f c p kind since at bytes h (unread {n = n} {v = v} is) =
      let state : CallState = Reading p n v arrived.Failed false since in
      fault_one d k f c p kind since at bytes h (waits_none d.calls c state is (may_read_waits state refl)) (newest_as d k f c state h is).2

  room_wait_kept :
      (d : Device) (k : D) (f : F) (c : Caller) (p : Page) (bytes : List ℕ) → Agree d k f → is_idle (state_of d.calls c) ≡ true → There.page p
      → Agree (wait_for_room d c p bytes) k f
  room_wait_kept d k f c p bytes h e within =
      let idles = idle_waits d.calls c e in
      record {
        fits =
            record {
              disk = room_wait_fits T fabric.answers d (disk.means k) c p bytes h.fits.disk idles.0 (sized (λ z. p.0 < pages_of z) d k f h within);
              serves =
                  call_serves (fabric.keeps f) (fabric.owes f) d.sizes d.lenders d.history d.calls d.remote c
                  (record { state = Room p d.failed_writes; bytes = bytes }) idles.1 h.fits.serves;
            };
        is = h.is;
        of_f = h.of_f;
      }

  -- with the disk
  start_kept :
      (d : Device) (k k' : D) (f : F) (p : Page) (line : List Page) (copy : Copy) (r : Unit {0}) → Agree d k f → d.queue.line ≡ p ∷ line
      → queue.next_copy d.queue p ≡ Some copy → disk.moves k (StartWrite p copy.bytes) r k' → Agree (record d { queue = queue.start d.queue }) k' f
  start_kept d k k' f p line copy r h el ec moved = record {
    fits =
        record {
          disk =
              subst (λ q. FitsDisk T fabric.answers (record d { queue = queue.start d.queue }) q) (sym (follows k (StartWrite p copy.bytes) r k' moved))
              (start_fits T fabric.answers d (disk.means k) p line copy h.fits.disk el ec);
          serves = h.fits.serves;
        };
    is = h.is;
    of_f = h.of_f;
  }

  disk_wait_kept :
      (d : Device) (k k' : D) (f : F) (c : Caller) (p : Page) (n : EntryNo) (r : Unit {0}) → Agree d k f → Ins There d c p → There.caller c
      → last d.history p ≡ Some n → queue.newest d.queue p ≡ None → disk.moves k (StartRead c p) r k' → Agree (wait_for_disk d c p n) k' f
  disk_wait_kept d k k' f c p n r h ins within is none moved =
      let idles = ins_wait There d c p ins in
      record {
        fits =
            record {
              disk =
                  subst (λ q. FitsDisk T fabric.answers (wait_for_disk d c p n) q) (sym (follows k (StartRead c p) r k' moved))
                  (disk_wait_fits T fabric.answers d (disk.means k) c p n h.fits.disk idles.0 (sized (λ z. c.0 < z.callers) d k f h within)
                  (ins_within d k f c p h ins) is none);
              serves =
                  call_serves (fabric.keeps f) (fabric.owes f) d.sizes d.lenders d.history d.calls d.remote c
                  (record { state = Reading p n via.Disk arrived.Waiting false d.failed_reads; bytes = [] }) idles.1 h.fits.serves;
            };
        is = h.is;
        of_f = h.of_f;
      }

  wrote_serves : (d : Device) (f : F) (p : Page) (copy : Option Copy) (ok : Bool)
      → Serves (fabric.keeps f) (fabric.owes f) d.sizes d.lenders d.history d.calls d.remote → let e : Device = (wrote_after d p copy ok).0 in
      Serves (fabric.keeps f) (fabric.owes f) e.sizes e.lenders e.history e.calls e.remote
  wrote_serves d f p None ok h = h
  wrote_serves d f p (Some copy) true h = h
  wrote_serves d f p (Some copy) false h = h

  took_serves :
      (d : Device) (f : F) (w : DiskWhich) (p : Page) (ok : Bool) (bytes : List ℕ)
      → ((c : Caller) → w ≡ which.Read c → (m : Lender) (q : Page) → WaitsFrom m q (state_of d.calls c) → ⊥)
      → Serves (fabric.keeps f) (fabric.owes f) d.sizes d.lenders d.history d.calls d.remote
      → let e : Device = (took_after d w p ok bytes).0 in Serves (fabric.keeps f) (fabric.owes f) e.sizes e.lenders e.history e.calls e.remote
  took_serves d f (which.Write q) p ok bytes idles h = wrote_serves d f p (queue.flying d.queue p) ok h
  took_serves d f (which.Read c) p true bytes idles h =
      call_serves (fabric.keeps f) (fabric.owes f) d.sizes d.lenders d.history d.calls d.remote c
      (calls.arrives arrived.Came bytes (call_of d.calls c) (state_of d.calls c)) (idles c refl) h
  took_serves d f (which.Read c) p false bytes idles h =
      call_serves (fabric.keeps f) (fabric.owes f) d.sizes d.lenders d.history d.calls d.remote c
      (calls.arrives arrived.Failed [] (call_of d.calls c) (state_of d.calls c)) (idles c refl) h

  back_serves : (d : Device) (k k' : D) (f : F) (taken : Option Taken) → Agree d k f → Takes (disk.means k) taken (disk.means k')
      → let e : Device = (took_back d taken).0 in
      Serves (fabric.keeps f) (fabric.owes f) e.sizes e.lenders e.history e.calls e.remote
  back_serves d k k' f None h back = h.fits.serves
  back_serves d k k' f (Some t) h back =
      let is_which : t.done.which ≡ which_of back.flight = ap (λ (x : DiskDone). x.which) back.is in
      let expected : IsExpected T (pages_of d.sizes) d.sizes.callers d.queue d.calls back.flight =
      found (IsExpected T (pages_of d.sizes) d.sizes.callers d.queue d.calls) t.done.which
      (disk.means k).flights back.flight back.was h.fits.disk.agrees.expected in
      took_serves d f t.done.which t.done.page t.done.ok t.bytes
      (λ c e m q w. read_waits T (pages_of d.sizes) d.sizes.callers d.queue d.calls back.flight c expected (sym is_which ∙ e) m q w) h.fits.serves

  take_kept : (d : Device) (k k' : D) (f : F) (taken : Option Taken) → Agree d k f → disk.moves k TakeDone taken k' → Agree (took_back d taken).0 k' f
  take_kept d k k' f taken h moved =
      let g = follows k TakeDone taken k' moved in
      record {
        fits =
            record {
              disk = took_back_fits T fabric.answers d (disk.means k) (disk.means k') taken h.fits.disk g.0 g.1;
              serves = back_serves d k k' f taken h g.1;
            };
        is = took_back_of d taken ∙ h.is;
        of_f = h.of_f;
      }

  finish_kept : (d : Device) (k k' : D) (f : F) (w : DiskWhich) (ok done : Bool) → Agree d k f → disk.moves k (LetFinish w ok) done k' → Agree d k' f
  finish_kept d k k' f w ok done h moved =
      record {
        fits =
            record {
              disk = lets_finish_fits T fabric.answers d (disk.means k) (disk.means k') w ok done h.fits.disk (follows k (LetFinish w ok) done k' moved);
              serves = h.fits.serves;
            };
        is = h.is;
        of_f = h.of_f;
      }

  -- a link is lost
  few : (d : Device) (k : D) (f : F) (l : Lender) → Agree d k f → l.0 < d.lenders → l.0 < MOST_LENDERS
  few d k f l h less = let most = h.fits.serves.few in omega (arith, less, most)

  lost_kept :
      (d : Device) (k : D) (f g : F) (l : Lender) → Agree d k f → l.0 < d.lenders → KeepsOthers l (fabric.keeps f) (fabric.keeps g)
      → OwesOthers l (fabric.owes f) (fabric.owes g) → fabric.of g ≡ o → Agree (lost_after d l) k g
  lost_kept d k f g l h less kept owed of_g = record {
    fits =
        record {
          disk = lost_disk T fabric.answers d (disk.means k) l h.fits.disk;
          serves =
              lost_serves (fabric.keeps f) (fabric.keeps g) (fabric.owes f) (fabric.owes g) d.sizes d.lenders d.history d.calls d.remote l h.fits.serves
              (few d k f l h less) kept owed;
        };
    is = h.is;
    of_f = of_g;
  }

  -- of another fabric that keeps and owes as much
  fabric_kept :
      (d : Device) (k : D) (f g : F) (c : FabricCall) (r : FabricAnswer c) → Agree d k f → fabric.moves f c r g
      → ((m : Lender) (j : Lease) (i : ℕ) → ends_keeping m j i c r ≡ false) → ((m : Lender) → changes_owing m c r ≡ false) → Agree d k g
  fabric_kept d k f g c r h moved keeps_on owes_on = record {
    fits =
        record {
          disk = h.fits.disk;
          serves =
              all_serves (fabric.keeps f) (fabric.keeps g) (fabric.owes f) (fabric.owes g) d.sizes d.lenders d.history d.calls d.remote
              (promised.far_keeps fabric laws f c r g moved keeps_on) (promised.far_owes fabric laws f c r g moved owes_on) h.fits.serves;
        };
    is = h.is;
    of_f = laws.keep_of f c r g moved ∙ h.of_f;
  }

  -- a send
  base_kept : (d : Device) (k : D) (f : F) (l : Lender) (q : Parcel) (e base : Device) → Agree d k f → Sends There d l q e base → Agree base k f
  base_kept d k f l q e base h (write {c = c} {p = p} {bytes = bytes} outs is) = enter_kept d k f c p bytes h outs
  base_kept d k f l q e base h (read ins within is none at) = h
  base_kept d k f l q e base h (borrow within may) = h
  base_kept d k f l q e base h (query within may) = h
  base_kept d k f l q e base h (query_too within state other may) = h

  -- a slab that asks a lender whose link is down waits no more for it
  gone_kept :
      (d : Device) (k : D) (f : F) (l : Lender) (t : Slab) → Agree d k f → is_up d.remote.links l ≡ false
      → slabs.asks l (slabs.state_of d.remote.slabs t) ≡ true
      → Agree (record d { remote = remote.gone_after d.remote l t }) k f
  gone_kept d k f l t h off asks = record {
    fits =
        record {
          disk = remote_disk T fabric.answers d (disk.means k) (remote.gone_after d.remote l t) d.links_made h.fits.disk;
          serves =
              gone_serves (fabric.keeps f) (fabric.owes f) d.sizes d.lenders d.history d.calls d.remote l t h.fits.serves
              (subst (λ n. t.0 < n) h.fits.serves.slabs_len (asks_within d.remote.slabs l t asks)) off asks;
        };
    is = h.is;
    of_f = h.of_f;
  }

  sent_kept :
      (d : Device) (k : D) (f g : F) (l : Lender) (q : Parcel) (e base : Device) → Agree d k f → Sends There d l q e base
      → fabric.moves f (Send l q) sent.Sent g
      → Agree e k g
  sent_kept d k f g l q e base h (write {c = c} {p = p} {k = j} {bytes = bytes} outs is) moved =
      let x : Device = enter_entry d c p bytes in
      let entered : Agree x k f = enter_kept d k f c p bytes h outs in
      let t = target_is d.sizes d.remote p (l, j) is in
      let last_is = named_last d.history (row_of d.history c p op.PageOut bytes) in
      record {
        fits =
            record {
              disk =
                  remote_disk T fabric.answers x (disk.means k)
                  (remote.sent_for x.sizes x.remote l p (request.Write p (next_name d.history))) x.links_made entered.fits.disk;
              serves =
                  write_sent_serves (fabric.keeps f) (fabric.keeps g) (fabric.owes f)
                  (fabric.owes g) x.sizes d.lenders x.history x.calls x.remote l p j t.flying (next_name d.history) entered.fits.serves
                  (record { within = outs_within d k f c p bytes h outs; mapped = t.mapped; up = t.up }) (cleared_here d.remote.bits p.0)
                  (subst (λ o. IsOutIn p o) (sym last_is) (eq-eqb p.0 p.0 refl))
                  (All-implies (IsAwaited d.sizes d.history d.calls d.remote.slabs l) _ (ring_of d.remote.links l)
                  (λ y a. new_last d.sizes d.history d.calls d.remote.slabs l p y a) (h.fits.serves.link l).awaited)
                  (promised.write_keeps fabric laws f g l j (place_of d.sizes p.0) bytes moved)
                  (subst (λ b. fabric.keeps g l j (place_of d.sizes p.0) b) (sym (ap bytes_in last_is))
                  (laws.write_is_kept f l j (place_of d.sizes p.0) bytes g moved))
                  (promised.write_owes fabric laws f g l j (place_of d.sizes p.0) bytes moved);
            };
        is = h.is;
        of_f = laws.keep_of f _ _ g moved ∙ h.of_f;
      }
  sent_kept d k f g l q e base h (read {c = c} {p = p} {k = j} {n = n} ins within is none at) moved =
      let idles = ins_wait There d c p ins in
      let t = source_is d p (l, j) at in
      let pi = ins_within d k f c p h ins in
      record {
        fits =
            record {
              disk = read_sent_disk T fabric.answers d (disk.means k) l c p n h.fits.disk idles.0 pi is none;
              serves =
                  read_sent_serves (fabric.keeps f) (fabric.keeps g) (fabric.owes f)
                  (fabric.owes g) d.sizes d.lenders d.history d.calls d.remote l c p j t.1.flying n d.failed_reads h.fits.serves
                  (record { within = pi; mapped = t.1.mapped; up = t.1.up }) t.0 is (sized (λ z. c.0 < z.callers) d k f h within) idles.1
                  (promised.read_keeps fabric laws f g l j (place_of d.sizes p.0) moved)
                  (promised.read_owes fabric laws f g l j (place_of d.sizes p.0) moved)
                  (λ pages bytes owed kept. laws.read_is_owed f l j (place_of d.sizes p.0) bytes pages g moved owed kept);
            };
        is = h.is;
        of_f = laws.keep_of f _ _ g moved ∙ h.of_f;
      }
  sent_kept d k f g l q e base h (borrow {t = t} within may) moved =
      let parts = and_parts (slabs.is_local (slabs.state_of d.remote.slabs t)) (may_send d.sizes.window (link_of d.remote.links l)) may in
      record {
        fits =
            record {
              disk = remote_disk T fabric.answers d (disk.means k) (remote.borrow_sent d.remote t l) d.links_made h.fits.disk;
              serves =
                  borrow_sent_serves (fabric.keeps f) (fabric.keeps g) (fabric.owes f)
                  (fabric.owes g) d.sizes d.lenders d.history d.calls d.remote t l h.fits.serves (finds_within d k f t h within)
                  (local_is (slabs.state_of d.remote.slabs t) parts.0) (may_send_is d.sizes.window (link_of d.remote.links l) parts.1).0
                  (promised.other_keeps fabric laws f g l (parcel_of (msg.Borrow t) []) moved (λ j i. refl))
                  (promised.other_owes fabric laws f g l (parcel_of (msg.Borrow t) []) moved refl);
            };
        is = h.is;
        of_f = laws.keep_of f _ _ g moved ∙ h.of_f;
      }
  sent_kept d k f g l q e base h (query {t = t} within may) moved =
      let parts = and_parts (slabs.is_local (slabs.state_of d.remote.slabs t)) (may_send d.sizes.window (link_of d.remote.links l)) may in
      record {
        fits =
            record {
              disk = remote_disk T fabric.answers d (disk.means k) (remote.query_sent d.remote t None l) d.links_made h.fits.disk;
              serves =
                  query_sent_serves (fabric.keeps f) (fabric.keeps g) (fabric.owes f)
                  (fabric.owes g) d.sizes d.lenders d.history d.calls d.remote t l h.fits.serves (subst (λ n. t.0 < n) h.fits.serves.slabs_len within)
                  (local_is (slabs.state_of d.remote.slabs t) parts.0) (may_send_is d.sizes.window (link_of d.remote.links l) parts.1).0
                  (promised.other_keeps fabric laws f g l (parcel_of (msg.Query t) []) moved (λ j i. refl))
                  (promised.other_owes fabric laws f g l (parcel_of (msg.Query t) []) moved refl);
            };
        is = h.is;
        of_f = laws.keep_of f _ _ g moved ∙ h.of_f;
      }
  sent_kept d k f g l q e base h (query_too {t = t} {m = m} within state other may) moved = record {
    fits =
        record {
          disk = remote_disk T fabric.answers d (disk.means k) (remote.query_sent d.remote t (Some m) l) d.links_made h.fits.disk;
          serves =
              query_too_serves (fabric.keeps f) (fabric.keeps g) (fabric.owes f)
              (fabric.owes g) d.sizes d.lenders d.history d.calls d.remote t m l h.fits.serves
              (subst (λ n. t.0 < n) h.fits.serves.slabs_len within) state other (may_send_is d.sizes.window (link_of d.remote.links l) may).0
              (promised.other_keeps fabric laws f g l (parcel_of (msg.Query t) []) moved (λ j i. refl))
              (promised.other_owes fabric laws f g l (parcel_of (msg.Query t) []) moved refl);
        };
    is = h.is;
    of_f = laws.keep_of f _ _ g moved ∙ h.of_f;
  }

  -- a message that fabric.answers the oldest request
  -- a message that is brought and changes nothing that is kept
  taken_kept :
      (d : Device) (k : D) (f g : F) (l : Lender) (q : Parcel) → Agree d k f → fabric.moves f (Take l) (Brought q) g
      → ((m : Lease) → lends m q.msg ≡ false) × (is_page q.msg ≡ false) → Agree d k g
  taken_kept d k f g l q h moved none = record {
    fits =
        record {
          disk = h.fits.disk;
          serves =
              all_serves (fabric.keeps f) (fabric.keeps g) (fabric.owes f) (fabric.owes g) d.sizes d.lenders d.history d.calls d.remote
              (promised.took_keeps fabric laws f g l q moved none.0) (promised.took_owes fabric laws f g l q moved none.1) h.fits.serves;
        };
    is = h.is;
    of_f = laws.keep_of f _ _ g moved ∙ h.of_f;
  }

  pub up_below : (d : Device) (k : D) (f : F) (l : Lender) → Agree d k f → is_up d.remote.links l ≡ true → l.0 < d.lenders
  up_below d k f l h up = (h.fits.serves.link l).lender up

  -- a lease is given back, where there is one to give
  owing_done :
      (e : Device) (k : D) (g : F) (l : Lender) (lease : Option Lease) → Agree e k g → l.0 < e.lenders
      → ((j : Lease) → lease ≡ Some j → slabs.by_lease e.remote.slabs l j ≡ None) → AgreeOwing (words l (done_word lease)) e k g
  owing_done e k g l None h within free = h
  owing_done e k g l (Some j) h within free = (h, within, free j refl)

  -- a message that is heard
  heard_kept :
      (d : Device) (k : D) (f g : F) (l : Lender) (q : Parcel) (x : Heard) → Agree d k f → is_up d.remote.links l ≡ true → Hears d l q x
      → fabric.moves f (Take l) (Brought q) g → Agrees (owing x l) k g
  heard_kept d k f g l q x h up (roomy {t = t} {u = u} {free = free} {rest = rest} ring says same) moved =
      let r = promised.room_is q.msg (u, free) says in
      record {
        fits =
            record {
              disk = remote_disk T fabric.answers d (disk.means k) (remote.told_after d.remote l t free) d.links_made h.fits.disk;
              serves =
                  told_serves (fabric.keeps f) (fabric.keeps g) (fabric.owes f)
                  (fabric.owes g) d.sizes d.lenders d.history d.calls d.remote l t free rest h.fits.serves up ring
                  (promised.took_keeps fabric laws f g l q moved r.0) (promised.took_owes fabric laws f g l q moved r.1);
            };
        is = h.is;
        of_f = laws.keep_of f _ _ g moved ∙ h.of_f;
      }
  heard_kept d k f g l q x h up (lent {t = t} {u = u} {k = j} {rest = rest} ring says same none) moved =
      let r = promised.lent_is q.msg u j says in
      record {
        fits =
            record {
              disk = remote_disk T fabric.answers d (disk.means k) (remote.lent_after d.remote l t j) d.links_made h.fits.disk;
              serves =
                  lent_serves (fabric.keeps f) (fabric.keeps g) (fabric.owes f)
                  (fabric.owes g) d.sizes d.lenders d.history d.calls d.remote l t j rest h.fits.serves up ring none
                  (promised.lent_keeps fabric laws f g l q j moved r.0) (promised.took_owes fabric laws f g l q moved r.1);
            };
        is = h.is;
        of_f = laws.keep_of f _ _ g moved ∙ h.of_f;
      }
  heard_kept d k f g l q x h up (refused {t = t} {u = u} {rest = rest} ring says same) moved =
      let r = promised.refused_is q.msg u says in
      record {
        fits =
            record {
              disk = remote_disk T fabric.answers d (disk.means k) (remote.refused_after d.remote l t) d.links_made h.fits.disk;
              serves =
                  refused_serves (fabric.keeps f) (fabric.keeps g) (fabric.owes f)
                  (fabric.owes g) d.sizes d.lenders d.history d.calls d.remote l t rest h.fits.serves up ring
                  (promised.took_keeps fabric laws f g l q moved r.0) (promised.took_owes fabric laws f g l q moved r.1);
            };
        is = h.is;
        of_f = laws.keep_of f _ _ g moved ∙ h.of_f;
      }
  heard_kept d k f g l q x h up (written {p = p} {e = n} {at = at} {rest = rest} ring says named) moved =
      let r = promised.wrote_is q.msg at says in
      let after : Agree (record d { remote = remote.written_after d.sizes d.remote l p (is_newest (last d.history p) n) }) k g = record {
        fits =
            record {
              disk =
                  remote_disk T fabric.answers d (disk.means k) (remote.written_after d.sizes d.remote l p (is_newest (last d.history p) n)) d.links_made
                  h.fits.disk;
              serves =
                  written_serves (fabric.keeps f) (fabric.keeps g) (fabric.owes f)
                  (fabric.owes g) d.sizes d.lenders d.history d.calls d.remote l p n rest h.fits.serves up ring
                  (promised.took_keeps fabric laws f g l q moved r.0) (promised.took_owes fabric laws f g l q moved r.1);
            };
        is = h.is;
        of_f = laws.keep_of f _ _ g moved ∙ h.of_f;
      } in
      owing_done (record d { remote = remote.written_after d.sizes d.remote l p (is_newest (last d.history p) n) }) k g l
      (slabs.settled_lease (remote.state_for d.sizes d.remote.slabs p)) after (up_below d k f l h up)
      (λ lease gives.
      let awaited : AllByRecursion (IsAwaited d.sizes d.history d.calls d.remote.slabs l) (request.Write p n ∷ rest) =
      subst (λ ys. AllByRecursion (IsAwaited d.sizes d.history d.calls d.remote.slabs l) ys) ring (h.fits.serves.link l).awaited in
      ap (λ states. slabs.by_lease states l lease)
      (with_page_slabs (is_newest (last d.history p) n && slabs.is_mapped (remote.state_for d.sizes d.remote.slabs p))
      (remote.settled_for d.sizes d.remote l p) p)
      ∙ settled_free d.remote.slabs (remote.slab_for d.sizes p) l lease h.fits.serves.single awaited.0.1 gives)
  heard_kept d k f g l q x h up (brought {c = c} {p = p} {at = at} {rest = rest} ring says named) moved =
      let r = promised.page_is q.msg at says in
      let owed =
      owes_first (fabric.owes f) d.history d.calls l c p rest
      (subst (λ ys. OwesReads (fabric.owes f) d.history d.calls l ys) ring ((h.fits.serves.link l).owed up)) in
      let awaited : AllByRecursion (IsAwaited d.sizes d.history d.calls d.remote.slabs l) (request.Read c p ∷ rest) =
      subst (λ ys. AllByRecursion (IsAwaited d.sizes d.history d.calls d.remote.slabs l) ys) ring (h.fits.serves.link l).awaited in
      let after : Agree (record d { remote = remote.settled_for d.sizes d.remote l p; calls = calls.came_after d.calls c q.page }) k g = record {
        fits =
            record {
              disk =
                  brought_disk T fabric.answers d (disk.means k) l c p owed.page q.page (remote.settled_for d.sizes d.remote l p) h.fits.disk awaited.0.3
                  (laws.page_answers f l q g owed.page owed.more moved r.1 owed.owed) owed.content;
              serves =
                  brought_serves (fabric.keeps f) (fabric.keeps g) (fabric.owes f)
                  (fabric.owes g) d.sizes d.lenders d.history d.calls d.remote l c p q.page rest h.fits.serves up ring
                  (promised.took_keeps fabric laws f g l q moved r.0) (promised.page_owes fabric laws f g l q moved)
                  (λ page more was. laws.page_was_owed f l q g page more moved r.1 was);
            };
        is = h.is;
        of_f = laws.keep_of f _ _ g moved ∙ h.of_f;
      } in
      owing_done (record d { remote = remote.settled_for d.sizes d.remote l p; calls = calls.came_after d.calls c q.page }) k g l
      (slabs.settled_lease (remote.state_for d.sizes d.remote.slabs p)) after (up_below d k f l h up)
      (λ lease gives. settled_free d.remote.slabs (remote.slab_for d.sizes p) l lease h.fits.serves.single awaited.0.2 gives)
  heard_kept d k f g l q x h up (asked_rate {t = t} {k = j} says at) moved =
      let r = promised.rate_is q.msg j says in (taken_kept d k f g l q h moved r, up_below d k f l h up, tt)
  heard_kept d k f g l q x h up (told_to_go {t = t} {k = j} says at) moved =
      let r = promised.back_is q.msg j says in
      let m = mapped_by_is d.remote.slabs l j t at in
      let within : t.0 < d.sizes.slabs = subst (λ n. t.0 < n) h.fits.serves.slabs_len m.within in
      let some : (p : Page) → p.0 < pages_of d.sizes → 0 < d.sizes.pages_per_slab = λ p p_in. pages_some d.sizes p.0 p_in in
      let after : Agree (record d { remote = remote.evicted_after d.sizes d.remote t }) k g = record {
        fits =
            record {
              disk = remote_disk T fabric.answers d (disk.means k) (remote.evicted_after d.sizes d.remote t) d.links_made h.fits.disk;
              serves =
                  evicted_serves (fabric.keeps f) (fabric.keeps g) (fabric.owes f)
                  (fabric.owes g) d.sizes d.lenders d.history d.calls d.remote l t j m.flying h.fits.serves within m.is
                  (length-evicted d.sizes d.remote t within h.fits.serves.bits_len)
                  (λ p p_in. evicted_bit d.sizes d.remote t p.0 within h.fits.serves.bits_len (some p p_in)) (promised.took_keeps fabric laws f g l q moved r.0)
                  (promised.took_owes fabric laws f g l q moved r.1);
            };
        is = h.is;
        of_f = laws.keep_of f _ _ g moved ∙ h.of_f;
      } in
      owing_done (record d { remote = remote.evicted_after d.sizes d.remote t }) k g l (slabs.evicted_lease (slabs.state_of d.remote.slabs t)) after
      (up_below d k f l h up)
      (λ lease gives. evicted_free d.remote.slabs t l j lease m.flying h.fits.serves.single m.is gives)

  -- a word is said
  quiet_kept :
      (d : Device) (k : D) (f g : F) (l : Lender) (q : Parcel) → Agree d k f → ((j : Lease) (i : ℕ) → replaces j i q.msg ≡ false) → is_read q.msg ≡ false
      → fabric.moves f (Send l q) sent.Sent g → Agree d k g
  quiet_kept d k f g l q h keeps_on owes_on moved = record {
    fits =
        record {
          disk = h.fits.disk;
          serves =
              all_serves (fabric.keeps f) (fabric.keeps g) (fabric.owes f) (fabric.owes g) d.sizes d.lenders d.history d.calls d.remote
              (promised.other_keeps fabric laws f g l q moved keeps_on) (promised.other_owes fabric laws f g l q moved owes_on) h.fits.serves;
        };
    is = h.is;
    of_f = laws.keep_of f _ _ g moved ∙ h.of_f;
  }

  said_kept :
      (d : Device) (k : D) (f g : F) (l : Lender) (q : Parcel) → Agree d k f → IsWord d q → MaySay d l q.msg → fabric.moves f (Send l q) sent.Sent g
      → Agree d k g
  said_kept d k f g l q h greeting free moved = quiet_kept d k f g l q h (λ j i. refl) refl moved
  said_kept d k f g l q h (rating lease value) free moved = quiet_kept d k f g l q h (λ j i. refl) refl moved
  said_kept d k f g l q h (giving_back lease) free moved = record {
    fits =
        record {
          disk = h.fits.disk;
          serves =
              given_serves (fabric.keeps f) (fabric.keeps g) (fabric.owes f) (fabric.owes g) d.sizes d.lenders d.history d.calls d.remote l lease free
              (promised.done_keeps fabric laws f g l lease moved) (promised.other_owes fabric laws f g l q moved refl) h.fits.serves;
        };
    is = h.is;
    of_f = laws.keep_of f _ _ g moved ∙ h.of_f;
  }

  -- a link is made
  raised_kept :
      (d : Device) (k : D) (f g : F) (l : Lender) → Agree d k f → is_up d.remote.links l ≡ false → l.0 < d.lenders
      → fabric.moves f (FabricCall.Connect l (next_link d)) tt g → Agree (raised_after d l) k g
  raised_kept d k f g l h off within moved = record {
    fits =
        record {
          disk = remote_disk T fabric.answers d (disk.means k) (remote.raised_after d.remote l) (d.links_made + 1) h.fits.disk;
          serves =
              raised_serves (fabric.keeps f) (fabric.keeps g) (fabric.owes f)
              (fabric.owes g) d.sizes d.lenders d.history d.calls d.remote l h.fits.serves within off
              (promised.connect_keeps fabric laws f g l (next_link d) moved) (promised.connect_owes fabric laws f g l (next_link d) moved)
              (laws.new_link_owes_none f l (next_link d) g moved);
        };
    is = h.is;
    of_f = laws.keep_of f _ _ g moved ∙ h.of_f;
  }

  pub link_within : (d : Device) (k : D) (f : F) (l : Lender) → Agree d k f → is_up d.remote.links l ≡ true → l.0 < length d.remote.links
  link_within d k f l h up = subst (λ m. l.0 < m) (sym h.fits.serves.links_len) (few d k f l h (up_below d k f l h up))

  far_kept : (d : Device) (k : D) (f g : F) (c : FabricCall) (r : FabricAnswer c) → Agree d k f → IsFar There c → fabric.moves f c r g → Agree d k g
  far_kept d k f g c r h (far_give within) moved = fabric_kept d k f g c r h moved (λ m j i. refl) (λ m. refl)
  far_kept d k f g c r h (far_cut within) moved = fabric_kept d k f g c r h moved (λ m j i. refl) (λ m. refl)
  far_kept d k f g c r h (far_crash within) moved = fabric_kept d k f g c r h moved (λ m j i. refl) (λ m. refl)
  far_kept d k f g c r h (far_host within) moved = fabric_kept d k f g c r h moved (λ m j i. refl) (λ m. refl)

  -- each move
  pub each_keeps : EachKeeps disk.moves fabric.moves (Move There) Agrees
  each_keeps x asked y k k' f f' (enters {d = d} {c = c} {p = p} {bytes = bytes} outs) stay h = enter_kept d k f c p bytes h outs
  each_keeps x asked y k k' f f' (gives {d = d} {c = c} {p = p} {named = named} {from = from} {bytes = bytes} given) stay h =
      give_kept d k f c p named from bytes h given
  each_keeps x asked y k k' f f' (faults {d = d} {c = c} {p = p} {k = kind} {since = since} {at = at} {bytes = bytes} fails) stay h =
      fault_kept d k f c p kind since at bytes h fails
  each_keeps x asked y k k' f f' (waits_for_room {d = d} c p bytes e within hands) stay h = room_wait_kept d k f c p bytes h e within
  each_keeps x asked y k k' f f' (rates_change {d = d} rates) stay h = rates_kept d k f rates h
  each_keeps x asked y k k' f f' (lets_go {d = d} l within up) stay h =
      lost_kept d k f f l h (up_below d k f l h up) (λ m other j i b w. w) (λ m other pages w. w) h.of_f
  each_keeps x asked y k k' f f' (gives_up {d = d} l t off asks) stay h = gone_kept d k f l t h off asks
  each_keeps x asked y k k' f f' (starts {d = d} {p = p} {line = line} {copy = copy} {r = r} el ec) (by_disk moved) h =
      start_kept d k k' f p line copy r h el ec moved
  each_keeps x asked y k k' f f' (waits_for_disk {d = d} {c = c} {p = p} {n = n} {r = r} ins within is none) (by_disk moved) h =
      disk_wait_kept d k k' f c p n r h ins within is none moved
  each_keeps x asked y k k' f f' (takes {d = d} {taken = taken}) (by_disk moved) h = take_kept d k k' f taken h moved
  each_keeps x asked y k k' f f' (lets_finish {d = d} {w = w} {ok = ok} {done = done}) (by_disk moved) h = finish_kept d k k' f w ok done h moved
  each_keeps x asked y k k' f f' (sends {d = d} {e = e} {base = base} {l = l} {q = q} one) (by_fabric moved) h = sent_kept d k f f' l q e base h one moved
  each_keeps x asked y k k' f f' (finds_down {d = d} {e = e} {base = base} {l = l} {q = q} one) (by_fabric moved) h =
      let there = base_kept d k f l q e base h one in
      lost_kept base k f f' l there (subst (λ (x : FabricOf). l.0 < x.lenders) (h.is ∙ sym there.is) (up_below d k f l h (sends_up There d l q e base one)))
      (promised.down_keeps fabric laws f f' l q moved) (promised.down_owes fabric laws f f' l q moved) (laws.keep_of f _ _ f' moved ∙ h.of_f)
  each_keeps x asked y k k' f f' (raises {d = d} {l = l} within off) (by_fabric moved) h =
      let here : l.0 < d.lenders = subst (λ (x : FabricOf). l.0 < x.lenders) (sym h.is) within in (raised_kept d k f f' l h off here moved, here, tt)
  each_keeps x asked y k k' f f' (speaks {d = d} {l = l} {q = q} word) (by_fabric moved) h = said_kept d k f f' l q h.0 word h.2 moved
  each_keeps x asked y k k' f f' (speaks_to_nobody {d = d} {l = l} {q = q} word) (by_fabric moved) h =
      lost_kept d k f f' l h.0 h.1 (promised.down_keeps fabric laws f f' l q moved) (promised.down_owes fabric laws f f' l q moved)
      (laws.keep_of f _ _ f' moved ∙ h.0.of_f)
  each_keeps x asked y k k' f f' (hears {d = d} {h = heard} {l = l} {q = q} up one) (by_fabric moved) h = heard_kept d k f f' l q heard h up one moved
  each_keeps x asked y k k' f f' (hears_nothing {d = d} {l = l} up) (by_fabric moved) h = record {
    fits =
        record {
          disk = h.fits.disk;
          serves =
              all_serves (fabric.keeps f) (fabric.keeps f') (fabric.owes f) (fabric.owes f') d.sizes d.lenders d.history d.calls d.remote
              (promised.nothing_keeps fabric laws f f' l moved) (promised.nothing_owes fabric laws f f' l moved) h.fits.serves;
        };
    is = h.is;
    of_f = laws.keep_of f _ _ f' moved ∙ h.of_f;
  }
  each_keeps x asked y k k' f f' (loses {d = d} {l = l} up) (by_fabric moved) h =
      lost_kept d k f f' l h (up_below d k f l h up) (promised.loss_keeps fabric laws f f' l moved) (promised.loss_owes fabric laws f f' l moved)
      (laws.keep_of f _ _ f' moved ∙ h.of_f)
  each_keeps x asked y k k' f f' (misunderstands {d = d} {l = l} {q = q} up) (by_fabric moved) h =
      record {
        before = f;
        agree = h;
        up = up;
        kept = promised.brought_keeps fabric laws f f' l q moved;
        owed = promised.page_owes fabric laws f f' l q moved;
        of_f = laws.keep_of f _ _ f' moved ∙ h.of_f;
      }
  each_keeps x asked y k k' f f' (breaks_off {d = d} {l = l}) (by_fabric moved) h =
      lost_kept d k h.before f' l h.agree (up_below d k h.before l h.agree h.up)
      (λ m other j i b w. promised.end_keeps fabric laws f f' l moved m other j i b (h.kept m other j i b w))
      (λ m other pages w. promised.end_owes fabric laws f f' l moved m other pages (h.owed m other pages w)) (laws.keep_of f _ _ f' moved ∙ h.of_f)
  each_keeps x asked y k k' f f' (far {d = d} {c = c} {r = r} one) (by_fabric moved) h = far_kept d k f f' c r h one moved
