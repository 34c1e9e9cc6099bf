-- Over the disk and the lenders in memory each move asks only what may be asked, and keeps all that a sound world has: so
-- what each event keeps holds of every list of events.
use Rattle.std.proofs.Common.{◌≡◌, ℕ, ◌<◌, Bool, true, false, List, [], length, refl, sym, ap, ◌∙◌, subst, Option, None, Some, suc, ◌≤◌, ◌∷◌, ◌++◌, map, lit<}
use Rattle.std.specs.List.{AllByRecursion}
use Rattle.swap_base.specs.declared.Page.{Page}
use Rattle.swap_base.specs.declared.Caller.{Caller}
use Rattle.swap_base.specs.declared.Lender.{Lender}
use Rattle.swap_base.specs.declared.EntryNo.{EntryNo}
use Rattle.swap_base.specs.declared.Via.{Via}
use Rattle.swap_base.specs.declared.DiskWhich.{DiskWhich}
use Rattle.swap_base.specs.Sizes.{Sizes}
use Rattle.swap_queue.specs.Queue.{Copy}
use Rattle.swap_disk.specs.Disk.{Taken}
use Rattle.swap_disk.specs.Port.{DiskAnswer}
use Rattle.swap_disk.specs.MemDiskView.{MemDiskView, port_of, IsDrive, new_drive}
use Rattle.swap_wire.specs.Input.{Input, IsInRange}
use Rattle.swap_wire.specs.declared.Event.{Event}
use Rattle.swap_wire.specs.Fabric.{Parcel, FabricCall, FabricAnswer, FabricOf}
use Rattle.swap_link.specs.Harbor.{Harbor, of_harbor, lender_of, KeepsAt, OwesAt, new_channel}
use Rattle.swap_link.specs.Whole.{CallFits, IsHarbor}
use Rattle.swap_link.proofs.WholeLaws.{new_is_harbor}
use Rattle.swap_calls.specs.Calls.{Call, Calls, call_of, state_of, idle_call}
use Rattle.swap_calls.specs.declared.Arrived.{Arrived}
use Rattle.swap_calls.specs.declared.CallState.{CallState}
use Rattle.swap_calls.specs.declared.CallState.TheVariants.{Idle, Room, Reading}
use Rattle.swap_rings.specs.Rings.{is_up}
use Rattle.swap_table.specs.Device.{Device, Heard, lost_after, wrote_after, took_after, took_back}
use Rattle.swap_base.proofs.Lists.{All-set, All-get_or, All-map, All-replicate}
use Rattle.swap_world.specs.World.{World, Next, Planned, without_parts, next, next_by, next_plan, round_from, IsStep, IsEvent, start, new_harbor, reach, made_by}
use Rattle.swap_world.specs.Rounds.{Plan, Stop, Make, round_plan, is_part, AlongPlan, StepOf}
use Rattle.swap_world.proofs.RoundsKeepPlans.{bare, AreParts, round_parts, part_says}
use Rattle.swap_world.proofs.HistoryIsWhatWasSeen.{Gathers, AllTellNothing, part_tells}
use Rattle.swap_world.proofs.CountsStayTrue.{SaysLittle}
use Rattle.swap_table.specs.Comes.{ComesTo}
use Rattle.swap_slabs.specs.Slabs.{mapped_count}
use Rattle.swap_table.specs.Happens.{happens}
use Rattle.swap_world.specs.Runs.{IsPaged, IsInput}
use Rattle.swap_table.specs.Goes.{Asked, OfFabric, PortsGo, stay, EachKeeps, by_disk, by_fabric}
use Rattle.swap_table.specs.Moves.{Within, of_sizes, Speaker, quiet_speaker, Outs, new_out, late_out, Sends, write, read, borrow, query, query_too, Hears, roomy, lent, refused, written, brought, asked_rate, told_to_go, IsWord, greeting, rating, giving_back, IsFar, far_give, far_cut, far_crash, far_host, Move, enters, gives, faults, waits_for_room, rates_change, lets_go, gives_up, starts, waits_for_disk, takes, lets_finish, sends, finds_down, raises, speaks, speaks_to_nobody, hears, hears_nothing, loses, misunderstands, breaks_off, far}
use Rattle.swap_table.proofs.MovesKeepInvariants.{Goes-leads, Does, DoesOf, Leads-runs, Goes-went}
use Rattle.swap_table.proofs.EventsGoByMoves.{happens_fares, FaresTo}
use Rattle.swap_table.proofs.EventsComeToTheirEnds.{Hands, names_there}
use Rattle.swap_base.specs.declared.geometry.LenderSpec.{LenderSpec}
use Rattle.swap_wire.specs.declared.Seen.{Seen}
use Rattle.swap_base.specs.declared.TheConstants.{MOST_LENDERS}
use Rattle.swap_table.specs.Fits.{IsBlank, Fits}
use Rattle.swap_table.proofs.CallsKeepAgreement.{new_agrees}
use Rattle.swap_link.specs.lemmas.HarborLaws.{moves_keep_of}
use Rattle.swap_disk.specs.declared.port.DiskPort.{Ghosts as DiskMeaning}
use Rattle.swap_wire.specs.declared.fabric.Fabric.{Ghosts as FabricMeaning}
use Rattle.swap_table.specs.Promises.{Promises}
use Rattle.swap_world.proofs.EventsKeepWhatHolds.{Known, EachEventKeeps, step_comes}
use Rattle.swap_base.specs.declared.Via.TheVariants as via
use Rattle.swap_base.specs.declared.DiskWhich.TheVariants as which
use Rattle.swap_queue.specs.Queue as queue
use Rattle.swap_disk.specs.MemDiskView as drive
use Rattle.swap_disk.specs.lemmas.Follows as drives
use Rattle.swap_wire.specs.declared.Event.TheVariants as event
use Rattle.swap_link.specs.Harbor as harbor
use Rattle.swap_link.proofs.WholeLaws as whole
use Rattle.swap_calls.specs.Calls as calls
use Rattle.swap_calls.specs.declared.Arrived.TheVariants as arrived
use Rattle.swap_table.proofs.MovesKeepAgreement as keep
use Rattle.swap_table.proofs.AccountsKept as accounting
use Rattle.swap_link.specs.lemmas.HarborLaws as harbors
use Rattle.swap_link.specs.lemmas.HarborLaws as harbors

-- the disk and the lenders in memory, as ports
abbrev pub drive_meaning : DiskMeaning MemDiskView
drive_meaning = record { means = port_of; moves = drive.Moves }

abbrev pub harbor_meaning : FabricMeaning Harbor
harbor_meaning = record { of = of_harbor; moves = harbor.Moves; fresh = harbor.IsFresh; keeps = KeepsAt; owes = OwesAt; answers = λ page given. page ≡ given }

pub harbor_promises : Promises harbor_meaning
harbor_promises = record {
  fresh_is_of = λ h o f. f.is;
  keep_of = harbors.moves_keep_of;
  write_is_kept = harbors.write_is_kept;
  kept_until = harbors.kept_until;
  new_link_owes_none = harbors.new_link_owes_none;
  read_is_owed = harbors.read_is_owed;
  page_was_owed = harbors.page_was_owed;
  page_answers = harbors.page_answers;
  owed_until = harbors.owed_until;
}

-- a page-out that waits for room keeps a page of this length
abbrev pub RoomKeeps : ℕ → List ℕ → CallState → Type 0
RoomKeeps n bytes Idle = Unit {0}
RoomKeeps n bytes (Room page since) = length bytes ≡ n
RoomKeeps n bytes (Reading page newest via how newer since) = Unit {0}

abbrev pub RoomFits : ℕ → Call → Type 0
RoomFits n call = RoomKeeps n call.bytes call.state

abbrev pub RoomsOf : ℕ → Calls → Type 0
RoomsOf n cs = AllByRecursion (RoomFits n) cs

-- what the calls' changes leave
room_newer : (n : ℕ) (p : Page) (bytes : List ℕ) (state : CallState) → RoomKeeps n bytes state → RoomKeeps n bytes (calls.newer_if_reads p state)
room_newer n p bytes Idle h = tt
room_newer n p bytes (Room q since) h = h
room_newer n p bytes (Reading q m v how newer since) h = tt

room_lost : (n : ℕ) (l : Lender) (bytes : List ℕ) (state : CallState) → RoomKeeps n bytes state → RoomKeeps n bytes (calls.lost_if_through l state)
room_lost n l bytes Idle h = tt
room_lost n l bytes (Room q since) h = h
room_lost n l bytes (Reading q m via.Disk how newer since) h = tt
room_lost n l bytes (Reading q m (via.Lender o) arrived.Waiting newer since) h = tt
room_lost n l bytes (Reading q m (via.Lender o) arrived.Came newer since) h = tt
room_lost n l bytes (Reading q m (via.Lender o) arrived.Failed newer since) h = tt
room_lost n l bytes (Reading q m (via.Lender o) arrived.Lost newer since) h = tt

room_arrives : (n : ℕ) (how : Arrived) (bytes : List ℕ) (call : Call) (state : CallState) → RoomFits n call → RoomFits n (calls.arrives how bytes call state)
room_arrives n how bytes call Idle h = h
room_arrives n how bytes call (Room q since) h = h
room_arrives n how bytes call (Reading q m v arrived.Waiting newer since) h = tt
room_arrives n how bytes call (Reading q m v arrived.Came newer since) h = h
room_arrives n how bytes call (Reading q m v arrived.Failed newer since) h = h
room_arrives n how bytes call (Reading q m v arrived.Lost newer since) h = h

rooms_ended : (n : ℕ) (cs : Calls) (c : Caller) → RoomsOf n cs → RoomsOf n (calls.end_after cs c)
rooms_ended n cs c h = All-set (RoomFits n) cs c.0 idle_call h tt

rooms_paged_out : (n : ℕ) (cs : Calls) (p : Page) → RoomsOf n cs → RoomsOf n (calls.paged_out cs p)
rooms_paged_out n cs p h = All-map (RoomFits n) (RoomFits n) _ cs (λ call k. room_newer n p call.bytes call.state k) h

rooms_lost : (n : ℕ) (cs : Calls) (l : Lender) → RoomsOf n cs → RoomsOf n (calls.lost_after cs l)
rooms_lost n cs l h = All-map (RoomFits n) (RoomFits n) _ cs (λ call k. room_lost n l call.bytes call.state k) h

rooms_reads : (n : ℕ) (cs : Calls) (c : Caller) (p : Page) (m : EntryNo) (v : Via) (since : ℕ) → RoomsOf n cs → RoomsOf n (calls.reads cs c p m v since)
rooms_reads n cs c p m v since h = All-set (RoomFits n) cs c.0 (record { state = Reading p m v arrived.Waiting false since; bytes = [] }) h tt

rooms_arrives :
    (n : ℕ) (cs : Calls) (c : Caller) (how : Arrived) (bytes : List ℕ) → RoomsOf n cs
    → RoomsOf n (calls.with_call cs c (calls.arrives how bytes (call_of cs c) (state_of cs c)))
rooms_arrives n cs c how bytes h =
    All-set (RoomFits n) cs c.0 _ h (room_arrives n how bytes (call_of cs c) (state_of cs c) (All-get_or (RoomFits n) cs c.0 idle_call h tt))

rooms_wait :
    (n : ℕ) (cs : Calls) (c : Caller) (p : Page) (since : ℕ) (bytes : List ℕ) → length bytes ≡ n → RoomsOf n cs
    → RoomsOf n (calls.waits_for_room cs c p since bytes)
rooms_wait n cs c p since bytes e h = All-set (RoomFits n) cs c.0 (record { state = Room p since; bytes = bytes }) h e

wrote_rooms :
    (s : Sizes) (d : Device) (p : Page) (copy : Option Copy) (ok : Bool) → RoomsOf s.page_bytes d.calls → RoomsOf s.page_bytes (wrote_after d p copy ok).0.calls
wrote_rooms s d p None ok h = h
wrote_rooms s d p (Some copy) true h = h
wrote_rooms s d p (Some copy) false h = h

took_rooms :
    (s : Sizes) (d : Device) (w : DiskWhich) (p : Page) (ok : Bool) (bytes : List ℕ) → RoomsOf s.page_bytes d.calls
    → RoomsOf s.page_bytes (took_after d w p ok bytes).0.calls
took_rooms s d (which.Write q) p ok bytes h = wrote_rooms s d p (queue.flying d.queue p) ok h
took_rooms s d (which.Read c) p true bytes h = rooms_arrives s.page_bytes d.calls c arrived.Came bytes h
took_rooms s d (which.Read c) p false bytes h = rooms_arrives s.page_bytes d.calls c arrived.Failed [] h

took_back_rooms : (s : Sizes) (d : Device) (taken : Option Taken) → RoomsOf s.page_bytes d.calls → RoomsOf s.page_bytes (took_back d taken).0.calls
took_back_rooms s d None h = h
took_back_rooms s d (Some t) h = took_rooms s d t.done.which t.done.page t.done.ok t.bytes h

module _ (s : Sizes) (n : ℕ) where
  -- a page of these sizes
  abbrev pub Whole : List ℕ → Type 0
  Whole page = length page ≡ s.page_bytes

  abbrev pub Below : Lender → Type 0
  Below l = l.0 < n

  abbrev pub There : Within
  There = of_sizes s n Below Whole

  abbrev pub OfThese : FabricOf
  OfThese = record { sizes = s; lenders = n }

  abbrev pub Agrees : Speaker → MemDiskView → Harbor → Type 0
  Agrees = keep.Agrees drive_meaning drives.follows harbor_meaning harbor_promises true OfThese Below Whole

  abbrev pub Accounted : Device → MemDiskView → Type 0
  Accounted = accounting.AccountsOf drive_meaning drives.follows harbor_meaning harbor_promises true OfThese Below Whole

  abbrev pub RoomsFit : Device → Type 0
  RoomsFit d = RoomsOf s.page_bytes d.calls

  pub record SoundAt (x : Speaker) (k : MemDiskView) (h : Harbor) : Type 0 where
    pub agrees : Agrees x k h
    pub accounts : Accounted x.device k
    pub of : of_harbor h ≡ OfThese
    pub drive : IsDrive k
    pub harbor : IsHarbor h
    pub rooms : RoomsFit x.device

  -- a call that fits
  pub record Fitting (c : FabricCall) : Type 0 where
    pub page : CallFits s.page_bytes c
    pub lender : (lender_of c).0 < n

  outs_whole : (d : Device) (c : Caller) (p : Page) (bytes : List ℕ) → RoomsFit d → Outs There d c p bytes → Whole bytes
  outs_whole d c p bytes rooms (new_out e within hands) = hands
  outs_whole d c p bytes rooms (late_out {since = since} is) =
      let P : CallState → Type 0 = λ x. RoomKeeps s.page_bytes (call_of d.calls c).bytes x in
      subst P is (All-get_or (RoomFits s.page_bytes) d.calls c.0 idle_call rooms tt)

  below :
      (d : Device) (k : MemDiskView) (h : Harbor) (l : Lender)
      → keep.Agree drive_meaning drives.follows harbor_meaning harbor_promises true OfThese Below Whole d k h
      → is_up d.remote.links l ≡ true → l.0 < n
  below d k h l agree up =
      subst (λ (x : FabricOf). l.0 < x.lenders) agree.is
      (keep.up_below drive_meaning drives.follows harbor_meaning harbor_promises true OfThese Below Whole d k h l agree up)

  send_fits :
      (d : Device) (k : MemDiskView) (h : Harbor) (l : Lender) (q : Parcel) (e base : Device) → SoundAt (quiet_speaker d) k h → Sends There d l q e base
      → Fitting (FabricCall.Send l q)
  send_fits d k h l q e base sound one = record {
    page = fits q e base one;
    lender = below d k h l sound.agrees (keep.sends_up There d l q e base one);
  }
    where
      fits : (q : Parcel) (e base : Device) → Sends There d l q e base → CallFits s.page_bytes (FabricCall.Send l q)
      fits q e base (write {c = c} {p = p} {bytes = bytes} outs is) = λ _. outs_whole d c p bytes sound.rooms outs
      fits q e base (read ins within is none at) = λ e. cc
      fits q e base (borrow within may) = λ e. cc
      fits q e base (query within may) = λ e. cc
      fits q e base (query_too within state other may) = λ e. cc

  far_fits : (c : FabricCall) → IsFar There c → Fitting c
  far_fits c (far_give within) = record { page = tt; lender = within }
  far_fits c (far_cut within) = record { page = tt; lender = within }
  far_fits c (far_crash within) = record { page = tt; lender = within }
  far_fits c (far_host within) = record { page = tt; lender = within }

  word_fits : (d : Device) (l : Lender) (q : Parcel) → IsWord d q → l.0 < n → Fitting (FabricCall.Send l q)
  word_fits d l q greeting within = record { page = λ e. cc; lender = within }
  word_fits d l q (rating k value) within = record { page = λ e. cc; lender = within }
  word_fits d l q (giving_back k) within = record { page = λ e. cc; lender = within }

  -- each move asks what fits
  asks_fit : (x y : Speaker) (k : MemDiskView) (h : Harbor) (c : FabricCall) (r : FabricAnswer c) → Move There x (OfFabric c r) y → SoundAt x k h → Fitting c
  asks_fit x y k h c r (sends {d = d} {e = e} {base = base} {l = l} {q = q} one) sound = send_fits d k h l q e base sound one
  asks_fit x y k h c r (finds_down {d = d} {e = e} {base = base} {l = l} {q = q} one) sound = send_fits d k h l q e base sound one
  asks_fit x y k h c r (raises within off) sound = record { page = tt; lender = within }
  asks_fit x y k h c r (speaks {d = d} {l = l} {q = q} word) sound =
      word_fits d l q word (subst (λ (x : FabricOf). l.0 < x.lenders) sound.agrees.0.is sound.agrees.1)
  asks_fit x y k h c r (speaks_to_nobody {d = d} {l = l} {q = q} word) sound =
      word_fits d l q word (subst (λ (x : FabricOf). l.0 < x.lenders) sound.agrees.0.is sound.agrees.1)
  asks_fit x y k h c r (hears {d = d} {l = l} up one) sound = record { page = tt; lender = below d k h l sound.agrees up }
  asks_fit x y k h c r (hears_nothing {d = d} {l = l} up) sound = record { page = tt; lender = below d k h l sound.agrees up }
  asks_fit x y k h c r (loses {d = d} {l = l} up) sound = record { page = tt; lender = below d k h l sound.agrees up }
  asks_fit x y k h c r (misunderstands {d = d} {l = l} up) sound = record { page = tt; lender = below d k h l sound.agrees up }
  asks_fit x y k h c r (breaks_off {d = d} {l = l}) sound = record { page = tt; lender = below d k sound.agrees.before l sound.agrees.agree sound.agrees.up }
  asks_fit x y k h c r (far one) sound = far_fits c one

  -- and keeps the pages of the calls that wait for room
  sent_rooms : (d : Device) (l : Lender) (q : Parcel) (e base : Device) → RoomsFit d → Sends There d l q e base → RoomsFit e × RoomsFit base
  sent_rooms d l q e base rooms (write {c = c} {p = p} outs is) =
      let entered = rooms_ended s.page_bytes (calls.paged_out d.calls p) c (rooms_paged_out s.page_bytes d.calls p rooms) in (entered, entered)
  sent_rooms d l q e base rooms (read {c = c} {p = p} {n = m} ins within is none at) =
      (rooms_reads s.page_bytes d.calls c p m (via.Lender l) d.failed_reads rooms, rooms)
  sent_rooms d l q e base rooms (borrow within may) = (rooms, rooms)
  sent_rooms d l q e base rooms (query within may) = (rooms, rooms)
  sent_rooms d l q e base rooms (query_too within state other may) = (rooms, rooms)

  heard_rooms : (d : Device) (l : Lender) (q : Parcel) (x : Heard) → RoomsFit d → Hears d l q x → RoomsFit x.device
  heard_rooms d l q e rooms (roomy ring says same) = rooms
  heard_rooms d l q e rooms (asked_rate says at) = rooms
  heard_rooms d l q e rooms (told_to_go says at) = rooms
  heard_rooms d l q e rooms (lent ring says same none) = rooms
  heard_rooms d l q e rooms (refused ring says same) = rooms
  heard_rooms d l q e rooms (written ring says named) = rooms
  heard_rooms d l q e rooms (brought {c = c} ring says named) = rooms_arrives s.page_bytes d.calls c arrived.Came q.page rooms

  rooms_kept : (x y : Speaker) (asked : Asked) → Move There x asked y → RoomsFit x.device → RoomsFit y.device
  rooms_kept x y asked (enters {d = d} {c = c} {p = p} outs) rooms =
      rooms_ended s.page_bytes (calls.paged_out d.calls p) c (rooms_paged_out s.page_bytes d.calls p rooms)
  rooms_kept x y asked (gives {d = d} {c = c} given) rooms = rooms_ended s.page_bytes d.calls c rooms
  rooms_kept x y asked (faults {d = d} {c = c} why) rooms = rooms_ended s.page_bytes d.calls c rooms
  rooms_kept x y asked (waits_for_room {d = d} c p bytes e within hands) rooms = rooms_wait s.page_bytes d.calls c p d.failed_writes bytes hands rooms
  rooms_kept x y asked (rates_change rates) rooms = rooms
  rooms_kept x y asked (lets_go {d = d} l within up) rooms = rooms_lost s.page_bytes d.calls l rooms
  rooms_kept x y asked (gives_up l t off asks) rooms = rooms
  rooms_kept x y asked (starts el ec) rooms = rooms
  rooms_kept x y asked (waits_for_disk {d = d} {c = c} {p = p} {n = m} ins within is none) rooms =
      rooms_reads s.page_bytes d.calls c p m via.Disk d.failed_reads rooms
  rooms_kept x y asked (takes {d = d} {taken = taken}) rooms = took_back_rooms s d taken rooms
  rooms_kept x y asked lets_finish rooms = rooms
  rooms_kept x y asked (sends {d = d} {e = e} {base = base} {l = l} {q = q} one) rooms = (sent_rooms d l q e base rooms one).0
  rooms_kept x y asked (finds_down {d = d} {e = e} {base = base} {l = l} {q = q} one) rooms =
      rooms_lost s.page_bytes base.calls l (sent_rooms d l q e base rooms one).1
  rooms_kept x y asked (raises within off) rooms = rooms
  rooms_kept x y asked (speaks word) rooms = rooms
  rooms_kept x y asked (speaks_to_nobody {d = d} {l = l} word) rooms = rooms_lost s.page_bytes d.calls l rooms
  rooms_kept x y asked (hears {d = d} {h = heard} {l = l} {q = q} up one) rooms = heard_rooms d l q heard rooms one
  rooms_kept x y asked (hears_nothing up) rooms = rooms
  rooms_kept x y asked (loses {d = d} {l = l} up) rooms = rooms_lost s.page_bytes d.calls l rooms
  rooms_kept x y asked (misunderstands up) rooms = rooms
  rooms_kept x y asked (breaks_off {d = d} {l = l}) rooms = rooms_lost s.page_bytes d.calls l rooms
  rooms_kept x y asked (far one) rooms = rooms

  asks_move :
      (x y : Speaker) (k : MemDiskView) (h h' : Harbor) (c : FabricCall) (r : FabricAnswer c) → Move There x (OfFabric c r) y → harbor.ask h c ≡ (r, h')
      → SoundAt x k h
      → harbor.Moves h c r h'
  asks_move x y k h h' c r m is sound =
      let fit = asks_fit x y k h c r m sound in
      let sized : h.sizes ≡ s = ap (λ (a : FabricOf). a.sizes) sound.of in
      let kept =
      whole.ask_keeps h c sound.harbor (subst (λ z. CallFits z.page_bytes c) (sym sized) fit.page)
      (subst (λ z. (lender_of c).0 < z) (sym (ap (λ (a : FabricOf). a.lenders) sound.of)) fit.lender) in
      (kept.1.0, is)

  moves_told :
      (x : Speaker) (asked : Asked) (y : Speaker) (k k' : MemDiskView) (h h' : Harbor) → Move There x asked y
      → PortsGo (Does drive.ask harbor.ask) (DoesOf drive.ask harbor.ask) asked k h k' h' → SoundAt x k h → PortsGo drive.Moves harbor.Moves asked k h k' h'
  moves_told x asked y k k' h h' m stay sound = stay
  moves_told x asked y k k' h h' m (by_disk is) sound = by_disk (sound.drive, is)
  moves_told x asked y k k' h h' m (by_fabric {c = c} {r = r} is) sound = by_fabric (asks_move x y k h h' c r m is sound)

  -- so a sound world stays one
  sound_kept : EachKeeps (Does drive.ask harbor.ask) (DoesOf drive.ask harbor.ask) (Move There) SoundAt
  sound_kept x asked y k k' h h' m stay sound = record {
    agrees = keep.each_keeps drive_meaning drives.follows harbor_meaning harbor_promises true OfThese Below Whole x asked y k k' h h' m stay sound.agrees;
    accounts =
        accounting.each_accounts drive_meaning drives.follows harbor_meaning harbor_promises true OfThese Below Whole x asked y k k' h h' m stay sound.agrees
        sound.accounts;
    of = sound.of;
    drive = sound.drive;
    harbor = sound.harbor;
    rooms = rooms_kept x y asked m sound.rooms;
  }
  sound_kept x asked y k k' h h' m (by_disk {c = c} {r = r} is) sound = record {
    agrees =
        keep.each_keeps drive_meaning drives.follows harbor_meaning harbor_promises true OfThese Below Whole x asked y k k' h h' m
        (by_disk (sound.drive, is)) sound.agrees;
    accounts =
        accounting.each_accounts drive_meaning drives.follows harbor_meaning harbor_promises true OfThese Below Whole x asked y k k' h h' m
        (by_disk (sound.drive, is)) sound.agrees sound.accounts;
    of = sound.of;
    drive = subst IsDrive (ap (λ (a : DiskAnswer c × MemDiskView). a.1) is) (drives.ask_keeps k c sound.drive);
    harbor = sound.harbor;
    rooms = rooms_kept x y asked m sound.rooms;
  }
  sound_kept x asked y k k' h h' m (by_fabric {c = c} {r = r} is) sound =
      let fit = asks_fit x y k h c r m sound in
      let sized : h.sizes ≡ s = ap (λ (a : FabricOf). a.sizes) sound.of in
      let kept =
      whole.ask_keeps h c sound.harbor (subst (λ z. CallFits z.page_bytes c) (sym sized) fit.page)
      (subst (λ z. (lender_of c).0 < z) (sym (ap (λ (a : FabricOf). a.lenders) sound.of)) fit.lender) in
      let moved : harbor.Moves h c r h' = (kept.1.0, is) in
      record {
        agrees =
            keep.each_keeps drive_meaning drives.follows harbor_meaning harbor_promises true OfThese Below Whole x asked y k k' h h' m
            (by_fabric moved) sound.agrees;
        accounts =
            accounting.each_accounts drive_meaning drives.follows harbor_meaning harbor_promises true OfThese Below Whole x asked y k k' h h' m
            (by_fabric moved) sound.agrees sound.accounts;
        of = harbor_promises.keep_of h c r h' moved ∙ sound.of;
        drive = sound.drive;
        harbor = subst IsHarbor (ap (λ (a : FabricAnswer c × Harbor). a.1) is) kept.0;
        rooms = rooms_kept x y asked m sound.rooms;
      }

  hands_whole : (page : List ℕ) (e : Event) → IsPaged s e page → IsInRange s n e → Hands Below Whole page e
  hands_whole page (event.PageOut c p) paged range = paged
  hands_whole page (event.Give l) paged range = range
  hands_whole page (event.Cut l a b) paged range = range
  hands_whole page (event.Crash l) paged range = range
  hands_whole page (event.Host l used word) paged range = range
  hands_whole page e paged range = tt

  -- what an event names and hands in, for its moves
  goes_here : (w : World) (i : Input) → IsInput s n i → FaresTo There w.device i.page i.event (λ x. x) (happens w.device i.page i.event)
  goes_here w i input =
      happens_fares There w.device i.page i.event (names_there s n Below Whole w.device i.page i.event input.0 (hands_whole i.page i.event input.1 input.0))

  abbrev pub IsSound : World → Type 0
  IsSound w = SoundAt (quiet_speaker w.device) w.drive w.harbor

  -- an event alone
  alone_sound : (w : World) (i : Input) → IsInput s n i → IsSound w → IsSound (without_parts w i.page i.event).world
  alone_sound w i input sound =
      let r =
      Leads-runs drive.ask harbor.ask (happens w.device i.page i.event) w.drive w.harbor _
      (Goes-leads (Move There) (Does drive.ask harbor.ask) (DoesOf drive.ask harbor.ask) SoundAt sound_kept _ w.drive w.harbor
      (goes_here w i input) sound) in
      subst (λ x. SoundAt x (without_parts w i.page i.event).world.drive (without_parts w i.page i.event).world.harbor) r.1.0 r.2

  alone_step :
      (w : World) (i : Input) → IsInput s n i → IsSound w
      → IsStep drive.Moves harbor.Moves w.device w.drive w.harbor i (without_parts w i.page i.event).seen (without_parts w i.page i.event).world.device
      (without_parts w i.page i.event).world.drive (without_parts w i.page i.event).world.harbor
  alone_step w i input sound =
      Goes-went (Move There) drive.ask harbor.ask drive.Moves harbor.Moves SoundAt sound_kept moves_told _ w.drive w.harbor (goes_here w i input) sound

  part_input : (e : Event) → is_part e ≡ true → IsInRange s n e → IsInput s n (bare e)
  part_input (event.Tick word) part range = (range, tt)
  part_input (event.Give l) part range = (range, tt)
  part_input (event.Take l) part range = (range, tt)
  part_input e part range = cc

  -- a plan
  plan_sound : (plan : Plan) (w : World) → AreParts s n plan → IsSound w → IsSound (next_plan plan w).world
  plan_sound Stop w parts sound = sound
  plan_sound (Make e more) w parts sound =
      plan_sound (more (without_parts w [] e).seen) (without_parts w [] e).world (parts.2 (without_parts w [] e).seen)
      (alone_sound w (bare e) (part_input e parts.0 parts.1) sound)

  plan_step : (plan : Plan) (w : World) → AreParts s n plan → IsSound w → let p : Planned = next_plan plan w in
      AlongPlan drive.Moves harbor.Moves plan w.device w.drive w.harbor p.world.device p.world.drive p.world.harbor p.effects
  plan_step Stop w parts sound = (refl, refl, refl, refl)
  plan_step (Make e more) w parts sound =
      let a : Next = without_parts w [] e in
      let input = part_input e parts.0 parts.1 in
      let rest : Planned = next_plan (more a.seen) a.world in (
        a.seen,
        a.world.device,
        a.world.drive,
        a.world.harbor,
        rest.effects,
        alone_step w (bare e) input sound,
        plan_step (more a.seen) a.world (parts.2 a.seen) (alone_sound w (bare e) input sound),
        refl,
      )

  these_parts : (w : World) (word : ℕ) → IsSound w → AreParts s n (round_plan w.device.sizes w.device.lenders word)
  these_parts w word sound =
      let P : FabricOf → Type 0 = λ x. AreParts x.sizes x.lenders (round_plan w.device.sizes w.device.lenders word) in
      subst P sound.agrees.is (round_parts w.device.sizes w.device.lenders word)

  -- and an event of every kind
  pub next_sound : (w : World) (i : Input) → IsInput s n i → IsSound w → IsSound (next w i).world
  next_sound w i input sound = go i.event input
    where
      go : (e : Event) → IsInput s n (record { event = e; page = i.page }) → IsSound (next_by w i.page e).world
      go (event.Round word) given = plan_sound (round_plan w.device.sizes w.device.lenders word) w (these_parts w word sound) sound
      go e given = alone_sound w (record { event = e; page = i.page }) given sound

  -- the next world is a step from the one before, as the ports tell of their moves
  pub next_step :
      (w : World) (i : Input) → IsInput s n i → IsSound w
      → IsEvent drive.Moves harbor.Moves w.device w.drive w.harbor i (next w i).seen (next w i).world.device (next w i).world.drive (next w i).world.harbor
  next_step w i input sound = go i.event input
    where
      go : (e : Event) → IsInput s n (record { event = e; page = i.page }) → let x : Next = next_by w i.page e in
          StepOf drive.Moves harbor.Moves i.page e w.device w.drive w.harbor x.seen x.world.device x.world.drive x.world.harbor
      go (event.Round word) given =
          ((round_from w word).effects, plan_step (round_plan w.device.sizes w.device.lenders word) w (these_parts w word sound) sound, refl)
      go e given = alone_step w (record { event = e; page = i.page }) given sound

  -- what device and ports agree on there
  pub sound_fits :
      (w : World) → IsSound w → Fits true (λ page given. page ≡ given) (harbor.KeepsAt w.harbor) (harbor.OwesAt w.harbor) w.device (port_of w.drive)
  sound_fits w sound = record { disk = sound.agrees.fits.disk; serves = sound.agrees.fits.serves; accounts = sound.accounts }

  pub sound_known : (w : World) → IsSound w → Known drive_meaning drives.follows harbor_meaning harbor_promises true OfThese w.device w.drive w.harbor
  sound_known w sound = record { agree = (sound_fits w sound, sound.agrees.of_f ∙ sym sound.agrees.is); is = sound.agrees.is }

  -- so what each event keeps holds of every list of events
  module _ (P : List (Input × Seen) → Device → Type 0) (each : EachEventKeeps drive_meaning drives.follows harbor_meaning harbor_promises true OfThese P)
      (gathers : Gathers P) where
    record Kept (made : List (Input × Seen)) (d : Device) : Type 0 where
      inner : List (Input × Seen)
      tell : AllTellNothing inner
      keeps : P (inner ++ made) d

    alone_keeps :
        (w : World) (i : Input) (made : List (Input × Seen)) → IsInput s n i → IsSound w → P made w.device
        → P ((i, (without_parts w i.page i.event).seen) ∷ made) (without_parts w i.page i.event).world.device
    alone_keeps w i made input sound h =
        let a : Next = without_parts w i.page i.event in
        each.event made w.device a.world.device w.drive a.world.drive w.harbor a.world.harbor i a.seen (sound_known w sound) input.0
        (alone_step w i input sound) h

    plan_keeps :
        (plan : Plan) (w : World) (made inner : List (Input × Seen)) → AreParts s n plan → IsSound w → AllTellNothing inner → P (inner ++ made) w.device
        → Kept made (next_plan plan w).world.device
    plan_keeps Stop w made inner parts sound tell h = record { inner = inner; tell = tell; keeps = h }
    plan_keeps (Make e more) w made inner parts sound tell h =
        let a : Next = without_parts w [] e in
        let input = part_input e parts.0 parts.1 in
        let comes : ComesTo w.device [] e a.world.device a.seen =
        step_comes drive.Moves harbor.Moves w.device a.world.device w.drive a.world.drive w.harbor a.world.harbor (bare e) a.seen
        (alone_step w (bare e) input sound) in
        let says : SaysLittle a.seen = part_says (record w.device { rates = comes.0 }) a.world.device [] e a.seen parts.0 comes.2 in
        plan_keeps (more a.seen) a.world made ((bare e, a.seen) ∷ inner) (parts.2 a.seen) (alone_sound w (bare e) input sound)
        (part_tells (bare e) a.seen parts.0 says, tell) (alone_keeps w (bare e) (inner ++ made) input sound h)

    next_keeps :
        (w : World) (i : Input) (made : List (Input × Seen)) → IsInput s n i → IsSound w → P made w.device
        → P ((i, (next w i).seen) ∷ made) (next w i).world.device
    next_keeps w i made input sound h = go i.event input
      where
        go :
            (e : Event) → IsInput s n (record { event = e; page = i.page })
            → P ((record { event = e; page = i.page }, (next_by w i.page e).seen) ∷ made) (next_by w i.page e).world.device
        go (event.Round word) given =
            let kept = plan_keeps (round_plan w.device.sizes w.device.lenders word) w made [] (these_parts w word sound) sound tt h in
            gathers.round kept.inner made (round_from w word).world.device i.page word (round_from w word).effects
            (mapped_count (round_from w word).world.device.remote.slabs) kept.tell kept.keeps
        go e given = alone_keeps w (record { event = e; page = i.page }) made given sound h

    pub reach_keeps :
        (w : World) (is : List Input) (made : List (Input × Seen)) → AllByRecursion (IsInput s n) is → IsSound w → P made w.device
        → P (made_by made w is) (reach w is).device
    reach_keeps w [] made inputs sound h = h
    reach_keeps w (i ∷ is) made inputs sound h =
        reach_keeps (next w i).world is ((i, (next w i).seen) ∷ made) inputs.1 (next_sound w i inputs.0 sound) (next_keeps w i made inputs.0 sound h)

  pub reach_sound : (w : World) (is : List Input) → AllByRecursion (IsInput s n) is → IsSound w → IsSound (reach w is)
  reach_sound w [] inputs sound = sound
  reach_sound w (i ∷ is) inputs sound = reach_sound (next w i).world is inputs.1 (next_sound w i inputs.0 sound)

new_blank : (s : Sizes) → IsBlank s (port_of (new_drive s))
new_blank s = record { sizes = refl; flights = refl; finished = refl; blocks = refl }

-- a channel for each lender
map_length : (s : Sizes) (specs : List LenderSpec) → length (map (new_channel s) specs) ≡ length specs
map_length s [] = refl
map_length s (spec ∷ specs) = ap suc (map_length s specs)

new_of : (s : Sizes) (specs : List LenderSpec) → of_harbor (new_harbor s specs) ≡ record { sizes = s; lenders = length specs }
new_of s specs = ap (λ n. record { sizes = s; lenders = n }) (map_length s specs)

pub starts_sound : (s : Sizes) (specs : List LenderSpec) → length specs ≤ MOST_LENDERS → IsSound s (length specs) (start s specs)
starts_sound s specs few =
    let k =
    new_agrees drive_meaning drives.follows harbor_meaning harbor_promises s (length specs) (new_drive s) (new_harbor s specs) (new_blank s)
    (new_of s specs) few in
    record {
      agrees = record { fits = record { disk = k.0.disk; serves = k.0.serves }; is = refl; of_f = k.1 };
      accounts = k.0.accounts;
      of = new_of s specs;
      drive = record { in_flight = tt; range = lit< tt };
      harbor = new_is_harbor s specs;
      rooms = All-replicate (RoomFits s.page_bytes) s.callers idle_call tt;
    }
