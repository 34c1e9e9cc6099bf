-- Each move keeps what calls and copies stand for, where device and ports agree.
use Rattle.std.proofs.Common.{◌≡◌, ℕ, ◌+◌, ◌<◌, Bool, true, false, List, [], ◌∷◌, ◌++◌, find, get_or, replicate, zero, suc, refl, sym, ap, ◌∙◌, subst, arith, is_some, Option, None, Some}
use Rattle.std.proofs.lemmas.Bool.{eq-eqb}
use Rattle.std.specs.List.{AllByRecursion}
use Rattle.swap_base.specs.declared.Page.{Page}
use Rattle.swap_base.specs.declared.Caller.{Caller}
use Rattle.swap_base.specs.declared.Lender.{Lender}
use Rattle.swap_base.specs.declared.EntryNo.{EntryNo}
use Rattle.swap_base.specs.declared.DiskWhich.{DiskWhich}
use Rattle.swap_base.specs.declared.DiskWhich.TheVariants as which
use Rattle.swap_base.specs.declared.Via.TheVariants as via
use Rattle.swap_base.specs.Sizes.{Sizes, pages_of}
use Rattle.swap_record.specs.declared.Op.TheVariants as op
use Rattle.swap_record.specs.History.{History, Row, last, row_of, next_name}
use Rattle.swap_queue.specs.Queue as queue
use Rattle.swap_queue.specs.Queue.{Queue, Copy, Places, places_of, first_of, next_copy, flying}
use Rattle.swap_disk.specs.declared.DiskDone.{DiskDone}
use Rattle.swap_disk.specs.Disk.{Flight, Finished, Taken, which_of, page_of, is_flight_of, without_flight}
use Rattle.swap_disk.specs.Disk as disks
use Rattle.swap_disk.specs.Port.{Port, StartWrite, StartRead, TakeDone, LetFinish, Takes, LetsFinish}
use Rattle.swap_wire.specs.Fabric.{Parcel, Brought, Take, FabricOf}
use Rattle.swap_calls.specs.Calls as calls
use Rattle.swap_calls.specs.Calls.{Call, Calls, state_of, call_of}
use Rattle.swap_calls.specs.declared.Arrived.TheVariants as arrived
use Rattle.swap_calls.specs.declared.CallState.TheVariants.{Reading}
use Rattle.swap_slabs.specs.declared.SlabState.{SlabState}
use Rattle.swap_rings.specs.Rings as rings
use Rattle.swap_rings.specs.Rings.{LinkState, is_up, ring_of}
use Rattle.swap_rings.specs.declared.Request.{Request}
use Rattle.swap_rings.specs.declared.Request.TheVariants as request
use Rattle.swap_remote.specs.Remote as remote
use Rattle.swap_remote.specs.Remote.{Remote}
use Rattle.swap_disk.specs.declared.port.DiskPort.{Ghosts as DiskMeaning}
use Rattle.swap_activity.specs.Rates.{Activity}
use Rattle.swap_wire.specs.declared.fabric.Fabric.{Ghosts as FabricMeaning}
use Rattle.swap_table.specs.Device.{Device, Heard, device_at_start, enter_entry, lost_after, wait_for_disk, wrote_after, took_after, took_back, is_newest}
use Rattle.swap_table.specs.Fits.{WaitsFor, IsExpected}
use Rattle.swap_table.specs.Serves.{IsAwaited, WaitsFrom, OwesReads}
use Rattle.swap_table.specs.Accounts.{is_read_of, IsAccounted, AreOfEntries, Accounts}
use Rattle.swap_table.specs.Promises.{FollowsItsMoves, Promises}
use Rattle.swap_table.specs.Goes.{stay, by_disk, by_fabric, EachKeepsWhere}
use Rattle.swap_table.specs.Moves.{Within, Ins, Sends, write, read, borrow, query, query_too, Hears, roomy, lent, refused, written, brought, asked_rate, told_to_go, Move, enters, gives, faults, waits_for_room, rates_change, lets_go, gives_up, starts, waits_for_disk, takes, lets_finish, sends, finds_down, raises, speaks, speaks_to_nobody, hears, hears_nothing, loses, misunderstands, breaks_off, far}
use Rattle.swap_base.proofs.Lists.{All-implies, not_eqb}
use Rattle.swap_table.proofs.HistoryAgreement.{IdleFor, get_or-map_idle, found}
use Rattle.swap_table.proofs.EntriesStay.{last_out}
use Rattle.swap_table.proofs.DiskAgreementLeft.{last-other}
use Rattle.swap_table.proofs.LinkTables.{link-same}
use Rattle.swap_table.proofs.AnswersKeepServing.{owes_first}
use Rattle.swap_table.proofs.PromisesKept as promised
use Rattle.swap_table.proofs.RowsStay.{set_either, find_longer, find_last, find-without_write, find-without_read}
use Rattle.swap_table.proofs.AccountsStand as acc
use Rattle.swap_table.proofs.AccountsStand.{entries_same, entries_on, ReadStays, call_set, copies_stay}
use Rattle.swap_table.proofs.MovesKeepAgreement as keep

-- whose reads are under way
not_flying :
    (T : Bool) (N C : ℕ) (q : Queue) (cs : Calls) (c : Caller) (f : Flight) → IdleFor cs c → IsExpected T N C q cs f → is_flight_of (which.Read c) f ≡ false
not_flying T N C q cs c (disks.Write p bytes) idles h = refl
not_flying T N C q cs c (disks.Read e p) idles h = not_eqb c.0 e.0 (λ same. idles p (subst (λ n. WaitsFor p (state_of cs (record { 0 = n }))) (sym same) h.2))

not_asked :
    (s : Sizes) (H : History) (cs : Calls) (states : List SlabState) (l : Lender) (c : Caller) (y : Request)
    → ((m : Lender) (q : Page) → WaitsFrom m q (state_of cs c) → ⊥) → IsAwaited s H cs states l y → is_read_of c y ≡ false
not_asked s H cs states l c (request.Query t) idles h = refl
not_asked s H cs states l c (request.Borrow t) idles h = refl
not_asked s H cs states l c (request.Write p e) idles h = refl
not_asked s H cs states l c (request.Read e p) idles h =
    not_eqb c.0 e.0 (λ same. idles l p (subst (λ n. WaitsFrom l p (state_of cs (record { 0 = n }))) (sym same) h.3))

-- the links after a write that came back
pub written_links : (b : Bool) (r : Remote) (p : Page) → (remote.with_page_if b r p).links ≡ r.links
written_links true r p = refl
written_links false r p = refl

-- the disk's operations in flight after it let one finish are those before
finish_flights :
    (before now : Port) (bl : Option (List (List ℕ))) (fin : Option Finished) (flight : Option Flight) (ok answer : Bool)
    → LetsFinish before bl fin flight ok answer now → now.flights ≡ before.flights
finish_flights before now None fin flight ok answer h = ap (λ (x : Port). x.flights) h.1
finish_flights before now (Some blocks) (Some f) flight ok answer h = ap (λ (x : Port). x.flights) h.1
finish_flights before now (Some blocks) None None ok answer h = ap (λ (x : Port). x.flights) h.1
finish_flights before now (Some blocks) None (Some f) ok answer h = ap (λ (x : Port). x.flights) h.1.is

-- a device that nothing happened to
pub new_accounts : (A : List ℕ → List ℕ → Type 0) (s : Sizes) (n : ℕ) (fs : List Flight) → Accounts A (device_at_start s n) fs
new_accounts A s n fs = record {
  calls = λ c. replicated (λ (x : Call). IsAccounted A 0 [] fs (remote.remote_at_start s).links c x.bytes x.state) s.callers c.0 calls.idle_call tt;
  copies = λ p. replicated (λ (x : Places). AreOfEntries [] p x) (pages_of s) p.0 (record { flying = None; next = None }) (tt, tt, tt);
}
  where
    replicated : {X : Type 0} (P : X → Type 0) (n i : ℕ) (x : X) → P x → P (get_or (replicate n x) i x)
    replicated P zero i x p = p
    replicated P (suc n) zero x p = p
    replicated P (suc n) (suc i) x p = replicated P n i x p

module _ (A : List ℕ → List ℕ → Type 0) where
  -- every call and copy, as reads stay under way
  others_stay :
      (d : Device) (fs fs' : List Flight) (r : Remote) (made : ℕ) → ((c : Caller) → ReadStays c fs fs' d.remote.links r.links) → Accounts A d fs
      → Accounts A (record d { remote = r; links_made = made }) fs'
  others_stay d fs fs' r made reads a = record {
    calls =
        λ c.
        acc.stays A d.failed_writes d.failed_writes d.history d.history fs fs' d.remote.links r.links c (call_of d.calls c).bytes (state_of d.calls c)
        (omega arith) (entries_same d.history) (reads c) (a.calls c);
    copies = a.copies;
  }

  -- one call is set
  one_set :
      (d : Device) (fs fs' : List Flight) (r : Remote) (c : Caller) (call : Call) → ((e : Caller) → (e.0 ≡ c.0 → ⊥) → ReadStays e fs fs' d.remote.links r.links)
      → IsAccounted A d.failed_writes d.history fs' r.links c call.bytes call.state → Accounts A d fs
      → Accounts A (record d { remote = r; calls = calls.with_call d.calls c call }) fs'
  one_set d fs fs' r c call reads here a = record {
    calls =
        λ e.
        call_set A d.failed_writes d.history fs' r.links d.calls c e call
        (λ other.
        acc.stays A d.failed_writes d.failed_writes d.history d.history fs fs' d.remote.links r.links e (call_of d.calls e).bytes (state_of d.calls e)
        (omega arith) (entries_same d.history) (reads e other) (a.calls e))
        here;
    copies = a.copies;
  }

  entered : (d : Device) (c : Caller) (p : Page) (bytes : List ℕ) (fs : List Flight) → Accounts A d fs → Accounts A (enter_entry d c p bytes) fs
  entered d c p bytes fs a =
      let row : Row = row_of d.history c p op.PageOut bytes in
      let H' : History = row ∷ d.history in
      let links : List LinkState = d.remote.links in
      record {
        calls =
            λ e.
            call_set A d.failed_writes H' fs links (calls.paged_out d.calls p) c e calls.idle_call
            (λ other.
            let f : Call → Call = λ (x : Call). record { state = calls.newer_if_reads p x.state; bytes = x.bytes } in
            let P : Call → Type 0 = λ x. IsAccounted A d.failed_writes H' fs links e x.bytes x.state in
            subst P (sym (get_or-map_idle f d.calls e.0 refl))
            (acc.newer A d.failed_writes H' fs links e p (call_of d.calls e).bytes (state_of d.calls e)
            (acc.stays A d.failed_writes d.failed_writes d.history H' fs fs links links e (call_of d.calls e).bytes (state_of d.calls e) (omega arith)
            (entries_on d.history row) (λ q v h. h) (a.calls e))))
            tt;
        copies =
            λ q.
            let now : Places = record { flying = flying d.queue p; next = Some (record { entry = next_name d.history; bytes = bytes }) } in
            set_either (λ (x : Places). AreOfEntries H' q x) d.queue.places p.0 q.0 now (record { flying = None; next = None }) (tt, tt, tt)
            (λ other. copies_stay d.history H' q (places_of d.queue q) (entries_on d.history row) (last-other d.history c p q bytes other) (a.copies q))
            (λ same. subst (λ n. AreOfEntries H' (record { 0 = n }) now) (sym same) (acc.put_copy d.history c p bytes (places_of d.queue p) (a.copies p)));
      }

  -- an entry that is no page-out
  answered :
      (d : Device) (c : Caller) (row : Row) (fs : List Flight) → ((q : Page) → last (row ∷ d.history) q ≡ last d.history q) → Accounts A d fs
      → Accounts A (record d { history = row ∷ d.history; calls = calls.end_after d.calls c }) fs
  answered d c row fs same a =
      let links : List LinkState = d.remote.links in
      record {
        calls =
            λ e.
            call_set A d.failed_writes (row ∷ d.history) fs links d.calls c e calls.idle_call
            (λ other.
            acc.stays A d.failed_writes d.failed_writes d.history (row ∷ d.history) fs fs links links e (call_of d.calls e).bytes (state_of d.calls e)
            (omega arith) (entries_on d.history row) (λ q v h. h) (a.calls e))
            tt;
        copies = λ q. copies_stay d.history (row ∷ d.history) q (places_of d.queue q) (entries_on d.history row) (same q) (a.copies q);
      }

  -- the queue starts a copy, and has it back
  one_started :
      (d : Device) (fs : List Flight) (p : Page) (line : List Page) (copy : Copy) (f : Flight) → d.queue.line ≡ p ∷ line → next_copy d.queue p ≡ Some copy
      → Accounts A d fs → Accounts A (record d { queue = queue.start d.queue }) (fs ++ f ∷ [])
  one_started d fs p line copy f el ec a =
      let P : Queue → Type 0 = λ x. (q : Page) → AreOfEntries d.history q (places_of x q) in
      let now : Places = record { flying = next_copy d.queue p; next = None } in
      let here = a.copies p in
      record {
        calls =
            λ c.
            acc.stays A d.failed_writes d.failed_writes d.history d.history fs (fs ++ f ∷ []) d.remote.links d.remote.links c (call_of d.calls c).bytes
            (state_of d.calls c) (omega arith) (entries_same d.history) (longer c) (a.calls c);
        copies =
            subst P (sym (ap (queue.start_of d.queue) el))
            (λ q.
            set_either (λ (x : Places). AreOfEntries d.history q x) d.queue.places p.0 q.0 now (record { flying = None; next = None }) (tt, tt, tt)
            (λ other. a.copies q)
            (λ same.
            subst (λ n. AreOfEntries d.history (record { 0 = n }) now) (sym same)
            (here.1, tt, acc.next_last d.history p (next_copy d.queue p) (flying d.queue p) copy ec here.2)));
      }
    where
      longer : (c : Caller) → ReadStays c fs (fs ++ f ∷ []) d.remote.links d.remote.links
      longer c q via.Disk h = find_longer (is_flight_of (which.Read c)) fs (f ∷ []) (disks.Read c q) h
      longer c q (via.Lender l) h = h

  left_write : (fs : List Flight) (links : List LinkState) (p : Page) (c : Caller) → ReadStays c fs (without_flight (which.Write p) fs) links links
  left_write fs links p c q via.Disk h = find-without_write c p fs ∙ h
  left_write fs links p c q (via.Lender l) h = h

  left_read : (fs : List Flight) (links : List LinkState) (c e : Caller) → (e.0 ≡ c.0 → ⊥) → ReadStays e fs (without_flight (which.Read c) fs) links links
  left_read fs links c e other q via.Disk h = find-without_read c e fs other ∙ h
  left_read fs links c e other q (via.Lender l) h = h

  placed :
      (d : Device) (p : Page) (now : Places) (waits : Bool) → ((q : Page) → AreOfEntries d.history q (places_of d.queue q)) → AreOfEntries d.history p now
      → (q : Page) → AreOfEntries d.history q (places_of (queue.with_places d.queue p now waits) q)
  placed d p now waits copies here q =
      set_either (λ (x : Places). AreOfEntries d.history q x) d.queue.places p.0 q.0 now (record { flying = None; next = None }) (tt, tt, tt)
      (λ other. copies q) (λ same. subst (λ n. AreOfEntries d.history (record { 0 = n }) now) (sym same) here)

  wrote_back :
      (d : Device) (fs : List Flight) (p : Page) (copy : Option Copy) (ok : Bool) → Accounts A d fs
      → Accounts A (wrote_after d p copy ok).0 (without_flight (which.Write p) fs)
  wrote_back d fs p None ok a = others_stay d fs (without_flight (which.Write p) fs) d.remote d.links_made (left_write fs d.remote.links p) a
  wrote_back d fs p (Some copy) true a =
      let here = a.copies p in
      record {
        calls = (others_stay d fs (without_flight (which.Write p) fs) d.remote d.links_made (left_write fs d.remote.links p) a).calls;
        copies =
            placed d p (record { flying = None; next = next_copy d.queue p }) (is_some (next_copy d.queue p)) a.copies
            (tt, here.1, acc.next_alone d.history p (next_copy d.queue p) (flying d.queue p) here.2);
      }
  wrote_back d fs p (Some copy) false a =
      let here = a.copies p in
      record {
        calls =
            λ c.
            acc.stays A d.failed_writes (d.failed_writes + 1) d.history d.history fs (without_flight (which.Write p) fs) d.remote.links d.remote.links c
            (call_of d.calls c).bytes (state_of d.calls c) (omega arith) (entries_same d.history) (left_write fs d.remote.links p c) (a.calls c);
        copies =
            placed d p (record { flying = None; next = queue.newest d.queue p }) true a.copies (
              tt,
              acc.newest_of d.history p (next_copy d.queue p) (flying d.queue p) here.0 here.1,
              acc.newest_alone d.history p (first_of (next_copy d.queue p) (flying d.queue p)) here.2,
            );
      }

  read_back :
      (d : Device) (fs : List Flight) (c : Caller) (p : Page) (ok : Bool) (bytes : List ℕ) → WaitsFor p (state_of d.calls c) → Accounts A d fs
      → Accounts A (took_after d (which.Read c) p ok bytes).0 (without_flight (which.Read c) fs)
  read_back d fs c p true bytes waits a =
      one_set d fs (without_flight (which.Read c) fs) d.remote c (calls.arrives arrived.Came bytes (call_of d.calls c) (state_of d.calls c))
      (left_read fs d.remote.links c)
      (acc.disk_came A d.failed_writes d.history fs (without_flight (which.Read c) fs) d.remote.links c p bytes (call_of d.calls c) (state_of d.calls c) waits
      (a.calls c))
      a
  read_back d fs c p false bytes waits a =
      let now =
      one_set d fs (without_flight (which.Read c) fs) d.remote c (calls.arrives arrived.Failed [] (call_of d.calls c) (state_of d.calls c))
      (left_read fs d.remote.links c)
      (acc.disk_failed A d.failed_writes d.history fs (without_flight (which.Read c) fs) d.remote.links c p (call_of d.calls c) (state_of d.calls c) waits
      (a.calls c))
      a in
      record { calls = now.calls; copies = now.copies }

  -- a link is lost, and made
  let_go : (d : Device) (l : Lender) (fs : List Flight) → Accounts A d fs → Accounts A (lost_after d l) fs
  let_go d l fs a = record {
    calls =
        λ c.
        let P : Call → Type 0 = λ x. IsAccounted A d.failed_writes d.history fs (rings.lost_after d.remote.links l) c x.bytes x.state in
        subst P (sym (get_or-map_idle (calls.with_state (calls.lost_if_through l)) d.calls c.0 refl))
        (acc.through_lost A d.failed_writes d.history fs d.remote.links l c (call_of d.calls c).bytes (state_of d.calls c) (a.calls c));
    copies = a.copies;
  }

  -- lenders' slabs change, and links stay; or rates change
  stays_on : (d : Device) (r : Remote) (fs : List Flight) → r.links ≡ d.remote.links → Accounts A d fs → Accounts A (record d { remote = r }) fs
  stays_on d r fs same a = record {
    calls =
        λ c. let P : List LinkState → Type 0 = λ x. IsAccounted A d.failed_writes d.history fs x c (call_of d.calls c).bytes (state_of d.calls c) in
        subst P (sym same) (a.calls c);
    copies = a.copies;
  }

  rates_on : (d : Device) (rates : List Activity) (fs : List Flight) → Accounts A d fs → Accounts A (record d { rates = rates }) fs
  rates_on d rates fs a = record { calls = a.calls; copies = a.copies }

module _ {D F : Type 0} (disk : DiskMeaning D) (follows : FollowsItsMoves disk) (fabric : FabricMeaning F) (laws : Promises fabric) (T : Bool) (o : FabricOf)
    (far_may : Lender → Type 0) (bytes_may : List ℕ → Type 0) where
  abbrev pub There : Within
  There = keep.There disk follows fabric laws T o far_may bytes_may

  abbrev pub Agree : Device → D → F → Type 0
  Agree = keep.Agree disk follows fabric laws T o far_may bytes_may

  abbrev pub AccountsOf : Device → D → Type 0
  AccountsOf d k = Accounts fabric.answers d (disk.means k).flights

  -- a disk whose operations in flight are these
  flying_now : (d : Device) (k' : D) (fs : List Flight) → (disk.means k').flights ≡ fs → Accounts fabric.answers d fs → AccountsOf d k'
  flying_now d k' fs is a = subst (λ x. Accounts fabric.answers d x) (sym is) a

  disk_waited :
      (d : Device) (k k' : D) (f : F) (c : Caller) (p : Page) (n : EntryNo) (r : Unit {0}) → Agree d k f → Ins There d c p → last d.history p ≡ Some n
      → disk.moves k (StartRead c p) r k' → AccountsOf d k → AccountsOf (wait_for_disk d c p n) k'
  disk_waited d k k' f c p n r h ins is moved a =
      let fs : List Flight = (disk.means k).flights in
      let idles = keep.ins_wait There d c p ins in
      let expected = h.fits.disk.agrees.expected in
      let none : AllByRecursion (λ x. is_flight_of (which.Read c) x ≡ false) fs =
      All-implies _ _ fs (λ x e. not_flying T _ _ d.queue d.calls c x idles.0 e) expected in
      flying_now (wait_for_disk d c p n) k' (fs ++ disks.Read c p ∷ []) (ap (λ (x : Port). x.flights) (follows k (StartRead c p) r k' moved))
      (one_set fabric.answers d fs (fs ++ disks.Read c p ∷ []) d.remote c
      (record { state = Reading p n via.Disk arrived.Waiting false d.failed_reads; bytes = [] }) longer
      (last_out d.history p n is, find_last (is_flight_of (which.Read c)) fs (disks.Read c p) none (eq-eqb c.0 c.0 refl), tt) a)
    where
      longer : (e : Caller) → (e.0 ≡ c.0 → ⊥) → ReadStays e (disk.means k).flights ((disk.means k).flights ++ disks.Read c p ∷ []) d.remote.links d.remote.links
      longer e other q via.Disk h = find_longer (is_flight_of (which.Read e)) (disk.means k).flights (disks.Read c p ∷ []) (disks.Read e q) h
      longer e other q (via.Lender l) h = h

  took_back_one :
      (d : Device) (k k' : D) (f : F) (taken : Option Taken) → Agree d k f → Takes (disk.means k) taken (disk.means k') → AccountsOf d k
      → AccountsOf (took_back d taken).0 k'
  took_back_one d k k' f None h back a = flying_now d k' (disk.means k).flights back.flights a
  took_back_one d k k' f (Some t) h back a =
      let fs : List Flight = (disk.means k).flights in
      let is_which : t.done.which ≡ which_of back.flight = ap (λ (x : DiskDone). x.which) back.is in
      let is_page : t.done.page ≡ page_of back.flight = ap (λ (x : DiskDone). x.page) back.is in
      let expected = found (IsExpected T _ _ d.queue d.calls) t.done.which fs back.flight back.was h.fits.disk.agrees.expected in
      let P : DiskWhich → Type 0 = λ w. Accounts fabric.answers (took_after d w t.done.page t.done.ok t.bytes).0 (without_flight w fs) in
      let Q : Page → Type 0 = λ r. Accounts fabric.answers (took_after d (which_of back.flight) r t.done.ok t.bytes).0
      (without_flight (which_of back.flight) fs) in
      flying_now (took_back d (Some t)).0 k' (without_flight t.done.which fs) back.flights
      (subst P (sym is_which) (subst Q (sym is_page) (of_flight back.flight expected)))
    where
      of_flight :
          (x : Flight) → IsExpected T (pages_of d.sizes) d.sizes.callers d.queue d.calls x
          → Accounts fabric.answers (took_after d (which_of x) (page_of x) t.done.ok t.bytes).0 (without_flight (which_of x) (disk.means k).flights)
      of_flight (disks.Write p bytes) e = wrote_back fabric.answers d (disk.means k).flights p (flying d.queue p) t.done.ok a
      of_flight (disks.Read c p) e = read_back fabric.answers d (disk.means k).flights c p t.done.ok t.bytes e.2 a

  -- a send
  base_has : (d : Device) (k : D) (l : Lender) (q : Parcel) (e base : Device) → Sends There d l q e base → AccountsOf d k → AccountsOf base k
  base_has d k l q e base (write {c = c} {p = p} {bytes = bytes} outs is) a = entered fabric.answers d c p bytes (disk.means k).flights a
  base_has d k l q e base (read ins within is none at) a = a
  base_has d k l q e base (borrow within may) a = a
  base_has d k l q e base (query within may) a = a
  base_has d k l q e base (query_too within state other may) a = a

  sent_has : (d : Device) (k : D) (f : F) (l : Lender) (q : Parcel) (e base : Device) → Agree d k f → Sends There d l q e base → AccountsOf d k → AccountsOf e k
  sent_has d k f l q e base h (write {c = c} {p = p} {bytes = bytes} outs is) a =
      let x : Device = enter_entry d c p bytes in
      others_stay fabric.answers x (disk.means k).flights (disk.means k).flights _ x.links_made
      (λ b. acc.sent_reads b (disk.means k).flights d.remote.links l _) (entered fabric.answers d c p bytes (disk.means k).flights a)
  sent_has d k f l q e base h (borrow {t = t} within may) a =
      others_stay fabric.answers d (disk.means k).flights (disk.means k).flights _ d.links_made
      (λ b. acc.sent_reads b (disk.means k).flights d.remote.links l _) a
  sent_has d k f l q e base h (query {t = t} within may) a =
      others_stay fabric.answers d (disk.means k).flights (disk.means k).flights _ d.links_made
      (λ b. acc.sent_reads b (disk.means k).flights d.remote.links l _) a
  sent_has d k f l q e base h (query_too {t = t} within state other may) a =
      others_stay fabric.answers d (disk.means k).flights (disk.means k).flights _ d.links_made
      (λ b. acc.sent_reads b (disk.means k).flights d.remote.links l _) a
  sent_has d k f l q e base h (read {c = c} {p = p} {k = j} {n = n} ins within is none at) a =
      let fs : List Flight = (disk.means k).flights in
      let idles = keep.ins_wait There d c p ins in
      let up : is_up d.remote.links l ≡ true = keep.sends_up There d l q e base (read ins within is none at) in
      let ring : List Request = ring_of d.remote.links l in
      let quiet_ring : AllByRecursion (λ y. is_read_of c y ≡ false) ring =
      All-implies _ _ ring (λ y w. not_asked d.sizes d.history d.calls d.remote.slabs l c y idles.1 w) (h.fits.serves.link l).awaited in
      let link_in : l.0 < _ = keep.link_within disk follows fabric laws T o far_may bytes_may d k f l h up in
      let P : LinkState → Type 0 = λ y. (y.up ≡ true) × (find_read c y.ring ≡ Some (request.Read c p)) in
      one_set fabric.answers d fs fs _ c (record { state = Reading p n (via.Lender l) arrived.Waiting false d.failed_reads; bytes = [] })
      (λ b other. acc.sent_reads b fs d.remote.links l (request.Read c p)) (
        last_out d.history p n is,
        subst P (sym (link-same d.remote.links l (rings.sent_on (rings.link_of d.remote.links l) (request.Read c p)) link_in))
            (up, find_last (is_read_of c) ring (request.Read c p) quiet_ring (eq-eqb c.0 c.0 refl)),
        tt,
      )
      a
    where
      find_read : Caller → List Request → Option Request
      find_read b ys = find (is_read_of b) ys

  -- a message that answers the oldest request
  heard_has :
      (d : Device) (k : D) (f g : F) (l : Lender) (q : Parcel) (x : Heard) → Agree d k f → is_up d.remote.links l ≡ true → Hears d l q x
      → fabric.moves f (Take l) (Brought q) g → AccountsOf d k → AccountsOf x.device k
  heard_has d k f g l q x h up (roomy {t = t} {rest = rest} ring says same) moved a =
      others_stay fabric.answers d (disk.means k).flights (disk.means k).flights _ d.links_made
      (λ b. acc.answered_reads b (disk.means k).flights d.remote.links l (request.Query t) rest ring refl) a
  heard_has d k f g l q x h up (asked_rate says at) moved a = a
  heard_has d k f g l q x h up (told_to_go {t = t} says at) moved a =
      stays_on fabric.answers d (remote.evicted_after d.sizes d.remote t) (disk.means k).flights refl a
  heard_has d k f g l q x h up (lent {t = t} {rest = rest} ring says same none) moved a =
      others_stay fabric.answers d (disk.means k).flights (disk.means k).flights _ d.links_made
      (λ b. acc.answered_reads b (disk.means k).flights d.remote.links l (request.Borrow t) rest ring refl) a
  heard_has d k f g l q x h up (refused {t = t} {rest = rest} ring says same) moved a =
      others_stay fabric.answers d (disk.means k).flights (disk.means k).flights _ d.links_made
      (λ b. acc.answered_reads b (disk.means k).flights d.remote.links l (request.Borrow t) rest ring refl) a
  heard_has d k f g l q x h up (written {p = p} {e = n} {rest = rest} ring says named) moved a =
      let fs : List Flight = (disk.means k).flights in
      let settled : List LinkState = rings.answered_after d.remote.links l in
      let now : Remote = remote.written_after d.sizes d.remote l p (is_newest (last d.history p) n) in
      let same : now.links ≡ settled = written_links _ _ p in
      others_stay fabric.answers d fs fs now d.links_made
      (λ b. subst (λ x. ReadStays b fs fs d.remote.links x) (sym same) (acc.answered_reads b fs d.remote.links l (request.Write p n) rest ring refl)) a
  heard_has d k f g l q x h up (brought {c = c} {p = p} {at = at} {rest = rest} ring says named) moved a =
      let fs : List Flight = (disk.means k).flights in
      let r = promised.page_is q.msg at says in
      let owed =
      owes_first (fabric.owes f) d.history d.calls l c p rest
      (subst (λ ys. OwesReads (fabric.owes f) d.history d.calls l ys) ring ((h.fits.serves.link l).owed up)) in
      let awaited : AllByRecursion (IsAwaited d.sizes d.history d.calls d.remote.slabs l) (request.Read c p ∷ rest) =
      subst (λ ys. AllByRecursion (IsAwaited d.sizes d.history d.calls d.remote.slabs l) ys) ring (h.fits.serves.link l).awaited in
      one_set fabric.answers d fs fs (remote.settled_for d.sizes d.remote l p) c (calls.arrives arrived.Came q.page (call_of d.calls c) (state_of d.calls c))
      (λ b other. acc.answered_reads b fs d.remote.links l (request.Read c p) rest ring (not_eqb b.0 c.0 other))
      (acc.lender_came fabric.answers d.failed_writes d.history fs d.remote.links (rings.answered_after d.remote.links l) l c p owed.page q.page
      (call_of d.calls c)
      (state_of d.calls c) awaited.0.3 owed.content (laws.page_answers f l q g owed.page owed.more moved r.1 owed.owed) (a.calls c))
      a

  -- each move
  pub each_accounts : EachKeepsWhere disk.moves fabric.moves (Move There) (keep.Agrees disk follows fabric laws T o far_may bytes_may)
      (λ s k f. AccountsOf s.device k)
  each_accounts x asked y k k' f f' (enters {d = d} {c = c} {p = p} {bytes = bytes} outs) stay h a = entered fabric.answers d c p bytes (disk.means k).flights a
  each_accounts x asked y k k' f f' (gives {d = d} {c = c} {p = p} {named = named} {from = from} {bytes = bytes} given) stay h a =
      answered fabric.answers d c (row_of d.history c p (op.PageIn named from) bytes) (disk.means k).flights (λ q. refl) a
  each_accounts x asked y k k' f f' (faults {d = d} {c = c} {p = p} {k = kind} {since = since} {at = at} {bytes = bytes} fails) stay h a =
      answered fabric.answers d c (row_of d.history c p (op.Failed kind since at) bytes) (disk.means k).flights (λ q. refl) a
  each_accounts x asked y k k' f f' (waits_for_room {d = d} c p bytes e within hands) stay h a =
      one_set fabric.answers d (disk.means k).flights (disk.means k).flights d.remote c (record { state = _; bytes = bytes }) (λ b other q v w. w)
      (omega arith) a
  each_accounts x asked y k k' f f' (rates_change {d = d} rates) stay h a = rates_on fabric.answers d rates (disk.means k).flights a
  each_accounts x asked y k k' f f' (lets_go {d = d} l within up) stay h a = let_go fabric.answers d l (disk.means k).flights a
  each_accounts x asked y k k' f f' (gives_up {d = d} l t off asks) stay h a =
      stays_on fabric.answers d (remote.gone_after d.remote l t) (disk.means k).flights refl a
  each_accounts x asked y k k' f f' (starts {d = d} {p = p} {line = line} {copy = copy} {r = r} el ec) (by_disk moved) h a =
      flying_now (record d { queue = queue.start d.queue }) k' _ (ap (λ (x : Port). x.flights) (follows k (StartWrite p copy.bytes) r k' moved))
      (one_started fabric.answers d (disk.means k).flights p line copy _ el ec a)
  each_accounts x asked y k k' f f' (waits_for_disk {d = d} {c = c} {p = p} {n = n} {r = r} ins within is none) (by_disk moved) h a =
      disk_waited d k k' f c p n r h ins is moved a
  each_accounts x asked y k k' f f' (takes {d = d} {taken = taken}) (by_disk moved) h a = took_back_one d k k' f taken h (follows k TakeDone taken k' moved).1 a
  each_accounts x asked y k k' f f' (lets_finish {d = d} {w = w} {ok = ok} {done = done}) (by_disk moved) h a =
      flying_now d k' (disk.means k).flights (finish_flights (disk.means k) (disk.means k') _ _ _ ok done (follows k (LetFinish w ok) done k' moved)) a
  each_accounts x asked y k k' f f' (sends {d = d} {e = e} {base = base} {l = l} {q = q} one) (by_fabric moved) h a = sent_has d k f l q e base h one a
  each_accounts x asked y k k' f f' (finds_down {d = d} {e = e} {base = base} {l = l} {q = q} one) (by_fabric moved) h a =
      let_go fabric.answers base l (disk.means k).flights (base_has d k l q e base one a)
  each_accounts x asked y k k' f f' (raises {d = d} {l = l} within off) (by_fabric moved) h a =
      others_stay fabric.answers d (disk.means k).flights (disk.means k).flights (remote.raised_after d.remote l) (d.links_made + 1)
      (λ b. acc.raised_reads b (disk.means k).flights d.remote.links l off) a
  each_accounts x asked y k k' f f' (speaks word) (by_fabric moved) h a = a
  each_accounts x asked y k k' f f' (speaks_to_nobody {d = d} {l = l} word) (by_fabric moved) h a = let_go fabric.answers d l (disk.means k).flights a
  each_accounts x asked y k k' f f' (hears {d = d} {h = heard} {l = l} {q = q} up one) (by_fabric moved) h a = heard_has d k f f' l q heard h up one moved a
  each_accounts x asked y k k' f f' (hears_nothing up) (by_fabric moved) h a = a
  each_accounts x asked y k k' f f' (loses {d = d} {l = l} up) (by_fabric moved) h a = let_go fabric.answers d l (disk.means k).flights a
  each_accounts x asked y k k' f f' (misunderstands up) (by_fabric moved) h a = a
  each_accounts x asked y k k' f f' (breaks_off {d = d} {l = l}) (by_fabric moved) h a = let_go fabric.answers d l (disk.means k).flights a
  each_accounts x asked y k k' f f' (far one) (by_fabric moved) h a = a
