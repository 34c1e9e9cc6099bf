-- What leaves for the disk, and what comes back from it.
use Rattle.std.proofs.lemmas.List.Sums.{sum_by-append}
use Rattle.std.proofs.Common.{◌≡◌, ℕ, ◌+◌, ◌<◌, ◌≤◌, set, lit≤, Bool, true, List, [], ◌∷◌, length, find, count_by, sum_by, refl, sym, ap, ◌∙◌, subst, is_some, arith, option_map, Option, None, Some}
use Rattle.std.specs.List.{AllByRecursion}
use Rattle.swap_base.specs.declared.Page.{Page}
use Rattle.swap_base.specs.declared.EntryNo.{EntryNo}
use Rattle.swap_base.specs.Sizes.{Sizes, pages_of}
use Rattle.swap_base.specs.declared.Via.TheVariants as via
use Rattle.swap_base.specs.declared.DiskWhich.TheVariants as which
use Rattle.swap_disk.specs.declared.DiskDone.{DiskDone}
use Rattle.swap_disk.specs.Disk.{Flight, Write, Read, Taken, which_of, page_of, is_flight_of}
use Rattle.swap_disk.specs.Port.{Port, Takes, writes_in}
use Rattle.swap_queue.specs.Queue.{Queue, Copy, Places, next_copy, flying, front, front_of, start, start_of, copies_at, one_if as queue_one_if}
use Rattle.swap_queue.specs.Kept.{IsQueue}
use Rattle.swap_queue.specs.BehindView.{started_answer}
use Rattle.swap_calls.specs.Calls.{Calls, is_waiting, state_of}
use Rattle.swap_calls.specs.declared.Arrived.TheVariants as arrived
use Rattle.swap_calls.specs.declared.CallState.{CallState}
use Rattle.swap_calls.specs.declared.CallState.TheVariants.{Idle, Room, Reading}
use Rattle.swap_table.specs.Device.{Device}
use Rattle.swap_table.specs.Fits.{FitsDisk, WaitsFor, IsExpected, IsInLine, flies}
use Rattle.swap_base.proofs.Lists.{one_if, count_by-set_more, count_by-cons}
use Rattle.swap_table.proofs.HistoryAgreement.{found, copy_flies}
use Rattle.swap_device.specs.State.{WritesBack, ReadsBack}
use Rattle.swap_device.proofs.Free.{write_free}

-- the copy at the front of the line
pub record IsFront (q : Queue) (pg : Page) (entry : EntryNo) : Type 0 where
  pub line : List Page
  pub copy : Copy
  pub is_line : q.line ≡ pg ∷ line
  pub is_next : next_copy q pg ≡ Some copy
  pub is_entry : copy.entry ≡ entry

front_by :
    (q : Queue) (line : List Page) (pg : Page) (entry : EntryNo) → q.line ≡ line → Some (pg, entry) ≡ started_answer (front_of q line) → IsFront q pg entry
front_by q [] pg entry el e = cc
front_by q (r ∷ line) pg entry el e = go (next_copy q r) refl e
  where
    go : (o : Option Copy) → next_copy q r ≡ o → Some (pg, entry) ≡ started_answer (option_map (λ (copy : Copy). (r, copy)) o) → IsFront q pg entry
    go None en e = cc
    go (Some copy) en e =
        let same : (pg, entry) ≡ (r, copy.entry) = some_is e in
        let page : pg ≡ r = ap (λ x. x.0) same in
        record {
          line = line;
          copy = copy;
          is_line = subst (λ x. q.line ≡ x ∷ line) (sym page) el;
          is_next = subst (λ x. next_copy q x ≡ Some copy) (sym page) en;
          is_entry = sym (ap (λ x. x.1) same);
        }
      where
        some_is : {X : Type 0} {x y : X} → Some x ≡ Some y → x ≡ y
        some_is e = cc

pub front_is : (q : Queue) (pg : Page) (entry : EntryNo) → Some (pg, entry) ≡ started_answer (front q) → IsFront q pg entry
front_is q pg entry e = front_by q q.line pg entry refl e

front_in_line :
    (T : Bool) (A : List ℕ → List ℕ → Type 0) (p : Port) (d : Device) (pg : Page) (entry : EntryNo) → FitsDisk T A d p → IsFront d.queue pg entry
    → IsInLine (pages_of d.sizes) d.queue pg
front_in_line T A p d pg entry h f =
    let all : AllByRecursion (IsInLine (pages_of d.sizes) d.queue) (pg ∷ f.line) =
    subst (λ l. AllByRecursion (IsInLine (pages_of d.sizes) d.queue) l) f.is_line h.agrees.in_line in
    all.0

pub start_free :
    (T : Bool) (A : List ℕ → List ℕ → Type 0) (p : Port) (d : Device) (pg : Page) (entry : EntryNo) → FitsDisk T A d p
    → Some (pg, entry) ≡ started_answer (front d.queue) → find (is_flight_of (which.Write pg)) p.flights ≡ None
start_free T A p d pg entry h answer = write_free T A d p pg h (front_in_line T A p d pg entry h (front_is d.queue pg entry answer)).2

-- no more copies fly than there are
few_fly : (ps : List Places) → count_by flies ps ≤ sum_by copies_at ps
few_fly [] = lit≤ tt
few_fly (x ∷ ps) =
    let a = count_by-cons flies x ps in
    let b = sum_by-append copies_at (x ∷ []) ps in
    let rest = few_fly ps in
    let one : one_if (flies x) ≤ copies_at x = few x.flying x.next in omega (arith, a, b, rest, one)
  where
    few : (f n : Option Copy) → one_if (is_some f) ≤ queue_one_if (is_some f) + queue_one_if (is_some n)
    few None n = omega arith
    few (Some y) n = omega arith

-- there is room at the disk for a write of the copy at the front
pub start_room :
    (T : Bool) (A : List ℕ → List ℕ → Type 0) (p : Port) (d : Device) (pg : Page) (entry : EntryNo) → FitsDisk T A d p
    → Some (pg, entry) ≡ started_answer (front d.queue) → IsQueue d.sizes (start d.queue) → writes_in p.flights < p.sizes.queue
start_room T A p d pg entry h answer q =
    let f = front_is d.queue pg entry answer in
    let line = front_in_line T A p d pg entry h f in
    let x : Places = record { flying = next_copy d.queue pg; next = None } in
    let places : (start d.queue).places ≡ set d.queue.places pg.0 x = ap (λ l. (start_of d.queue l).places) f.is_line in
    let fits : pg.0 < length d.queue.places = omega (arith, h.agrees.places_len, line.0) in
    let more : count_by flies (set d.queue.places pg.0 x) ≡ count_by flies d.queue.places + 1 =
    count_by-set_more flies d.queue.places pg.0 x (record { flying = None; next = None }) fits (ap is_some f.is_next) (ap is_some line.2) in
    let few : count_by flies (start d.queue).places ≤ sum_by copies_at (start d.queue).places = few_fly (start d.queue).places in
    let same : count_by flies (start d.queue).places ≡ count_by flies d.queue.places + 1 = ap (λ ps. count_by flies ps) places ∙ more in
    let within : sum_by copies_at (start d.queue).places ≤ (start d.queue).capacity = q.within in
    let capacity : (start d.queue).capacity ≡ d.sizes.queue = q.capacity in
    let size : p.sizes.queue ≡ d.sizes.queue = ap (λ (s : Sizes). s.queue) h.sizes in
    let writes : writes_in p.flights ≡ count_by flies d.queue.places = h.agrees.writes in omega (arith, few, same, within, capacity, size, writes)

-- what the disk gave back: a write is of a copy that flies, and a read is waited for
flew : (T : Bool) (N C : ℕ) (q : Queue) (cs : Calls) (f : Flight) → IsExpected T N C q cs f → WritesBack q (which_of f) (page_of f)
flew T N C q cs (Write pg bytes) w = copy_flies T bytes (flying q pg) w.1
flew T N C q cs (Read c pg) w = tt

waited_state : (pg : Page) (state : CallState) → WaitsFor pg state → is_waiting state ≡ true
waited_state pg Idle w = absurd w
waited_state pg (Room r since) w = absurd w
waited_state pg (Reading r n via.Disk arrived.Waiting newer since) w = refl
waited_state pg (Reading r n via.Disk arrived.Came newer since) w = absurd w
waited_state pg (Reading r n via.Disk arrived.Failed newer since) w = absurd w
waited_state pg (Reading r n via.Disk arrived.Lost newer since) w = absurd w
waited_state pg (Reading r n (via.Lender l) how newer since) w = absurd w

waited : (T : Bool) (N : ℕ) (d : Device) (f : Flight) → IsExpected T N d.sizes.callers d.queue d.calls f → ReadsBack d (which_of f)
waited T N d (Write pg bytes) w = tt
waited T N d (Read c pg) w = (w.0, waited_state pg (state_of d.calls c) w.2)

in_flight :
    (T : Bool) (A : List ℕ → List ℕ → Type 0) (p now : Port) (d : Device) (t : Taken) (h : FitsDisk T A d p) (takes : Takes p (Some t) now)
    → IsExpected T (pages_of d.sizes) d.sizes.callers d.queue d.calls takes.flight
in_flight T A p now d t h takes = found (IsExpected _ _ _ d.queue d.calls) t.done.which p.flights takes.flight takes.was h.agrees.expected

pub writes_back :
    (T : Bool) (A : List ℕ → List ℕ → Type 0) (p now : Port) (d : Device) (t : Taken) → FitsDisk T A d p → Takes p (Some t) now
    → WritesBack d.queue t.done.which t.done.page
writes_back T A p now d t h takes =
    let P : DiskDone → Type 0 = λ x. WritesBack d.queue x.which x.page in
    subst P (sym takes.is) (flew _ _ _ d.queue d.calls takes.flight (in_flight T A p now d t h takes))

pub reads_back :
    (T : Bool) (A : List ℕ → List ℕ → Type 0) (p now : Port) (d : Device) (t : Taken) → FitsDisk T A d p → Takes p (Some t) now → ReadsBack d t.done.which
reads_back T A p now d t h takes =
    let P : DiskDone → Type 0 = λ x. ReadsBack d x.which in
    subst P (sym takes.is) (waited _ _ d takes.flight (in_flight T A p now d t h takes))
