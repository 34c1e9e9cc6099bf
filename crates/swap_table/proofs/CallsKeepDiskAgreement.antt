-- Each call of the device keeps what device and disk agree on, whatever the disk answers.
use Rattle.std.proofs.Common.{◌≡◌, ℕ, ◌<◌, Bool, true, false, cond, List, [], ◌∷◌, ◌++◌, find, refl, sym, ap, ◌∙◌, subst, is_some, is_none, MatchOption, Option, None, Some}
use Rattle.swap_base.specs.declared.Page.{Page}
use Rattle.swap_base.specs.declared.Caller.{Caller}
use Rattle.swap_base.specs.declared.EntryNo.{EntryNo}
use Rattle.swap_base.specs.declared.Origin.{Origin}
use Rattle.swap_base.specs.declared.CallKind.{CallKind}
use Rattle.swap_base.specs.declared.DiskWhich.{DiskWhich}
use Rattle.swap_base.specs.declared.DiskWhich.TheVariants as which
use Rattle.swap_base.specs.Sizes.{pages_of, zeros}
use Rattle.swap_record.specs.History.{History, array, last, is_out_of, is_zero, next_name}
use Rattle.swap_queue.specs.Queue as queue
use Rattle.swap_queue.specs.Queue.{Queue, Copy, newest, next_copy, flying, first_of}
use Rattle.swap_disk.specs.declared.DiskDone.{DiskDone}
use Rattle.swap_wire.specs.Fabric.{FabricOf}
use Rattle.swap_disk.specs.Disk.{Flight, Write, Read, Finished, Taken, which_of, page_of, is_flight_of, without_flight}
use Rattle.swap_disk.specs.Port.{Port, Takes, TakesTold, LetsFinish, port_started, kept_by}
use Rattle.swap_calls.specs.Calls as calls
use Rattle.swap_calls.specs.Calls.{idle_call}
use Rattle.swap_calls.specs.declared.Arrived.{Arrived}
use Rattle.swap_calls.specs.declared.Arrived.TheVariants as arrived
use Rattle.swap_table.specs.Device.{Device, of_device, enter_entry, give, fault, wait_for_room, wait_for_disk, wrote_after, took_after, took_back}
use Rattle.swap_table.specs.Fits.{MayGive, block_in, IsBlock, HoldsPage, IsCopyOf, IsExpected, IsSettled, IsUnderWay, Agrees, AgreesAt, FitsDisk}
use Rattle.swap_table.proofs.HistoryStaysOrdered.{enter_keeps, give_keeps, fault_keeps, room_wait_keeps, disk_wait_keeps, took_back_keeps}
use Rattle.swap_table.proofs.HistoryAgreement.{IdleFor, enter_agrees, call_agrees, row_agrees, read_agrees, start_agrees, wrote_agrees, read_back_agrees, finish_agrees, found, some_first, copy_flies, IsBrought}

-- a page that was never paged out is zeros
pub array-none : (z : List ℕ) (H : History) (p : Page) → last H p ≡ None → array z H p ≡ z
array-none z [] p e = refl
array-none z (row ∷ H) p e = go (is_out_of p row) e (array-none z H p)
  where
    go : (b : Bool) → cond b (Some (next_name H)) (last H p) ≡ None → (last H p ≡ None → array z H p ≡ z) → cond b row.bytes (array z H p) ≡ z
    go true e rest = cc
    go false e rest = rest e

abbrev pub is_waiting : Arrived → Bool
is_waiting arrived.Waiting = true
is_waiting _ = false

-- the moves
pub enter_fits :
    (T : Bool) (A : List ℕ → List ℕ → Type 0) (d : Device) (p : Port) (c : Caller) (page : Page) (bytes : List ℕ) → FitsDisk T A d p → IdleFor d.calls c
    → page.0 < pages_of d.sizes → FitsDisk T A (enter_entry d c page bytes) p
enter_fits T A d p c page bytes k idles within = record {
  sizes = k.sizes;
  in_order = enter_keeps d c page bytes k.in_order;
  agrees = enter_agrees T A _ _ (zeros d.sizes) d.history d.queue p.blocks p.flights p.finished d.calls c page bytes k.agrees within idles;
}

pub give_fits : (T : Bool) (A : List ℕ → List ℕ → Type 0) (d : Device) (p : Port) (c : Caller) (page : Page) (named : Option EntryNo) (from : Origin)
    (bytes : List ℕ)
    → FitsDisk T A d p → IdleFor d.calls c → named ≡ last d.history page → is_zero from ≡ is_none named
    → MayGive T A from (array (zeros d.sizes) d.history page) bytes
    → FitsDisk T A (give d c page named from bytes) p
give_fits T A d p c page named from bytes k idles is_last is_from gives = record {
  sizes = k.sizes;
  in_order = give_keeps d c page named from bytes k.in_order is_last is_from;
  agrees =
      row_agrees T A _ _ (zeros d.sizes) d.history _ d.queue p.blocks p.flights p.finished (calls.end_after d.calls c)
      (call_agrees T A _ _ (zeros d.sizes) d.history d.queue p.blocks p.flights p.finished d.calls c idle_call k.agrees idles tt) (λ r. refl) gives;
}

pub fault_fits : (T : Bool) (A : List ℕ → List ℕ → Type 0) (d : Device) (p : Port) (c : Caller) (page : Page) (kind : CallKind) (since at : ℕ) (bytes : List ℕ)
    → FitsDisk T A d p → IdleFor d.calls c → since < at → FitsDisk T A (fault d c page kind since at bytes) p
fault_fits T A d p c page kind since at bytes k idles later = record {
  sizes = k.sizes;
  in_order = fault_keeps d c page kind since at bytes k.in_order later;
  agrees =
      row_agrees T A _ _ (zeros d.sizes) d.history _ d.queue p.blocks p.flights p.finished (calls.end_after d.calls c)
      (call_agrees T A _ _ (zeros d.sizes) d.history d.queue p.blocks p.flights p.finished d.calls c idle_call k.agrees idles tt) (λ r. refl) tt;
}

pub room_wait_fits :
    (T : Bool) (A : List ℕ → List ℕ → Type 0) (d : Device) (p : Port) (c : Caller) (page : Page) (bytes : List ℕ) → FitsDisk T A d p → IdleFor d.calls c
    → page.0 < pages_of d.sizes → FitsDisk T A (wait_for_room d c page bytes) p
room_wait_fits T A d p c page bytes k idles within = record {
  sizes = k.sizes;
  in_order = room_wait_keeps d c page bytes k.in_order;
  agrees = call_agrees T A _ _ (zeros d.sizes) d.history d.queue p.blocks p.flights p.finished d.calls c _ k.agrees idles within;
}

pub disk_wait_fits : (T : Bool) (A : List ℕ → List ℕ → Type 0) (d : Device) (p : Port) (c : Caller) (page : Page) (n : EntryNo)
    → FitsDisk T A d p → IdleFor d.calls c → c.0 < d.sizes.callers → page.0 < pages_of d.sizes → last d.history page ≡ Some n → newest d.queue page ≡ None
    → FitsDisk T A (wait_for_disk d c page n) (port_started p (Read c page))
disk_wait_fits T A d p c page n k idles caller_in within is_last none = record {
  sizes = k.sizes;
  in_order = disk_wait_keeps d c page n k.in_order is_last;
  agrees =
      read_agrees T A _ _ (zeros d.sizes) d.history d.queue p.blocks p.flights p.finished d.calls c page n d.failed_reads k.agrees idles caller_in within none;
}

pub start_fits :
    (T : Bool) (A : List ℕ → List ℕ → Type 0) (d : Device) (p : Port) (page : Page) (line : List Page) (copy : Copy) → FitsDisk T A d p
    → d.queue.line ≡ page ∷ line → next_copy d.queue page ≡ Some copy
    → FitsDisk T A (record d { queue = queue.start d.queue }) (port_started p (Write page (kept_by p.blocks copy.bytes)))
start_fits T A d p page line copy k is_line is_next =
    let P : Queue → Type 0 =
    λ q.
    Agrees T A (pages_of d.sizes) d.sizes.callers (zeros d.sizes) d.history q p.blocks
    (p.flights ++ Write page (kept_by p.blocks copy.bytes) ∷ []) p.finished d.calls in
    record {
      sizes = k.sizes;
      in_order = record { ordered = k.in_order.ordered; calls = k.in_order.calls };
      agrees =
          subst P (sym (ap (queue.start_of d.queue) is_line))
          (start_agrees T A _ _ (zeros d.sizes) d.history d.queue p.blocks p.flights p.finished d.calls page line copy k.agrees is_line is_next);
    }

-- what the disk gave back
after_ok :
    (T : Bool) (bl : Option (List (List ℕ))) (page : Page) (a f : Option Copy) (copy : Copy) (bytes content : List ℕ) → is_some bl ≡ T → f ≡ Some copy
    → (T ≡ true → copy.bytes ≡ bytes) → IsBlock (block_in bl page) bytes
    → MatchOption (first_of a f) (IsBlock (block_in bl page) content) (λ (x : Copy). x.bytes ≡ content)
    → HoldsPage (record { flying = None; next = a }) (block_in bl page) content
after_ok T bl page (Some x) f copy bytes content tells e same settled h = h
after_ok T bl page None None copy bytes content tells e same settled h = cc
after_ok T None page None (Some x) copy bytes content tells e same settled h = tt
after_ok T (Some blocks) page None (Some x) copy bytes content tells e same settled h =
    let is : x ≡ copy = cc in settled ∙ sym (same (sym tells)) ∙ sym (ap (λ (y : Copy). y.bytes) is) ∙ h

after_bad :
    (bl : Option (List ℕ)) (a f : Option Copy) (copy : Copy) (content : List ℕ) → f ≡ Some copy
    → MatchOption (first_of a f) (IsBlock bl content) (λ (x : Copy). x.bytes ≡ content) → HoldsPage (record { flying = None; next = first_of a f }) bl content
after_bad bl (Some x) f copy content e h = h
after_bad bl None None copy content e h = cc
after_bad bl None (Some x) copy content e h = h

wrote_back :
    (T : Bool) (A : List ℕ → List ℕ → Type 0) (d : Device) (p now : Port) (page : Page) (bytes : List ℕ) (ok : Bool) (copy : Option Copy) → AgreesAt T A d p
    → now.blocks ≡ p.blocks → now.flights ≡ without_flight (which.Write page) p.flights → now.finished ≡ None
    → find (is_flight_of (which.Write page)) p.flights ≡ Some (Write page bytes) → (ok ≡ true → IsBlock (block_in p.blocks page) bytes)
    → flying d.queue page ≡ copy
    → AgreesAt T A (wrote_after d page copy ok).0 now
wrote_back T A d p now page bytes ok None h eb ef en there settled e =
    let w : IsExpected T (pages_of d.sizes) d.sizes.callers d.queue d.calls (Write page bytes) =
    found (IsExpected T (pages_of d.sizes) d.sizes.callers d.queue d.calls) (which.Write page) p.flights (Write page bytes) there h.expected in
    absurd (let P : Option Copy → Type 0 = λ o. IsCopyOf T bytes o in subst P e w.1)
wrote_back T A d p now page bytes true (Some copy) h eb ef en there settled e =
    let w : IsExpected T (pages_of d.sizes) d.sizes.callers d.queue d.calls (Write page bytes) =
    found (IsExpected T (pages_of d.sizes) d.sizes.callers d.queue d.calls) (which.Write page) p.flights (Write page bytes) there h.expected in
    let of_copy : IsCopyOf T bytes (Some copy) = let P : Option Copy → Type 0 = λ o. IsCopyOf T bytes o in subst P e w.1 in
    rw (eb, ef, en)
    (wrote_agrees T A _ _ (zeros d.sizes) d.history d.queue p.blocks p.flights p.finished d.calls page bytes (next_copy d.queue page)
    (is_some (next_copy d.queue page)) h there (λ x. x)
    (after_ok T p.blocks page (next_copy d.queue page) (flying d.queue page) copy bytes _ h.tells e of_copy (settled refl) (h.held page w.0)))
wrote_back T A d p now page bytes false (Some copy) h eb ef en there settled e =
    let w : IsExpected T (pages_of d.sizes) d.sizes.callers d.queue d.calls (Write page bytes) =
    found (IsExpected T (pages_of d.sizes) d.sizes.callers d.queue d.calls) (which.Write page) p.flights (Write page bytes) there h.expected in
    rw (eb, ef, en)
    (wrote_agrees T A _ _ (zeros d.sizes) d.history d.queue p.blocks p.flights p.finished d.calls page bytes (newest d.queue page) true h there
    (λ _. some_first (next_copy d.queue page) (flying d.queue page) (copy_flies T bytes (flying d.queue page) w.1))
    (after_bad (block_in p.blocks page) (next_copy d.queue page) (flying d.queue page) copy _ e (h.held page w.0)))

not_finished : (f : Finished) (o : Option Finished) → o ≡ None → o ≡ Some f → ⊥
not_finished f None e h = cc
not_finished f (Some g) e h = cc

-- where blocks are told, the block of a write that came back ok holds its bytes
is_settled :
    (bl : Option (List (List ℕ))) (fs : List Flight) (fin : Option Finished) (page : Page) (bytes given : List ℕ) (ok : Bool) → IsUnderWay bl fs fin
    → TakesTold bl fin (Write page bytes) ok given → ok ≡ true → IsBlock (block_in bl page) bytes
is_settled None fs fin page bytes given ok u told is_ok = tt
is_settled (Some blocks) fs None page bytes given ok u told is_ok = absurd (not_finished _ None refl told.0)
is_settled (Some blocks) fs (Some f) page bytes given ok u told is_ok =
    let e : Some f ≡ Some (record { flight = Write page bytes; ok = ok }) = told.0 in
    let same : f ≡ record { flight = Write page bytes; ok = ok } = cc in
    let P : Finished → Type 0 = λ g. IsSettled (Some blocks) g.flight g.ok in
    let settled : IsSettled (Some blocks) (Write page bytes) ok = subst P same u.1 in settled is_ok

-- a read that came back ok gives its page's block, where blocks are told
is_brought :
    (bl : Option (List (List ℕ))) (fin : Option Finished) (c : Caller) (page : Page) (bytes : List ℕ) → TakesTold bl fin (Read c page) true bytes
    → IsBrought bl page bytes arrived.Came
is_brought None fin c page bytes told = tt
is_brought (Some blocks) fin c page bytes told = sym told.1

took_agrees :
    (T : Bool) (A : List ℕ → List ℕ → Type 0) (d : Device) (p now : Port) (flight : Flight) (ok : Bool) (bytes : List ℕ) → AgreesAt T A d p
    → now.blocks ≡ p.blocks → now.flights ≡ without_flight (which_of flight) p.flights → now.finished ≡ None
    → find (is_flight_of (which_of flight)) p.flights ≡ Some flight → TakesTold p.blocks p.finished flight ok bytes
    → AgreesAt T A (took_after d (which_of flight) (page_of flight) ok bytes).0 now
took_agrees T A d p now (Write page written) ok bytes h eb ef en there told =
    wrote_back T A d p now page written ok (flying d.queue page) h eb ef en there
    (is_settled p.blocks p.flights p.finished page written bytes ok h.under_way told) refl
took_agrees T A d p now (Read c page) true bytes h eb ef en there told =
    rw (eb, ef, en)
    (read_back_agrees T A _ _ (zeros d.sizes) d.history d.queue p.blocks p.flights p.finished d.calls c page bytes arrived.Came h
    (found (IsExpected T (pages_of d.sizes) d.sizes.callers d.queue d.calls) (which.Read c) p.flights (Read c page) there h.expected)
    (is_brought p.blocks p.finished c page bytes told))
took_agrees T A d p now (Read c page) false bytes h eb ef en there told =
    rw (eb, ef, en)
    (read_back_agrees T A _ _ (zeros d.sizes) d.history d.queue p.blocks p.flights p.finished d.calls c page [] arrived.Failed h
    (found (IsExpected T (pages_of d.sizes) d.sizes.callers d.queue d.calls) (which.Read c) p.flights (Read c page) there h.expected) tt)

wrote_of : (d : Device) (page : Page) (copy : Option Copy) (ok : Bool) → of_device (wrote_after d page copy ok).0 ≡ of_device d
wrote_of d page None ok = refl
wrote_of d page (Some copy) true = refl
wrote_of d page (Some copy) false = refl

took_of : (d : Device) (w : DiskWhich) (page : Page) (ok : Bool) (bytes : List ℕ) → of_device (took_after d w page ok bytes).0 ≡ of_device d
took_of d (which.Write r) page ok bytes = wrote_of d page (flying d.queue page) ok
took_of d (which.Read c) page true bytes = refl
took_of d (which.Read c) page false bytes = refl

pub took_back_of : (d : Device) (taken : Option Taken) → of_device (took_back d taken).0 ≡ of_device d
took_back_of d None = refl
took_back_of d (Some t) = took_of d t.done.which t.done.page t.done.ok t.bytes

pub took_back_fits :
    (T : Bool) (A : List ℕ → List ℕ → Type 0) (d : Device) (p now : Port) (taken : Option Taken) → FitsDisk T A d p → now.sizes ≡ p.sizes → Takes p taken now
    → FitsDisk T A (took_back d taken).0 now
took_back_fits T A d p now None k es takes = record {
  sizes = es ∙ k.sizes;
  in_order = k.in_order;
  agrees = rw (takes.flights, takes.blocks, takes.finished) k.agrees;
}
took_back_fits T A d p now (Some t) k es takes =
    let f : Flight = takes.flight in
    let is_which : t.done.which ≡ which_of f = ap (λ (x : DiskDone). x.which) takes.is in
    let is_page : t.done.page ≡ page_of f = ap (λ (x : DiskDone). x.page) takes.is in
    let there : find (is_flight_of (which_of f)) p.flights ≡ Some f = subst (λ w. find (is_flight_of w) p.flights ≡ Some f) is_which takes.was in
    let left : now.flights ≡ without_flight (which_of f) p.flights = takes.flights ∙ ap (λ w. without_flight w p.flights) is_which in
    let agrees : AgreesAt T A (took_after d (which_of f) (page_of f) t.done.ok t.bytes).0 now =
    took_agrees T A d p now f t.done.ok t.bytes k.agrees takes.blocks left takes.finished there takes.told in
    let P : DiskWhich → Type 0 = λ w. AgreesAt T A (took_after d w t.done.page t.done.ok t.bytes).0 now in
    let Q : Page → Type 0 = λ r. AgreesAt T A (took_after d (which_of f) r t.done.ok t.bytes).0 now in
    record {
      sizes = es ∙ k.sizes ∙ sym (ap (λ (x : FabricOf). x.sizes) (took_of d t.done.which t.done.page t.done.ok t.bytes));
      in_order = took_back_keeps d (Some t) k.in_order;
      agrees = subst P (sym is_which) (subst Q (sym is_page) agrees);
    }

-- an operation of a disk in memory finishes, or nothing does
lets_finish_by : (T : Bool) (A : List ℕ → List ℕ → Type 0) (d : Device) (p now : Port) (w : DiskWhich) (ok answer : Bool) (bl : Option (List (List ℕ)))
    (fin : Option Finished) (flight : Option Flight)
    → FitsDisk T A d p → p.blocks ≡ bl → p.finished ≡ fin → find (is_flight_of w) p.flights ≡ flight → LetsFinish p bl fin flight ok answer now
    → FitsDisk T A d now
lets_finish_by T A d p now w ok answer None fin flight k eb ef el h = subst (λ x. FitsDisk T A d x) (sym h.1) k
lets_finish_by T A d p now w ok answer (Some blocks) (Some f) flight k eb ef el h = subst (λ x. FitsDisk T A d x) (sym h.1) k
lets_finish_by T A d p now w ok answer (Some blocks) None None k eb ef el h = subst (λ x. FitsDisk T A d x) (sym h.1) k
lets_finish_by T A d p now w ok answer (Some blocks) None (Some f) k eb ef el h =
    let before : Agrees T A (pages_of d.sizes) d.sizes.callers (zeros d.sizes) d.history d.queue (Some blocks) p.flights None d.calls =
    let P : Option (List (List ℕ)) → Type 0 =
    λ b. Agrees T A (pages_of d.sizes) d.sizes.callers (zeros d.sizes) d.history d.queue b p.flights p.finished d.calls in
    let Q : Option Finished → Type 0 = λ g. Agrees T A (pages_of d.sizes) d.sizes.callers (zeros d.sizes) d.history d.queue (Some blocks) p.flights g d.calls in
    subst Q ef (subst P eb k.agrees) in
    subst (λ x. FitsDisk T A d x) (sym h.1.is)
    (record {
      sizes = k.sizes;
      in_order = k.in_order;
      agrees = finish_agrees T A _ _ (zeros d.sizes) d.history d.queue blocks p.flights d.calls w f ok h.1.left before el;
    })

pub lets_finish_fits :
    (T : Bool) (A : List ℕ → List ℕ → Type 0) (d : Device) (p now : Port) (w : DiskWhich) (ok answer : Bool) → FitsDisk T A d p
    → LetsFinish p p.blocks p.finished (find (is_flight_of w) p.flights) ok answer now → FitsDisk T A d now
lets_finish_fits T A d p now w ok answer k h = lets_finish_by T A d p now w ok answer p.blocks p.finished (find (is_flight_of w) p.flights) k refl refl refl h
