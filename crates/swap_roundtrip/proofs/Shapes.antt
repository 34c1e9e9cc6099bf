-- What is seen of an event is a result of its own kind, and a page that it names is one that there is.
use Rattle.std.proofs.Common.{◌≡◌, ℕ, ◌<◌, Bool, true, false, cond, ◌&&◌, is_none, is_some, find, List, [], ◌∷◌, Option, None, Some, refl, sym, ap, subst, ◌∙◌}
use Rattle.std.specs.List.{AllByRecursion}
use Rattle.swap_base.specs.declared.Page.{Page}
use Rattle.swap_base.specs.declared.Caller.{Caller}
use Rattle.swap_base.specs.declared.DiskWhich.{DiskWhich}
use Rattle.swap_base.specs.declared.DiskWhich.TheVariants as which
use Rattle.swap_base.specs.Sizes.{pages_of}
use Rattle.swap_wire.specs.declared.Event.{Event}
use Rattle.swap_wire.specs.declared.Event.TheVariants as event
use Rattle.swap_wire.specs.declared.Seen.{Seen}
use Rattle.swap_wire.specs.declared.Seen.TheVariants as seen
use Rattle.swap_wire.specs.declared.fabric.Gave.{Gave}
use Rattle.swap_wire.specs.declared.fabric.Gave.TheVariants as gave
use Rattle.swap_wire.specs.declared.fabric.Hosted.{Hosted}
use Rattle.swap_base.specs.declared.Link.{Link}
use Rattle.swap_wire.specs.Fabric.{FabricCall, FabricAnswer}
use Rattle.swap_queue.specs.Queue as queue
use Rattle.swap_queue.specs.Queue.{Copy}
use Rattle.swap_calls.specs.Calls.{state_of, is_idle}
use Rattle.swap_disk.specs.MemDiskView.{MemDiskView}
use Rattle.swap_disk.specs.MemDiskView as drive
use Rattle.swap_disk.specs.Disk as disk
use Rattle.swap_disk.specs.Disk.{Flight, Finished, Taken, Write, Read, is_flight_of, finish_flight, in_flight}
use Rattle.swap_disk.specs.Port.{DiskCall, DiskAnswer, LetFinish}
use Rattle.swap_table.specs.Ports.{Prog, Ret, AskDisk, AskFabric, Along, Leads}
use Rattle.swap_table.specs.Device as device
use Rattle.swap_table.specs.Device.{Device, wrote_after, took_after, took_back, start_copy, start_front}
use Rattle.swap_table.specs.Fits.{IsInLine, IsExpected}
use Rattle.swap_table.specs.Happens.{happens, seen_by, see_out, see_in, see_step, see_start, see_disk, see_tick, see_map, see_link, see_gave, see_cut, see_crash, see_host, see_take, taken_if}
use Rattle.swap_table.specs.declared.OutStep.{OutStep}
use Rattle.swap_table.specs.declared.OutStep.TheVariants as outs
use Rattle.swap_table.specs.declared.InStep.{InStep}
use Rattle.swap_table.specs.declared.InStep.TheVariants as ins
use Rattle.swap_table.specs.declared.Step.{Step}
use Rattle.swap_table.specs.declared.Step.TheVariants as steps
use Rattle.swap_table.specs.declared.DiskStep.TheVariants as ends
use Rattle.swap_table.specs.declared.Placed.{Placed}
use Rattle.swap_table.specs.declared.LinkStep.{LinkStep}
use Rattle.swap_table.specs.declared.LinkStep.TheVariants as link
use Rattle.swap_table.proofs.HistoryAgreement.{found}
use Rattle.swap_table.proofs.Programs.{Leads-answering}

-- the results of each kind of event, of a device with so many pages
abbrev pub Shape : ℕ → Event → Seen → Type 0
Shape n (event.PageOut c p) (seen.Done e to) = Unit {0}
Shape n (event.PageOut c p) seen.Room = Unit {0}
Shape n (event.PageOut c p) seen.Busy = Unit {0}
Shape n (event.PageIn c p) (seen.Done e to) = Unit {0}
Shape n (event.PageIn c p) (seen.Wait v) = Unit {0}
Shape n (event.PageIn c p) seen.Busy = Unit {0}
Shape n (event.Finish c) (seen.Done e to) = Unit {0}
Shape n (event.Finish c) (seen.Fault e) = Unit {0}
Shape n (event.Finish c) seen.Idle = Unit {0}
Shape n (event.Finish c) (seen.Wait v) = Unit {0}
Shape n (event.Finish c) seen.Room = Unit {0}
Shape n (event.Finish c) (seen.Again v) = Unit {0}
Shape n event.Start (seen.Started p e) = p.0 < n
Shape n event.Start seen.Nothing = Unit {0}
Shape n (event.Disk (which.Write p) true) (seen.Written e) = Unit {0}
Shape n (event.Disk (which.Write p) false) (seen.WriteKept e) = Unit {0}
Shape n (event.Disk (which.Write p) false) (seen.WriteDropped e) = Unit {0}
Shape n (event.Disk (which.Read c) true) (seen.ReadCame p) = p.0 < n
Shape n (event.Disk (which.Read c) false) (seen.ReadFailed p) = p.0 < n
Shape n (event.Disk w ok) seen.Nothing = Unit {0}
Shape n (event.Tick word) seen.Ticked = Unit {0}
Shape n (event.Tick word) (seen.Asked slab first second) = Unit {0}
Shape n (event.Map slab l) seen.Borrowing = Unit {0}
Shape n (event.Map slab l) seen.Nothing = Unit {0}
Shape n (event.Connect l) (seen.Linked k) = Unit {0}
Shape n (event.Connect l) seen.Nothing = Unit {0}
Shape n (event.Give l) (seen.Gave m reply evicted) = Unit {0}
Shape n (event.Give l) seen.GaveEnd = Unit {0}
Shape n (event.Give l) (seen.GaveEnded m) = Unit {0}
Shape n (event.Give l) seen.Nothing = Unit {0}
Shape n (event.Take l) (seen.Took m) = Unit {0}
Shape n (event.Take l) seen.Lost = Unit {0}
Shape n (event.Take l) seen.Lied = Unit {0}
Shape n (event.Take l) seen.Nothing = Unit {0}
Shape n (event.Cut l a b) seen.Cut = Unit {0}
Shape n (event.Cut l a b) seen.Nothing = Unit {0}
Shape n (event.Crash l) seen.Crashed = Unit {0}
Shape n (event.Crash l) seen.Nothing = Unit {0}
Shape n (event.Host l u w) (seen.Hosted mean asked) = Unit {0}
Shape n (event.Host l u w) seen.Nothing = Unit {0}
Shape n (event.Round w) (seen.Rounded effects mapped) = Unit {0}
Shape n _ _ = ⊥

nothing_disk : (n : ℕ) (w : DiskWhich) (ok : Bool) → Shape n (event.Disk w ok) seen.Nothing
nothing_disk n (which.Write p) true = tt
nothing_disk n (which.Write p) false = tt
nothing_disk n (which.Read c) true = tt
nothing_disk n (which.Read c) false = tt

-- each answer is seen as a result of its event
out_shape : (n : ℕ) (c : Caller) (p : Page) (r : OutStep) → Shape n (event.PageOut c p) (see_out r)
out_shape n c p (outs.Done e to) = tt
out_shape n c p outs.Room = tt

in_shape : (n : ℕ) (c : Caller) (p : Page) (r : InStep) → Shape n (event.PageIn c p) (see_in r)
in_shape n c p (ins.Done e) = tt
in_shape n c p (ins.Wait v) = tt

step_shape : (n : ℕ) (c : Caller) (r : Step) → Shape n (event.Finish c) (see_step r)
step_shape n c (steps.Done e to) = tt
step_shape n c steps.Room = tt
step_shape n c (steps.Wait v) = tt
step_shape n c (steps.Again v) = tt
step_shape n c (steps.Fault e since at) = tt

tick_shape : (n word : ℕ) (r : Option Placed) → Shape n (event.Tick word) (see_tick r)
tick_shape n word None = tt
tick_shape n word (Some placed) = tt

wrote_shape : (n : ℕ) (d : Device) (q p : Page) (copy : Option Copy) (ok : Bool)
    → Shape n (event.Disk (which.Write q) ok) (see_disk (wrote_after d p copy ok).1)
wrote_shape n d q p None true = tt
wrote_shape n d q p None false = tt
wrote_shape n d q p (Some copy) true = tt
wrote_shape n d q p (Some copy) false = go (queue.next_copy d.queue p)
  where
    go : (o : Option Copy) → Shape n (event.Disk (which.Write q) false) (see_disk (cond (is_none o) (ends.Kept p copy.entry) (ends.Dropped p copy.entry)))
    go None = tt
    go (Some x) = tt

-- an operation that was found is the one that was looked for
found_if : (w : DiskWhich) (g f : Flight) (rest : Option Flight) (b : Bool) → is_flight_of w g ≡ b → (rest ≡ Some f → is_flight_of w f ≡ true)
    → cond b (Some g) rest ≡ Some f → is_flight_of w f ≡ true
found_if w g f rest true is later e = let same : g ≡ f = cc in subst (λ x. is_flight_of w x ≡ true) same is
found_if w g f rest false is later e = later e

found_is : (w : DiskWhich) (fs : List Flight) (f : Flight) → find (is_flight_of w) fs ≡ Some f → is_flight_of w f ≡ true
found_is w [] f e = cc
found_is w (g ∷ fs) f e = found_if w g f (find (is_flight_of w) fs) (is_flight_of w g) refl (found_is w fs f) e

-- the operation that a disk in memory lets finish is the one that it gives back
back_shape : (n : ℕ) (d : Device) (w : DiskWhich) (ok : Bool) (f : Flight) (bytes : List ℕ) → is_flight_of w f ≡ true
    → ((c : Caller) (p : Page) → f ≡ Read c p → p.0 < n) → Shape n (event.Disk w ok) (see_disk (took_after d (disk.which_of f) (disk.page_of f) ok bytes).1)
back_shape n d (which.Write q) ok (Write p b) bytes is range = wrote_shape n d q p (queue.flying d.queue p) ok
back_shape n d (which.Read c) true (Read e p) bytes is range = range e p refl
back_shape n d (which.Read c) false (Read e p) bytes is range = range e p refl
back_shape n d (which.Write q) ok (Read e p) bytes is range = cc
back_shape n d (which.Read c) ok (Write p b) bytes is range = cc

taken_shape : (n : ℕ) (d : Device) (k : disk.Disk) (w : DiskWhich) (ok : Bool) (fin : Option Finished) (fl : Option Flight)
    → (is_none fin && is_some fl) ≡ true → ((f : Flight) → fl ≡ Some f → is_flight_of w f ≡ true)
    → ((f : Flight) → fl ≡ Some f → (c : Caller) (p : Page) → f ≡ Read c p → p.0 < n)
    → Shape n (event.Disk w ok) (see_disk (took_back d (disk.take_from (finish_flight k fin fl ok))).1)
taken_shape n d k w ok (Some x) fl can is range = cc
taken_shape n d k w ok None None can is range = cc
taken_shape n d k w ok None (Some f) can is range = back_shape n d w ok f _ (is f refl) (range f refl)

module _ {D F : Type 0} (disk_moves : D → (c : DiskCall) → DiskAnswer c → D → Type 0) (moves : F → (c : FabricCall) → FabricAnswer c → F → Type 0) where
  leads_any : {A : Type 0} (p : Prog A) (k : D) (f : F) (P : A → Type 0) → ((a : A) → P a) → Leads disk_moves moves p k f (λ a _ _. P a)
  leads_any (Ret a) k f P each = each a
  leads_any (AskDisk c next) k f P each = λ r mid moved. leads_any (next r) mid f P each
  leads_any (AskFabric c next) k f P each = λ r mid moved. leads_any (next r) k mid P each

  by_see : {R : Type 0} (see : R → Seen) (p : Prog (Device × R)) (k : D) (f : F) (Q : Seen → Type 0) → ((r : R) → Q (see r))
      → Leads disk_moves moves (seen_by see p) k f (λ (a : Device × Seen) _ _. Q a.1)
  by_see {R} see p k f Q each =
      Leads-answering disk_moves moves (λ (r : Device × R). (r.0, see r.1)) p k f (λ (a : Device × Seen) _ _. Q a.1)
      (leads_any p k f (λ (r : Device × R). Q (see r.1)) (λ r. each r.1))

  if_idle : (b : Bool) (p q : Prog (Device × Seen)) (k : D) (f : F) (Q : Seen → Type 0) → Leads disk_moves moves p k f (λ (a : Device × Seen) _ _. Q a.1)
      → Leads disk_moves moves q k f (λ (a : Device × Seen) _ _. Q a.1) → Leads disk_moves moves (cond b p q) k f (λ (a : Device × Seen) _ _. Q a.1)
  if_idle true p q k f Q h g = h
  if_idle false p q k f Q h g = g

  copy_shape : (n : ℕ) (d : Device) (p : Page) (copy : Option Copy) (k : D) (f : F) → p.0 < n
      → Leads disk_moves moves (seen_by see_start (start_copy d p copy)) k f (λ (a : Device × Seen) _ _. Shape n event.Start a.1)
  copy_shape n d p None k f l = tt
  copy_shape n d p (Some copy) k f l = λ r mid moved. l

  start_shape : (n : ℕ) (q : queue.Queue) (d : Device) (line : List Page) (k : D) (f : F) → AllByRecursion (IsInLine n q) line
      → Leads disk_moves moves (seen_by see_start (start_front d line)) k f (λ (a : Device × Seen) _ _. Shape n event.Start a.1)
  start_shape n q d [] k f all = tt
  start_shape n q d (p ∷ line) k f all = copy_shape n d p (queue.next_copy d.queue p) k f all.0.0

  -- whatever the ports do, but for the end of an operation
  pub other_shape : (d : Device) (k : D) (f : F) (page : List ℕ) (e : Event) → AllByRecursion (IsInLine (pages_of d.sizes) d.queue) d.queue.line
      → ((w : DiskWhich) (ok : Bool) → e ≡ event.Disk w ok → ⊥) → ((word : ℕ) → e ≡ event.Round word → ⊥)
      → Leads disk_moves moves (happens d page e) k f (λ (a : Device × Seen) _ _. Shape (pages_of d.sizes) e a.1)
  other_shape d k f page (event.PageOut c p) line no_disk no_round =
      let n = pages_of d.sizes in
      if_idle (is_idle (state_of d.calls c)) (seen_by see_out (device.out d c p page)) (Ret (d, seen.Busy)) k f (Shape n (event.PageOut c p))
      (by_see see_out (device.out d c p page) k f (Shape n (event.PageOut c p)) (out_shape n c p)) tt
  other_shape d k f page (event.PageIn c p) line no_disk no_round =
      let n = pages_of d.sizes in
      if_idle (is_idle (state_of d.calls c)) (seen_by see_in (device.read d c p)) (Ret (d, seen.Busy)) k f (Shape n (event.PageIn c p))
      (by_see see_in (device.read d c p) k f (Shape n (event.PageIn c p)) (in_shape n c p)) tt
  other_shape d k f page (event.Finish c) line no_disk no_round =
      let n = pages_of d.sizes in
      if_idle (is_idle (state_of d.calls c)) (Ret (d, seen.Idle)) (seen_by see_step (device.finish d c)) k f (Shape n (event.Finish c)) tt
      (by_see see_step (device.finish d c) k f (Shape n (event.Finish c)) (step_shape n c))
  other_shape d k f page event.Start line no_disk no_round = start_shape (pages_of d.sizes) d.queue d d.queue.line k f line
  other_shape d k f page (event.Disk w ok) line no_disk no_round = absurd (no_disk w ok refl)
  other_shape d k f page (event.Tick word) line no_disk no_round =
      let n = pages_of d.sizes in by_see see_tick (device.tick d word) k f (Shape n (event.Tick word)) (tick_shape n word)
  other_shape d k f page (event.Map slab l) line no_disk no_round =
      by_see see_map (device.map d slab l) k f (Shape (pages_of d.sizes) (event.Map slab l)) each
    where
      each : (r : Bool) → Shape (pages_of d.sizes) (event.Map slab l) (see_map r)
      each true = tt
      each false = tt
  other_shape d k f page (event.Connect l) line no_disk no_round =
      by_see see_link (device.connect d l) k f (Shape (pages_of d.sizes) (event.Connect l)) each
    where
      each : (r : Option Link) → Shape (pages_of d.sizes) (event.Connect l) (see_link r)
      each None = tt
      each (Some x) = tt
  other_shape d k f page (event.Give l) line no_disk no_round = by_see see_gave (device.give_to d l) k f (Shape (pages_of d.sizes) (event.Give l)) each
    where
      each : (r : Gave) → Shape (pages_of d.sizes) (event.Give l) (see_gave r)
      each gave.Nothing = tt
      each gave.End = tt
      each (gave.Got m reply evicted) = tt
      each (gave.Ended m) = tt
  other_shape d k f page (event.Take l) line no_disk no_round = by_see see_take (device.link_take d l) k f (Shape (pages_of d.sizes) (event.Take l)) each
    where
      each : (r : LinkStep) → Shape (pages_of d.sizes) (event.Take l) (see_take r)
      each link.Nothing = tt
      each (link.Got m) = tt
      each link.Lost = tt
      each link.Lied = tt
  other_shape d k f page (event.Cut l a b) line no_disk no_round = by_see see_cut (device.cut d l a b) k f (Shape (pages_of d.sizes) (event.Cut l a b)) each
    where
      each : (r : Bool) → Shape (pages_of d.sizes) (event.Cut l a b) (see_cut r)
      each true = tt
      each false = tt
  other_shape d k f page (event.Crash l) line no_disk no_round = by_see see_crash (device.crash d l) k f (Shape (pages_of d.sizes) (event.Crash l)) each
    where
      each : (r : Bool) → Shape (pages_of d.sizes) (event.Crash l) (see_crash r)
      each true = tt
      each false = tt
  other_shape d k f page (event.Host l u w) line no_disk no_round =
      by_see see_host (device.host d l u w) k f (Shape (pages_of d.sizes) (event.Host l u w)) each
    where
      each : (r : Option Hosted) → Shape (pages_of d.sizes) (event.Host l u w) (see_host r)
      each None = tt
      each (Some x) = tt
  other_shape d k f page (event.Round word) line no_disk no_round = absurd (no_round word refl)

-- reads in flight are of pages that there are
abbrev pub FlightsWithin : ℕ → List Flight → Type 0
FlightsWithin n flights = (w : DiskWhich) (f : Flight) → find (is_flight_of w) flights ≡ Some f → (c : Caller) (p : Page) → f ≡ Read c p → p.0 < n

pub flights_within : (T : Bool) (n callers : ℕ) (q : queue.Queue) (calls : _) (flights : List Flight)
    → AllByRecursion (IsExpected T n callers q calls) flights → FlightsWithin n flights
flights_within T n callers q calls flights all w f is c p e =
    let expected = found (IsExpected T n callers q calls) w flights f is all in
    let P : Flight → Type 0 = λ x. IsExpected T n callers q calls x in (subst P e expected).1

-- the end of an operation, over a disk in memory
ends_shape : {F : Type 0} (moves : F → (c : FabricCall) → FabricAnswer c → F → Type 0) (n : ℕ) (d d' : Device) (k k' : MemDiskView) (f f' : F) (w : DiskWhich)
    (ok : Bool) (s : Seen) (r : Bool) (mid : MemDiskView) → FlightsWithin n k.disk.flights → drive.ask k (LetFinish w ok) ≡ (r, mid)
    → Along drive.Moves moves (taken_if d r) mid f k' f' (d', s) → Shape n (event.Disk w ok) s
ends_shape moves n d d' k k' f f' w ok s false mid within asked along =
    let P : Seen → Type 0 = λ x. Shape n (event.Disk w ok) x in subst P (sym (ap (λ (a : Device × Seen). a.1) along.2)) (nothing_disk n w ok)
ends_shape moves n d d' k k' f f' w ok s true mid within asked along =
    let can : (is_none k.disk.finished && is_some (in_flight k.disk w)) ≡ true = ap (λ (a : Bool × MemDiskView). a.0) asked in
    let there : record k { disk = disk.finish k.disk w ok } ≡ mid = ap (λ (a : Bool × MemDiskView). a.1) asked in
    let gives : disk.take_from (disk.finish k.disk w ok) ≡ along.0 =
    ap (λ (x : MemDiskView). disk.take_from x.disk) there ∙ ap (λ (a : Option Taken × MemDiskView). a.0) along.2.1 in
    let shape = taken_shape n d k.disk w ok k.disk.finished (in_flight k.disk w) can (λ f e. found_is w k.disk.flights f e) (λ f e. within w f e) in
    let P : Seen → Type 0 = λ x. Shape n (event.Disk w ok) x in
    subst P (ap (λ t. see_disk (took_back d t).1) gives ∙ sym (ap (λ (a : Device × Seen). a.1) along.3.2)) shape

pub disk_shape : {F : Type 0} (moves : F → (c : FabricCall) → FabricAnswer c → F → Type 0) (n : ℕ) (d d' : Device) (k k' : MemDiskView) (f f' : F)
    (page : List ℕ) (w : DiskWhich) (ok : Bool) (s : Seen) → FlightsWithin n k.disk.flights
    → Along drive.Moves moves (happens d page (event.Disk w ok)) k f k' f' (d', s) → Shape n (event.Disk w ok) s
disk_shape moves n d d' k k' f f' page w ok s within along = ends_shape moves n d d' k k' f f' w ok s along.0 along.1 within along.2.1 along.3
