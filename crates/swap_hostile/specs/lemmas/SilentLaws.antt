-- A disk that is silent makes only moves that a disk may make.
use Rattle.std.proofs.Common.{◌≡◌, ℕ, Bool, true, false, cond, List, [], ◌∷◌, ◌++◌, map, find, refl, sym, ap, ◌∙◌, subst, arith, Option, None, Some}
use Rattle.std.specs.Prelude.{option_map}
use Rattle.std.proofs.lemmas.List.{map-append}
use Rattle.std.proofs.lemmas.List.Sums.{sum_by-cons}
use Rattle.swap_base.specs.declared.DiskWhich.{DiskWhich}
use Rattle.swap_disk.specs.Disk.{Flight, Write, Read, Finished, Taken, is_flight_of, without_flight, done_of, finish_flight}
use Rattle.swap_disk.specs.Port.{Port, DiskCall, DiskAnswer, StartWrite, StartRead, TakeDone, LetFinish, Follows, Takes, EndsOne, EndsNone, writes_in, is_write, oldest_in}
use Rattle.swap_disk.specs.MemDiskView as drive
use Rattle.swap_disk.specs.MemDiskView.{MemDiskView, IsDrive}
use Rattle.swap_disk.specs.lemmas.Follows.{follows as drive_follows, ask_keeps}
use Rattle.swap_hostile.specs.Silent.{Silent, unwritten, hide_contents, port_of, is_well, ended_drive, take_oldest, ask, Moves}

-- an operation without its bytes is the same operation

same_name : (w : DiskWhich) (f : Flight) → is_flight_of w (unwritten f) ≡ is_flight_of w f
same_name w (Write page bytes) = refl
same_name w (Read caller page) = refl

pub found_hidden :
    (w : DiskWhich) (fs : List Flight)
    → find (is_flight_of w) (map unwritten fs) ≡ option_map unwritten (find (is_flight_of w) fs)
found_hidden w [] = refl
found_hidden w (f ∷ fs) =
    ap (λ b. cond b (Some (unwritten f)) (find (is_flight_of w) (map unwritten fs))) (same_name w f)
    ∙ go (is_flight_of w f) (found_hidden w fs)
  where
    go :
        (b : Bool) → find (is_flight_of w) (map unwritten fs) ≡ option_map unwritten (find (is_flight_of w) fs)
        → cond b (Some (unwritten f)) (find (is_flight_of w) (map unwritten fs))
        ≡ option_map unwritten (cond b (Some f) (find (is_flight_of w) fs))
    go true rest = refl
    go false rest = rest

without_hidden : (w : DiskWhich) (fs : List Flight)
    → map unwritten (without_flight w fs) ≡ without_flight w (map unwritten fs)
without_hidden w [] = refl
without_hidden w (f ∷ fs) =
    go (is_flight_of w f) (without_hidden w fs)
    ∙ ap (λ b. cond b (map unwritten fs) (unwritten f ∷ without_flight w (map unwritten fs))) (sym (same_name w f))
  where
    go :
        (b : Bool) → map unwritten (without_flight w fs) ≡ without_flight w (map unwritten fs)
        → map unwritten (cond b fs (f ∷ without_flight w fs))
        ≡ cond b (map unwritten fs) (unwritten f ∷ without_flight w (map unwritten fs))
    go true rest = refl
    go false rest = ap (λ gs. unwritten f ∷ gs) rest

same_done : (f : Flight) (ok : Bool) → done_of f ok ≡ done_of (unwritten f) ok
same_done (Write page bytes) ok = refl
same_done (Read caller page) ok = refl

-- where nothing of that name is in flight as the port tells it, nothing is
pub free_behind :
    (w : DiskWhich) (fs : List Flight) → find (is_flight_of w) (map unwritten fs) ≡ None
    → find (is_flight_of w) fs ≡ None
free_behind w fs e = none (find (is_flight_of w) fs) (sym (found_hidden w fs) ∙ e)
  where
    none : (o : Option Flight) → option_map unwritten o ≡ None → o ≡ None
    none None e = refl
    none (Some f) e = cc

same_kind : (f : Flight) → is_write (unwritten f) ≡ is_write f
same_kind (Write page bytes) = refl
same_kind (Read caller page) = refl

abbrev one : Bool → ℕ
one b = cond b 1 0

pub writes_hidden : (fs : List Flight) → writes_in (map unwritten fs) ≡ writes_in fs
writes_hidden [] = refl
writes_hidden (f ∷ fs) =
    sum_by-cons (λ g. one (is_write g)) (unwritten f) (map unwritten fs)
    ∙ (let e : one (is_write (unwritten f)) ≡ one (is_write f) = ap one (same_kind f) in
    omega (arith, e, writes_hidden fs, sum_by-cons (λ g. one (is_write g)) f fs))

-- an operation that ends behind a port ends as the port tells it

hides_one : (p q : Port) (t : Taken) → EndsOne p t q → EndsOne (hide_contents p) t (hide_contents q)
hides_one p q t one = record {
  flight = unwritten one.flight;
  was = found_hidden t.done.which p.flights ∙ ap (option_map unwritten) one.was;
  is = one.is ∙ same_done one.flight t.done.ok;
  flights = ap (map unwritten) one.flights ∙ without_hidden t.done.which p.flights;
  blocks = refl;
  finished = refl;
  later = one.later;
  cause = one.cause;
  told = tt;
}

hides_none : (p q : Port) → EndsNone p q → EndsNone (hide_contents p) (hide_contents q)
hides_none p q none =
    record {
      flights = ap (map unwritten) none.flights;
      blocks = refl;
      finished = refl;
      later = none.later;
      none = λ told. cc;
    }

hides : (p q : Port) (answer : Option Taken) → Takes p answer q → Takes (hide_contents p) answer (hide_contents q)
hides p q None = hides_none p q
hides p q (Some t) = hides_one p q t

-- where the disk behind ends an operation, its port tells nothing of it yet
ended_hidden :
    (d : MemDiskView) (fin : Option Finished) (flight : Option Flight) (ok : Bool)
    → hide_contents (drive.port_of (record d { disk = finish_flight d.disk fin flight ok }))
    ≡ hide_contents (drive.port_of d)
ended_hidden d (Some f) flight ok = refl
ended_hidden d None None ok = refl
ended_hidden d None (Some f) ok = refl

takes_oldest :
    (d : Silent) (o : Option DiskWhich) → IsDrive d.drive
    → ((port_of (take_oldest d o).1).sizes ≡ (port_of d).sizes)
    × Takes (port_of d) (take_oldest d o).0 (port_of (take_oldest d o).1)
takes_oldest d None h =
    (refl, record { flights = refl; blocks = refl; finished = refl; later = omega arith; none = λ told. cc })
takes_oldest d (Some w) h =
    let e : MemDiskView = ended_drive d w in
    let behind =
    drive_follows e TakeDone (drive.ask e TakeDone).0 (drive.ask e TakeDone).1
    (ask_keeps d.drive (LetFinish w (is_well d)) h, refl) in
    let same : hide_contents (drive.port_of e) ≡ port_of d =
    ended_hidden d.drive d.drive.disk.finished (find (is_flight_of w) d.drive.disk.flights) (is_well d) in (
      behind.0 ∙ ap (λ (p : Port). p.sizes) same,
      subst (λ (p : Port). Takes p (drive.ask e TakeDone).0 (hide_contents (drive.port_of (drive.ask e TakeDone).1)))
          same
          (hides (drive.port_of e) (drive.port_of (drive.ask e TakeDone).1) (drive.ask e TakeDone).0 behind.1),
    )

-- an operation that is started stands behind those before it
started_hidden :
    (d : Silent) (f : Flight)
    → port_of
    (record d {
      drive =
          record { sizes = d.drive.sizes; disk = record d.drive.disk { flights = d.drive.disk.flights ++ f ∷ [] } };
    })
    ≡ record (port_of d) { flights = (port_of d).flights ++ unwritten f ∷ [] }
started_hidden d f = ap (λ fs. record (port_of d) { flights = fs }) (map-append unwritten d.drive.disk.flights (f ∷ []))

follows_ask : (d : Silent) (c : DiskCall) → IsDrive d.drive → Follows (port_of d) c (ask d c).0 (port_of (ask d c).1)
follows_ask d (StartWrite page bytes) h = started_hidden d (Write page bytes)
follows_ask d (StartRead caller page) h = started_hidden d (Read caller page)
follows_ask d TakeDone h = takes_oldest d (oldest_in d.drive.disk.flights) h
follows_ask d (LetFinish w ok) h = (refl, refl)

-- a silent disk is a disk
pub follows :
    (d : Silent) (c : DiskCall) (answer : DiskAnswer c) (e : Silent) → Moves d c answer e
    → Follows (port_of d) c answer (port_of e)
follows d c answer e moved =
    let P : DiskAnswer c × Silent → Type 0 = λ r. Follows (port_of d) c r.0 (port_of r.1) in
    subst P moved.1 (follows_ask d c moved.0)

-- the disk behind it stays one
pub drive_keeps : (d e : MemDiskView) (c : DiskCall) (answer : DiskAnswer c) → drive.Moves d c answer e → IsDrive e
drive_keeps d e c answer moved =
    let P : DiskAnswer c × MemDiskView → Type 0 = λ r. IsDrive r.1 in subst P moved.1 (ask_keeps d c moved.0)
