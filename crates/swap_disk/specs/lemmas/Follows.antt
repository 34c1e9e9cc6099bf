-- A disk in memory makes only moves that a disk may make.
use Rattle.std.proofs.Common.{◌≡◌, ℕ, ◌^◌, ◌≤◌, Bool, true, false, cond, ◌&&◌, ◌<◌, List, [], ◌∷◌, ◌++◌, find, refl, ap, ◌∙◌, subst, is_some, is_none, arith, Option, None, Some}
use Rattle.std.specs.Option.{option_or}
use Rattle.std.proofs.lemmas.Bool.{eqb-true}
use Rattle.std.proofs.lemmas.List.Folds.{find-append}
use Rattle.swap_io.specs.Causes.{Rose}
use Rattle.swap_base.specs.declared.DiskWhich.{DiskWhich}
use Rattle.swap_base.specs.declared.DiskWhich.TheVariants as which
use Rattle.swap_disk.specs.Disk.{Disk, Flight, Write, Read, Finished, finish_flight, is_flight_of, same_which, which_of, spoil, blocks_after, after_take_of, taken_of, one_more}
use Rattle.swap_disk.specs.Port.{DiskCall, DiskAnswer, StartWrite, StartRead, TakeDone, LetFinish, Follows, Takes, LetsFinish, settled_with}
use Rattle.swap_disk.specs.MemDiskView.{MemDiskView, ask, port_of, IsInFlight, IsDrive, Moves}

pub same_is : (a b : DiskWhich) → same_which a b ≡ true → a ≡ b
same_is (which.Write p) (which.Write r) e = ap (λ n. which.Write (record { 0 = n })) (eqb-true p.0 r.0 e)
same_is (which.Write p) (which.Read c) e = cc
same_is (which.Read c) (which.Write p) e = cc
same_is (which.Read c) (which.Read d) e = ap (λ n. which.Read (record { 0 = n })) (eqb-true c.0 d.0 e)

-- an operation that is found is the one that was named
pub found_is : (w : DiskWhich) (fs : List Flight) (f : Flight) → find (is_flight_of w) fs ≡ Some f → w ≡ which_of f
found_is w [] f e = cc
found_is w (g ∷ fs) f e = go (is_flight_of w g) refl e (found_is w fs f)
  where
    go :
        (b : Bool) → is_flight_of w g ≡ b → cond b (Some g) (find (is_flight_of w) fs) ≡ Some f
        → (find (is_flight_of w) fs ≡ Some f → w ≡ which_of f) → w ≡ which_of f
    go true is e rest = let same : g ≡ f = cc in same_is w (which_of g) is ∙ ap which_of same
    go false is e rest = rest e

pub found_again :
    (w : DiskWhich) (fs : List Flight) (f : Flight) → find (is_flight_of w) fs ≡ Some f
    → find (is_flight_of (which_of f)) fs ≡ Some f
found_again w fs f e = subst (λ v. find (is_flight_of v) fs ≡ Some f) (found_is w fs f e) e

in_flight-append : (fs more : List Flight) (fin : Option Finished) → IsInFlight fs fin → IsInFlight (fs ++ more) fin
in_flight-append fs more None h = tt
in_flight-append fs more (Some f) h =
    find-append (is_flight_of (which_of f.flight)) fs more
    ∙ ap (λ o. option_or o (find (is_flight_of (which_of f.flight)) more)) h

taken_keeps :
    (d : Disk) (fin : Option Finished) → d.finished ≡ fin → IsInFlight d.flights d.finished
    → IsInFlight (after_take_of d fin).flights (after_take_of d fin).finished
taken_keeps d None e h = h
taken_keeps d (Some f) e h = tt

finish_keeps :
    (d : Disk) (w : DiskWhich) (fin : Option Finished) (flight : Option Flight) (ok : Bool)
    → find (is_flight_of w) d.flights ≡ flight → IsInFlight d.flights d.finished
    → IsInFlight (finish_flight d fin flight ok).flights (finish_flight d fin flight ok).finished
finish_keeps d w (Some f) flight ok e h = h
finish_keeps d w None None ok e h = h
finish_keeps d w None (Some f) ok e h = found_again w d.flights f e

taken_range : (d : Disk) (fin : Option Finished) → d.faults < 2 ^ 64 → (after_take_of d fin).faults < 2 ^ 64
taken_range d None h = h
taken_range d (Some f) h = go f.ok
  where
    go : (ok : Bool) → cond ok d.faults (one_more d.faults) < 2 ^ 64
    go true = h
    go false = omega arith

finish_range :
    (d : Disk) (fin : Option Finished) (flight : Option Flight) (ok : Bool) → d.faults < 2 ^ 64
    → (finish_flight d fin flight ok).faults < 2 ^ 64
finish_range d (Some f) flight ok h = h
finish_range d None None ok h = h
finish_range d None (Some f) ok h = h

-- every call keeps that
pub ask_keeps : (d : MemDiskView) (c : DiskCall) → IsDrive d → IsDrive (ask d c).1
ask_keeps d (StartWrite page bytes) h =
    record {
      in_flight = in_flight-append d.disk.flights (Write page bytes ∷ []) d.disk.finished h.in_flight;
      range = h.range;
    }
ask_keeps d (StartRead caller page) h =
    record {
      in_flight = in_flight-append d.disk.flights (Read caller page ∷ []) d.disk.finished h.in_flight;
      range = h.range;
    }
ask_keeps d TakeDone h =
    record {
      in_flight = taken_keeps d.disk d.disk.finished refl h.in_flight;
      range = taken_range d.disk d.disk.finished h.range;
    }
ask_keeps d (LetFinish w ok) h =
    record {
      in_flight = finish_keeps d.disk w d.disk.finished (find (is_flight_of w) d.disk.flights) ok refl h.in_flight;
      range = finish_range d.disk d.disk.finished _ ok h.range;
    }

later : (ok : Bool) (n : ℕ) → n < 2 ^ 64 → n ≤ cond ok n (one_more n)
later true n h = omega arith
later false n h = omega arith

rose : (ok : Bool) (n : ℕ) → ok ≡ false → Rose n (cond ok n (one_more n))
rose true n e = cc
rose false n e = omega arith

takes :
    (d : MemDiskView) (fin : Option Finished) → d.disk.finished ≡ fin → IsDrive d
    → Takes (port_of d) (taken_of d.disk fin) (port_of (record d { disk = after_take_of d.disk fin }))
takes d None e h = record { flights = refl; blocks = refl; finished = refl; later = omega arith; none = λ told. e }
takes d (Some f) e h = record {
  flight = f.flight;
  was = let P : Option Finished → Type 0 = λ fin. IsInFlight d.disk.flights fin in subst P e h.in_flight;
  is = refl;
  flights = refl;
  blocks = refl;
  finished = refl;
  later = later f.ok d.disk.faults h.range;
  cause = rose f.ok d.disk.faults;
  told = (e, refl);
}

-- what a failed write leaves
abbrev pub left_by : Flight → List ℕ
left_by (Write page bytes) = spoil bytes
left_by (Read caller page) = []

settled_left :
    (blocks : List (List ℕ)) (f : Flight) (ok : Bool) → blocks_after blocks f ok ≡ settled_with blocks f ok (left_by f)
settled_left blocks (Write page bytes) true = refl
settled_left blocks (Write page bytes) false = refl
settled_left blocks (Read caller page) ok = refl

lets_finish : (d : MemDiskView) (fin : Option Finished) (flight : Option Flight) (ok : Bool) → d.disk.finished ≡ fin
    → LetsFinish (port_of d) (Some d.disk.blocks) fin flight ok (is_none fin && is_some flight)
    (port_of (record d { disk = finish_flight d.disk fin flight ok }))
lets_finish d (Some f) flight ok e = (refl, refl)
lets_finish d None None ok e = (refl, refl)
lets_finish d None (Some f) ok e = (
  refl,
  record {
    left = left_by f;
    is =
        ap
        (λ bs.
        record {
          sizes = d.sizes;
          flights = d.disk.flights;
          blocks = Some bs;
          finished = Some (record { flight = f; ok = ok });
          faults = d.disk.faults;
        })
        (settled_left d.disk.blocks f ok);
  },
)

follows_ask : (d : MemDiskView) (c : DiskCall) → IsDrive d → Follows (port_of d) c (ask d c).0 (port_of (ask d c).1)
follows_ask d (StartWrite page bytes) h = refl
follows_ask d (StartRead caller page) h = refl
follows_ask d TakeDone h = (refl, takes d d.disk.finished refl h)
follows_ask d (LetFinish w ok) h = lets_finish d d.disk.finished (find (is_flight_of w) d.disk.flights) ok refl

-- a drive is a disk
pub follows :
    (d : MemDiskView) (c : DiskCall) (answer : DiskAnswer c) (e : MemDiskView) → Moves d c answer e
    → Follows (port_of d) c answer (port_of e)
follows d c answer e moved =
    let P : DiskAnswer c × MemDiskView → Type 0 = λ r. Follows (port_of d) c r.0 (port_of r.1) in
    subst P moved.1 (follows_ask d c moved.0)
