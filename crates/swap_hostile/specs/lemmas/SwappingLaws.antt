-- A disk that gives another page than was stored makes only moves that a disk may make.
use Rattle.std.proofs.Common.{◌≡◌, ℕ, Bool, true, false, List, map, refl, sym, ap, subst, Option, None, Some}
use Rattle.swap_base.specs.declared.DiskWhich.{DiskWhich}
use Rattle.swap_base.specs.declared.DiskWhich.TheVariants as which
use Rattle.swap_disk.specs.declared.DiskDone.{DiskDone}
use Rattle.swap_disk.specs.Disk.{Taken, bytes_given}
use Rattle.swap_disk.specs.Port.{DiskCall, DiskAnswer, StartWrite, StartRead, TakeDone, LetFinish, Follows, Takes, taken_by}
use Rattle.swap_hostile.specs.Silent.{Silent, port_of}
use Rattle.swap_hostile.specs.lemmas.SilentLaws.{follows as silent_follows}
use Rattle.swap_hostile.specs.Swapping.{turn_byte, swap_taken, Moves}

-- a buffer that was turned over is what was taken, swapped
pub swapped_by :
    (done : DiskDone) (bytes : List ℕ) → taken_by (Some done) (map turn_byte bytes)
    ≡ swap_taken (taken_by (Some done) bytes)
swapped_by done bytes = ap (λ bs. Some (record { done = done; bytes = bs })) (go done.which done.ok)
  where
    go : (w : DiskWhich) (ok : Bool) → bytes_given w ok (map turn_byte bytes) ≡ map turn_byte (bytes_given w ok bytes)
    go (which.Read caller) true = refl
    go (which.Read caller) false = refl
    go (which.Write page) ok = refl

takes :
    (d e : Silent) (given : Option Taken) → Takes (port_of d) given (port_of e)
    → Takes (port_of d) (swap_taken given) (port_of e)
takes d e None none = none
takes d e (Some taken) one =
    record {
      flight = one.flight;
      was = one.was;
      is = one.is;
      flights = one.flights;
      blocks = one.blocks;
      finished = one.finished;
      later = one.later;
      cause = one.cause;
      told = tt;
    }

-- a swapping disk is a disk
pub follows :
    (d : Silent) (c : DiskCall) (answer : DiskAnswer c) (e : Silent) → Moves d c answer e
    → Follows (port_of d) c answer (port_of e)
follows d (StartWrite page bytes) answer e moved = silent_follows d (StartWrite page bytes) answer e moved
follows d (StartRead caller page) answer e moved = silent_follows d (StartRead caller page) answer e moved
follows d (LetFinish w ok) answer e moved = silent_follows d (LetFinish w ok) answer e moved
follows d TakeDone answer e moved =
    let behind = silent_follows d TakeDone moved.0 e moved.1 in
    let P : Option Taken → Type 0 =
    λ given. ((port_of e).sizes ≡ (port_of d).sizes) × Takes (port_of d) given (port_of e) in
    subst P (sym moved.2) (behind.0, takes d e moved.0 behind.1)
