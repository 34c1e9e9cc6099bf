-- A disk in memory with its sizes: a port that is a function.
use Rattle.std.specs.Prelude.{◌≡◌, ◌<◌, ◌^◌, List, [], ◌∷◌, find, Option, None, Some}
use Rattle.swap_base.specs.Sizes.{Sizes, pages_of, zeros}
use Rattle.swap_disk.specs.Disk.{Disk, Flight, Write, Read, Finished, which_of, is_flight_of, disk_at_start, start_after, take_from, after_take, can_finish, finish}
use Rattle.swap_disk.specs.Port.{Port, DiskCall, DiskAnswer, StartWrite, StartRead, TakeDone, LetFinish}

pub record MemDiskView : Type 0 where
  pub sizes : Sizes
  pub disk : Disk

-- what a drive answers to a call, and the drive after it
abbrev pub ask : MemDiskView → (c : DiskCall) → DiskAnswer c × MemDiskView
ask d (StartWrite page bytes) = (tt, record d { disk = start_after d.disk (Write page bytes ∷ []) })
ask d (StartRead caller page) = (tt, record d { disk = start_after d.disk (Read caller page ∷ []) })
ask d TakeDone = (take_from d.disk, record d { disk = after_take d.disk })
ask d (LetFinish which ok) = (can_finish d.disk which, record d { disk = finish d.disk which ok })

-- an operation that has finished and wasn't taken is in flight
abbrev pub IsInFlight : List Flight → Option Finished → Type 0
IsInFlight flights None = Unit {0}
IsInFlight flights (Some f) = find (is_flight_of (which_of f.flight)) flights ≡ Some f.flight

-- and the count of faults is within its range
pub record IsDrive (d : MemDiskView) : Type 0 where
  pub in_flight : IsInFlight d.disk.flights d.disk.finished
  pub range : d.disk.faults < 2 ^ 64

-- from a drive, a call and its answer to the drive after it
abbrev pub Moves : MemDiskView → (c : DiskCall) → DiskAnswer c → MemDiskView → Type 0
Moves d c answer e = IsDrive d × (ask d c ≡ (answer, e))

-- it tells everything
abbrev pub port_of : MemDiskView → Port
port_of d =
    record {
      sizes = d.sizes;
      flights = d.disk.flights;
      blocks = Some d.disk.blocks;
      finished = d.disk.finished;
      faults = d.disk.faults;
    }

-- what a drive of a geometry is before the first call
abbrev pub new_drive : Sizes → MemDiskView
new_drive s = record { sizes = s; disk = disk_at_start (pages_of s) (zeros s) }
