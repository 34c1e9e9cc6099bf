-- A disk in memory that tells nothing of its blocks and ends its operations by itself: each take ends the oldest.
use Rattle.std.specs.Prelude.{◌≡◌, ℕ, Bool, false, not, List, [], map, Option, None, Some}
use Rattle.swap_io.specs.Memory.{is_listed}
use Rattle.swap_base.specs.Sizes.{Sizes}
use Rattle.swap_base.specs.declared.DiskWhich.{DiskWhich}
use Rattle.swap_disk.specs.Disk.{Flight, Write, Read, Taken, one_more}
use Rattle.swap_disk.specs.Port.{Port, DiskCall, DiskAnswer, StartWrite, StartRead, TakeDone, LetFinish, oldest_in}
use Rattle.swap_disk.specs.MemDiskView as drive
use Rattle.swap_disk.specs.MemDiskView.{MemDiskView, IsDrive, new_drive}

-- the disk in memory behind it, the operations that fail by their numbers from 0 in the order of their ends, and how
-- many have ended
pub record Silent : Type 0 where
  pub drive : MemDiskView
  pub failing : List ℕ
  pub ended : ℕ

-- an operation in flight as a port without blocks tells it: a write has no bytes
abbrev pub unwritten : Flight → Flight
unwritten (Write page bytes) = Write page []
unwritten (Read caller page) = Read caller page

-- a port, but for its contents
abbrev pub hide_contents : Port → Port
hide_contents p =
    record { sizes = p.sizes; flights = map unwritten p.flights; blocks = None; finished = None; faults = p.faults }

abbrev pub port_of : Silent → Port
port_of d = hide_contents (drive.port_of d.drive)

-- as it is made
abbrev pub new_silent : Sizes → List ℕ → Silent
new_silent s failing = record { drive = new_drive s; failing = failing; ended = 0 }

-- whether the next operation to end is ok
abbrev pub is_well : Silent → Bool
is_well d = not (is_listed d.failing d.ended)

-- the disk behind it where this operation has ended
abbrev pub ended_drive : Silent → DiskWhich → MemDiskView
ended_drive d w = (drive.ask d.drive (LetFinish w (is_well d))).1

-- what a take gives where this operation is the oldest, and the disk after it
abbrev pub take_oldest : Silent → Option DiskWhich → Option Taken × Silent
take_oldest d None = (None, d)
take_oldest d (Some w) = (
  (drive.ask (ended_drive d w) TakeDone).0,
  record d { drive = (drive.ask (ended_drive d w) TakeDone).1; ended = one_more d.ended },
)

-- what it answers to a call, and the disk after it: it lets nobody else end an operation
abbrev pub ask : Silent → (c : DiskCall) → DiskAnswer c × Silent
ask d (StartWrite page bytes) = (tt, record d { drive = (drive.ask d.drive (StartWrite page bytes)).1 })
ask d (StartRead caller page) = (tt, record d { drive = (drive.ask d.drive (StartRead caller page)).1 })
ask d TakeDone = take_oldest d (oldest_in d.drive.disk.flights)
ask d (LetFinish which ok) = (false, d)

-- from a disk, a call and its answer to the disk after it
abbrev pub Moves : Silent → (c : DiskCall) → DiskAnswer c → Silent → Type 0
Moves d c answer e = IsDrive d.drive × (ask d c ≡ (answer, e))
