-- A disk in memory that gives another page than was stored: each byte of a read is turned over. Else it is silent.
use Rattle.std.proofs.Common.{◌≡◌, ℕ, ◌-◌, map, Option, None, Some}
use Rattle.swap_disk.specs.Disk.{Taken}
use Rattle.swap_disk.specs.Port.{DiskCall, DiskAnswer, StartWrite, StartRead, TakeDone, LetFinish}
use Rattle.swap_hostile.specs.Silent.{Silent, Moves as SilentMoves}

-- a byte turned over: no byte stays as it is
abbrev pub turn_byte : ℕ → ℕ
turn_byte byte = 255 - byte

-- what is taken in place of what was stored
abbrev pub swap_taken : Option Taken → Option Taken
swap_taken None = None
swap_taken (Some taken) = Some (record { done = taken.done; bytes = map turn_byte taken.bytes })

-- from a disk, a call and its answer to the disk after it: it does what a silent disk does, and what a take gives is
-- swapped
abbrev pub Moves : Silent → (c : DiskCall) → DiskAnswer c → Silent → Type 0
Moves d TakeDone answer e = (given : Option Taken) × SilentMoves d TakeDone given e × (answer ≡ swap_taken given)
Moves d (StartWrite page bytes) answer e = SilentMoves d (StartWrite page bytes) answer e
Moves d (StartRead caller page) answer e = SilentMoves d (StartRead caller page) answer e
Moves d (LetFinish w ok) answer e = SilentMoves d (LetFinish w ok) answer e
