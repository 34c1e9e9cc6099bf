-- A disk in a file, as its port and what has come back from the thread that reads and writes.
use Rattle.std.specs.Prelude.{◌≡◌, ℕ, true, false, List, [], ◌∷◌, ◌++◌, ◌⊎◌, find, Option, None, Some}
use Rattle.swap_base.specs.Sizes.{Sizes}
use Rattle.swap_disk.specs.Disk.{Flight, Taken, is_flight_of, bytes_given}
use Rattle.swap_disk.specs.Port.{Port, DiskCall, DiskAnswer, StartWrite, StartRead, TakeDone, LetFinish, Follows}
use Rattle.swap_file.specs.declared.worker.Done.{Done}

pub record FilePort : Type 0 where
  pub port : Port
  pub came : List Done

-- it tells no blocks, and names no finished operation
abbrev pub port_in : Sizes → List Flight → ℕ → Port
port_in s flights faults = record { sizes = s; flights = flights; blocks = None; finished = None; faults = faults }

abbrev pub file_port : Sizes → List Flight → ℕ → List Done → FilePort
file_port s flights faults came = record { port = port_in s flights faults; came = came }

-- an item came that names no operation in flight, and was dropped
pub record Strange (before now : FilePort) : Type 0 where
  pub item : Done
  pub came : now.came ≡ before.came ++ item ∷ []
  pub stranger : find (is_flight_of item.which) before.port.flights ≡ None

-- the item that came is the one that is handed over: it is ok only where the item is, and its bytes are the item's
pub record Came (before : FilePort) (taken : Taken) (now : FilePort) : Type 0 where
  pub item : Done
  pub came : now.came ≡ before.came ++ item ∷ []
  pub names : taken.done.which ≡ item.which
  pub ok : taken.done.ok ≡ true → item.ok ≡ true
  pub bytes : taken.bytes ≡ bytes_given taken.done.which taken.done.ok item.bytes.items

-- an operation failed as it couldn't be handed to the thread
pub record Unsent (before : FilePort) (taken : Taken) (now : FilePort) : Type 0 where
  pub came : now.came ≡ before.came
  pub failed : taken.done.ok ≡ false

-- a take that answers none looked and found the queue empty, or dropped a stranger
abbrev pub Looked : FilePort → Option Taken → FilePort → Type 0
Looked before None now = (now.came ≡ before.came) ⊎ Strange before now
Looked before (Some taken) now = Came before taken now ⊎ Unsent before taken now

abbrev pub Comes : FilePort → (c : DiskCall) → DiskAnswer c → FilePort → Type 0
Comes before TakeDone answer now = Looked before answer now
Comes before (StartWrite page bytes) answer now = now.came ≡ before.came
Comes before (StartRead caller page) answer now = now.came ≡ before.came
Comes before (LetFinish which ok) answer now = now.came ≡ before.came

-- it does what a disk may do, and tells what it looked at
abbrev pub Moves : FilePort → (c : DiskCall) → DiskAnswer c → FilePort → Type 0
Moves d c answer e = Follows d.port c answer e.port × Comes d c answer e
