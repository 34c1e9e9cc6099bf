-- The links of a door in memory, by their number.
use Rattle.std.specs.Prelude.{ℕ}
use Rattle.swap_io.specs.Memory.{Given, Taken}
use Rattle.swap_sock.specs.Dealings.{Dealings, Left, untold}

abbrev pub mem_links : ℕ → ℕ → ℕ → Dealings (Unit {0}) Given (Left Given Taken)
mem_links asked gave back = untold asked gave back
