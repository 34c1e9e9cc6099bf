-- The links of a door over TCP, by their number.
use Rattle.std.specs.Prelude.{ℕ}
use Rattle.swap_io.specs.Told.{Told}
use Rattle.swap_sock.specs.Dealings.{Dealings, Left, untold}

abbrev pub tcp_links : ℕ → ℕ → ℕ → Dealings (Unit {0}) Told (Left Told Told)
tcp_links asked gave back = untold asked gave back
