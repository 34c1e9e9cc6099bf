-- Operations in flight as a port keeps them that doesn't tell its blocks.
use Rattle.std.specs.Prelude.{◌≡◌, ℕ, ◌<◌, ◌≤◌, Bool, List, [], ◌∷◌, ◌++◌, map, find, count_by, Option, None, Some}
use Rattle.std.specs.List.{AllByRecursion}
use Rattle.swap_base.specs.declared.Caller.{Caller}
use Rattle.swap_base.specs.declared.Page.{Page}
use Rattle.swap_base.specs.declared.DiskWhich.{DiskWhich}
use Rattle.swap_base.specs.declared.DiskWhich.TheVariants as which
use Rattle.swap_disk.specs.Disk.{Flight, Write, Read, which_of, is_flight_of, same_which, without_flight}
use Rattle.swap_disk.specs.Port.{IsFree, writes_in}
use Rattle.swap_file.specs.declared.flights.Flying.{Flying}

-- in order of their start, with how many writes and how many callers there may be
pub record FlightsView : Type 0 where
  pub flights : List Flight
  pub queue : ℕ
  pub callers : ℕ

abbrev pub flight_by : DiskWhich → Page → Flight
flight_by (which.Write page) on = Write page []
flight_by (which.Read caller) on = Read caller on

abbrev pub flight_of : Flying → Flight
flight_of f = flight_by f.which f.page

abbrev pub is_flying : DiskWhich → Flying → Bool
is_flying w f = same_which w (which_of (flight_of f))

abbrev pub flights_of : List Flying → List Flight
flights_of fs = map flight_of fs

-- the operation that is named leaves; none where there is none
abbrev pub Leaves : DiskWhich → FlightsView → Option Flying → FlightsView → Type 0
Leaves w before None now = (find (is_flight_of w) before.flights ≡ None) × (now ≡ before)
Leaves w before (Some f) now =
    (find (is_flight_of w) before.flights ≡ Some (flight_of f))
    × (now ≡ record before { flights = without_flight w before.flights })

-- an operation may start: a write where there are fewer than may be, a read of a caller that has none in flight
abbrev pub MayStart : FlightsView → Flight → Type 0
MayStart r (Write page bytes) = writes_in r.flights < r.queue
MayStart r (Read caller page) = IsFree r.flights (which.Read caller) × (caller.0 < r.callers)

abbrev pub start_after : FlightsView → Flight → FlightsView
start_after r flight = record r { flights = r.flights ++ flight ∷ [] }

abbrev pub IsKnown : ℕ → Flight → Type 0
IsKnown callers (Write page bytes) = Unit {0}
IsKnown callers (Read caller page) = caller.0 < callers

-- each caller has at most one read in flight, and there are no more writes than may be
pub record Holds (r : FlightsView) : Type 0 where
  pub writes : writes_in r.flights ≤ r.queue
  pub single : (caller : Caller) → count_by (is_flight_of (which.Read caller)) r.flights ≤ 1
  pub known : AllByRecursion (IsKnown r.callers) r.flights
