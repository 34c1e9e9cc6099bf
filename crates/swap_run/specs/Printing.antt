-- What is printed of the events that are left.
use Rattle.std.specs.Prelude.{◌≡◌, ℕ, ◌+◌, ◌≤◌, List, ◌++◌, length, flat_map, Option}
use Rattle.std.specs.List.{AllByRecursion}
use Rattle.std.specs.Io.KnownBytes.{Appends}
use Rattle.swap_base.specs.Sizes.{Sizes}
use Rattle.swap_base.specs.declared.geometry.LenderSpec.{LenderSpec}
use Rattle.swap_wire.specs.Input.{Input}
use Rattle.swap_wire.specs.declared.Event.{Event}
use Rattle.swap_wire.specs.declared.Seen.{Seen}
use Rattle.swap_disk.specs.MemDiskView.{MemDiskView}
use Rattle.swap_link.specs.Harbor.{Harbor}
use Rattle.swap_world.specs.World.{World, reach, seens, history}
use Rattle.swap_world.specs.Runs.{WorldView, busy_callers}
use Rattle.swap_script.specs.Reading.{Script, calls_of}
use Rattle.swap_script.specs.Transcript.{HasEntry, header, lender_header}
use Rattle.swap_roundtrip.specs.Numbers.{NumbersFit}
use Rattle.swap_run.specs.Run.{lines_of}

-- the program's world as a function's
abbrev pub world_in : WorldView MemDiskView Harbor → World
world_in w = record { device = w.core.device; drive = w.core.disk; harbor = w.core.fabric }

-- the header lines of a script: its geometry and its lenders
abbrev pub headers : Sizes → List LenderSpec → List ℕ
headers s lenders = header s ++ flat_map lender_header lenders

-- the lines of these events from a world on
abbrev pub lines_from : World → List Input → List ℕ
lines_from w inputs = lines_of (history (reach w inputs)) (seens w inputs)

-- there is room for the entries and the log of the events that are left
pub record HasRoomFor (w : WorldView MemDiskView Harbor) (s : Script) : Type 0 where
  pub sizes : s.sizes ≡ w.core.device.sizes
  pub lenders : w.core.device.lenders ≡ length s.lenders
  pub entries : busy_callers w.core.device + calls_of s.inputs ≤ w.core.spare
  pub log : length s.inputs ≤ w.log_spare

-- while events are printed: what was made so far and what is left are all events, and the lines so far are taken; their
-- numbers fit, so that all fit where those of what is left do
pub record Printing (first : WorldView MemDiskView Harbor) (all : List Input) (now : WorldView MemDiskView Harbor)
    (left : Script)
    (taken_before taken_now : Option (List ℕ)) : Type 0 where
  pub so_far : List (Event × Seen)
  pub seens : seens (world_in first) all ≡ so_far ++ seens (world_in now) left.inputs
  pub reaches : reach (world_in first) all ≡ reach (world_in now) left.inputs
  pub stand : AllByRecursion (λ (p : Event × Seen). HasEntry (history (world_in now)) p.1) so_far
  pub taken : Appends taken_before taken_now (lines_of (history (world_in now)) so_far)
  pub room : HasRoomFor now left
  pub fits : NumbersFit (world_in now) left.inputs → NumbersFit (world_in first) all
