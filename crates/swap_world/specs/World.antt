-- The world is the device over its disk and its lenders. An event leads from one world to the next, and something is
-- seen of it.
use Rattle.std.specs.Prelude.{ℕ, ◌+◌, List, [], ◌∷◌, length, map}
use Rattle.swap_base.specs.declared.geometry.LenderSpec.{LenderSpec}
use Rattle.swap_base.specs.Sizes.{Sizes}
use Rattle.swap_wire.specs.Input.{Input}
use Rattle.swap_wire.specs.declared.Event.{Event}
use Rattle.swap_wire.specs.declared.Seen.{Seen}
use Rattle.swap_wire.specs.Fabric.{FabricCall, FabricAnswer}
use Rattle.swap_record.specs.History.{History}
use Rattle.swap_disk.specs.Port.{DiskCall, DiskAnswer}
use Rattle.swap_disk.specs.MemDiskView.{MemDiskView, new_drive}
use Rattle.swap_disk.specs.MemDiskView as drive
use Rattle.swap_link.specs.Harbor.{Harbor, new_channel}
use Rattle.swap_link.specs.Harbor as harbor
use Rattle.swap_table.specs.Device as device
use Rattle.swap_table.specs.Device.{Device}
use Rattle.swap_table.specs.Ports.{Along, run}
use Rattle.swap_table.specs.Happens.{happens}
use Rattle.swap_wire.specs.declared.Event.TheVariants as event
use Rattle.swap_world.specs.Rounds.{Plan, Stop, Make, round_plan, round_seen, has_effect, one_if_so, StepOf}

-- one event but a Round, over a disk and a fabric
abbrev pub IsStep :
    {D F : Type 0} → (D → (c : DiskCall) → DiskAnswer c → D → Type 0)
    → (F → (c : FabricCall) → FabricAnswer c → F → Type 0) → Device → D → F → Input → Seen → Device → D → F → Type 0
IsStep disk_moves moves d disk f i s d' disk' f' =
    Along disk_moves moves (happens d i.page i.event) disk f disk' f' (d', s)

-- one event of every kind
abbrev pub IsEvent :
    {D F : Type 0} → (D → (c : DiskCall) → DiskAnswer c → D → Type 0)
    → (F → (c : FabricCall) → FabricAnswer c → F → Type 0) → Device → D → F → Input → Seen → Device → D → F → Type 0
IsEvent disk_moves moves d disk f i s d' disk' f' = StepOf disk_moves moves i.page i.event d disk f s d' disk' f'

-- the disk in memory and the lenders in memory are functions, and so is the world over them
pub record World : Type 0 where
  pub device : Device
  pub drive : MemDiskView
  pub harbor : Harbor

pub record Next : Type 0 where
  pub world : World
  pub seen : Seen

abbrev pub next_of : (Device × Seen) × (MemDiskView × Harbor) → Next
next_of r = record { world = record { device = r.0.0; drive = r.1.0; harbor = r.1.1 }; seen = r.0.1 }

abbrev pub without_parts : World → List ℕ → Event → Next
without_parts w page e = next_of (run drive.ask harbor.ask (happens w.device page e) w.drive w.harbor)

-- a plan's world, with the number of its events that had an effect
pub record Planned : Type 0 where
  pub world : World
  pub effects : ℕ

abbrev pub counted_on : Event → Seen → Planned → Planned
counted_on e s p = record { world = p.world; effects = p.effects + one_if_so (has_effect e s) }

abbrev pub next_plan : Plan → World → Planned
next_plan Stop w = record { world = w; effects = 0 }
next_plan (Make e more) w =
    counted_on e (without_parts w [] e).seen (next_plan (more (without_parts w [] e).seen) (without_parts w [] e).world)

abbrev pub round_from : World → ℕ → Planned
round_from w word = next_plan (round_plan w.device.sizes w.device.lenders word) w

abbrev pub next_round : Planned → Next
next_round p = record { world = p.world; seen = round_seen p.world.device p.effects }

abbrev pub next_by : World → List ℕ → Event → Next
next_by w page (event.Round word) = next_round (round_from w word)
next_by w page e = without_parts w page e

abbrev pub next : World → Input → Next
next w i = next_by w i.page i.event

-- a harbor as it is made
abbrev pub new_harbor : Sizes → List LenderSpec → Harbor
new_harbor s specs = record { sizes = s; channels = map (new_channel s) specs }

abbrev pub start : Sizes → List LenderSpec → World
start s specs = record {
  device = device.device_at_start s (length specs);
  drive = new_drive s;
  harbor = new_harbor s
      specs;
}

abbrev pub history : World → History
history w = w.device.history

-- the world after a list of events, and what is seen of each
abbrev pub reach : World → List Input → World
reach w [] = w
reach w (i ∷ is) = reach (next w i).world is

abbrev pub seens : World → List Input → List (Event × Seen)
seens w [] = []
seens w (i ∷ is) = (i.event, (next w i).seen) ∷ seens (next w i).world is

-- the events made so far with what was seen of each, the newest first
abbrev pub made_by : List (Input × Seen) → World → List Input → List (Input × Seen)
made_by earlier w [] = earlier
made_by earlier w (i ∷ is) = made_by ((i, (next w i).seen) ∷ earlier) (next w i).world is
