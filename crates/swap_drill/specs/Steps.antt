-- What a step of the drill needs of the world, and what it leaves of the room that was made for the whole drill.
use Rattle.std.specs.Prelude.{◌≡◌, ℕ, ◌+◌, ◌≤◌}
use Rattle.swap_disk.specs.MemDiskView.{MemDiskView}
use Rattle.swap_link.specs.Harbor.{Harbor}
use Rattle.swap_world.specs.World.{World}
use Rattle.swap_world.specs.Runs.{WorldView, busy_callers}
use Rattle.swap_drill.specs.Drill.{drill_sizes}

-- the world of the code as a function's
abbrev pub world_in : WorldView MemDiskView Harbor → World
world_in w = record { device = w.core.device; drive = w.core.disk; harbor = w.core.fabric }

-- it is of the drill's sizes, with three lenders, and has room for so many new calls and so many events
pub record IsReady (calls events : ℕ) (w : WorldView MemDiskView Harbor) : Type 0 where
  pub sizes : w.core.device.sizes ≡ drill_sizes
  pub lenders : w.core.device.lenders ≡ 3
  pub entries : busy_callers w.core.device + calls ≤ w.core.spare
  pub log : events ≤ w.log_spare

-- it is of the same sizes and lenders, and no more room went than for so many new calls and so many events
pub record Spends (calls events : ℕ) (before now : WorldView MemDiskView Harbor) : Type 0 where
  pub sizes : now.core.device.sizes ≡ before.core.device.sizes
  pub lenders : now.core.device.lenders ≡ before.core.device.lenders
  pub entries : busy_callers now.core.device + before.core.spare
      ≤ busy_callers before.core.device + now.core.spare + calls
  pub log : before.log_spare ≤ now.log_spare + events
