-- What holds of a trace that was played over the disk and the lenders in memory.
use Rattle.std.specs.Prelude.{◌≡◌, ◌<◌, ◌++◌, ℕ, List, [], length, None, Ok}
use Rattle.std.specs.List.{AllByRecursion}
use Rattle.swap_base.specs.declared.Caller.{Caller}
use Rattle.swap_base.specs.Sizes.{zeros}
use Rattle.swap_record.specs.History.{IsLegal}
use Rattle.swap_disk.specs.MemDiskView as drive
use Rattle.swap_disk.specs.MemDiskView.{MemDiskView, new_drive}
use Rattle.swap_link.specs.Harbor as harbor
use Rattle.swap_link.specs.Harbor.{Harbor}
use Rattle.swap_table.specs.Device.{Device, device_at_start}
use Rattle.swap_script.specs.Reading.{Script}
use Rattle.swap_trace.specs.Traces.{trace}
use Rattle.swap_joint.specs.Owned.{IsLent}
use Rattle.swap_world.specs.Answered.{AreAnsweredOnce}
use Rattle.swap_world.specs.Failures.{HoldsEntriesSeen}
use Rattle.swap_world.specs.Runs.{WorldView, Written, HasParts, IsRun, logged_of, made_of}
use Rattle.swap_world.specs.World.{new_harbor}
use Rattle.swap_board.specs.Acts.{Act, IsActed}
use Rattle.swap_play.specs.Playing.{IsPlayedOut}

-- a device that nothing happened to, over the disk and the lenders as they are made for a trace
pub record IsFirst (t : Script) (w : WorldView MemDiskView Harbor) : Type 0 where
  pub device : w.core.device ≡ device_at_start t.sizes (length t.lenders)
  pub disk : w.core.disk ≡ new_drive t.sizes
  pub fabric : w.core.fabric ≡ new_harbor t.sizes t.lenders
  pub log : w.log ≡ []

-- The machine's run behind a played world: what had an effect, a Round by its parts, with what was seen of it. The log
-- is its. The history is one of an array of pages that starts as zeros, and holds each caller's answered calls once, in
-- its order. It is exactly the entries that were seen, and a failure has its cause: the counts of its own call, and for
-- a
-- page-in its own failed read.
pub record IsRunOf (t : Script) (first w : WorldView MemDiskView Harbor) : Type 0 where
  pub written : List Written
  pub parts : AllByRecursion HasParts written
  pub run : IsRun drive.Moves harbor.Moves first.core.device first.core.disk first.core.fabric
      (made_of written) w.core.device w.core.disk w.core.fabric
  pub logged : w.log ≡ logged_of written
  pub legal : IsLegal (zeros t.sizes) w.core.device.history
  pub once : (c : Caller) → c.0 < t.sizes.callers → AreAnsweredOnce c (made_of written) w.core.device
  pub entries : HoldsEntriesSeen (made_of written) w.core.device.history

-- after each front of these acts from a world: a set bit means that the remote copy is the newest, and a lent slab has
-- one owner
abbrev pub KeepsLent : WorldView MemDiskView Harbor → List Act → Type 0
KeepsLent from acts =
    (later earlier : List Act) (d : Device) (k : MemDiskView) (h : Harbor) → acts ≡ later ++ earlier
    → IsActed drive.Moves harbor.Moves from.core.device from.core.disk from.core.fabric earlier d k h → IsLent d h

-- what holds of a trace that was played: its run, and what is kept along the acts that connect the lenders and those
-- that
-- carry the trace out
pub record IsHeadline (t : Script) (number : ℕ) (first w : WorldView MemDiskView Harbor)
    (played : IsPlayedOut drive.Moves harbor.Moves t number first w) : Type 0 where
  pub run : IsRunOf t first w
  pub connecting : KeepsLent first played.connects.acts
  pub carrying : KeepsLent played.connected played.carried.acted.acts

-- so it holds of each text that is a trace, however it was played
abbrev pub PlaysKeepTheHeadline : Type 0
PlaysKeepTheHeadline =
    (text : List ℕ) (t : Script) (number : ℕ) (first w : WorldView MemDiskView Harbor)
    (played : IsPlayedOut drive.Moves harbor.Moves t number first w)
    → trace None text ≡ Ok t → IsFirst t first → IsHeadline t number first w played

-- a trace was played, from a world as it is made for it to this one
pub record WasShown (t : Script) (number : ℕ) (w : WorldView MemDiskView Harbor) : Type 0 where
  pub first : WorldView MemDiskView Harbor
  pub is_first : IsFirst t first
  pub played : IsPlayedOut drive.Moves harbor.Moves t number first w
