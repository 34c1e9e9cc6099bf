-- What is known of a history that was seen.
use Rattle.std.specs.Prelude.{◌≡◌, true, false, is_some, Result, Ok, Err}
use Rattle.swap_base.specs.Sizes.{Sizes, zeros}
use Rattle.swap_base.specs.declared.EntryNo.{EntryNo}
use Rattle.swap_record.specs.History.{History, IsOrdered}
use Rattle.swap_disk.specs.declared.port.DiskPort.{Ghosts as DiskMeaning}
use Rattle.swap_wire.specs.declared.fabric.Fabric.{Ghosts as FabricMeaning}
use Rattle.swap_table.specs.Fits.{IsFaithfulOver}
use Rattle.swap_player.specs.declared.paging.SwapFault.{SwapFault}
use Rattle.swap_player.specs.declared.paging.SwapFault.TheVariants as fault

-- It is ordered, and each page-in from zeros or the queue gives what the array of pages has; from a lender it gives
-- what
-- answers that, and from the disk that itself, where every disk of this type tells its blocks.
pub record IsWell {D F : Type 0} (disk : DiskMeaning D) (fabric : FabricMeaning F) (s : Sizes)
    (H : History) : Type 0 where
  pub ordered : IsOrdered H
  pub faithful : IsFaithfulOver false fabric.answers (zeros s) H
  pub told : ((k : D) → is_some (disk.means k).blocks ≡ true) → IsFaithfulOver true fabric.answers (zeros s) H

-- so where a call was answered
abbrev pub IsWellBy :
    {D F : Type 0} → DiskMeaning D → FabricMeaning F → Sizes → Result EntryNo SwapFault → History → Type 0
IsWellBy disk fabric s (Ok k) H = IsWell disk fabric s H
IsWellBy disk fabric s (Err (fault.Disk k since at)) H = IsWell disk fabric s H
IsWellBy disk fabric s (Err fault.Spent) H = Unit {0}
IsWellBy disk fabric s (Err fault.NoMemory) H = Unit {0}
