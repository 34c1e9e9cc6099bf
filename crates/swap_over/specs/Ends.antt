-- How playing a trace over ports ends, what it then wrote, and what comes back of the ports.
use Rattle.std.specs.Prelude.{◌≡◌, ℕ, Bool, true, false, List, Option, None, Some}
use Rattle.std.specs.Io.KnownBytes.{Appends}
use Rattle.swap_base.specs.declared.geometry.LenderSpec.{LenderSpec}
use Rattle.swap_io.specs.Causes.{AppendsFront}
use Rattle.swap_disk.specs.declared.port.DiskPort.{Ghosts as DiskMeaning}
use Rattle.swap_wire.specs.declared.fabric.Fabric.{Ghosts as FabricMeaning}
use Rattle.swap_script.specs.Reading.{Script}
use Rattle.swap_script.specs.Transcript.{transcript}
use Rattle.swap_world.specs.Runs.{WorldView}
use Rattle.swap_run.specs.Run.{has_failed}
use Rattle.swap_run.specs.Clause.{Stream, Failed, TookNothing}
use Rattle.swap_run.specs.declared.Ending.{Ending}
use Rattle.swap_run.specs.declared.Ending.TheVariants as ending
use Rattle.swap_show.specs.Printing.{world_transcript}
use Rattle.swap_over.specs.Over.{WasPlayedOver}

-- what writing a world's transcript leaves, by how it ends
abbrev pub WrittenBy : {D F : Type 0} → List LenderSpec → WorldView D F → Stream → Ending → Type 0
WrittenBy lenders w out ending.Done =
    Appends out.before out.now (world_transcript lenders w) × (has_failed w.core.device.history ≡ false)
WrittenBy lenders w out ending.Faulted =
    Appends out.before out.now (world_transcript lenders w) × (has_failed w.core.device.history ≡ true)
WrittenBy lenders w out ending.WriteFailed = AppendsFront out.before out.now (world_transcript lenders w) × Failed out
WrittenBy lenders w out _ = ⊥

-- what is written of a played trace: the transcript of the world's log
abbrev pub transcript_over : {D F : Type 0} → Script → WorldView D F → List ℕ
transcript_over t w = transcript t.sizes t.lenders w.log w.core.device.history

module _ {D F : Type 0} (disk : DiskMeaning D) (fabric : FabricMeaning F) (t : Script) (number : ℕ) (given : D)
    (net : F) (out : Stream) where
  -- a trace was played and out took its transcript, and nothing else; a call failed or none did; and the ports are as
  -- the
  -- run left them
  pub record PlayedOver (with_fault : Bool) (back : D × F) : Type 0 where
    pub world : WorldView D F
    pub shown : WasPlayedOver disk fabric t number given net world
    pub back_is : back ≡ (world.core.disk, world.core.fabric)
    pub wrote : Appends out.before out.now (transcript_over t world)
    pub fault : has_failed world.core.device.history ≡ with_fault

  -- a trace was played and a write failed: out took a front of its transcript
  pub record BrokeOffOver (back : D × F) : Type 0 where
    pub world : WorldView D F
    pub shown : WasPlayedOver disk fabric t number given net world
    pub back_is : back ≡ (world.core.disk, world.core.fabric)
    pub wrote : AppendsFront out.before out.now (transcript_over t world)
    pub failed : Failed out

  -- what holds where it ends so, with these ports; for want of memory the ports come back as they were given, or not at
  -- all
  abbrev pub OverEnds : Ending → Option (D × F) → Type 0
  OverEnds ending.Done (Some back) = PlayedOver false back
  OverEnds ending.Faulted (Some back) = PlayedOver true back
  OverEnds ending.WriteFailed (Some back) = BrokeOffOver back
  OverEnds ending.NoMemory (Some back) = (back ≡ (given, net)) × TookNothing out
  OverEnds ending.NoMemory None = TookNothing out
  OverEnds _ _ = ⊥
