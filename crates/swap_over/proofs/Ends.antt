-- How playing over ports ends.
use Rattle.std.proofs.Common.{◌≡◌, ℕ, List, length, ap, ◌∙◌, subst, Some}
use Rattle.std.specs.Prelude.{[]}
use Rattle.std.specs.Io.KnownBytes.{Appends}
use Rattle.swap_base.specs.Sizes.{Sizes}
use Rattle.swap_base.specs.declared.geometry.LenderSpec.{LenderSpec}
use Rattle.swap_io.specs.Causes.{AppendsFront}
use Rattle.swap_disk.specs.declared.port.DiskPort.{Ghosts as DiskMeaning}
use Rattle.swap_wire.specs.Fabric.{FabricOf}
use Rattle.swap_wire.specs.declared.fabric.Fabric.{Ghosts as FabricMeaning}
use Rattle.swap_script.specs.Reading.{Script}
use Rattle.swap_script.specs.Transcript.{transcript}
use Rattle.swap_table.specs.Device.{Device, Core, device_at_start}
use Rattle.swap_world.specs.Runs.{WorldView}
use Rattle.swap_run.specs.declared.Ending.{Ending}
use Rattle.swap_run.specs.declared.Ending.TheVariants as ending
use Rattle.swap_run.specs.Clause.{Stream}
use Rattle.swap_play.specs.Playing.{IsPlayedOut}
use Rattle.swap_show.specs.Printing.{world_transcript}
use Rattle.swap_over.specs.Over.{IsFirstOver, IsRunOver, WasPlayedOver}
use Rattle.swap_over.specs.Ends.{WrittenBy, OverEnds, transcript_over}

module _ {D F : Type 0} where
  -- a world as it is made over these ports
  pub first_is :
      (t : Script) (s : Sizes) (n : ℕ) (k : D) (f : F) (w : WorldView D F) → s ≡ t.sizes → n ≡ length t.lenders
      → w.core ≡ record { device = device_at_start s n; disk = k; fabric = f; spare = 0 } → w.log ≡ [] → IsFirstOver t k f w
  first_is t s n k f w es en core log = record {
    device = ap (λ (c : Core D F). c.device) core ∙ ap (λ x. device_at_start x n) es ∙ ap (λ m. device_at_start t.sizes m) en;
    disk_is = ap (λ (c : Core D F). c.disk) core;
    fabric_is = ap (λ (c : Core D F). c.fabric) core;
    log = log;
  }

module _ {D F : Type 0} (disk : DiskMeaning D) (fabric : FabricMeaning F) where
  -- a world that was played has the sizes of its trace
  sizes_stay :
      (t : Script) (number : ℕ) (k : D) (f : F) (first w : WorldView D F) → IsFirstOver t k f first → IsPlayedOut disk.moves fabric.moves t number first w
      → w.core.device.sizes ≡ t.sizes
  sizes_stay t number k f first w is played =
      ap (λ (o : FabricOf). o.sizes) played.carried.acted.makes.of ∙ ap (λ (o : FabricOf). o.sizes) played.connects.works.makes.of
      ∙ ap (λ (d : Device). d.sizes) is.device

  same_text :
      (t : Script) (lenders : List LenderSpec) (w : WorldView D F) → w.core.device.sizes ≡ t.sizes → lenders ≡ t.lenders
      → world_transcript lenders w ≡ transcript_over t w
  same_text t lenders w sizes specs =
      ap (λ s. transcript s lenders w.log w.core.device.history) sizes ∙ ap (λ l. transcript t.sizes l w.log w.core.device.history) specs

  -- what was written of a played world, with the ports that it had at last
  pub over_ends :
      (t : Script) (number : ℕ) (lenders : List LenderSpec) (k : D) (f : F) (first w : WorldView D F) (back : D × F) (out : Stream) (end : Ending)
      → lenders ≡ t.lenders → IsFirstOver t k f first → IsPlayedOut disk.moves fabric.moves t number first w → IsRunOver disk fabric t k f w
      → back ≡ (w.core.disk, w.core.fabric) → WrittenBy lenders w out end → OverEnds disk fabric t number k f out end (Some back)
  over_ends t number lenders k f first w back out end specs is played run back_is h = go end h
    where
      shown : WasPlayedOver disk fabric t number k f w
      shown = record { first = first; is_first = is; played = played; run = run }

      same : world_transcript lenders w ≡ transcript_over t w
      same = same_text t lenders w (sizes_stay t number k f first w is played) specs

      whole : Appends out.before out.now (world_transcript lenders w) → Appends out.before out.now (transcript_over t w)
      whole wrote = let P : List ℕ → Type 0 = λ l. Appends out.before out.now l in subst P same wrote

      go : (end : Ending) → WrittenBy lenders w out end → OverEnds disk fabric t number k f out end (Some back)
      go ending.Done h = record { world = w; shown = shown; back_is = back_is; wrote = whole h.0; fault = h.1 }
      go ending.Faulted h = record { world = w; shown = shown; back_is = back_is; wrote = whole h.0; fault = h.1 }
      go ending.WriteFailed h =
          record {
            world = w;
            shown = shown;
            back_is = back_is;
            wrote = let P : List ℕ → Type 0 = λ l. AppendsFront out.before out.now l in subst P same h.0;
            failed = h.1;
          }
      go ending.Usage h = absurd h
      go ending.ReadFailed h = absurd h
      go (ending.Refused r) h = absurd h
      go ending.NoMemory h = absurd h
      go ending.NotLegal h = absurd h
      go ending.HostFailed h = absurd h
      go ending.TooLong h = absurd h
