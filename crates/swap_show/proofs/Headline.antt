-- What was played is a run of the machine, and so the headline holds of it.
use Rattle.std.proofs.Common.{◌≡◌, ◌≤◌, ◌++◌, ℕ, List, [], ◌∷◌, length, map, refl, sym, ap, ◌∙◌, subst, None}
use Rattle.std.specs.List.{AllByRecursion}
use Rattle.std.proofs.lemmas.List.{length-map}
use Rattle.std.proofs.lemmas.List.Elements.{All-from_recursion}
use Rattle.swap_base.specs.Sizes.{Sizes}
use Rattle.swap_base.specs.declared.geometry.LenderSpec.{LenderSpec}
use Rattle.swap_wire.specs.declared.Event.{Event}
use Rattle.swap_wire.specs.declared.Seen.{Seen}
use Rattle.swap_base.specs.declared.TheConstants.{MOST_LENDERS}
use Rattle.swap_disk.specs.MemDiskView as drive
use Rattle.swap_disk.specs.MemDiskView.{MemDiskView, new_drive, port_of}
use Rattle.swap_link.specs.Channel.{Channel}
use Rattle.swap_link.specs.Harbor as harbor
use Rattle.swap_link.specs.Harbor.{Harbor, new_channel, of_harbor}
use Rattle.swap_joint.specs.Owned.{IsLent}
use Rattle.swap_script.specs.Reading.{Script}
use Rattle.swap_table.specs.Device.{Device, device_at_start}
use Rattle.swap_table.specs.Fits.{IsBlank}
use Rattle.swap_trace.specs.Laws.{HaveLenders}
use Rattle.swap_world.specs.Laws as world
use Rattle.swap_world.specs.Laws.{Began}
use Rattle.swap_world.specs.Runs.{WorldView, IsRun, begin, made_of}
use Rattle.swap_world.specs.World.{new_harbor}
use Rattle.swap_world.proofs.WorldInMemoryStaysSound.{drive_meaning, harbor_meaning}
use Rattle.swap_world.proofs.HoldsAfterRuns.{all_faithful}
use Rattle.swap_newest.specs.Laws as newest
use Rattle.swap_board.specs.Acts.{Act, IsActed, lines_of}
use Rattle.swap_play.specs.Running.{RunsTo, ActsAreRuns}
use Rattle.swap_play.specs.Playing.{IsPlayedOut}
use Rattle.swap_show.specs.Shown.{IsFirst, IsRunOf, KeepsLent, IsHeadline, PlaysKeepTheHeadline}

-- what holds of every run over the disk and the lenders in memory
pub record Laws : Type 0 where
  pub acts : ActsAreRuns drive_meaning harbor_meaning
  pub holds : world.HoldsAfterEach drive_meaning harbor_meaning
  pub lent : newest.HoldsAfterEach drive_meaning
  pub lenders : HaveLenders

-- the disk and the lenders as they are made
blank : (s : Sizes) → IsBlank s (port_of (new_drive s))
blank s = record { sizes = refl; flights = refl; finished = refl; blocks = refl }

fresh_each : (s : Sizes) (specs : List LenderSpec) → AllByRecursion (λ (c : Channel). c ≡ new_channel s c.lender.lending.spec) (map (new_channel s) specs)
fresh_each s [] = tt
fresh_each s (spec ∷ specs) = (refl, fresh_each s specs)

is_of : (s : Sizes) (specs : List LenderSpec) → of_harbor (new_harbor s specs) ≡ record { sizes = s; lenders = length specs }
is_of s specs = ap (λ n. record { sizes = s; lenders = n }) (length-map specs (new_channel s))

fresh : (s : Sizes) (specs : List LenderSpec) → harbor.IsFresh (new_harbor s specs) (record { sizes = s; lenders = length specs })
fresh s specs =
    record {
      is = is_of s specs;
      channels = All-from_recursion (λ (c : Channel). c ≡ new_channel s c.lender.lending.spec) (map (new_channel s) specs) (fresh_each s specs);
    }

module _ (laws : Laws) (t : Script) (few : length t.lenders ≤ MOST_LENDERS) where
  -- from the first world on these lines were left
  abbrev Runs : List (Event × Seen) → Device → MemDiskView → Harbor → Type 0
  Runs log d k h = RunsTo drive.Moves harbor.Moves (device_at_start t.sizes (length t.lenders)) (new_drive t.sizes) (new_harbor t.sizes t.lenders) log d k h

  abbrev Acted : WorldView MemDiskView Harbor → List Act → Device → MemDiskView → Harbor → Type 0
  Acted from acts d k h = IsActed drive.Moves harbor.Moves from.core.device from.core.disk from.core.fabric acts d k h

  began : Began drive_meaning harbor_meaning t.sizes (length t.lenders) (new_drive t.sizes) (new_harbor t.sizes t.lenders)
  began = record { blank = blank t.sizes; is_of = is_of t.sizes t.lenders; few = few }

  first_runs : (first : WorldView MemDiskView Harbor) → IsFirst t first → Runs [] first.core.device first.core.disk first.core.fabric
  first_runs first is =
      let P : Device → Type 0 = λ d. Runs [] d first.core.disk first.core.fabric in
      let Q : MemDiskView → Type 0 = λ k. Runs [] (device_at_start t.sizes (length t.lenders)) k first.core.fabric in
      let R : Harbor → Type 0 = λ h. Runs [] (device_at_start t.sizes (length t.lenders)) (new_drive t.sizes) h in
      subst P (sym is.device) (subst Q (sym is.disk) (subst R (sym is.fabric) (record { written = []; parts = tt; run = begin; logged = refl })))

  more_runs :
      (from : WorldView MemDiskView Harbor) (log : List (Event × Seen)) (acts : List Act) (d : Device) (k : MemDiskView) (h : Harbor)
      → Runs log from.core.device from.core.disk from.core.fabric → Acted from acts d k h → Runs (log ++ lines_of acts) d k h
  more_runs from log acts d k h runs acted =
      laws.acts t.sizes (length t.lenders) (new_drive t.sizes)
      (new_harbor t.sizes t.lenders) log from.core.device from.core.disk from.core.fabric acts d k h began runs acted

  lent_in : (log : List (Event × Seen)) (d : Device) (k : MemDiskView) (h : Harbor) → Runs log d k h → IsLent d h
  lent_in log d k h runs =
      (laws.lent t.sizes (length t.lenders) (new_drive t.sizes) (new_harbor t.sizes t.lenders) (made_of runs.written) d k h (blank t.sizes)
      (fresh t.sizes t.lenders) few runs.run).lent

  keeps_lent :
      (from : WorldView MemDiskView Harbor) (log : List (Event × Seen)) (acts : List Act) → Runs log from.core.device from.core.disk from.core.fabric
      → KeepsLent from acts
  keeps_lent from log acts runs later earlier d k h is acted = lent_in (log ++ lines_of earlier) d k h (more_runs from log earlier d k h runs acted)

  run_of : (first w : WorldView MemDiskView Harbor) → IsFirst t first → Runs w.log w.core.device w.core.disk w.core.fabric → IsRunOf t first w
  run_of first w is runs =
      let holds =
      laws.holds t.sizes (length t.lenders) (new_drive t.sizes) (new_harbor t.sizes t.lenders)
      (made_of runs.written) w.core.device w.core.disk w.core.fabric began runs.run in
      let P : Device → Type 0 =
      λ d. IsRun drive.Moves harbor.Moves d first.core.disk first.core.fabric (made_of runs.written) w.core.device w.core.disk w.core.fabric in
      let Q : MemDiskView → Type 0 =
      λ k.
      IsRun drive.Moves harbor.Moves (device_at_start t.sizes (length t.lenders)) k first.core.fabric
      (made_of runs.written) w.core.device w.core.disk w.core.fabric in
      let R : Harbor → Type 0 =
      λ h.
      IsRun drive.Moves harbor.Moves (device_at_start t.sizes (length t.lenders)) (new_drive t.sizes) h
      (made_of runs.written) w.core.device w.core.disk w.core.fabric in
      record {
        written = runs.written;
        parts = runs.parts;
        run = subst P (sym is.device) (subst Q (sym is.disk) (subst R (sym is.fabric) runs.run));
        logged = runs.logged;
        legal = (holds.ordered, all_faithful _ w.core.device.history holds.faithful);
        once = holds.once;
        entries = holds.entries;
      }

  played_headline :
      (number : ℕ) (first w : WorldView MemDiskView Harbor) (played : IsPlayedOut drive.Moves harbor.Moves t number first w) → IsFirst t first
      → IsHeadline t number first w played
  played_headline number first w played is =
      let mid = played.connected in
      let start_runs = first_runs first is in
      let connects = played.connects.works.makes in
      let carried = played.carried.acted.makes in
      let mid_runs : Runs ([] ++ lines_of played.connects.acts) mid.core.device mid.core.disk mid.core.fabric =
      more_runs first [] played.connects.acts mid.core.device mid.core.disk mid.core.fabric start_runs connects.acted in
      let mid_log : mid.log ≡ [] ++ lines_of played.connects.acts = connects.logged ∙ ap (λ l. l ++ lines_of played.connects.acts) is.log in
      let P : List (Event × Seen) → Type 0 = λ l. Runs l mid.core.device mid.core.disk mid.core.fabric in
      let connected = subst P (sym mid_log) mid_runs in
      let Q : List (Event × Seen) → Type 0 = λ l. Runs l w.core.device w.core.disk w.core.fabric in
      let last =
      subst Q (sym carried.logged) (more_runs mid mid.log played.carried.acted.acts w.core.device w.core.disk w.core.fabric connected carried.acted) in
      record {
        run = run_of first w is last;
        connecting = keeps_lent first [] played.connects.acts start_runs;
        carrying = keeps_lent mid mid.log played.carried.acted.acts connected;
      }

pub plays_keep_the_headline : Laws → PlaysKeepTheHeadline
plays_keep_the_headline laws text t number first w played is_trace is =
    played_headline laws t (laws.lenders None text t is_trace).count number first w played is
