-- What was played over ports is a run of the machine.
use Rattle.std.proofs.Common.{◌≡◌, ◌++◌, ℕ, List, [], length, refl, sym, ap, ◌∙◌, subst}
use Rattle.swap_wire.specs.declared.Event.{Event}
use Rattle.swap_wire.specs.declared.Seen.{Seen}
use Rattle.swap_disk.specs.declared.port.DiskPort.{Ghosts as DiskMeaning}
use Rattle.swap_wire.specs.declared.fabric.Fabric.{Ghosts as FabricMeaning}
use Rattle.swap_script.specs.Reading.{Script}
use Rattle.swap_table.specs.Device.{Device, device_at_start}
use Rattle.swap_world.specs.Laws.{Began, HoldsAfterEach}
use Rattle.swap_world.specs.Runs.{WorldView, begin, made_of}
use Rattle.swap_board.specs.Acts.{Act, IsActed, lines_of}
use Rattle.swap_play.specs.Running.{RunsTo, ActsAreRuns}
use Rattle.swap_play.specs.Playing.{IsPlayedOut}
use Rattle.swap_over.specs.Over.{IsFirstOver, IsRunOver, PlaysAreRuns}

module _ {D F : Type 0} (disk : DiskMeaning D) (fabric : FabricMeaning F) (acts_run : ActsAreRuns disk fabric) (always : HoldsAfterEach disk fabric) where
  module _ (t : Script) (given : D) (net : F) (began : Began disk fabric t.sizes (length t.lenders) given net) where
    -- from the first world on these lines were left
    abbrev To : List (Event × Seen) → Device → D → F → Type 0
    To log d k f = RunsTo disk.moves fabric.moves (device_at_start t.sizes (length t.lenders)) given net log d k f

    first_runs : (first : WorldView D F) → IsFirstOver t given net first → To [] first.core.device first.core.disk first.core.fabric
    first_runs first is =
        let P : Device → Type 0 = λ d. To [] d first.core.disk first.core.fabric in
        let Q : D → Type 0 = λ k. To [] (device_at_start t.sizes (length t.lenders)) k first.core.fabric in
        let R : F → Type 0 = λ f. To [] (device_at_start t.sizes (length t.lenders)) given f in
        subst P (sym is.device) (subst Q (sym is.disk_is) (subst R (sym is.fabric_is) (record { written = []; parts = tt; run = begin; logged = refl })))

    more_runs :
        (from : WorldView D F) (log : List (Event × Seen)) (acts : List Act) (w : WorldView D F) → To log from.core.device from.core.disk from.core.fabric
        → IsActed disk.moves fabric.moves from.core.device from.core.disk from.core.fabric acts w.core.device w.core.disk w.core.fabric
        → To (log ++ lines_of acts) w.core.device w.core.disk w.core.fabric
    more_runs from log acts w runs acted =
        acts_run t.sizes
        (length t.lenders) given net log from.core.device from.core.disk from.core.fabric acts w.core.device w.core.disk w.core.fabric began runs acted

    run_over : (w : WorldView D F) → To w.log w.core.device w.core.disk w.core.fabric → IsRunOver disk fabric t given net w
    run_over w runs = record {
      written = runs.written;
      parts = runs.parts;
      run = runs.run;
      logged = runs.logged;
      holds = always t.sizes (length t.lenders) given net (made_of runs.written) w.core.device w.core.disk w.core.fabric began runs.run;
    }

    played_over :
        (number : ℕ) (first w : WorldView D F) → IsFirstOver t given net first → IsPlayedOut disk.moves fabric.moves t number first w
        → IsRunOver disk fabric t given net w
    played_over number first w is played =
        let mid = played.connected in
        let connects = played.connects.works.makes in
        let carried = played.carried.acted.makes in
        let mid_log : mid.log ≡ [] ++ lines_of played.connects.acts = connects.logged ∙ ap (λ l. l ++ lines_of played.connects.acts) is.log in
        let P : List (Event × Seen) → Type 0 = λ l. To l mid.core.device mid.core.disk mid.core.fabric in
        let connected : To mid.log mid.core.device mid.core.disk mid.core.fabric =
        subst P (sym mid_log) (more_runs first [] played.connects.acts mid (first_runs first is) connects.acted) in
        let Q : List (Event × Seen) → Type 0 = λ l. To l w.core.device w.core.disk w.core.fabric in
        run_over w (subst Q (sym carried.logged) (more_runs mid mid.log played.carried.acted.acts w connected carried.acted))

  pub plays_are_runs : PlaysAreRuns disk fabric
  plays_are_runs t number given net first w began is played = played_over t given net began number first w is played
