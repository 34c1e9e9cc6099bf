-- Acts behind a run are a run.
use Rattle.std.proofs.Common.{◌≡◌, ◌+◌, ℕ, Bool, true, false, List, [], ◌∷◌, ◌++◌, length, refl, sym, ap, ◌∙◌, subst, arith, Option, None, Some}
use Rattle.std.proofs.lemmas.List.{append-nil, append_assoc}
use Rattle.std.specs.List.{AllByRecursion}
use Rattle.swap_base.specs.Sizes.{Sizes}
use Rattle.swap_wire.specs.Input.{Input, IsInRange}
use Rattle.swap_wire.specs.declared.Event.{Event}
use Rattle.swap_wire.specs.declared.Event.TheVariants as event
use Rattle.swap_wire.specs.declared.Seen.{Seen}
use Rattle.swap_wire.specs.Fabric.{FabricOf}
use Rattle.swap_wire.specs.declared.fabric.Fabric.{Ghosts as FabricMeaning}
use Rattle.swap_disk.specs.declared.port.DiskPort.{Ghosts as DiskMeaning}
use Rattle.swap_slabs.specs.Slabs.{mapped_count}
use Rattle.swap_table.specs.Device.{Device, device_at_start, disk_take, of_device}
use Rattle.swap_table.specs.Happens.{see_disk}
use Rattle.swap_table.specs.Ports.{Along}
use Rattle.swap_table.specs.declared.DiskStep.{DiskStep}
use Rattle.swap_table.specs.Promises.{FollowsItsMoves, Promises}
use Rattle.swap_world.specs.World.{IsStep, IsEvent}
use Rattle.swap_world.specs.Rounds.{round_plan, round_seen, AlongPlan}
use Rattle.swap_world.specs.Runs.{IsRun, effect, without, polled, has_effect, event_of, Written, Alone, Together, written_with, made_of, logged_of}
use Rattle.swap_world.specs.Laws.{Began}
use Rattle.swap_world.proofs.DeviceStaysWithoutEffect.{comes_to_stays}
use Rattle.swap_world.proofs.RoundsKeepPlans.{AreParts, round_parts, splits, Splits, by_program, by_plan, Ran, plan_runs}
use Rattle.swap_world.proofs.EventsKeepWhatHolds.{step_comes, run_known}
use Rattle.swap_board.specs.Acts.{Act, IsActed, opens, makes, polls, line_if, line_with, lines_of}
use Rattle.swap_play.specs.Running.{RunsTo, ActsAreRuns}
use Rattle.swap_world.proofs.ReachedGoesOn.{made_written, parts_written}

polled_logged : (written : List Written) (e : Option Event) (s : Seen) → logged_of written ++ line_with e s ≡ logged_of (written_with e s written)
polled_logged written None s = append-nil (logged_of written)
polled_logged written (Some e) s = refl

module _ {D F : Type 0} (disk : DiskMeaning D) (follows : FollowsItsMoves disk) (fabric : FabricMeaning F) (laws : Promises fabric) (s : Sizes) (n : ℕ)
    (first : D) (first_fabric : F) (began : Began disk fabric s n first first_fabric) where
  abbrev To : List (Event × Seen) → Device → D → F → Type 0
  To log d k f = RunsTo disk.moves fabric.moves (device_at_start s n) first first_fabric log d k f

  known_of : (log : List (Event × Seen)) (d : Device) (k : D) (f : F) → To log d k f → of_device d ≡ record { sizes = s; lenders = n }
  known_of log d k f r = (run_known disk follows fabric laws s n first first_fabric began (made_of r.written) d k f r.run).is

  stepped :
      (log : List (Event × Seen)) (d : Device) (k : D) (f : F) (i : Input) (v : Seen) (d' : Device) (k' : D) (f' : F) (b : Bool) → has_effect i.event v ≡ b
      → IsInRange s n i.event → IsStep disk.moves fabric.moves d k f i v d' k' f' → To log d k f → To (log ++ line_if b i.event v) d' k' f'
  stepped log d k f i v d' k' f' true has range step r = record {
    written = Alone i v ∷ r.written;
    parts = (tt, r.parts);
    run = effect i v d' k' f' r.run range step has;
    logged = ap (λ l. l ++ (i.event, v) ∷ []) r.logged;
  }
  stepped log d k f i v d' k' f' false has range step r =
      let stays : d' ≡ d = comes_to_stays d d' i.page i.event v (step_comes disk.moves fabric.moves d d' k k' f f' i v step) has in
      let P : Device → Type 0 = λ x. IsStep disk.moves fabric.moves d k f i v x k' f' in
      let Q : Device → Type 0 = λ x. IsRun disk.moves fabric.moves (device_at_start s n) first first_fabric (made_of r.written) x k' f' in
      record {
        written = r.written;
        parts = r.parts;
        run = subst Q (sym stays) (without i v k' f' r.run range (subst P stays step) has);
        logged = append-nil log ∙ r.logged;
      }

  rounds :
      (log : List (Event × Seen)) (d : Device) (k : D) (f : F) (word effects : ℕ) (d' : Device) (k' : D) (f' : F)
      → AlongPlan disk.moves fabric.moves (round_plan d.sizes d.lenders word) d k f d' k' f' effects → To log d k f
      → To (log ++ (event.Round word, round_seen d' effects) ∷ []) d' k' f'
  rounds log d k f word effects d' k' f' along r =
      let P : FabricOf → Type 0 = λ x. AreParts x.sizes x.lenders (round_plan d.sizes d.lenders word) in
      let parts = subst P (known_of log d k f r) (round_parts d.sizes d.lenders word) in
      let ran : Ran disk.moves fabric.moves (device_at_start s n) first first_fabric (made_of r.written) d' k' f' (effects + 0) =
      plan_runs disk.moves fabric.moves (device_at_start s n) first first_fabric (made_of r.written) []
      (round_plan d.sizes d.lenders word) d d' k k' f f' effects parts tt r.run along in
      let count : length ran.inner ≡ effects = let m = ran.counted in omega (arith, m) in
      record {
        written = Together word (mapped_count d'.remote.slabs) ran.inner ∷ r.written;
        parts = (ran.parts, r.parts);
        run = ran.run;
        logged =
            ap (λ l. l ++ (event.Round word, round_seen d' effects) ∷ []) r.logged
            ∙ ap (λ m. logged_of r.written ++ (event.Round word, round_seen d' m) ∷ []) (sym count);
      }

  acts_once :
      (log : List (Event × Seen)) (d : Device) (k : D) (f : F) (i : Input) (v : Seen) (d' : Device) (k' : D) (f' : F) → IsInRange s n i.event
      → IsEvent disk.moves fabric.moves d k f i v d' k' f' → To log d k f → To (log ++ line_if (has_effect i.event v) i.event v) d' k' f'
  acts_once log d k f i v d' k' f' range step r = go (splits disk.moves fabric.moves i.page i.event v d d' k k' f f' step) range
    where
      go :
          {e : Event} {v : Seen} → Splits disk.moves fabric.moves i.page d k f d' k' f' e v → IsInRange s n e
          → To (log ++ line_if (has_effect e v) e v) d' k' f'
      go {e} {v} (by_program along) there = stepped log d k f (record { event = e; page = i.page }) v d' k' f' (has_effect e v) refl there along r
      go (by_plan {word = word} effects along is) there =
          let P : Seen → Type 0 = λ x. To (log ++ line_if (has_effect (event.Round word) x) (event.Round word) x) d' k' f' in
          subst P (sym is) (rounds log d k f word effects d' k' f' along r)

  polls_once :
      (log : List (Event × Seen)) (d : Device) (k : D) (f : F) (step : DiskStep) (d' : Device) (k' : D) (f' : F)
      → Along disk.moves fabric.moves (disk_take d) k f k' f' (d', step) → To log d k f → To (log ++ line_with (event_of step) (see_disk step)) d' k' f'
  polls_once log d k f step d' k' f' along r = record {
    written = written_with (event_of step) (see_disk step) r.written;
    parts = parts_written r.written (event_of step) (see_disk step) r.parts;
    run =
        let P : List (Input × Seen) → Type 0 = λ made. IsRun disk.moves fabric.moves (device_at_start s n) first first_fabric made d' k' f' in
        subst P (sym (made_written r.written (event_of step) (see_disk step))) (polled step d' k' f' r.run along);
    logged = ap (λ l. l ++ line_with (event_of step) (see_disk step)) r.logged ∙ polled_logged r.written (event_of step) (see_disk step);
  }

  pub acted_runs :
      (log : List (Event × Seen)) (d0 : Device) (k0 : D) (f0 : F) (acts : List Act) (d : Device) (k : D) (f : F) → To log d0 k0 f0
      → IsActed disk.moves fabric.moves d0 k0 f0 acts d k f → To (log ++ lines_of acts) d k f
  acted_runs log d0 k0 f0 acts d k f r opens = let P : List (Event × Seen) → Type 0 = λ l. To l d0 k0 f0 in subst P (sym (append-nil log)) r
  acted_runs log d0 k0 f0 acts d k f r (makes {acts = before} {d = e} {k = ke} {f = fe} by i v d' k' f' more range step) =
      let P : FabricOf → Type 0 = λ o. IsInRange o.sizes o.lenders i.event in
      let Q : List (Event × Seen) → Type 0 = λ l. To l d' k' f' in
      subst Q (append_assoc log (lines_of before) (line_if (has_effect i.event v) i.event v))
      (acts_once (log ++ lines_of before) e ke fe i v d' k' f' (subst P (known_of log d0 k0 f0 r) range) step (acted_runs log d0 k0 f0 before e ke fe r more))
  acted_runs log d0 k0 f0 acts d k f r (polls {acts = before} {d = e} {k = ke} {f = fe} step d' k' f' more along) =
      let Q : List (Event × Seen) → Type 0 = λ l. To l d' k' f' in
      subst Q (append_assoc log (lines_of before) (line_with (event_of step) (see_disk step)))
      (polls_once (log ++ lines_of before) e ke fe step d' k' f' along (acted_runs log d0 k0 f0 before e ke fe r more))

pub acts_are_runs :
    {D F : Type 0} (disk : DiskMeaning D) (follows : FollowsItsMoves disk) (fabric : FabricMeaning F) (laws : Promises fabric) → ActsAreRuns disk fabric
acts_are_runs disk follows fabric laws s n first first_fabric log d k f acts d' k' f' began r acted =
    acted_runs disk follows fabric laws s n first first_fabric began log d k f acts d' k' f' r acted
