-- Acts behind acts.
use Rattle.std.proofs.Common.{◌≡◌, ◌+◌, ◌≤◌, ℕ, suc, Bool, true, false, List, [], ◌∷◌, ◌++◌, length, refl, sym, ap, ◌∙◌, subst, arith, append_assoc}
use Rattle.std.proofs.lemmas.List.{append-nil}
use Rattle.rand_pcg.specs.Lcg.{Lcg}
use Rattle.swap_wire.specs.Input.{Input, IsInRange}
use Rattle.swap_wire.specs.declared.Event.{Event}
use Rattle.swap_wire.specs.declared.Seen.{Seen}
use Rattle.swap_wire.specs.Fabric.{FabricCall, FabricAnswer, FabricOf}
use Rattle.swap_disk.specs.Port.{DiskCall, DiskAnswer}
use Rattle.swap_table.specs.Ports.{Along}
use Rattle.swap_table.specs.declared.DiskStep.{DiskStep}
use Rattle.swap_table.specs.Device.{Device, disk_take, of_device}
use Rattle.swap_world.specs.World.{IsEvent}
use Rattle.swap_world.specs.Runs.{WorldView, has_effect, logged_if, logged_polled}
use Rattle.swap_board.specs.Acts.{Act, Made, Polled, Maker, IsActed, opens, makes, polls, line_of, line_if, lines_of, Makes, AreMade, calls_since, PACE}

pub lines_of-append : (new acts : List Act) → lines_of (new ++ acts) ≡ lines_of acts ++ lines_of new
lines_of-append [] acts = sym (append-nil (lines_of acts))
lines_of-append (act ∷ new) acts = ap (λ l. l ++ line_of act) (lines_of-append new acts) ∙ append_assoc (lines_of acts) (lines_of new) (line_of act)

pub line_if-logged : (b : Bool) (log : List (Event × Seen)) (e : Event) (s : Seen) → logged_if b log e s ≡ log ++ ([] ++ line_if b e s)
line_if-logged true log e s = refl
line_if-logged false log e s = sym (append-nil log)

pub line_with-logged : (step : DiskStep) (log : List (Event × Seen)) → logged_polled step log ≡ log ++ ([] ++ line_of (Polled step))
line_with-logged DiskStep.Nothing log = sym (append-nil log)
line_with-logged (DiskStep.Written p e) log = refl
line_with-logged (DiskStep.Kept p e) log = refl
line_with-logged (DiskStep.Dropped p e) log = refl
line_with-logged (DiskStep.Came c p) log = refl
line_with-logged (DiskStep.Failed c p) log = refl

pub few_since : (seed : Lcg) (acts : List Act) → AreMade seed acts → calls_since acts ≤ PACE
few_since seed [] are = omega arith
few_since seed (Made by i s ∷ acts) are = are.1
few_since seed (Polled step ∷ acts) are = few_since seed acts are

module _ {D F : Type 0} (disk_moves : D → (c : DiskCall) → DiskAnswer c → D → Type 0) (moves : F → (c : FabricCall) → FabricAnswer c → F → Type 0) where
  acted_on :
      (first : Device) (k0 : D) (f0 : F) (acts : List Act) (d : Device) (k : D) (f : F) (new : List Act) (d' : Device) (k' : D) (f' : F)
      → of_device d ≡ of_device first → IsActed disk_moves moves first k0 f0 acts d k f → IsActed disk_moves moves d k f new d' k' f'
      → IsActed disk_moves moves first k0 f0 (new ++ acts) d' k' f'
  acted_on first k0 f0 acts d k f new d' k' f' same run opens = run
  acted_on first k0 f0 acts d k f new d' k' f' same run (makes {acts = before} {d = e} {k = ke} {f = fe} by i s da ka fa more range step) =
      makes by i s da ka fa (acted_on first k0 f0 acts d k f before e ke fe same run more)
      (let P : FabricOf → Type 0 = λ o. IsInRange o.sizes o.lenders i.event in subst P same range) step
  acted_on first k0 f0 acts d k f new d' k' f' same run (polls {acts = before} {d = e} {k = ke} {f = fe} step da ka fa more along) =
      polls step da ka fa (acted_on first k0 f0 acts d k f before e ke fe same run more) along

  -- one call after others
  pub makes_on :
      (first w w' : WorldView D F) (acts new : List Act) → Makes disk_moves moves acts first w → Makes disk_moves moves new w w'
      → Makes disk_moves moves (new ++ acts) first w'
  makes_on first w w' acts new was now = record {
    acted =
        acted_on first.core.device first.core.disk first.core.fabric acts w.core.device w.core.disk w.core.fabric new w'.core.device w'.core.disk w'.core.fabric
        was.of was.acted now.acted;
    logged =
        now.logged ∙ ap (λ l. l ++ lines_of new) was.logged ∙ append_assoc first.log (lines_of acts) (lines_of new)
        ∙ ap (λ l. first.log ++ l) (sym (lines_of-append new acts));
    of = now.of ∙ was.of;
  }

  -- nothing, one event, and a poll
  pub makes_none :
      (w w' : WorldView D F) → w'.core.device ≡ w.core.device → w'.core.disk ≡ w.core.disk → w'.core.fabric ≡ w.core.fabric → w'.log ≡ w.log
      → Makes disk_moves moves [] w w'
  makes_none w w' ed ek ef el = record { acted = rw (ed, ek, ef) opens; logged = el ∙ sym (append-nil w.log); of = ap of_device ed }

  pub makes_step :
      (w w' : WorldView D F) (by : Maker) (i : Input) (s : Seen) → IsInRange w.core.device.sizes w.core.device.lenders i.event
      → IsEvent disk_moves moves w.core.device w.core.disk w.core.fabric i s w'.core.device w'.core.disk w'.core.fabric
      → w'.log ≡ logged_if (has_effect i.event s) w.log i.event s → of_device w'.core.device ≡ of_device w.core.device
      → Makes disk_moves moves (Made by i s ∷ []) w w'
  makes_step w w' by i s range step logged of = record {
    acted = makes by i s w'.core.device w'.core.disk w'.core.fabric opens range step;
    logged = logged ∙ line_if-logged (has_effect i.event s) w.log i.event s;
    of = of;
  }

  pub makes_poll :
      (w w' : WorldView D F) (step : DiskStep)
      → Along disk_moves moves (disk_take w.core.device) w.core.disk w.core.fabric w'.core.disk w'.core.fabric (w'.core.device, step)
      → w'.log ≡ logged_polled step w.log → of_device w'.core.device ≡ of_device w.core.device
      → Makes disk_moves moves (Polled step ∷ []) w w'
  makes_poll w w' step along logged of = record {
    acted = polls step w'.core.device w'.core.disk w'.core.fabric opens along;
    logged = logged ∙ line_with-logged step w.log;
    of = of;
  }

  -- one event after room was made
  pub makes_after :
      (w w1 w' : WorldView D F) (by : Maker) (i : Input) (s : Seen) → w1.core.device ≡ w.core.device → w1.core.disk ≡ w.core.disk
      → w1.core.fabric ≡ w.core.fabric
      → w1.log ≡ w.log → IsInRange w.core.device.sizes w.core.device.lenders i.event
      → IsEvent disk_moves moves w1.core.device w1.core.disk w1.core.fabric i s w'.core.device w'.core.disk w'.core.fabric
      → w'.log ≡ logged_if (has_effect i.event s) w1.log i.event s → of_device w'.core.device ≡ of_device w1.core.device
      → Makes disk_moves moves (Made by i s ∷ []) w w'
  makes_after w w1 w' by i s ed ek ef el range step logged of =
      let P : Device → Type 0 = λ d. IsInRange d.sizes d.lenders i.event in
      makes_on w w1 w' [] (Made by i s ∷ []) (makes_none w w1 ed ek ef el) (makes_step w1 w' by i s (subst P (sym ed) range) step logged of)
