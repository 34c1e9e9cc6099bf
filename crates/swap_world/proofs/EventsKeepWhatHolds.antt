-- One event over any disk and any fabric comes to what it may, and what each keeps holds after every run.
use Rattle.std.proofs.Common.{◌≡◌, ℕ, ◌<◌, Bool, List, [], ◌∷◌, length, refl, sym, ap, ◌∙◌, subst, is_some, Option}
use Rattle.swap_base.specs.declared.Caller.{Caller}
use Rattle.swap_base.specs.Sizes.{Sizes}
use Rattle.swap_disk.specs.Disk.{Taken}
use Rattle.swap_disk.specs.Port.{DiskCall, DiskAnswer, TakeDone}
use Rattle.swap_disk.specs.declared.port.DiskPort.{Ghosts as DiskMeaning}
use Rattle.swap_wire.specs.Fabric.{FabricCall, FabricAnswer, FabricOf}
use Rattle.swap_wire.specs.declared.fabric.Fabric.{Ghosts as FabricMeaning}
use Rattle.swap_wire.specs.Input.{Input, IsInRange}
use Rattle.swap_wire.specs.declared.Seen.{Seen}
use Rattle.swap_table.specs.declared.DiskStep.{DiskStep}
use Rattle.swap_table.specs.Ports.{Along}
use Rattle.swap_table.specs.Device.{Device, of_device, device_at_start, disk_take, took_back}
use Rattle.swap_table.specs.Happens.{happens}
use Rattle.swap_table.specs.Comes.{ComesTo}
use Rattle.swap_table.specs.Promises.{FollowsItsMoves, Promises}
use Rattle.swap_table.specs.Laws.{AgreeWith}
use Rattle.swap_table.proofs.Programs.{Leads-Along}
use Rattle.swap_table.proofs.EventsComeToTheirEnds.{happens_comes}
use Rattle.swap_table.proofs.CallsKeepAgreement.{each_call_keeps, new_agrees, happens_kept}
use Rattle.swap_world.specs.World.{IsStep}
use Rattle.swap_world.specs.Runs.{IsRun, begin, effect, without, polled, with_polled}
use Rattle.swap_world.specs.Laws.{Began}

module _ {D F : Type 0} (disk_moves : D → (c : DiskCall) → DiskAnswer c → D → Type 0) (moves : F → (c : FabricCall) → FabricAnswer c → F → Type 0) where
  pub step_comes : (d d' : Device) (k k' : D) (f f' : F) (i : Input) (s : Seen) → IsStep disk_moves moves d k f i s d' k' f' → ComesTo d i.page i.event d' s
  step_comes d d' k k' f f' i s step =
      Leads-Along disk_moves moves (happens d i.page i.event) k f k' f' (d', s) _ (happens_comes disk_moves moves d k f i.page i.event) step

-- what is known of a device over its ports before and after each event
module _ {D F : Type 0} (disk : DiskMeaning D) (follows : FollowsItsMoves disk) (fabric : FabricMeaning F) (laws : Promises fabric) (T : Bool)
    (o : FabricOf) where
  pub record Known (d : Device) (k : D) (f : F) : Type 0 where
    pub agree : AgreeWith disk fabric T d k f
    pub is : of_device d ≡ o

  pub known_range : (d : Device) (k : D) (f : F) (i : Input) → Known d k f → IsInRange o.sizes o.lenders i.event → IsInRange d.sizes d.lenders i.event
  known_range d k f i h range = subst (λ (x : FabricOf). IsInRange x.sizes x.lenders i.event) (sym h.is) range

  -- a caller that there is has a call
  pub known_caller : (d : Device) (k : D) (f : F) (c : Caller) → Known d k f → c.0 < o.sizes.callers → c.0 < length d.calls
  known_caller d k f c h within = subst (λ m. c.0 < m) (sym (h.agree.0.disk.agrees.calls_len ∙ ap (λ (x : FabricOf). x.sizes.callers) h.is)) within

  pub step_known :
      (d d' : Device) (k k' : D) (f f' : F) (i : Input) (s : Seen) → Known d k f → IsInRange o.sizes o.lenders i.event
      → IsStep disk.moves fabric.moves d k f i s d' k' f' → Known d' k' f'
  step_known d d' k k' f f' i s h range step =
      let kept =
      Leads-Along disk.moves fabric.moves (happens d i.page i.event) k f k' f' (d', s)
      (λ (a : Device × Seen) e g. AgreeWith disk fabric T a.0 e g × (of_device a.0 ≡ of_device d))
      (happens_kept disk follows fabric laws T d k f i.page i.event h.agree (known_range d k f i h range)) step in
      record { agree = kept.0; is = kept.1 ∙ h.is }

  pub poll_known :
      (d d' : Device) (k k' : D) (f f' : F) (step : DiskStep) → Known d k f → Along disk.moves fabric.moves (disk_take d) k f k' f' (d', step) → Known d' k' f'
  poll_known d d' k k' f f' step h along =
      let kept =
      Leads-Along disk.moves fabric.moves (disk_take d) k f k' f' (d', step)
      (λ (a : Device × DiskStep) e g. AgreeWith disk fabric T a.0 e g × (of_device a.0 ≡ of_device d))
      ((each_call_keeps disk follows fabric laws).disk_take T d k f h.agree) along in
      record { agree = kept.0; is = kept.1 ∙ h.is }

  -- what each event, and each poll, keeps of a device and of what was made
  pub record EachEventKeeps (P : List (Input × Seen) → Device → Type 0) : Type 0 where
    pub event :
        (made : List (Input × Seen)) (d d' : Device) (k k' : D) (f f' : F) (i : Input) (s : Seen) → Known d k f → IsInRange o.sizes o.lenders i.event
        → IsStep disk.moves fabric.moves d k f i s d' k' f' → P made d → P ((i, s) ∷ made) d'
    pub poll :
        (made : List (Input × Seen)) (d : Device) (k k' : D) (f : F) (taken : Option Taken) → Known d k f → disk.moves k TakeDone taken k' → P made d
        → P (with_polled (took_back d taken).1 made) (took_back d taken).0

module _ {D F : Type 0} (disk : DiskMeaning D) (follows : FollowsItsMoves disk) (fabric : FabricMeaning F) (laws : Promises fabric) (s : Sizes) (n : ℕ)
    (first : D) (first_fabric : F) (began : Began disk fabric s n first first_fabric) where
  abbrev pub Told : Bool
  Told = is_some (disk.means first).blocks

  abbrev pub OfThese : FabricOf
  OfThese = record { sizes = s; lenders = n }

  pub run_known :
      (made : List (Input × Seen)) (d : Device) (k : D) (f : F) → IsRun disk.moves fabric.moves (device_at_start s n) first first_fabric made d k f
      → Known disk follows fabric laws Told OfThese d k f
  run_known made d k f begin = record { agree = new_agrees disk follows fabric laws s n first first_fabric began.blank began.is_of began.few; is = refl }
  run_known made d k f (effect {made = before} {d = d0} {k = k0} {f = f0} i seen_ d' k' f' run range step has) =
      step_known disk follows fabric laws Told OfThese d0 d' k0 k' f0 f' i seen_ (run_known before d0 k0 f0 run) range step
  run_known made d k f (without {made = before} {d = d0} {k = k0} {f = f0} i seen_ k' f' run range step has) =
      step_known disk follows fabric laws Told OfThese d0 d0 k0 k' f0 f' i seen_ (run_known before d0 k0 f0 run) range step
  run_known made d k f (polled {made = before} {d = d0} {k = k0} {f = f0} step d' k' f' run along) =
      poll_known disk follows fabric laws Told OfThese d0 d' k0 k' f0 f' step (run_known before d0 k0 f0 run) along

  -- so it holds after every run
  module _ (P : List (Input × Seen) → Device → Type 0) (each : EachEventKeeps disk follows fabric laws Told OfThese P) where
    pub run_keeps :
        (made : List (Input × Seen)) (d : Device) (k : D) (f : F) → P [] (device_at_start s n)
        → IsRun disk.moves fabric.moves (device_at_start s n) first first_fabric made d k f
        → P made d
    run_keeps made d k f starts begin = starts
    run_keeps made d k f starts (effect {made = before} {d = d0} {k = k0} {f = f0} i seen_ d' k' f' run range step has) =
        each.event before d0 d' k0 k' f0 f' i seen_ (run_known before d0 k0 f0 run) range step (run_keeps before d0 k0 f0 starts run)
    run_keeps made d k f starts (without {made = before} {d = d0} {k = k0} {f = f0} i seen_ k' f' run range step has) = run_keeps before d0 k0 f0 starts run
    run_keeps made d k f starts (polled {made = before} {d = d0} {k = k0} {f = f0} step d' k' f' run along) =
        subst (λ (a : Device × DiskStep). P (with_polled a.1 before) a.0) (sym along.3.2)
        (each.poll before d0 k0 along.1 f0 along.0 (run_known before d0 k0 f0 run) along.2 (run_keeps before d0 k0 f0 starts run))
