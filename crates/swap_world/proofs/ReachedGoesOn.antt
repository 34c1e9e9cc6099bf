-- A world goes on by one event, or by what its disk ended by itself.
use Rattle.std.proofs.Common.{◌<◌, ◌≡◌, ℕ, ◌+◌, not, count_by, lit≤, ◌≤◌, Bool, true, false, List, [], ◌∷◌, ◌++◌, length, refl, sym, ap, ◌∙◌, subst, arith, length-append, is_some, cond, is_none, Option, None, Some}
use Rattle.swap_base.specs.Sizes.{Sizes, pages_of}
use Rattle.swap_wire.specs.Input.{Input, IsInRange}
use Rattle.swap_wire.specs.declared.Event.{Event}
use Rattle.swap_wire.specs.declared.Seen.{Seen}
use Rattle.swap_disk.specs.Port.{Port, TakeDone, Takes}
use Rattle.swap_wire.specs.Fabric.{FabricOf}
use Rattle.swap_base.specs.declared.TheConstants.{MOST_LENDERS}
use Rattle.swap_table.specs.Device.{Device, Core, device_at_start, disk_take, took_after, took_back, wrote_after, of_device}
use Rattle.swap_table.specs.Fits.{IsBlank, FitsDisk, IsExpected, IsCopyOf}
use Rattle.swap_world.specs.World.{IsStep, IsEvent}
use Rattle.swap_world.specs.Rounds.{round_plan, round_seen, is_part, AlongPlan}
use Rattle.swap_world.proofs.RoundsKeepPlans.{AreParts, round_parts, AllParts, part_says, splits, Splits, by_program, by_plan, Ran, plan_runs, event_known, event_idle}
use Rattle.swap_slabs.specs.Slabs.{mapped_count}
use Rattle.std.specs.List.{AllByRecursion}
use Rattle.swap_base.proofs.Lists.{one_if, count_by-cons}
use Rattle.swap_world.specs.Failures.{is_write_failed, is_read_failed, failed_writes_in, failed_reads_in}
use Rattle.swap_wire.specs.declared.Event.TheVariants as event
use Rattle.swap_world.specs.Runs.{IsRun, begin, effect, without, has_effect, IsReached, Written, Alone, Together, written_line, HasParts, made_of, written_with, logged_of, logged_if, polled, with_polled, event_of, made_with, logged_with, logged_polled, IsPolled, StaysIdle}
use Rattle.swap_base.specs.declared.Page.{Page}
use Rattle.swap_base.specs.declared.DiskWhich.{DiskWhich}
use Rattle.swap_queue.specs.Queue.{Copy}
use Rattle.swap_disk.specs.declared.DiskDone.{DiskDone}
use Rattle.swap_disk.specs.Disk.{Taken, Flight, Write, Read, which_of, page_of}
use Rattle.swap_table.specs.Ports.{Along}
use Rattle.swap_table.specs.declared.DiskStep.{DiskStep}
use Rattle.swap_table.proofs.HistoryAgreement.{found}
use Rattle.swap_table.specs.Happens.{see_disk}
use Rattle.swap_disk.specs.declared.port.DiskPort.{Ghosts as DiskMeaning}
use Rattle.swap_wire.specs.declared.fabric.Fabric.{Ghosts as FabricMeaning}
use Rattle.swap_table.specs.Promises.{FollowsItsMoves, Promises}
use Rattle.swap_table.proofs.CallsKeepDiskAgreement.{took_back_of}
use Rattle.swap_world.specs.Laws.{Began}
use Rattle.swap_world.proofs.EventsKeepWhatHolds.{Known, EachEventKeeps, step_comes, run_known, run_keeps}
use Rattle.swap_world.proofs.HistoryIsWhatWasSeen.{IsTold, new_told, each_told}
use Rattle.swap_world.proofs.CountsStayTrue.{SaysLittle}
use Rattle.swap_table.specs.Comes.{ComesTo}
use Rattle.swap_world.proofs.DeviceStaysWithoutEffect.{comes_to_stays}
use Rattle.swap_wire.specs.declared.Seen.TheVariants as seen
use Rattle.swap_queue.specs.Queue as queue
use Rattle.swap_base.specs.declared.DiskWhich.TheVariants as which

-- what the disk gives is seen
wrote_is_seen :
    (T : Bool) (bytes : List ℕ) (d : Device) (p : Page) (copy : Option Copy) (ok : Bool) → IsCopyOf T bytes copy
    → see_disk (wrote_after d p copy ok).1 ≡ seen.Nothing
    → ⊥
wrote_is_seen T bytes d p None ok is e = is
wrote_is_seen T bytes d p (Some copy) true is e = cc
wrote_is_seen T bytes d p (Some copy) false is e = by_next (queue.next_copy d.queue p) e
  where
    by_next : (o : Option Copy) → see_disk (cond (is_none o) (DiskStep.Kept p copy.entry) (DiskStep.Dropped p copy.entry)) ≡ seen.Nothing → ⊥
    by_next None e = cc
    by_next (Some x) e = cc

flight_is_seen :
    (T : Bool) (d : Device) (f : Flight) (ok : Bool) (bytes : List ℕ) → IsExpected T (pages_of d.sizes) d.sizes.callers d.queue d.calls f
    → see_disk (took_after d (which_of f) (page_of f) ok bytes).1 ≡ seen.Nothing → ⊥
flight_is_seen T d (Write page kept) ok bytes is e = wrote_is_seen T kept d page (queue.flying d.queue page) ok is.1 e
flight_is_seen T d (Read caller page) true bytes is e = cc
flight_is_seen T d (Read caller page) false bytes is e = cc

nothing_is_none :
    (T : Bool) (answers : List ℕ → List ℕ → Type 0) (d : Device) (p now : Port) (taken : Option Taken) → FitsDisk T answers d p → Takes p taken now
    → see_disk (took_back d taken).1 ≡ seen.Nothing → taken ≡ None
nothing_is_none T answers d p now None k takes e = refl
nothing_is_none T answers d p now (Some t) k takes e =
    let f : Flight = takes.flight in
    let is_which : t.done.which ≡ which_of f = ap (λ (x : DiskDone). x.which) takes.is in
    let is_page : t.done.page ≡ page_of f = ap (λ (x : DiskDone). x.page) takes.is in
    let there : IsExpected T (pages_of d.sizes) d.sizes.callers d.queue d.calls f =
    found (IsExpected T (pages_of d.sizes) d.sizes.callers d.queue d.calls) t.done.which p.flights f takes.was k.agrees.expected in
    let P : DiskWhich → Type 0 = λ w. see_disk (took_after d w t.done.page t.done.ok t.bytes).1 ≡ seen.Nothing in
    let Q : Page → Type 0 = λ r. see_disk (took_after d (which_of f) r t.done.ok t.bytes).1 ≡ seen.Nothing in
    absurd (flight_is_seen T d f t.done.ok t.bytes there (subst Q is_page (subst P is_which e)))

none_is_nothing : (d : Device) (taken : Option Taken) → taken ≡ None → see_disk (took_back d taken).1 ≡ seen.Nothing
none_is_nothing d taken e = ap (λ x. see_disk (took_back d x).1) e

logged_made : (written : List Written) (e : Option Event) (s : Seen) → logged_with e s (logged_of written) ≡ logged_of (written_with e s written)
logged_made written None s = refl
logged_made written (Some e) s = refl

pub made_written : (written : List Written) (e : Option Event) (s : Seen) → made_of (written_with e s written) ≡ made_with e s (made_of written)
made_written written None s = refl
made_written written (Some e) s = refl

pub parts_written :
    (written : List Written) (e : Option Event) (s : Seen) → AllByRecursion HasParts written → AllByRecursion HasParts (written_with e s written)
parts_written written None s parts = parts
parts_written written (Some e) s parts = (tt, parts)

length-logged_of : (written : List Written) → length (logged_of written) ≡ length written
length-logged_of [] = refl
length-logged_of (w ∷ written) =
    let a = length-append (logged_of written) (written_line w ∷ []) in let b = length-logged_of written in omega (arith, a, b)

-- what was made but for the parts of Rounds; only there a failure is seen
abbrev is_whole : Input × Seen → Bool
is_whole m = not (is_part m.0.event)

abbrev whole_in : List (Input × Seen) → ℕ
whole_in made = count_by is_whole made

abbrev Few : List (Input × Seen) → Device → Type 0
Few made d = (failed_writes_in made ≤ whole_in made) × (failed_reads_in made ≤ whole_in made)

few_more : (m : Input × Seen) (made : List (Input × Seen)) (d d' : Device) → (is_part m.0.event ≡ true → SaysLittle m.1) → Few made d → Few (m ∷ made) d'
few_more m made d d' little few = go (is_part m.0.event) refl
  where
    one_most : (b : Bool) → one_if b ≤ 1
    one_most true = lit≤ tt
    one_most false = lit≤ tt

    go : (b : Bool) → is_part m.0.event ≡ b → Few (m ∷ made) d'
    go true part =
        let says = little part in
        let w = count_by-cons (λ (x : Input × Seen). is_write_failed x.1) m made in
        let r = count_by-cons (λ (x : Input × Seen). is_read_failed x.1) m made in
        let n = count_by-cons is_whole m made in
        let w0 : one_if (is_write_failed m.1) ≡ 0 = ap one_if says.write in
        let r0 : one_if (is_read_failed m.1) ≡ 0 = ap one_if says.read in
        (omega (arith, w, w0, n, few.0), omega (arith, r, r0, n, few.1))
    go false part =
        let w = count_by-cons (λ (x : Input × Seen). is_write_failed x.1) m made in
        let r = count_by-cons (λ (x : Input × Seen). is_read_failed x.1) m made in
        let n = count_by-cons is_whole m made in
        let n1 : one_if (is_whole m) ≡ 1 = ap (λ b. one_if (not b)) part in
        let w1 = one_most (is_write_failed m.1) in
        let r1 = one_most (is_read_failed m.1) in
        (omega (arith, w, w1, n, n1, few.0), omega (arith, r, r1, n, n1, few.1))

few_polled : (made : List (Input × Seen)) (d d' : Device) (step : DiskStep) → Few made d → Few (with_polled step made) d'
few_polled made d d' DiskStep.Nothing few = few
few_polled made d d' (DiskStep.Written p e) few =
    few_more (record { event = event.Disk (which.Write p) true; page = [] }, seen.Written e) made d d' (λ part. cc) few
few_polled made d d' (DiskStep.Kept p e) few =
    few_more (record { event = event.Disk (which.Write p) false; page = [] }, seen.WriteKept e) made d d' (λ part. cc) few
few_polled made d d' (DiskStep.Dropped p e) few =
    few_more (record { event = event.Disk (which.Write p) false; page = [] }, seen.WriteDropped e) made d d' (λ part. cc) few
few_polled made d d' (DiskStep.Came c p) few =
    few_more (record { event = event.Disk (which.Read c) true; page = [] }, seen.ReadCame p) made d d' (λ part. cc) few
few_polled made d d' (DiskStep.Failed c p) few =
    few_more (record { event = event.Disk (which.Read c) false; page = [] }, seen.ReadFailed p) made d d' (λ part. cc) few

whole_parts : (parts made : List (Input × Seen)) → AllParts parts → whole_in (parts ++ made) ≡ whole_in made
whole_parts [] made all = refl
whole_parts (m ∷ parts) made all =
    let n = count_by-cons is_whole m (parts ++ made) in
    let n0 : one_if (is_whole m) ≡ 0 = ap (λ b. one_if (not b)) all.0 in
    let later = whole_parts parts made all.1 in omega (arith, n, n0, later)

whole_few : (written : List Written) → AllByRecursion HasParts written → whole_in (made_of written) ≤ length written
whole_few [] all = lit≤ tt
whole_few (Alone i s ∷ written) all =
    let n = count_by-cons is_whole (i, s) (made_of written) in
    let most = one_at_most (is_whole (i, s)) in
    let later = whole_few written all.1 in omega (arith, n, most, later)
  where
    one_at_most : (b : Bool) → one_if b ≤ 1
    one_at_most true = lit≤ tt
    one_at_most false = lit≤ tt
whole_few (Together word mapped_count parts ∷ written) all =
    let n = whole_parts parts (made_of written) all.0 in
    let later = whole_few written all.1 in omega (arith, n, later)

module _ {D F : Type 0} (disk : DiskMeaning D) (follows : FollowsItsMoves disk) (fabric : FabricMeaning F) (laws : Promises fabric) (core : Core D F)
    (log : List (Event × Seen)) (r : IsReached disk fabric core log) where
  began : Began disk fabric r.sizes r.lenders r.first r.first_fabric
  began = record { blank = r.blank; is_of = laws.fresh_is_of r.first_fabric _ r.fresh; few = r.few }

  abbrev pub Told : Bool
  Told = is_some (disk.means r.first).blocks

  abbrev pub OfThese : FabricOf
  OfThese = record { sizes = r.sizes; lenders = r.lenders }

  pub reached_known : Known disk follows fabric laws Told OfThese core.device core.disk core.fabric
  reached_known = run_known disk follows fabric laws r.sizes r.lenders r.first r.first_fabric began (made_of r.written) core.device core.disk core.fabric r.run

  few_each : EachEventKeeps disk follows fabric laws Told OfThese Few
  few_each = record {
    event =
        λ made d d' k k' f f' i s known range step few.
        few_more (i, s) made d d'
        (λ part. let comes : ComesTo d i.page i.event d' s = step_comes disk.moves fabric.moves d d' k k' f f' i s step in
        part_says (record d { rates = comes.0 }) d' i.page i.event s part comes.2)
        few;
    poll = λ made d k k' f taken known moved few. few_polled made d (took_back d taken).0 (took_back d taken).1 few;
  }

  -- no more failed than was logged
  pub reached_counts : (core.device.failed_writes ≤ length log) × (core.device.failed_reads ≤ length log)
  reached_counts =
      let made : List (Input × Seen) = made_of r.written in
      let told : IsTold r.sizes made core.device =
      run_keeps disk follows fabric laws r.sizes r.lenders r.first r.first_fabric began (IsTold r.sizes)
      (each_told disk follows fabric laws Told OfThese) made core.device core.disk core.fabric (new_told r.sizes r.lenders) r.run in
      let few : Few made core.device =
      run_keeps disk follows fabric laws r.sizes r.lenders r.first r.first_fabric began Few few_each made core.device core.disk core.fabric
      (lit≤ tt, lit≤ tt) r.run in
      let counts = told.counted in
      let whole = whole_few r.written r.parts in
      let len : length log ≡ length r.written = ap length r.logged ∙ length-logged_of r.written in
      (omega (arith, counts.writes, few.0, whole, len), omega (arith, counts.reads, few.1, whole, len))

  -- an event that names what there is
  reached_range : (i : Input) → IsInRange core.device.sizes core.device.lenders i.event → IsInRange r.sizes r.lenders i.event
  reached_range i range = subst (λ (x : FabricOf). IsInRange x.sizes x.lenders i.event) reached_known.is range

  reached_by :
      (i : Input) (s : Seen) (d' : Device) (k' : D) (f' : F) (spare : ℕ) (b : Bool) → has_effect i.event s ≡ b
      → IsInRange core.device.sizes core.device.lenders i.event → IsStep disk.moves fabric.moves core.device core.disk core.fabric i s d' k' f'
      → IsReached disk fabric (record { device = d'; disk = k'; fabric = f'; spare = spare }) (logged_if b log i.event s)
  reached_by i s d' k' f' spare true e range step = record {
    sizes = r.sizes;
    lenders = r.lenders;
    few = r.few;
    first = r.first;
    first_fabric = r.first_fabric;
    written = Alone i s ∷ r.written;
    parts = (tt, r.parts);
    blank = r.blank;
    fresh = r.fresh;
    run = effect i s d' k' f' r.run (reached_range i range) step e;
    logged = ap (λ l. l ++ (i.event, s) ∷ []) r.logged;
  }
  reached_by i s d' k' f' spare false e range step =
      let stays : d' ≡ core.device =
      comes_to_stays core.device d' i.page i.event s (step_comes disk.moves fabric.moves core.device d' core.disk k' core.fabric f' i s step) e in
      record {
        sizes = r.sizes;
        lenders = r.lenders;
        few = r.few;
        first = r.first;
        first_fabric = r.first_fabric;
        written = r.written;
        parts = r.parts;
        blank = r.blank;
        fresh = r.fresh;
        run =
            let P : Device → Type 0 = λ x. IsStep disk.moves fabric.moves core.device core.disk core.fabric i s x k' f' in
            let Q : Device → Type 0 = λ x. IsRun disk.moves fabric.moves (device_at_start r.sizes r.lenders) r.first r.first_fabric (made_of r.written) x k'
            f' in
            subst Q (sym stays) (without i s k' f' r.run (reached_range i range) (subst P stays step) e);
        logged = r.logged;
      }

  -- a Round, by its parts
  reached_round :
      (word effects : ℕ) (d' : Device) (k' : D) (f' : F) (spare : ℕ)
      → AlongPlan disk.moves fabric.moves (round_plan core.device.sizes core.device.lenders word) core.device core.disk core.fabric d' k' f' effects
      → IsReached disk fabric (record { device = d'; disk = k'; fabric = f'; spare = spare }) (log ++ (event.Round word, round_seen d' effects) ∷ [])
  reached_round word effects d' k' f' spare along =
      let P : FabricOf → Type 0 = λ x. AreParts x.sizes x.lenders (round_plan core.device.sizes core.device.lenders word) in
      let parts = subst P reached_known.is (round_parts core.device.sizes core.device.lenders word) in
      let ran : Ran disk.moves fabric.moves (device_at_start r.sizes r.lenders) r.first r.first_fabric (made_of r.written) d' k' f' (effects + 0) =
      plan_runs disk.moves fabric.moves (device_at_start r.sizes r.lenders) r.first r.first_fabric (made_of r.written) []
      (round_plan core.device.sizes core.device.lenders word) core.device d' core.disk k' core.fabric f' effects parts tt r.run along in
      let count : length ran.inner ≡ effects = let n = ran.counted in omega (arith, n) in
      record {
        sizes = r.sizes;
        lenders = r.lenders;
        few = r.few;
        first = r.first;
        first_fabric = r.first_fabric;
        written = Together word (mapped_count d'.remote.slabs) ran.inner ∷ r.written;
        parts = (ran.parts, r.parts);
        blank = r.blank;
        fresh = r.fresh;
        run = ran.run;
        logged =
            ap (λ l. l ++ (event.Round word, round_seen d' effects) ∷ []) r.logged
            ∙ ap (λ n. logged_of r.written ++ (event.Round word, round_seen d' n) ∷ []) (sym count);
      }

  pub reached_step :
      (i : Input) (s : Seen) (d' : Device) (k' : D) (f' : F) (spare : ℕ) → IsInRange core.device.sizes core.device.lenders i.event
      → IsEvent disk.moves fabric.moves core.device core.disk core.fabric i s d' k' f'
      → IsReached disk fabric (record { device = d'; disk = k'; fabric = f'; spare = spare }) (logged_if (has_effect i.event s) log i.event s)
  reached_step i s d' k' f' spare range step = go (splits disk.moves fabric.moves i.page i.event s core.device d' core.disk k' core.fabric f' step) range
    where
      go :
          {e : Event} {s : Seen} → Splits disk.moves fabric.moves i.page core.device core.disk core.fabric d' k' f' e s
          → IsInRange core.device.sizes core.device.lenders e
          → IsReached disk fabric (record { device = d'; disk = k'; fabric = f'; spare = spare }) (logged_if (has_effect e s) log e s)
      go {e} {s} (by_program along) there = reached_by (record { event = e; page = i.page }) s d' k' f' spare (has_effect e s) refl there along
      go (by_plan {word = word} effects along is) there =
          let P : Seen → Type 0 =
          λ x.
          IsReached disk fabric (record { device = d'; disk = k'; fabric = f'; spare = spare })
          (logged_if (has_effect (event.Round word) x) log (event.Round word) x) in
          subst P (sym is) (reached_round word effects d' k' f' spare along)

  pub reached_same :
      (core' : Core D F) (log' : List (Event × Seen)) → core'.device ≡ core.device → core'.disk ≡ core.disk → core'.fabric ≡ core.fabric → log' ≡ log
      → IsReached disk fabric core' log'
  reached_same core' log' ed ek ef el = record {
    sizes = r.sizes;
    lenders = r.lenders;
    few = r.few;
    first = r.first;
    first_fabric = r.first_fabric;
    written = r.written;
    parts = r.parts;
    blank = r.blank;
    fresh = r.fresh;
    run = rw (ed, ek, ef) r.run;
    logged = el ∙ r.logged;
  }

  -- no event changes what the device is of, or makes another's idle caller busy
  pub reached_of :
      (i : Input) (s : Seen) (d' : Device) (k' : D) (f' : F) → IsInRange core.device.sizes core.device.lenders i.event
      → IsEvent disk.moves fabric.moves core.device core.disk core.fabric i s d' k' f' → of_device d' ≡ of_device core.device
  reached_of i s d' k' f' range step =
      (event_known disk follows fabric laws Told OfThese core.device d' core.disk k' core.fabric f' i s reached_known (reached_range i range) step).is
      ∙ sym reached_known.is

  pub reached_idle :
      (i : Input) (s : Seen) (d' : Device) (k' : D) (f' : F) → IsEvent disk.moves fabric.moves core.device core.disk core.fabric i s d' k' f'
      → StaysIdle core.device i.event d'
  reached_idle i s d' k' f' step = event_idle disk follows fabric laws Told OfThese core.device d' core.disk k' core.fabric f' i s reached_known step

  -- a poll
  pub reached_polled :
      (step : DiskStep) (d' : Device) (k' : D) (f' : F) (spare : ℕ)
      → Along disk.moves fabric.moves (disk_take core.device) core.disk core.fabric k' f' (d', step)
      → IsReached disk fabric (record { device = d'; disk = k'; fabric = f'; spare = spare }) (logged_polled step log)
  reached_polled step d' k' f' spare along = record {
    sizes = r.sizes;
    lenders = r.lenders;
    few = r.few;
    first = r.first;
    first_fabric = r.first_fabric;
    written = written_with (event_of step) (see_disk step) r.written;
    parts = parts_written r.written (event_of step) (see_disk step) r.parts;
    blank = r.blank;
    fresh = r.fresh;
    run =
        let P : List (Input × Seen) → Type 0 = λ made. IsRun disk.moves fabric.moves (device_at_start r.sizes r.lenders) r.first r.first_fabric made d' k' f' in
        subst P (sym (made_written r.written (event_of step) (see_disk step))) (polled step d' k' f' r.run along);
    logged = ap (λ l. logged_polled step l) r.logged ∙ logged_made r.written (event_of step) (see_disk step);
  }

  pub is_polled :
      (log' : List (Event × Seen)) (step : DiskStep) (d' : Device) (k' : D) (f' : F)
      → Along disk.moves fabric.moves (disk_take core.device) core.disk core.fabric k' f' (d', step) → log' ≡ logged_polled step log
      → IsPolled disk.moves core.device core.disk log (see_disk step) d' k' log'
  is_polled log' step d' k' f' along logged =
      let taken = along.0 in
      let moved : disk.moves core.disk TakeDone taken k' = subst (λ k. disk.moves core.disk TakeDone taken k) (sym along.3.0) along.2 in
      let f = follows core.disk TakeDone taken k' moved in
      let is_step : step ≡ (took_back core.device taken).1 = ap (λ (a : Device × DiskStep). a.1) along.3.2 in
      let is_seen : see_disk step ≡ see_disk (took_back core.device taken).1 = ap see_disk is_step in
      record {
        taken = taken;
        moved = moved;
        device = ap (λ (a : Device × DiskStep). a.0) along.3.2;
        answer = is_seen;
        logged = logged ∙ ap (λ x. logged_polled x log) is_step;
        nothing = (
          λ e. nothing_is_none _ fabric.answers core.device (disk.means core.disk) (disk.means k') taken reached_known.agree.0.disk f.1 (sym is_seen ∙ e),
          λ e. is_seen ∙ none_is_nothing core.device taken e,
        );
      }

pub reached_new :
    {D F : Type 0} (disk : DiskMeaning D) (fabric : FabricMeaning F) (s : Sizes) (n : ℕ) (k : D) (f : F) (spare : ℕ) → IsBlank s (disk.means k)
    → fabric.fresh f (record { sizes = s; lenders = n }) → n ≤ MOST_LENDERS
    → IsReached disk fabric (record { device = device_at_start s n; disk = k; fabric = f; spare = spare }) []
reached_new disk fabric s n k f spare blank fresh few =
    record {
      sizes = s;
      lenders = n;
      few = few;
      first = k;
      first_fabric = f;
      written = [];
      parts = tt;
      blank = blank;
      fresh = fresh;
      run = begin;
      logged = refl;
    }

-- what a poll leaves of a device
pub polled_of : (d d' : Device) (taken : Option Taken) → d' ≡ (took_back d taken).0 → of_device d' ≡ of_device d
polled_of d d' taken is = ap of_device is ∙ took_back_of d taken
