-- What holds after every run.
use Rattle.std.proofs.Common.{◌≡◌, ℕ, ◌≤◌, true, List, [], ◌∷◌, length, refl, sym, ap, ◌∙◌, subst, is_some}
use Rattle.swap_base.specs.declared.geometry.LenderSpec.{LenderSpec}
use Rattle.swap_base.specs.Sizes.{Sizes, zeros}
use Rattle.swap_wire.specs.Input.{Input}
use Rattle.swap_wire.specs.Fabric.{FabricAnswer, FabricOf}
use Rattle.swap_wire.specs.declared.Seen.{Seen}
use Rattle.swap_record.specs.History.{IsLegal, History, IsFaithful, GivesArray, array}
use Rattle.swap_disk.specs.MemDiskView.{MemDiskView}
use Rattle.swap_base.specs.declared.TheConstants.{MOST_LENDERS}
use Rattle.swap_link.specs.Harbor.{Harbor}
use Rattle.swap_table.specs.Ports.{Prog, Ret, AskDisk, AskFabric, Along, run}
use Rattle.swap_table.specs.Device.{Device}
use Rattle.swap_table.specs.Fits.{MayGive, GivesWhatItMay, IsFaithfulOver}
use Rattle.swap_world.specs.World.{World, Next, IsEvent, without_parts, next, next_by, next_plan, next_round, counted_on, next_of, start, reach, made_by, history}
use Rattle.swap_world.specs.Rounds.{Plan, Stop, Make, round_plan, AlongPlan, StepOf}
use Rattle.swap_wire.specs.declared.Event.{Event}
use Rattle.swap_wire.specs.declared.Event.TheVariants as event
use Rattle.swap_table.specs.Happens.{happens}
use Rattle.swap_world.specs.Laws.{AreInputs, HoldsAfterEach, EntriesAreSeen, AgreesAfterEach, AlwaysLegal, AlwaysAgrees, EachCallOnce}
use Rattle.swap_world.proofs.AnsweredOnce.{answered_once}
use Rattle.swap_base.specs.declared.Origin.{Origin}
use Rattle.swap_record.specs.declared.Op.{Op}
use Rattle.swap_record.specs.declared.Op.TheVariants.{PageOut, PageIn, Failed}
use Rattle.swap_disk.specs.declared.port.DiskPort.{Ghosts as DiskMeaning}
use Rattle.swap_wire.specs.declared.fabric.Fabric.{Ghosts as FabricMeaning}
use Rattle.swap_table.specs.Promises.{FollowsItsMoves, Promises}
use Rattle.swap_world.proofs.EventsKeepWhatHolds.{run_known, run_keeps}
use Rattle.swap_world.proofs.HistoryIsWhatWasSeen.{IsTold, new_told, each_told, told_gathers}
use Rattle.swap_world.proofs.WorldInMemoryStaysSound.{drive_meaning, harbor_meaning, harbor_promises, starts_sound, sound_fits, reach_sound, reach_keeps}
use Rattle.swap_disk.specs.MemDiskView as drive
use Rattle.swap_disk.specs.lemmas.Follows as drives
use Rattle.swap_link.specs.Harbor as harbor
use Rattle.swap_base.specs.declared.Origin.TheVariants as origin

-- where blocks are told and lenders answer with the page, all page-ins are faithful
pub all_faithful : (z : List ℕ) (H : History) → IsFaithfulOver true (λ page given. page ≡ given) z H → IsFaithful z H
all_faithful z [] h = tt
all_faithful z (row ∷ H) h = (gives row.entry.op h.0, all_faithful z H h.1)
  where
    always : (from : Origin) → MayGive true (λ page given. page ≡ given) from (array z H row.entry.page) row.bytes → row.bytes ≡ array z H row.entry.page
    always origin.Zero g = g
    always origin.Queue g = g
    always origin.Disk g = g refl
    always (origin.Lender l) g = sym g

    gives : (o : Op) → GivesWhatItMay true (λ page given. page ≡ given) z H row o → GivesArray z H row o
    gives PageOut g = tt
    gives (PageIn named from) g = always from g
    gives (Failed kind since at) g = tt

module _ {D F : Type 0} (disk : DiskMeaning D) (follows : FollowsItsMoves disk) (fabric : FabricMeaning F) (laws : Promises fabric) where
  -- over any disk and any fabric
  pub holds : HoldsAfterEach disk fabric
  holds s n first first_fabric made d k f began run =
      let known = run_known disk follows fabric laws s n first first_fabric began made d k f run in
      let told : IsTold s made d =
      run_keeps disk follows fabric laws s n first first_fabric began (IsTold s)
      (each_told disk follows fabric laws (is_some (disk.means first).blocks) (record { sizes = s; lenders = n })) made d k f (new_told s n) run in
      record {
        ordered = known.agree.0.disk.in_order.ordered;
        faithful =
            let P : FabricOf → Type 0 = λ x. IsFaithfulOver (is_some (disk.means first).blocks) fabric.answers (zeros x.sizes) d.history in
            subst P known.is known.agree.0.disk.agrees.faithful;
        once = λ c within. answered_once c d made (told.once c within);
        entries = told.entries;
      }

  pub agrees : AgreesAfterEach disk fabric
  agrees s n first first_fabric made d k f began run = (run_known disk follows fabric laws s n first first_fabric began made d k f run).agree

-- over the disk and the lenders in memory
reach_told :
    (s : Sizes) (specs : List LenderSpec) (is : List Input) → length specs ≤ MOST_LENDERS → AreInputs s specs is
    → IsTold s (made_by [] (start s specs) is) (reach (start s specs) is).device
reach_told s specs is few inputs =
    reach_keeps s (length specs) (IsTold s)
    (each_told drive_meaning drives.follows harbor_meaning harbor_promises true (record { sizes = s; lenders = length specs })) (told_gathers s)
    (start s specs) is [] inputs (starts_sound s specs few) (new_told s (length specs))

pub always_legal : AlwaysLegal
always_legal s specs is few inputs =
    let sound = reach_sound s (length specs) (start s specs) is inputs (starts_sound s specs few) in
    let w : World = reach (start s specs) is in
    let P : FabricOf → Type 0 = λ x. IsLegal (zeros x.sizes) (history w) in
    subst P sound.agrees.is (sound.agrees.fits.disk.in_order.ordered, all_faithful (zeros w.device.sizes) (history w) sound.agrees.fits.disk.agrees.faithful)

pub always_agrees : AlwaysAgrees
always_agrees s specs is few inputs =
    sound_fits s (length specs) (reach (start s specs) is) (reach_sound s (length specs) (start s specs) is inputs (starts_sound s specs few))

pub entries_are_seen : EntriesAreSeen
entries_are_seen s specs is few inputs = (reach_told s specs is few inputs).entries

pub each_call_once : EachCallOnce
each_call_once s specs is c within few inputs =
    answered_once c (reach (start s specs) is).device (made_by [] (start s specs) is) ((reach_told s specs is few inputs).once c within)

-- over the disk and the lenders in memory: what goes along a program is what it computes
run_along :
    {A : Type 0} (p : Prog A) (d e : MemDiskView) (f g : Harbor) (a : A) → Along drive.Moves harbor.Moves p d f e g a
    → run drive.ask harbor.ask p d f ≡ (a, (e, g))
run_along (Ret b) d e f g a along = rw (along.0, along.1, along.2) refl
run_along (AskDisk c more) d e f g a along = rw along.2.1 (run_along (more along.0) along.1 e f g a along.3)
run_along (AskFabric c more) d e f g a along =
    ap (λ (r : FabricAnswer c × Harbor). run drive.ask harbor.ask (more r.0) d r.1) along.2.1 ∙ run_along (more along.0) d e along.1 g a along.3

alone_along :
    (d d' : Device) (k k' : MemDiskView) (h h' : Harbor) (page : List ℕ) (e : Event) (s : Seen)
    → Along drive.Moves harbor.Moves (happens d page e) k h k' h' (d', s)
    → without_parts (record { device = d; drive = k; harbor = h }) page e ≡ record { world = record { device = d'; drive = k'; harbor = h' }; seen = s }
alone_along d d' k k' h h' page e s along = ap next_of (run_along (happens d page e) k k' h h' (d', s) along)

plan_along : (plan : Plan) (d d' : Device) (k k' : MemDiskView) (h h' : Harbor) (effects : ℕ) → AlongPlan drive.Moves harbor.Moves plan d k h d' k' h' effects
    → next_plan plan (record { device = d; drive = k; harbor = h }) ≡ record { world = record { device = d'; drive = k'; harbor = h' }; effects = effects }
plan_along Stop d d' k k' h h' effects along = rw (along.0, along.1, along.2, along.3) refl
plan_along (Make e more) d d' k k' h h' effects (seen_, x, kx, hx, left, step, rest, count) =
    ap (λ (a : Next). counted_on e a.seen (next_plan (more a.seen) a.world)) (alone_along d x k kx h hx [] e seen_ step)
    ∙ ap (counted_on e seen_) (plan_along (more seen_) x d' kx k' hx h' left rest)
    ∙ ap (λ m. record { world = record { device = d'; drive = k'; harbor = h' }; effects = m }) (sym count)

pub steps_are_next : (d d' : Device) (k k' : MemDiskView) (h h' : Harbor) (i : Input) (s : Seen) → IsEvent drive.Moves harbor.Moves d k h i s d' k' h'
    → next (record { device = d; drive = k; harbor = h }) i ≡ record { world = record { device = d'; drive = k'; harbor = h' }; seen = s }
steps_are_next d d' k k' h h' i s step = go i.event s step
  where
    go :
        (e : Event) (s : Seen) → StepOf drive.Moves harbor.Moves i.page e d k h s d' k' h'
        → next_by (record { device = d; drive = k; harbor = h }) i.page e ≡ record { world = record { device = d'; drive = k'; harbor = h' }; seen = s }
    go (event.Round word) s step =
        ap next_round (plan_along (round_plan d.sizes d.lenders word) d d' k k' h h' step.0 step.1)
        ∙ ap (λ x. record { world = record { device = d'; drive = k'; harbor = h' }; seen = x }) (sym step.2)
    go e s step = alone_along d d' k k' h h' i.page e s step
