-- By the events, one after another.
use Rattle.std.proofs.Common.{ℕ, List, [], ◌∷◌, ◌++◌, ◌≡◌, ◌∙◌, ap, refl, sym, append_assoc}
use Rattle.swap_wire.specs.Input.{Input}
use Rattle.swap_disk.specs.MemDiskView as drive
use Rattle.swap_link.specs.Harbor as harbor
use Rattle.swap_table.specs.Ports.{Prog, Ret, AskDisk, AskFabric, Along, run}
use Rattle.swap_disk.specs.MemDiskView.{MemDiskView}
use Rattle.swap_link.specs.Harbor.{Harbor}
use Rattle.swap_disk.specs.Port.{DiskCall, DiskAnswer}
use Rattle.swap_wire.specs.Fabric.{FabricCall, FabricAnswer}
use Rattle.swap_table.specs.Happens.{happens}
use Rattle.swap_world.specs.World.{World, Next, Planned, without_parts, next, next_by, next_plan, round_from, reach, history}
use Rattle.swap_world.specs.Rounds.{Plan, Stop, Make, round_plan, AlongPlan, StepOf}
use Rattle.swap_wire.specs.declared.Event.{Event}
use Rattle.swap_wire.specs.declared.Event.TheVariants as event
use Rattle.swap_world.proofs.RoundsKeepPlans.{event_adds}
use Rattle.swap_world.specs.Runs.{GoesOn}
use Rattle.swap_world.proofs.CountsStayTrue.{adds_go_on}
use Rattle.swap_world.proofs.histories_go_on.Goals as goal

-- what a program computes goes along it
abbrev DiskAsks : MemDiskView → (c : DiskCall) → DiskAnswer c → MemDiskView → Type 0
DiskAsks d c r e = drive.ask d c ≡ (r, e)

abbrev FabricAsks : Harbor → (c : FabricCall) → FabricAnswer c → Harbor → Type 0
FabricAsks h c r g = harbor.ask h c ≡ (r, g)

computed : {A : Type 0} (p : Prog A) (d : MemDiskView) (h : Harbor) → let r = run drive.ask harbor.ask p d h in Along DiskAsks FabricAsks p d h r.1.0 r.1.1 r.0
computed (Ret a) d h = (refl, refl, refl)
computed (AskDisk c more) d h = ((drive.ask d c).0, (drive.ask d c).1, refl, computed (more (drive.ask d c).0) (drive.ask d c).1 h)
computed (AskFabric c more) d h = ((harbor.ask h c).0, (harbor.ask h c).1, refl, computed (more (harbor.ask h c).0) d (harbor.ask h c).1)

planned : (plan : Plan) (w : World) → let p : Planned = next_plan plan w in
    AlongPlan DiskAsks FabricAsks plan w.device w.drive w.harbor p.world.device p.world.drive p.world.harbor p.effects
planned Stop w = (refl, refl, refl, refl)
planned (Make e more) w =
    let a : Next = without_parts w [] e in
    let rest : Planned = next_plan (more a.seen) a.world in (
      a.seen,
      a.world.device,
      a.world.drive,
      a.world.harbor,
      rest.effects,
      computed (happens w.device [] e) w.drive w.harbor,
      planned (more a.seen) a.world,
      refl,
    )

next_went : (w : World) (page : List ℕ) (e : Event) → let x : Next = next_by w page e in
    StepOf DiskAsks FabricAsks page e w.device w.drive w.harbor x.seen x.world.device x.world.drive x.world.harbor
next_went w page (event.Round word) = ((round_from w word).effects, planned (round_plan w.device.sizes w.device.lenders word) w, refl)
next_went w page e = computed (happens w.device page e) w.drive w.harbor

next_goes_on : (w : World) (i : Input) → GoesOn (history w) (history (next w i).world)
next_goes_on w i =
    adds_go_on w.device i (next w i).seen (history (next w i).world)
    (event_adds DiskAsks FabricAsks w.device (next w i).world.device w.drive (next w i).world.drive w.harbor (next w i).world.harbor i (next w i).seen
    (next_went w i.page i.event))

goes_on : (w : World) (is : List Input) → GoesOn (history w) (history (reach w is))
goes_on w [] = ([], refl)
goes_on w (i ∷ is) =
    let first = next_goes_on w i in
    let rest = goes_on (next w i).world is in (rest.0 ++ first.0, rest.1 ∙ ap (λ h. rest.0 ++ h) first.1 ∙ sym (append_assoc rest.0 first.0 (history w)))

pub returns : goal.returns
returns c = goes_on
