use Rattle.std.proofs.Common.{◌≡◌, ◌∙◌, ℕ, length, sym, ap, subst, arith}
use Rattle.swap_table.specs.Device.{Device}
use Rattle.swap_world.specs.Runs.{busy_callers}
use Rattle.swap_play.specs.Connects.{Connects}
use Rattle.swap_play.proofs.Ending.{succeeded}
use Rattle.swap_play.proofs.Idle.{new_idle}
use Rattle.swap_play.proofs.playing.play.Goals as goal

pub play_named-requires-clause-idle : goal.play_named-requires-clause-idle
play_named-requires-clause-idle g c κs within =
    let all : Connects g.D.DiskPort.moves g.F.Fabric.moves c.args.world.core.device.lenders c.args.world c.connect_all.new.world =
    succeeded c.connect_all.result (sym c.is_err.ensures.value ∙ c.if-is_err.false) c.connect_all.ensures in
    let none : busy_callers c.args.world.core.device ≡ 0 =
    ap (λ (d : Device). busy_callers d) c.requires.new.device ∙ new_idle c.args.trace.now.sizes (length c.args.trace.now.lenders) in
    let most = all.works.busy in omega (arith, none, most)

pub returns-in-Ok-play_named : goal.returns-in-Ok-play_named
returns-in-Ok-play_named g c =
    let all : Connects g.D.DiskPort.moves g.F.Fabric.moves c.args.world.core.device.lenders c.args.world c.connect_all.new.world =
    succeeded c.connect_all.result (sym c.is_err.ensures.value ∙ c.if-is_err.false) c.connect_all.ensures in
    let P : ℕ → Type 0 = λ n. Connects g.D.DiskPort.moves g.F.Fabric.moves n c.args.world c.connect_all.new.world in
    record {
      connected = c.connect_all.new.world;
      connects = subst P (ap (λ (d : Device). d.lenders) c.requires.new.device) all;
      carried = c.in-Ok-play_named.ensures;
    }
