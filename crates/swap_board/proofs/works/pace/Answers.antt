use Rattle.std.proofs.Common.{rules, arith, ◌≡◌, ◌≤◌, ◌<◌, ◌+◌, ◌∙◌, sym, subst, ℕ}
use Rattle.rand_pcg.specs.Pcg.{pcg32}
use Rattle.swap_wire.specs.declared.Event.TheVariants as event
use Rattle.swap_world.specs.Runs.{has_effect}
use Rattle.swap_board.specs.Acts.{Pacer}
use Rattle.swap_board.specs.Works.{IsSame}
use Rattle.swap_board.proofs.Working.{paced_none, paced_round, works_step, room_left}
use Rattle.swap_board.proofs.works.pace.Goals as goal

pub returns-then-since-lt-PACE-clause-paced : goal.returns-then-since-lt-PACE-clause-paced
returns-then-since-lt-PACE-clause-paced g c =
    let r = c.reserve.ensures in
    let early : c.args.since < 256 = search rules in
    let room : 2 ≤ c.reserve.new.self.log_spare = search rules in
    let same : IsSame c.args.world.now c.reserve.new.self = record { device = r.device; disk = r.disk; fabric = r.fabric; log = r.log; spare = r.no_less } in
    paced_none g.D.DiskPort.moves g.F.Fabric.moves c.args.since c.args.words.now c.args.world.now c.reserve.new.self early same (omega (arith, room))

pub returns-clause-paced : goal.returns-clause-paced
returns-clause-paced g c =
    let r = c.reserve.ensures in
    let e = c.step.ensures in
    let late : 256 ≤ c.args.since = search rules in
    let two : 2 ≤ c.reserve.new.self.log_spare = search rules in
    let P : ℕ → Type 0 = λ n. (n, c.next_word.new.self) ≡ pcg32 c.args.words.now in
    let drew : (c.from-word.result, c.next_word.new.self) ≡ pcg32 c.args.words.now = subst P (sym c.from-word.ensures) c.next_word.ensures in
    let same : IsSame c.args.world.now c.reserve.new.self = record { device = r.device; disk = r.disk; fabric = r.fabric; log = r.log; spare = r.no_less } in
    let works =
    works_step g.D.DiskPort.moves g.F.Fabric.moves c.reserve.new.self c.step.new.self Pacer
    (record { event = event.Round c.from-word.result; page = c.as_mut_slice.result.now }) c.step.result tt tt e.step e.log.log e.of e.adds e.room e.grows in
    let left : 1 ≤ c.step.new.self.log_spare =
    room_left (has_effect (event.Round c.from-word.result) c.step.result) c.step.new.self.log_spare c.reserve.new.self.log_spare 1 e.log.room two in
    paced_round g.D.DiskPort.moves g.F.Fabric.moves c.args.since c.args.words.now c.next_word.new.self c.from-word.result c.as_mut_slice.result.now
    c.step.result c.args.world.now c.reserve.new.self c.step.new.self late drew same works e.idle
    (omega (arith, left))
