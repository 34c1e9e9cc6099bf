use Rattle.swap_board.proofs.Working.{works_step}
use Rattle.swap_board.proofs.works.step.Goals as goal

pub returns-clause-made : goal.returns-clause-made
returns-clause-made g c =
    let e = c.step.ensures in
    record {
      page = c.as_mut_slice.result.now;
      seen = c.step.result;
      works =
          λ by.
          works_step g.D.DiskPort.moves g.F.Fabric.moves c.args.world.now c.step.new.self by
          (record { event = c.args.event.now; page = c.as_mut_slice.result.now }) c.step.result c.requires.callless c.requires.range e.step e.log.log e.of
          e.adds e.room e.grows;
    }
