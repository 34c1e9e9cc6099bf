use Rattle.swap_table.specs.Device.{took_back}
use Rattle.swap_board.proofs.Working.{works_poll}
use Rattle.swap_board.proofs.works.poll.Goals as goal

pub returns : goal.returns
returns g c =
    let e = c.poll_disk.ensures in
    record {
      step = (took_back c.args.world.now.core.device e.polled.taken).1;
      works =
          works_poll g.D.DiskPort.moves g.F.Fabric.moves c.args.world.now c.poll_disk.new.self c.poll_disk.result e.polled e.fabric e.history e.spare e.of
          e.idle;
    }
