use Rattle.std.proofs.Common.{Some}
use Rattle.swap_script.specs.Reading.{calls_of}
use Rattle.swap_play.proofs.playing.play.Given as goal

abbrev pub ghosts-play_named : goal.ghosts-play_named
ghosts-play_named g a =
    record {
      named =
          record {
            opening = Some a.world;
            sizes = a.world.core.device.sizes;
            lenders = a.world.core.device.lenders;
            operator = a.operator.items;
            calls = calls_of a.trace.now.inputs;
            number = a.number;
          };
    }
