use Rattle.std.proofs.Common.{◌∙◌, Some, map, refl, ap}
use Rattle.swap_options.specs.Play.{play_asked}
use Rattle.swap_live.specs.declared.live.LiveCommand.{LiveCommand}
use Rattle.swap_live.specs.Live.{command_is, command_of}
use Rattle.swap_live.proofs.Living.{lent, played, wanted}
use Rattle.swap_live.proofs.live.run_words.Goals as goal
use Rattle.swap_run.proofs.Ends.{keeps_same}

pub returns-in-Ok-Lend : goal.returns-in-Ok-Lend
returns-in-Ok-Lend g c =
    let is = c.in-Ok-Lend.field-0-is in
    record {
      ends = lent g.H.Disk.DiskPort g.H.Net.Fabric _ _ _ _ (command_of (map (λ word. word.now) c.args.words.now)) c.in-Ok-Lend.options _ _ _ c.run_lend.result
          (c.in-Ok-Lend.ensures.command ∙ ap (λ (x : LiveCommand). Some (command_is x)) is)
          (keeps_same (g.S.Source.left c.args.source.now)) c.run_lend.ensures.ends;
    }

pub returns-in-Ok-Play : goal.returns-in-Ok-Play
returns-in-Ok-Play g c =
    let is = c.in-Ok-Play.field-0-is in
    record {
      ends =
          played g.H.Disk.DiskPort g.H.Net.Fabric _ _ _ _ (command_of (map (λ word. word.now) c.args.words.now))
          (play_asked c.in-Ok-Play.options) _ _ _ c.run_play.result
          (c.in-Ok-Play.ensures.command ∙ ap (λ (x : LiveCommand). Some (command_is x)) is) c.run_play.ensures.ends;
    }

pub returns-in-Err-NoMemory : goal.returns-in-Err-NoMemory
returns-in-Err-NoMemory g c =
    record {
      ends =
          wanted g.H.Disk.DiskPort g.H.Net.Fabric _ _ _ _ (command_of (map (λ word. word.now) c.args.words.now)) _ _ _
          (keeps_same (g.S.Source.left c.args.source.now)) (keeps_same (g.K.Sink.taken c.args.out.now)) (refl, refl, refl);
    }
