use Rattle.std.proofs.Common.{◌∙◌, sym, ap, subst}
use Rattle.swap_world.specs.Runs.{WorldView}
use Rattle.swap_board.specs.Boards.{BoardView}
use Rattle.swap_play.specs.Playing.{AreIdle, LogTells}
use Rattle.swap_play.specs.Settles.{Settles}
use Rattle.swap_play.proofs.playing.end_board.Goals as goal

pub returns-clause-ended : goal.returns-clause-ended
returns-clause-ended g c =
    let n = g.N.Naming.named in
    let keeps = c.in_ok-settle.ensures.keeps in
    let ended = c.has_ended.ensures.ended c.if-not-has_ended.false in
    let is = c.into_world.ensures.world in
    let P : WorldView g.row.D.Denot g.row.F.Denot → Type 0 = λ w. Settles g.D.DiskPort.moves g.F.Fabric.moves n.lenders w in
    let Q : WorldView g.row.D.Denot g.row.F.Denot → Type 0 = λ w. AreIdle w in
    record {
      board = c.settle.new.board;
      world = is;
      played = c.into_world.ensures.played;
      made =
          ap (λ (b : BoardView g.row.D.Denot g.row.F.Denot). b.made) keeps.rest ∙ ap (λ (b : BoardView g.row.D.Denot g.row.F.Denot). b.made) ended.1 ∙ ended.0;
      idle = subst Q (c.world.ensures ∙ sym is) (c.are_idle.ensures c.if-not-are_idle.false);
      settles = subst P (sym is) c.in_ok-settle.ensures.settles;
    }

pub returns-clause-tells : goal.returns-clause-tells
returns-clause-tells g c =
    let Q : WorldView g.row.D.Denot g.row.F.Denot → Type 0 = λ w. LogTells w in
    subst Q (c.world-2.ensures ∙ sym c.into_world.ensures.world) c.log_tells.ensures
