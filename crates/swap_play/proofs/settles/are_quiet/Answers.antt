use Rattle.std.proofs.Common.{◌∙◌, sym, ap, Ok}
use Rattle.swap_play.proofs.Settling.{quiet_none, quiet_more, keeps_self, keeps_on}
use Rattle.swap_play.proofs.settles.are_quiet.Goals as goal
use Rattle.swap_play.proofs.settles.are_quiet.Goals.{then-quiet, else-quiet}

pub links-init : goal.links-init
links-init g c = record {
  keeps = keeps_self c.args.board.now;
  quiet = λ is. quiet_none g.D.DiskPort.moves g.F.Fabric.moves c.args.board.now.world;
}

pub links-preserved : goal.links-preserved
links-preserved g c =
    let inv = c.links.invariant in
    record {
      keeps = keeps_on c.args.board.now c.links.board c.is_quiet_at.new.board inv.keeps c.is_quiet_at.ensures.keeps;
      quiet = λ is. elim c.if-quiet.branch [
        | then-quiet w ↦
            quiet_more g.D.DiskPort.moves g.F.Fabric.moves c.links.lender c.links.board.world c.is_quiet_at.new.board.world (inv.quiet w.if-quiet.true)
            (c.is_quiet_at.ensures.quiet (c.in_ok-here.was ∙ ap Ok (sym w.quiet-is ∙ is)))
        | else-quiet w ↦ cc
      ];
    }
