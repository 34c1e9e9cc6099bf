use Rattle.std.proofs.Common.{◌≡◌, refl, [], length, set, sym, ap, ◌∙◌, arith, Some}
use Rattle.std.proofs.lemmas.List.{length-set}
use Rattle.swap_node.specs.Boards.{Board}
use Rattle.swap_node.proofs.Rows.{all_fit, fits_both, weights_few}
use Rattle.swap_node.proofs.lines.Lines.set.Goals as goal

pub invariant_of-self : goal.invariant_of-self
invariant_of-self g c =
    let len = length-set c.self.inside.list.items c.args.link.0 (Some c.args.replies) in
    let none : c.self.inside.failed.items ≡ [] = ap (λ (b : Board g.row.K.Denot). b.failed) c.self.view_is ∙ c.requires.settled in (
      all_fit c.self.inside.list.items c.args.link.0 (Some c.args.replies) {m = c.args.replies.page_bytes} c.self.inside.page_bytes
          ((fits_both c.args.self.now c.args.link c.args.replies c.requires.fits).1 ∙ ap (λ (b : Board g.row.K.Denot). b.page_bytes) (sym c.self.view_is)) refl
          c.self.invariant.0,
      omega (arith, len, weights_few (set c.self.inside.list.items c.args.link.0 (Some c.args.replies)), ap length none, c.self.invariant.2),
      omega (arith, len, c.self.invariant.2),
    )
