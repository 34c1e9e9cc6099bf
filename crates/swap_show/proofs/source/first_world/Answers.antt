use Rattle.swap_show.proofs.Shows.{first_is}
use Rattle.swap_show.proofs.source.first_world.Goals as goal

pub returns : goal.returns
returns c =
    first_is c.args.script.now _ c.args.lenders.now _ _ _ _ c.geometry-geometry.ensures c.requires.lenders c.lenders.ensures.count c.in_ok-disk.ensures
    c.in_ok-harbor.ensures.harbor c.make-3.ensures.core c.make-3.ensures.log
