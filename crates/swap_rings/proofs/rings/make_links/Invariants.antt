use Rattle.std.proofs.Common.{◌≡◌, replicate}
use Rattle.swap_rings.specs.Rings.{down}
use Rattle.swap_rings.proofs.rings.make_links.Given as goal

abbrev pub invariant-loop : goal.invariant-loop
invariant-loop l = l.links.items ≡ replicate l.counter down
