use Rattle.std.proofs.Common.{◌≡◌, ◌≤◌, replicate, vec_capacity, None}
use Rattle.swap_node.proofs.lines.make_list.Given as goal

abbrev pub invariant-loop : goal.invariant-loop
invariant-loop g l = (l.list.items ≡ replicate l.counter None) × (l.fn.links ≤ vec_capacity l.list)
