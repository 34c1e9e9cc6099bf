use Rattle.std.proofs.Common.{◌≡◌, ◌+◌, ◌≤◌, vec_len, vec_capacity}
use Rattle.swap_places.specs.Links.{IsOwn}
use Rattle.swap_places.proofs.make_links.Given as goal

abbrev pub invariant-loop-number : goal.invariant-loop-number
invariant-loop-number l = record { len : vec_len l.links ≡ l.number; room : l.bound + 1 ≤ vec_capacity l.links; own : IsOwn l.links.items l.number }
